-- Where the data queue stands, and what its next command has of the one before it.
use Rattle.std.specs.Prelude.{ℕ, ◌≡◌, true, false, List}
use Rattle.records.specs.declared.table.Table.{Table}
use Rattle.heads.specs.declared.head.Head.{Head}
use Rattle.heads.specs.declared.queue.Queue.{Queue}
use Rattle.heads.specs.Queue.{Found, Stands}
use Rattle.rules.specs.Kinds.{is_closing}

-- a data queue that `count` commands have left, at a place inside the transaction that it names or past the last
pub record Stood (τ : Table) (bs : List ℕ) (n count : ℕ) (q : Queue) : Type 0 where
  pub stands : Stands τ bs n true count q
  pub found : Found τ bs n true count q.place

-- a command to the same bank, of the same transaction
pub record SameBank (h r : Head) : Type 0 where
  pub there : r.there ≡ true
  pub bank : r.bank ≡ h.bank
  pub act : r.act ≡ h.act
  pub arrival : r.arrival ≡ h.arrival

-- a data command without auto precharge is not the last to its bank
abbrev pub StaysOpen : Head → Head → Type 0
StaysOpen h r = is_closing h.kind ≡ false → SameBank h r
