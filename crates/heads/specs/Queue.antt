-- Where a queue stands, in the code's terms and in those of the definitions.
use Rattle.std.specs.Prelude.{ℕ, ◌+◌, ◌*◌, ◌≤◌, ◌<◌, ◌≡◌, Bool, true, false, List, length}
use Rattle.records.specs.Tests.{pick}
use Rattle.records.specs.declared.table.Table.{Table}
use Rattle.records.specs.declared.transaction.Transaction.{Transaction}
use Rattle.records.specs.Table.{Accepted}
use Rattle.records.specs.Transaction.{later_at, later_from, list_fits}
use Rattle.rules.specs.Queues.{Due, act_count, act_queue, data_queue, head_after}
use Rattle.heads.specs.declared.due.Counts.{Counts}
use Rattle.heads.specs.declared.queue.Place.{Place}
use Rattle.heads.specs.declared.queue.Queue.{Queue}
use Rattle.heads.specs.declared.queue.Queues.{Queues}
use Rattle.heads.specs.Head.{due_of}

-- what is asked of the bytes of a list of n transactions, of 8 bytes each: that they are there and fit the table
pub record Listed (τ : Table) (bs : List ℕ) (n : ℕ) : Type 0 where
  pub table : Accepted τ
  pub bytes : 8 * n ≤ length bs
  pub fit : list_fits τ (later_from bs n 0) ≡ true

-- one of the two queues: the data queue, or the ACT queue
abbrev pub queue_of : Bool → Table → List Transaction → List Due
queue_of true τ l = data_queue τ l
queue_of false τ l = act_queue τ l

-- how many commands the list puts into each
abbrev pub Counted : Table → List ℕ → ℕ → Counts → Type 0
Counted τ bs n c = (c.acts ≡ length (act_queue τ (later_from bs n 0))) × (c.datas ≡ length (data_queue τ (later_from bs n 0)))

-- how many commands have left a queue that stands at a place
abbrev pub left_at : Table → List ℕ → Bool → Place → ℕ
left_at τ bs b p = length (queue_of b τ (later_from bs p.number 0)) + p.offset

-- a place counts the commands of the ACT queue of the transactions before its own
pub record Placed (τ : Table) (bs : List ℕ) (n : ℕ) (p : Place) : Type 0 where
  pub within : p.number ≤ n
  pub before : p.before ≡ length (act_queue τ (later_from bs p.number 0))

-- a place inside the transaction that it names, or past the last
pub record Found (τ : Table) (bs : List ℕ) (n : ℕ) (b : Bool) (count : ℕ) (p : Place) : Type 0 where
  pub placed : Placed τ bs n p
  pub left : left_at τ bs b p ≡ count
  pub inside : p.number < n → p.offset < pick b ((later_at bs (8 * p.number)).bi * (later_at bs (8 * p.number)).bc) (act_count (later_at bs (8 * p.number)))

-- a queue that `count` commands have left, and its head
pub record Stands (τ : Table) (bs : List ℕ) (n : ℕ) (b : Bool) (count : ℕ) (q : Queue) : Type 0 where
  pub placed : Placed τ bs n q.place
  pub left : left_at τ bs b q.place ≡ count
  pub head : due_of q.head ≡ head_after (queue_of b τ (later_from bs n 0)) count
  pub bank : q.head.bank < 16

-- both queues
pub record BothStand (τ : Table) (bs : List ℕ) (n acts datas : ℕ) (q : Queues) : Type 0 where
  pub of_acts : Stands τ bs n false acts q.acts
  pub of_datas : Stands τ bs n true datas q.datas

abbrev pub acts_left : Table → List ℕ → Queues → ℕ
acts_left τ bs q = left_at τ bs false q.acts.place

abbrev pub datas_left : Table → List ℕ → Queues → ℕ
datas_left τ bs q = left_at τ bs true q.datas.place
