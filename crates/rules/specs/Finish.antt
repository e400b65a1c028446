-- Where a transaction finishes: "a read finishes when its last word has come back" (document 02, request 4).
use Rattle.std.specs.Prelude.{ℕ, ◌+◌, ◌&&◌, List, [], ◌∷◌, eqb, Some, None}
use Rattle.rules.specs.Types.{Stamp}
use Rattle.records.specs.Tests.{pick}
use Rattle.records.specs.declared.table.Table.{Table}
use Rattle.records.specs.declared.transaction.Transaction.{Transaction}
use Rattle.records.specs.declared.command.Command.{Command}
use Rattle.records.specs.Transaction.{is_write, is_refresh}
use Rattle.rules.specs.Kinds.{can_end}
use Rattle.rules.specs.Pattern.{onto}

-- the cycle of the last data command of transaction k, or of its REF, in a history, newest first
abbrev pub last_command_in : ℕ → List Command → Stamp
last_command_in k [] = None
last_command_in k (r ∷ h) = pick (eqb r.number k && can_end r.kind) (Some r.cycle) (last_command_in k h)

-- "a read finishes at its last data command + RL + B, a write as before", at its last data command; c is that command's cycle.
-- "A refresh finishes at its cycle + RFC" (document 02, request 5), the cycle of its REF.
abbrev pub finish_of : Table → Transaction → ℕ → ℕ
finish_of τ x c = pick (is_refresh x) (c + τ.rfc) (pick (is_write x) c (c + τ.rl + τ.b))

-- "The bound still counts from last command to last command": where the next transaction's count starts, if the last one of this goes at cycle c.
-- "The promise counts from that finish where the predecessor is a refresh."
abbrev pub count_from : Table → Transaction → ℕ → ℕ
count_from τ x c = pick (is_refresh x) (c + τ.rfc) c

-- the cycle of the last command of transaction k in a schedule
abbrev pub last_command : ℕ → List Command → Stamp
last_command k rs = last_command_in k (onto rs [])

abbrev pub map_stamp : (ℕ → ℕ) → Stamp → Stamp
map_stamp f None = None
map_stamp f (Some c) = Some (f c)

-- where transaction x, number k of the list, finishes in a schedule
abbrev pub finish : Table → Transaction → ℕ → List Command → Stamp
finish τ x k rs = map_stamp (finish_of τ x) (last_command k rs)
