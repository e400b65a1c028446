-- What is tried of a head, by the bank, the bank's group and the stamps that the rules read. The other groups are asked after it.
use Rattle.std.specs.Prelude.{ℕ, Bool, true, ◌&&◌, leb}
use Rattle.rules.specs.Types.{Stamp}
use Rattle.records.specs.Tests.{all_of}
use Rattle.records.specs.declared.table.Table.{Table}
use Rattle.records.specs.declared.command.Command.{Command}
use Rattle.records.specs.Command.{command}
use Rattle.rules.specs.declared.state.Bank.{Bank}
use Rattle.rules.specs.declared.state.Group.{Group}
use Rattle.rules.specs.Kinds.{is_wr}
use Rattle.rules.specs.Square.{square}
use Rattle.rules.specs.State.{past, far_by, act_tests_of, data_tests_of}
use Rattle.heads.specs.declared.head.Head.{Head}

-- the command of a head, at cycle t
abbrev pub command_of : Head → ℕ → Command
command_of h t = command t h.kind h.bank h.number

-- a head that is seen at cycle t: "Neither queue sees a transaction before its arrival" (document 02, request 9)
abbrev pub seen_at : ℕ → Head → Bool
seen_at t h = h.there && leb h.arrival t

-- a data command to bank k of the group g breaks no rule, by that group's latest RD and WR
abbrev pub data_free : Table → Bank → Group → Command → Bool
data_free τ k g c = all_of (data_tests_of τ k (far_by (square τ true) g.rd g.wr (is_wr c.kind) c.cycle) c.cycle)

-- an ACT to bank k of the group g, by that group's latest ACT, the fourth of the last ACTs and the last REF
abbrev pub act_free : Table → Bank → Group → Stamp → Stamp → Command → Bool
act_free τ k g a4 refresh c =
    all_of (act_tests_of τ k (past g.act τ.rrdl c.cycle) (past a4 τ.faw c.cycle) (past refresh τ.rfc c.cycle) c.cycle)
