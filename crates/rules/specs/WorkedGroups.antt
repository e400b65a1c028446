-- Worked examples with groups (document 02, request 7), for table D: 8 banks in four groups, bank 4 in that of bank 0.
use Rattle.std.specs.Prelude.{ℕ, suc, ◌+◌, ◌≡◌, true, false, List, [], ◌∷◌}
use Rattle.records.specs.declared.command.Kind.TheVariants.{Act, Rd, Rda, Wra}
use Rattle.records.specs.declared.command.Command.{Command}
use Rattle.records.specs.Command.{command}
use Rattle.records.specs.House.{table_a, table_d}
use Rattle.rules.specs.declared.verdict.Rule.TheVariants.{Rrd, Distance}
use Rattle.rules.specs.declared.verdict.Verdict.TheVariants.{Accepted, Refused}
use Rattle.rules.specs.declared.verdict.PatternVerdict.TheVariants.{Refused as RefusedAt}
use Rattle.rules.specs.Square.{square}
use Rattle.rules.specs.Verdict.{judge}
use Rattle.rules.specs.Pattern.{copies, EveryNumberLegal}
use Rattle.rules.specs.CycleRule.{Built}
use Rattle.rules.specs.Bound.{bound_s, bound_d, bound_x, bound}
use Rattle.rules.specs.Worked.{read, write}

-- "a neighbour in another group hides an older one": bank 4's ACT at t waits for that of bank 0, though bank 1's is later
abbrev pub hidden_act : ℕ → List Command
hidden_act t =
    command 0 Act 0 0 ∷ command 6 Act 1 0 ∷ command 10 Rda 0 0 ∷ command 16 Rda 1 0 ∷ command t Act 4 1 ∷ command (t + 10) Rda 4 1 ∷ []

-- the same of rule 9: a read of bank 4 at t after writes of banks 0 and 1
abbrev pub hidden_write : ℕ → List Command
hidden_write t =
    command 0 Act 0 0 ∷ command 6 Act 1 0 ∷ command 10 Wra 0 0 ∷ command 16 Wra 1 0 ∷ command 20 Act 4 1 ∷ command t Rda 4 1 ∷ []

-- and after reads of banks 0 and 1
abbrev pub hidden_read : ℕ → List Command
hidden_read t =
    command 0 Act 0 0 ∷ command 6 Act 1 0 ∷ command 20 Act 4 1 ∷ command 30 Rda 0 0 ∷ command 34 Rda 1 0 ∷ command t Rda 4 1 ∷ []

-- banks 0 and 4, as a pattern
abbrev pub one_group : List Command
one_group = command 0 Act 0 0 ∷ command 10 Rda 0 0 ∷ command 20 Act 4 0 ∷ command 30 Rda 4 0 ∷ []

abbrev pub group_examples : List (Type 0)
group_examples =
    -- table A has one group: within it the same distances as across
    (square table_a true ≡ (4 ∷ 8 ∷ []) ∷ (18 ∷ 4 ∷ []) ∷ [])
    -- table D: within a group, across, and the bound, which has the long numbers
    ∷ (square table_d true ≡ (9 ∷ 13 ∷ []) ∷ (25 ∷ 9 ∷ []) ∷ [])
    ∷ (square table_d false ≡ (4 ∷ 8 ∷ []) ∷ (18 ∷ 4 ∷ []) ∷ [])
    ∷ (bound_s table_d ≡ 34)
    ∷ (bound_d table_d ≡ 20)
    ∷ (bound_x table_d ≡ 25)
    ∷ (bound table_d 1 1 ≡ 44)
    ∷ (bound table_d 2 1 ≡ 65)
    ∷ (bound table_d 1 4 ≡ 71)
    ∷ (bound table_d 4 2 ≡ 116)
    -- one bank, and two of different groups
    ∷ Built table_d (read 0 1 2 ∷ []) (command 0 Act 0 0 ∷ command 10 Rd 0 0 ∷ command 19 Rda 0 0 ∷ [])
    ∷ Built table_d (read 0 2 1 ∷ []) (command 0 Act 0 0 ∷ command 6 Act 1 0 ∷ command 10 Rda 0 0 ∷ command 16 Rda 1 0 ∷ [])
    -- a hidden neighbour: what is built, and the judge at that cycle and at one before it
    ∷ Built table_d (read 0 2 1 ∷ read 4 1 1 ∷ []) (hidden_act 20)
    ∷ (judge table_d (hidden_act 20) ≡ Accepted)
    ∷ (judge table_d (hidden_act 19) ≡ Refused Rrd 4)
    ∷ Built table_d (write 0 2 1 ∷ read 4 1 1 ∷ []) (hidden_write 35)
    ∷ (judge table_d (hidden_write 35) ≡ Accepted)
    ∷ (judge table_d (hidden_write 34) ≡ Refused Distance 5)
    ∷ (judge table_d (hidden_read 39) ≡ Accepted)
    ∷ (judge table_d (hidden_read 38) ≡ Refused Distance 5)
    -- as a pattern: bank 4's ACT and the next copy's of bank 0 are of one group
    ∷ EveryNumberLegal table_d 40 one_group
    ∷ ((n : ℕ) → copies table_d 39 one_group (suc (suc n)) ≡ RefusedAt Rrd 2 0)
    ∷ []
