-- What a record breaks, and whether every bank is closed, read off a state.
use Rattle.std.specs.Prelude.{ℕ, zero, suc, Bool, true, not, ◌&&◌, List, [], ◌∷◌, leb}
use Rattle.rules.specs.Types.{Stamp}
use Rattle.rules.specs.Types.{Found}
use Rattle.records.specs.Tests.{pick}
use Rattle.records.specs.declared.table.Table.{Table}
use Rattle.records.specs.declared.command.Kind.{Kind}
use Rattle.records.specs.declared.command.Kind.TheVariants.{Act, Rd, Rda, Wr, Wra, Ref, Other}
use Rattle.rules.specs.declared.state.Bank.{Bank}
use Rattle.rules.specs.declared.state.Group.{Group}
use Rattle.rules.specs.declared.state.State.{State}
use Rattle.rules.specs.Kinds.{is_act, is_wr, first_broken, rules_in_order}
use Rattle.rules.specs.Square.{square}
use Rattle.rules.specs.State.{past, is_open, bank_of, acts_far, far_by, data_far, act_tests_of, refresh_tests_of, data_tests_of, tests_by}
use Rattle.rules.specs.History.{in_table}

-- the first of rules 1 to 9, 11 and 12 that a record of a kind to bank b at cycle t breaks: "A record breaks the first of these that applies"
unfoldable pub found_by : Table → State → Kind → ℕ → ℕ → Found
found_by τ s k t b = first_broken (in_table τ k b ∷ leb s.cycle t ∷ tests_by τ s k t b) rules_in_order

-- rules 6 and 9 over the table's groups, for an ACT or a data command to a bank of the group `own` at cycle t
abbrev pub groups_far : Table → List Group → ℕ → Kind → ℕ → Bool
groups_far τ gs own k t = pick (is_act k) (acts_far τ gs own t) (data_far τ gs own (is_wr k) t)

-- where the table has one group: by its latest ACT, RD and WR
abbrev pub own_far : Table → Group → Kind → ℕ → Bool
own_far τ own k t = pick (is_act k) (past own.act τ.rrdl t) (far_by (square τ true) own.rd own.wr (is_wr k) t)

-- rules 3 to 12 off the parts of a state that they read: a bank, the fourth ACT, the last REF; whether rule 6 or 9 lets the record go is told
-- (`far`); of a REF they read every bank
abbrev pub tests_on : Table → Bank → Bool → Stamp → Stamp → Kind → ℕ → List Bool
tests_on τ k far a4 refresh Act t = act_tests_of τ k far (past a4 τ.faw t) (past refresh τ.rfc t) t
tests_on τ k far a4 refresh Rd t = data_tests_of τ k far t
tests_on τ k far a4 refresh Rda t = data_tests_of τ k far t
tests_on τ k far a4 refresh Wr t = data_tests_of τ k far t
tests_on τ k far a4 refresh Wra t = data_tests_of τ k far t
tests_on τ k far a4 refresh Ref t = []
tests_on τ k far a4 refresh (Other n) t = []

-- the first of rules 2 to 12 that a record which keeps rule 1 breaks, if it is no REF
unfoldable pub found_on : Table → ℕ → Bank → Bool → Stamp → Stamp → Kind → ℕ → Found
found_on τ cycle k far a4 refresh kind t = first_broken (true ∷ leb cycle t ∷ tests_on τ k far a4 refresh kind t) rules_in_order

-- and if it is one, where `rests` says whether every bank is at rest
unfoldable pub found_ref : Table → ℕ → Bool → Stamp → ℕ → Found
found_ref τ cycle rests refresh t = first_broken (true ∷ leb cycle t ∷ refresh_tests_of rests (past refresh τ.rfc t)) rules_in_order

-- no bank below n is open
abbrev pub shut_by : State → ℕ → Bool
shut_by s zero = true
shut_by s (suc n) = not (is_open (bank_of s n)) && shut_by s n
