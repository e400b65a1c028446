-- Worked examples with arrivals and in pieces (document 02, request 9); and the single list of all, which the single claim is about.
use Rattle.std.specs.Prelude.{ℕ, ◌≡◌, true, false, List, [], ◌∷◌, ◌++◌}
use Rattle.records.specs.declared.transaction.Transaction.{Transaction}
use Rattle.records.specs.declared.command.Kind.TheVariants.{Act, Rda}
use Rattle.records.specs.declared.command.Command.{Command}
use Rattle.records.specs.Command.{command}
use Rattle.records.specs.Transaction.{arriving, later_at, later_bytes, fits, list_fits}
use Rattle.records.specs.House.{table_a}
use Rattle.rules.specs.declared.state.State.{State}
use Rattle.rules.specs.State.{fresh, note}
use Rattle.rules.specs.Pattern.{onto}
use Rattle.rules.specs.CycleRule.{Built}
use Rattle.rules.specs.Run.{run}
use Rattle.rules.specs.Bound.{start_at}
use Rattle.rules.specs.Pieces.{lend, is_late, over_lent, lent_run, Piece, in_pieces, InTime}
use Rattle.rules.specs.Worked.{read, refresh, table_r, then_ref, examples}
use Rattle.rules.specs.WorkedGroups.{group_examples}

-- a read of bank b, (1, 1), that arrives at cycle t
abbrev pub read_at : ℕ → ℕ → Transaction
read_at t b = arriving (read b 1 1) t

-- the second arrives while the first is at work, the third when both have finished
abbrev pub arrivals : List Transaction
arrivals = read_at 0 0 ∷ read_at 8 1 ∷ read_at 40 0 ∷ []

abbrev pub arrived_schedule : List Command
arrived_schedule =
    command 0 Act 0 0 ∷ command 8 Act 1 1 ∷ command 10 Rda 0 0 ∷ command 18 Rda 1 1 ∷ command 40 Act 0 2 ∷ command 50 Rda 0 2 ∷ []

-- the state after a run of n cycles that was lent the first of them
abbrev pub lent_one : ℕ → State
lent_one n = (lent_run n table_a (read_at 0 0 ∷ []) (fresh table_a)).state

-- the list in three pieces: the first two for 4 cycles, then nothing new to their end, then the last
abbrev pub cut : List Piece
cut =
    record { more = read_at 0 0 ∷ read_at 8 1 ∷ []; count = 4 }
    ∷ record { more = []; count = 1000 }
    ∷ record { more = read_at 40 0 ∷ []; count = 1000 }
    ∷ []

abbrev pub arrival_examples : List (Type 0)
arrival_examples =
    -- number 4: "at most 20,000,000 and never less than the one before it"; a refresh may have any arrival
    (fits table_a (read_at 20000000 0) ≡ true)
    ∷ (fits table_a (read_at 20000001 0) ≡ false)
    ∷ (fits table_r (arriving refresh 20000000) ≡ true)
    ∷ (list_fits table_a arrivals ≡ true)
    ∷ (list_fits table_a (read_at 5 0 ∷ read_at 5 1 ∷ []) ≡ true)
    ∷ (list_fits table_a (read_at 5 0 ∷ read_at 4 1 ∷ []) ≡ false)
    -- the eight bytes
    ∷ (later_bytes (arriving (read 7 2 1) 20000000) ≡ 0 ∷ 7 ∷ 2 ∷ 1 ∷ 0 ∷ 45 ∷ 49 ∷ 1 ∷ [])
    ∷ (later_at (0 ∷ 7 ∷ 2 ∷ 1 ∷ 0 ∷ 45 ∷ 49 ∷ 1 ∷ []) 0 ≡ arriving (read 7 2 1) 20000000)
    -- the schedules: seen from the arrival on, two of equal arrivals, one in the middle of another's work, and a REF
    ∷ Built table_a (read_at 25 0 ∷ []) (command 25 Act 0 0 ∷ command 35 Rda 0 0 ∷ [])
    ∷ Built table_a (read_at 5 0 ∷ read_at 5 1 ∷ []) (command 5 Act 0 0 ∷ command 11 Act 1 1 ∷ command 15 Rda 0 0 ∷ command 21 Rda 1 1 ∷ [])
    ∷ Built table_a arrivals arrived_schedule
    ∷ Built table_r (read 0 1 1 ∷ arriving refresh 60 ∷ []) (then_ref 60 0)
    -- the data queue waits too: a state whose ACT has gone at cycle 0, before the arrival
    ∷ ((run 100 table_a (read_at 25 0 ∷ []) (note table_a (fresh table_a) 0 Act 0) []).history ≡ command 25 Rda 0 0 ∷ [])
    -- where the counts start: the second's at the first's last command, the third's at its arrival; a refresh's finish, and a later arrival
    ∷ (start_at (read_at 8 1) 10 ≡ 10)
    ∷ (start_at (read_at 40 0) 18 ≡ 40)
    -- "an equal arrival is in time", and one cycle later it is late; "an empty piece never late"; more lent before than the list has
    ∷ (is_late (read_at 0 0 ∷ read_at 8 1 ∷ []) (lent_one 8) ≡ false)
    ∷ (is_late (read_at 0 0 ∷ read_at 8 1 ∷ []) (lent_one 9) ≡ true)
    ∷ (is_late (read_at 0 0 ∷ []) (lent_one 9) ≡ false)
    ∷ (over_lent (read_at 0 0 ∷ []) (lent_one 9) ≡ false)
    ∷ (over_lent [] (lent_one 9) ≡ true)
    -- a run of no cycles leaves what was lent
    ∷ (lent_one 0 ≡ lend 1 (fresh table_a))
    -- in pieces: none is late, and they give the commands and the cycles of the whole list
    ∷ InTime table_a cut [] (fresh table_a)
    ∷ (onto (in_pieces table_a cut [] (fresh table_a)).history [] ≡ arrived_schedule)
    ∷ ((in_pieces table_a cut [] (fresh table_a)).cycles ≡ 51)
    ∷ ((in_pieces table_a cut [] (fresh table_a)).state.lent ≡ 3)
    ∷ []

-- the single list
abbrev pub all_examples : List (Type 0)
all_examples = examples ++ (group_examples ++ arrival_examples)
