-- Document 01, "What the caller is told", and document 02, request 9: numbers 5, 9 and 12 of a run.
use Rattle.std.specs.Prelude.{ℕ, ◌*◌, min, Bool, not, ◌&&◌, List, [], ◌∷◌, leb, ltb, eqb, length, take}
use Rattle.rules.specs.Types.{Stamp}
use Rattle.records.specs.Tests.{all_of, every}
use Rattle.records.specs.Told.{first_failed}
use Rattle.records.specs.declared.table.Table.{Table}
use Rattle.records.specs.declared.transaction.Transaction.{Transaction}
use Rattle.rules.specs.declared.state.Bank.{Bank}
use Rattle.rules.specs.declared.state.Group.{Group}
use Rattle.rules.specs.declared.state.State.{State}
use Rattle.rules.specs.State.{past}
use Rattle.rules.specs.Queues.{act_queue, data_queue}
use Rattle.rules.specs.Pieces.{over_lent, is_late}
use Rattle.engine.specs.Run.{commands_left}

-- number 5: room "under 8 × the lesser of count and commands left"
abbrev pub room_short : ℕ → ℕ → ℕ → Bool
room_short room count left = ltb room (8 * min count left)

-- a stored command cycle is before cycle t
abbrev pub before : ℕ → Stamp → Bool
before t s = past s 1 t

-- the command cycles that a bank stores
abbrev pub bank_stamps : Bank → List (Stamp)
bank_stamps k = k.act ∷ k.rd ∷ k.wr ∷ []

-- those that a group stores
abbrev pub group_stamps : Group → List (Stamp)
group_stamps g = g.act ∷ g.rd ∷ g.wr ∷ []

-- the last four ACTs and the last REF
abbrev pub last_stamps : State → List (Stamp)
last_stamps s = s.a1 ∷ s.a2 ∷ s.a3 ∷ s.a4 ∷ s.refresh ∷ []

abbrev pub bank_before : ℕ → Bank → Bool
bank_before t k = every (before t) (bank_stamps k)

-- of the first n banks: nothing kept past the table's banks is read
abbrev pub banks_before : ℕ → ℕ → List Bank → Bool
banks_before t n ks = every (bank_before t) (take n ks)

abbrev pub group_before : ℕ → Group → Bool
group_before t g = every (before t) (group_stamps g)

-- of the first n groups: "nothing kept past the table's groups is read"
abbrev pub groups_before : ℕ → ℕ → List Group → Bool
groups_before t n gs = every (group_before t) (take n gs)

abbrev pub last_before : ℕ → State → Bool
last_before t s = every (before t) (last_stamps s)

-- each data command gone has had its ACT
abbrev pub backed : Table → List Transaction → ℕ → ℕ → Bool
backed τ l acts datas = every (λ d. ltb d.act acts) (take datas (data_queue τ l))

-- no more data commands gone than the list puts into the queue, and each has had its ACT
abbrev pub gone_backed : Table → List Transaction → ℕ → ℕ → Bool
gone_backed τ l acts datas = leb datas (length (data_queue τ l)) && backed τ l acts datas

-- number 9 does not apply; it is for "a state with its cycle at 100,000,000 or more, an edition not the table's, a stored command cycle not
-- before its own cycle, more commands gone from a queue than the list puts there, or a data command gone whose ACT hasn't", and where more were
-- lent before than the list has. `acts` is what the list puts into the ACT queue, `gone` the test of the data commands gone, `more` that of those lent
abbrev pub sound_by : Table → State → ℕ → Bool → Bool → Bool
sound_by τ s acts gone more =
    all_of
    (ltb s.cycle 100000000
    ∷ eqb s.edition τ.edition
    ∷ banks_before s.cycle τ.banks s.banks
    ∷ groups_before s.cycle τ.groups s.groups
    ∷ last_before s.cycle s
    ∷ leb s.acts acts
    ∷ gone
    ∷ not more
    ∷ [])

unfoldable pub sound : Table → List Transaction → State → Bool
sound τ l s = sound_by τ s (length (act_queue τ l)) (gone_backed τ l s.acts s.datas) (over_lent l s)

-- "Checks go in the order of these numbers": 0, or the number by which a run of so many cycles in so much room is refused
unfoldable pub run_refusal : Table → List Transaction → State → ℕ → ℕ → ℕ
run_refusal τ l s count room =
    first_failed
    ((5, room_short room count (commands_left τ l s))
    ∷ (9, not (sound τ l s))
    ∷ (12, is_late l s)
    ∷ [])
