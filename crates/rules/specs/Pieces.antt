-- "Requests may come in pieces: each run is lent the whole list so far, and the state tells how many of it were lent before" (document 02,
-- request 9).
use Rattle.std.specs.Prelude.{ℕ, ◌+◌, ◌≤◌, Bool, true, false, ◌≡◌, List, [], ◌∷◌, ◌++◌, ltb, length}
use Rattle.std.proofs.Math.Option.{Option, none, some}
use Rattle.std.proofs.Math.ListN.{get_elem?}
use Rattle.records.specs.declared.table.Table.{Table}
use Rattle.records.specs.declared.transaction.Transaction.{Transaction}
use Rattle.records.specs.declared.command.Command.{Command}
use Rattle.rules.specs.declared.state.State.{State}
use Rattle.rules.specs.State.{fresh}
use Rattle.rules.specs.Pattern.{onto}
use Rattle.rules.specs.CycleRule.{Built}
use Rattle.rules.specs.Run.{served, Ran, run}
use Rattle.rules.specs.Promise.{next_cycle}

-- a state to which n transactions have been lent
abbrev pub lend : ℕ → State → State
lend n s =
    record {
      edition = s.edition;
      cycle = s.cycle;
      acts = s.acts;
      datas = s.datas;
      banks = s.banks;
      a1 = s.a1;
      a2 = s.a2;
      a3 = s.a3;
      a4 = s.a4;
      groups = s.groups;
      refresh = s.refresh;
      lent = n;
    }

-- "(more than the list has: number 9)"
abbrev pub over_lent : List Transaction → State → Bool
over_lent l s = ltb (length l) s.lent

-- "If the first new arrival is below the state's cycle, the piece is late: number 12 ..; an equal arrival is in time, an empty piece never late."
abbrev pub first_below : Option Transaction → ℕ → Bool
first_below none c = false
first_below (some x) c = ltb x.arrival c

abbrev pub is_late : List Transaction → State → Bool
is_late l s = first_below (get_elem? l s.lent) s.cycle

-- a run of at most n cycles that is lent the list, and leaves "lent before" at its length
abbrev pub lent_run : ℕ → Table → List Transaction → State → Ran
lent_run n τ l s = run n τ l (lend (length l) s) []

-- a piece: the new transactions, and the count of cycles of its run
pub record Piece : Type 0 where
  pub more : List Transaction
  pub count : ℕ

-- the list that the pieces make
abbrev pub whole : List Piece → List Transaction
whole [] = []
whole (p ∷ ps) = p.more ++ whole ps

-- a run and then others, each writing its own commands
abbrev pub then_ran : Ran → Ran → Ran
then_ran r u = record { state = u.state; history = u.history ++ r.history; cycles = r.cycles + u.cycles }

-- the runs of the pieces, after l was lent
abbrev pub in_pieces : Table → List Piece → List Transaction → State → Ran
in_pieces τ [] l s = record { state = s; history = []; cycles = 0 }
in_pieces τ (p ∷ ps) l s =
    let r = lent_run p.count τ (l ++ p.more) s in
    then_ran r (in_pieces τ ps (l ++ p.more) r.state)

-- none of them is refused as late
abbrev pub InTime : Table → List Piece → List Transaction → State → Type 0
InTime τ [] l s = Unit {0}
InTime τ (p ∷ ps) l s = (is_late (l ++ p.more) s ≡ false) × InTime τ ps (l ++ p.more) (lent_run p.count τ (l ++ p.more) s).state

-- "From a fresh state, any cutting without refusal, run to the end, gives the commands of the whole list."
pub record PiecesKept (τ : Table) (ps : List Piece) : Type 0 where
  -- to the end or not, the runs give the state, the commands and the cycles of one run of the whole list, of as many cycles
  pub one_run : in_pieces τ ps [] (fresh τ) ≡ lent_run (in_pieces τ ps [] (fresh τ)).cycles τ (whole ps) (fresh τ)
  -- to the end, those of every run to the end
  pub to_end : (n : ℕ) → served τ (whole ps) (in_pieces τ ps [] (fresh τ)).state ≡ true → served τ (whole ps) (lent_run n τ (whole ps) (fresh τ)).state ≡ true
      → in_pieces τ ps [] (fresh τ) ≡ lent_run n τ (whole ps) (fresh τ)
  -- and the commands are the built schedule
  pub commands : (rs : List Command) → Built τ (whole ps) rs → served τ (whole ps) (in_pieces τ ps [] (fresh τ)).state ≡ true
      → (onto (in_pieces τ ps [] (fresh τ)).history [] ≡ rs) × ((in_pieces τ ps [] (fresh τ)).cycles ≡ next_cycle (onto rs []))
  -- a last run that may take 100,000,000 cycles is to the end
  pub ends : (qs : List Piece) (p : Piece) → ps ≡ qs ++ p ∷ [] → 100000000 ≤ p.count → served τ (whole ps) (in_pieces τ ps [] (fresh τ)).state ≡ true

-- n cycles and then m of one list lend nothing new: the second run is not late, and they give what n + m give, from any state; a list that was lent
-- is never more than a longer one has, and none is late at a fresh state
pub record LentKept (τ : Table) (l : List Transaction) : Type 0 where
  pub fresh_in_time : is_late l (fresh τ) ≡ false
  pub lent : (n : ℕ) (s : State) → (lent_run n τ l s).state.lent ≡ length l
  pub not_late : (n : ℕ) (s : State) → is_late l (lent_run n τ l s).state ≡ false
  pub not_over : (n : ℕ) (s : State) (more : List Transaction) → over_lent (l ++ more) (lent_run n τ l s).state ≡ false
  pub splits : (n m : ℕ) (s : State) → lent_run (n + m) τ l s ≡ then_ran (lent_run n τ l s) (lent_run m τ l (lent_run n τ l s).state)
