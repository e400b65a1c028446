-- The cycle rule by the places of the queues.
-- Assumes nothing.
use Prim.Native.Nat.{ℕ, zero, suc}
use mathlib.Core.Path.{◌≡◌, refl, sym, ◌∙◌, subst}
use mathlib.Core.Bool.{Bool, true, false, ◌&&◌}
use mathlib.Core.Option.{Option, none, some, map, map-eq-some_iff}
use mathlib.Core.List.{List, [], ◌∷◌}
use lib.Dec.{ltb, leb}
use lib.ListN.{get_or}
use Rattle.records.specs.declared.table.Table.{Table}
use Rattle.records.specs.declared.transaction.Transaction.{Transaction}
use Rattle.records.specs.declared.command.Command.{Command}
use Rattle.rules.specs.declared.state.State.{State}
use Rattle.records.specs.Tests.{pick, all_of}
use Rattle.rules.specs.State.{act_tests, refresh_tests, data_tests, breaks_none}
use Rattle.rules.specs.Queues.{Due, due_at}
use Rattle.rules.specs.CycleRule.{seen, had_act, legal_at, otherwise, goes_by, goes}
use Rattle.rules.proofs.laws.TestLaws.{and_fst, and_snd, OnSome, on_pick_lem}
use Rattle.rules.proofs.history.Legal.{goes_all}
use Rattle.rules.proofs.queues.Queue.{Place, act_place, data_place, act_due, data_due, act_head, data_head}

-- a place that is seen at cycle t
abbrev pub seen_place : ℕ → Option Place → Option Place
seen_place t none = none
seen_place t (some p) = pick (leb p.transaction.arrival t) (some p) none

pub on_seen_lem : (P : Place → Type 0) (t : ℕ) (o : Option Place) → OnSome P o → OnSome P (seen_place t o)
on_seen_lem P t none h = tt
on_seen_lem P t (some p) h = on_pick_lem P (leb p.transaction.arrival t) p none (λ e. h) (λ e. tt)

see_data : (τ : Table) (t : ℕ) (o : Option Place) → seen t (map (data_due τ) o) ≡ map (data_due τ) (seen_place t o)
see_data τ t none = refl
see_data τ t (some p) = on (leb p.transaction.arrival t)
  where
    on : (b : Bool) → pick b (some (data_due τ p)) none ≡ map (data_due τ) (pick b (some p) none)
    on true = refl
    on false = refl

see_act : (τ : Table) (t : ℕ) (o : Option Place) → seen t (map (act_due τ) o) ≡ map (act_due τ) (seen_place t o)
see_act τ t none = refl
see_act τ t (some p) = on (leb p.transaction.arrival t)
  where
    on : (b : Bool) → pick b (some (act_due τ p)) none ≡ map (act_due τ) (pick b (some p) none)
    on true = refl
    on false = refl

-- what goes from a place of the data queue and of the ACT queue
abbrev pub data_from : (Command → Bool) → Table → ℕ → ℕ → Option Place → Option Command
data_from legal τ t a none = none
data_from legal τ t a (some p) =
    pick (ltb (data_due τ p).act a && legal (due_at t (data_due τ p))) (some (due_at t (data_due τ p))) none

abbrev pub act_from : (Command → Bool) → Table → ℕ → Option Place → Option Command
act_from legal τ t none = none
act_from legal τ t (some p) = pick (legal (due_at t (act_due τ p))) (some (due_at t (act_due τ p))) none

module _ (legal : Command → Bool) (τ : Table) (l : List Transaction) (t a d : ℕ) where
  data_same : (o : Option Place) → legal_at legal t (had_act a (map (data_due τ) o)) ≡ data_from legal τ t a o
  data_same none = refl
  data_same (some p) = on (ltb (data_due τ p).act a)
    where
      on : (b : Bool) → legal_at legal t (pick b (some (data_due τ p)) none) ≡ pick (b && legal (due_at t (data_due τ p))) (some (due_at t (data_due τ p))) none
      on true = refl
      on false = refl

  act_same : (o : Option Place) → legal_at legal t (map (act_due τ) o) ≡ act_from legal τ t o
  act_same none = refl
  act_same (some p) = refl

  pub goes_from : goes_by legal τ l t a d ≡ otherwise (data_from legal τ t a (seen_place t (data_place l d))) (act_from legal τ t (seen_place t (act_place l a)))
  goes_from =
      rw (
        data_head τ l d,
        act_head τ l a,
        see_data τ t (data_place l d),
        see_act τ t (act_place l a),
        data_same (seen_place t (data_place l d)),
        act_same (seen_place t (act_place l a)),
      )

  -- what holds of the command that goes: it stands at the head of its queue and is legal
  pub goes_place : (P : Command → Type 0)
      → ((p : Place) → data_place l d ≡ some p → P (due_at t (data_due τ p)))
      → ((p : Place) → act_place l a ≡ some p → P (due_at t (act_due τ p)))
      → OnSome P (goes_by legal τ l t a d)
  goes_place P f g =
      goes_all legal τ l t a d P (λ x e u k. at_place (data_due τ) (data_place l d) x (sym (data_head τ l d) ∙ e) f)
      (λ x e k. at_place (act_due τ) (act_place l a) x (sym (act_head τ l a) ∙ e) g)
    where
      at_place : (D : Place → Due) (o : Option Place) (x : Due) → map D o ≡ some x → ((p : Place) → o ≡ some p → P (due_at t (D p))) → P (due_at t x)
      at_place D o x e k = let m = (map-eq-some_iff D o).0 e in subst (λ (y : Due). P (due_at t y)) m.2 (k m.0 m.1)

-- by what a state tells
abbrev pub try_data : Table → List Transaction → State → Option Command
try_data τ l s = data_from (breaks_none τ s) τ s.cycle s.acts (seen_place s.cycle (data_place l s.datas))

abbrev pub try_act : Table → List Transaction → State → Option Command
try_act τ l s = act_from (breaks_none τ s) τ s.cycle (seen_place s.cycle (act_place l s.acts))

pub goes_try : (τ : Table) (l : List Transaction) (s : State) → goes τ l s ≡ otherwise (try_data τ l s) (try_act τ l s)
goes_try τ l s = goes_from (breaks_none τ s) τ l s.cycle s.acts s.datas

-- one test out of a list that holds
pub test_at : (l : List Bool) (i : ℕ) → all_of l ≡ true → get_or l i true ≡ true
test_at [] i e = refl
test_at (t ∷ l) zero e = and_fst t (all_of l) e
test_at (t ∷ l) (suc i) e = test_at l i (and_snd t (all_of l) e)

abbrev pub act_ok : Table → State → ℕ → Bool
act_ok τ s b = all_of (act_tests τ s s.cycle b)

abbrev pub refresh_ok : Table → State → Bool
refresh_ok τ s = all_of (refresh_tests τ s s.cycle)

abbrev pub data_ok : Table → State → ℕ → Bool → Bool
data_ok τ s b w = all_of (data_tests τ s w s.cycle b)
