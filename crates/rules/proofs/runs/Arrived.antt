-- "Neither queue sees a transaction before its arrival": what goes belongs to a transaction that has arrived, from any state.
-- Assumes nothing.
use Prim.Native.Nat.{ℕ, zero, suc, ◌+◌, ◌-◌}
use native.Mathlib.Omega.{arith}
use mathlib.Core.Path.{◌≡◌, refl, sym, ap, ◌∙◌, subst}
use mathlib.Core.Bool.{Bool, true, ◌&&◌}
use mathlib.Core.Option.{Option, none, some}
use mathlib.Core.List.{List, [], ◌∷◌}
use lib.Dec.{ltb, leb}
use lib.ListN.{get_elem?}
use Rattle.records.specs.Tests.{every}
use Rattle.records.specs.declared.table.Table.{Table}
use Rattle.records.specs.declared.transaction.Transaction.{Transaction}
use Rattle.records.specs.declared.command.Command.{Command}
use Rattle.rules.specs.declared.state.State.{State}
use Rattle.rules.specs.State.{breaks_none, after}
use Rattle.rules.specs.History.{broken, is_fine}
use Rattle.rules.specs.Queues.{due_at, act_count}
use Rattle.rules.specs.CycleRule.{otherwise, goes_by, goes_at, acts_in, datas_in, goes, push, gone, Built}
use Rattle.rules.specs.Run.{steps, run}
use Rattle.rules.specs.Promise.{arrived_by, arrived}
use Rattle.rules.proofs.laws.TestLaws.{OnSome, on_pick_lem, on_map, and_both}
use Rattle.rules.proofs.queues.Queue.{Place, data_count, place_of, find, act_place, data_place, act_due, data_due}
use Rattle.rules.proofs.queues.Heads.{seen_place, data_from, act_from, goes_from}
use Rattle.rules.proofs.runs.RunTo.{run_steps}
use Rattle.rules.proofs.runs.HowMany.{every_onto}

-- a place is in the transaction of its number
abbrev Own : List Transaction → ℕ → Place → Type 0
Own l i p = (k : ℕ) × (p.number ≡ i + k) × (get_elem? l k ≡ some p.transaction)

own : (f : Transaction → ℕ) (l : List Transaction) (i a n : ℕ) → OnSome (Own l i) (find f l i a n)
own f [] i a n = tt
own f (x ∷ l) i a n =
    on_pick_lem (Own (x ∷ l) i) (ltb n (f x)) (place_of x i a n) (find f l (suc i) (a + act_count x) (n - f x)) (λ e. (0, omega arith, refl))
    (λ e. on_map {P = Own l (suc i)} {Q = Own (x ∷ l) i} (find f l (suc i) (a + act_count x) (n - f x)) (λ p h. (suc h.0, omega (arith, h.1), h.2))
    (own f l (suc i) (a + act_count x) (n - f x)))

module _ (l : List Transaction) where
  abbrev Arrived : Command → Type 0
  Arrived c = arrived l c ≡ true

  -- one that is seen has arrived
  seen_own : (t : ℕ) (o : Option Place) → OnSome (Own l 0) o → OnSome (λ p. arrived_by t (get_elem? l p.number) ≡ true) (seen_place t o)
  seen_own t none h = tt
  seen_own t (some p) h =
      on_pick_lem (λ p. arrived_by t (get_elem? l p.number) ≡ true) (leb p.transaction.arrival t) p none
      (λ e. let z : p.number ≡ h.0 = omega (arith, h.1) in ap (λ (k : ℕ). arrived_by t (get_elem? l k)) z ∙ (ap (arrived_by t) h.2 ∙ e)) (λ e. tt)

  module _ (legal : Command → Bool) (τ : Table) (t a d : ℕ) where
    data_arrived : (o : Option Place) → OnSome (λ p. arrived_by t (get_elem? l p.number) ≡ true) o → OnSome Arrived (data_from legal τ t a o)
    data_arrived none h = tt
    data_arrived (some p) h =
        on_pick_lem Arrived (ltb (data_due τ p).act a && legal (due_at t (data_due τ p))) (due_at t (data_due τ p)) none (λ e. h) (λ e. tt)

    act_arrived : (o : Option Place) → OnSome (λ p. arrived_by t (get_elem? l p.number) ≡ true) o → OnSome Arrived (act_from legal τ t o)
    act_arrived none h = tt
    act_arrived (some p) h = on_pick_lem Arrived (legal (due_at t (act_due τ p))) (due_at t (act_due τ p)) none (λ e. h) (λ e. tt)

    goes_arrived : OnSome Arrived (goes_by legal τ l t a d)
    goes_arrived =
        subst (OnSome Arrived) (sym (goes_from legal τ l t a d))
        (on (data_from legal τ t a (seen_place t (data_place l d))) (data_arrived (seen_place t (data_place l d)) (seen_own t (data_place l d) (own data_count l 0 0 d))))
      where
        on : (o : Option Command) → OnSome Arrived o → OnSome Arrived (otherwise o (act_from legal τ t (seen_place t (act_place l a))))
        on none h = act_arrived (seen_place t (act_place l a)) (seen_own t (act_place l a) (own act_count l 0 0 a))
        on (some c) h = h

  pushed : (o : Option Command) (h : List Command) → OnSome Arrived o → every (arrived l) h ≡ true → every (arrived l) (push o h) ≡ true
  pushed none h g e = e
  pushed (some c) h g e = and_both (arrived l c) (every (arrived l) h) g e

  module _ (τ : Table) where
    gone_arrived : (n : ℕ) → every (arrived l) (gone n τ l) ≡ true
    gone_arrived zero = refl
    gone_arrived (suc n) =
        let h = gone n τ l in
        pushed (goes_at τ l n h) h (goes_arrived (λ c. is_fine (broken τ c h)) τ n (acts_in h) (datas_in h)) (gone_arrived n)

    -- of the built schedule, and of what a run gives from any state
    pub built_arrived : (rs : List Command) → Built τ l rs → every (arrived l) rs ≡ true
    built_arrived rs b = ap (every (arrived l)) b.schedule ∙ every_onto (arrived l) (gone b.cycles τ l) [] (gone_arrived b.cycles) refl

    steps_arrived : (n : ℕ) (s : State) (h : List Command) → every (arrived l) h ≡ true → every (arrived l) (steps n τ l s h).1 ≡ true
    steps_arrived zero s h e = e
    steps_arrived (suc n) s h e =
        steps_arrived n (after τ s (goes τ l s)) (push (goes τ l s) h) (pushed (goes τ l s) h (goes_arrived (breaks_none τ s) τ s.cycle s.acts s.datas) e)

    pub run_arrived : (n : ℕ) (s : State) → every (arrived l) (run n τ l s []).history ≡ true
    run_arrived n s =
        ap (λ (y : State × List Command). every (arrived l) y.1) (sym (run_steps n τ l s [])) ∙ steps_arrived (run n τ l s []).cycles s [] refl
