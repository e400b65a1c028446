-- A fresh run to the end: it serves the list, and reports one past the last command's cycle.
-- Assumes nothing.
use Prim.Native.Nat.{ℕ, zero, suc, ◌+◌, ◌≤◌, ◌<◌}
use native.Mathlib.Omega.{arith}
use mathlib.Core.Path.{◌≡◌, refl, sym, subst}
use mathlib.Core.Logic.{◌⊎◌, inl, inr, ⊎_elim}
use mathlib.Core.Bool.{Bool, true, false, ◌||◌}
use mathlib.Core.Option.{Option, none, some}
use mathlib.Core.List.{List, []}
use lib.Dec.{leb}
use lib.ListN.{length}
use borrow.Author.Tests.{leb-true, le-leb}
use Rattle.records.specs.declared.table.Table.{Table}
use Rattle.records.specs.declared.transaction.Transaction.{Transaction}
use Rattle.records.specs.declared.command.Command.{Command}
use Rattle.rules.specs.declared.state.State.{State}
use Rattle.rules.specs.State.{fresh, idle, after}
use Rattle.rules.specs.Queues.{act_queue, data_queue}
use Rattle.rules.specs.CycleRule.{goes, push}
use Rattle.rules.specs.Run.{served, stops, steps, Ran, run}
use Rattle.rules.specs.Promise.{next_cycle}
use Rattle.rules.proofs.laws.TestLaws.{true_false, and_both, and_fst, and_snd}
use Rattle.rules.proofs.laws.Ranges.{Ranges}
use Rattle.rules.proofs.queues.Queue.{act_sum, data_sum, act_length, data_length}
use Rattle.rules.proofs.queues.Fit.{AllFit}
use Rattle.rules.proofs.queues.Counts.{none_left}
use Rattle.rules.proofs.bound.Progress.{Progress, progress_fresh, progress_step}
use Rattle.rules.proofs.bound.Served.{total, goes_now, one_cycle, late_served}
use Rattle.rules.proofs.runs.RunTo.{stopped, going}

-- once the list is served nothing goes
pub served_steps : (n : ℕ) (τ : Table) (l : List Transaction) (s : State) (h : List Command) → data_sum l ≤ s.datas → act_sum l ≤ s.acts → (steps n τ l s h).1 ≡ h
served_steps zero τ l s h d a = refl
served_steps (suc n) τ l s h d a =
    subst (λ (o : Option Command). (steps n τ l (after τ s o) (push o h)).1 ≡ h) (sym (none_left τ l s d a)) (served_steps n τ l (idle s) h d a)

pub is_served : (τ : Table) (l : List Transaction) (s : State) → data_sum l ≤ s.datas → act_sum l ≤ s.acts → served τ l s ≡ true
is_served τ l s d a =
    and_both (leb (length (data_queue τ l)) s.datas) (leb (length (act_queue τ l)) s.acts)
    (le-leb (length (data_queue τ l)) s.datas (omega (arith, data_length τ l)))
    (le-leb (length (act_queue τ l)) s.acts (omega (arith, act_length τ l)))

module _ (τ : Table) (rng : Ranges τ) (l : List Transaction) (v : AllFit τ l) where
  module _ (s : State) (h : List Command) (q : Progress τ l s h) where
    pub served_all : served τ l s ≡ true → (s.datas ≡ data_sum l) × (s.acts ≡ act_sum l)
    served_all e =
        let d = leb-true (length (data_queue τ l)) s.datas (and_fst (leb (length (data_queue τ l)) s.datas) (leb (length (act_queue τ l)) s.acts) e) in
        let a = leb-true (length (act_queue τ l)) s.acts (and_snd (leb (length (data_queue τ l)) s.datas) (leb (length (act_queue τ l)) s.acts) e) in
        (omega (arith, d, data_length τ l, q.caps.1), omega (arith, a, act_length τ l, q.caps.0))

  -- the cycle comes right after the newest record once the list is served
  Ended : State → List Command → Type 0
  Ended s h = served τ l s ≡ true → s.cycle ≡ next_cycle h

  ended_step : (s : State) (h : List Command) → stops τ l s ≡ false → (o : Option Command) → Ended (after τ s o) (push o h)
  unfolding Ended
  ended_step s h t none e = true_false (stops τ l s) (rw e) t
  ended_step s h t (some c) e = refl

  -- what a run of n cycles from cycle c leaves
  record Reached (n c : ℕ) (r : Ran) : Type 0 where
    progress : Progress τ l r.state r.history
    ended : Ended r.state r.history
    took : c + r.cycles ≡ r.state.cycle
    full : (r.cycles ≡ n) ⊎ (stops τ l r.state ≡ true)

  reach : (n : ℕ) (s : State) (h : List Command) → Progress τ l s h → Ended s h → Reached n s.cycle (run n τ l s h)
  unfolding Ended
  reach zero s h q e = record { progress = q; ended = e; took = omega arith; full = inl refl }
  reach (suc n) s h q e =
      on (stops τ l s) refl (λ t. reach n (after τ s (goes τ l s)) (push (goes τ l s) h) (progress_step τ rng l v s h q) (ended_step s h t (goes τ l s)))
    where
      on : (b : Bool) → stops τ l s ≡ b
          → (stops τ l s ≡ false → Reached n (after τ s (goes τ l s)).cycle (run n τ l (after τ s (goes τ l s)) (push (goes τ l s) h)))
          → Reached (suc n) s.cycle (run (suc n) τ l s h)
      on true t ih =
          subst (Reached (suc n) s.cycle) (sym (stopped (suc n) τ l s h t)) (record { progress = q; ended = e; took = omega arith; full = inr t })
      on false t ih =
          let y = ih t in
          subst (Reached (suc n) s.cycle) (sym (going n τ l s h t))
          (record {
            progress = y.progress;
            ended = y.ended;
            took = omega (arith, y.took, one_cycle τ s (goes τ l s) (goes_now τ l s));
            full = ⊎_elim (λ z. inl (omega (arith, z))) (λ z. inr z) y.full;
          })

  -- a fresh run
  module _ (n : ℕ) where
    abbrev r : Ran
    r = run n τ l (fresh τ) []

    reached : Reached n 0 r
    unfolding Ended
    reached = reach n (fresh τ) [] (progress_fresh τ rng l v) (λ e. refl)

    pub run_progress : Progress τ l r.state r.history
    run_progress = reached.progress

    -- it reports one past the cycle of the last command, if it has served the list
    pub end_cycles : served τ l r.state ≡ true → r.cycles ≡ next_cycle r.history
    unfolding Ended
    end_cycles e = omega (arith, reached.took, reached.ended e)

    -- and it has, if it was given enough cycles
    pub end_served : total τ l (length l) < 100000000 → total τ l (length l) < n → served τ l r.state ≡ true
    end_served short z = ⊎_elim (λ y. late (omega (arith, reached.took, y))) (λ y. at_stop (served τ l r.state) refl y) reached.full
      where
        late : total τ l (length l) < r.state.cycle → served τ l r.state ≡ true
        late k = let a = late_served τ rng l v r.state r.history run_progress k in is_served τ l r.state (omega (arith, a.0)) (omega (arith, a.1))

        at_stop : (b : Bool) → served τ l r.state ≡ b → (b || leb 100000000 r.state.cycle) ≡ true → served τ l r.state ≡ true
        at_stop true e t = e
        at_stop false e t = late (omega (arith, leb-true 100000000 r.state.cycle t))

-- an empty list takes no cycle
pub end_empty : (n : ℕ) (τ : Table) → (run n τ [] (fresh τ) []).cycles ≡ 0
unfolding act_queue data_queue
end_empty n τ = rw (stopped n τ [] (fresh τ) [] refl)
