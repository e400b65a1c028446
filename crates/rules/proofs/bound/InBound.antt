-- At the end each transaction has finished within the bound after the one before it, and every bank is closed.
-- Assumes nothing.
use Prim.Native.Nat.{ℕ, ◌+◌, ◌<◌}
use native.Mathlib.Omega.{arith}
use native.Mathlib.Nat.{mul-le-mul_right}
use mathlib.Core.Path.{◌≡◌, refl, sym, ap, ◌∙◌, subst}
use mathlib.Core.Logic.{⊎_elim}
use mathlib.Core.Bool.{Bool, true, false}
use mathlib.Core.List.{List, [], ◌∷◌, ◌++◌, append-nil}
use lib.ListN.{length}
use Rattle.records.specs.declared.table.Table.{Table}
use Rattle.records.specs.declared.transaction.Transaction.{Transaction}
use Rattle.records.specs.declared.command.Command.{Command}
use Rattle.records.specs.Transaction.{is_refresh}
use Rattle.rules.specs.declared.state.State.{State}
use Rattle.rules.specs.State.{is_open, bank_of}
use Rattle.rules.specs.Queues.{act_count}
use Rattle.rules.specs.Bound.{start_at}
use Rattle.rules.proofs.laws.Ranges.{Ranges}
use Rattle.rules.proofs.queues.Queue.{data_count, act_sum, data_sum, sum_append}
use Rattle.rules.proofs.queues.Fit.{AllFit}
use Rattle.rules.proofs.bound.Finishes.{Finishes}
use Rattle.rules.proofs.bound.Progress.{InService, Stands, Progress}

module _ (τ : Table) (rng : Ranges τ) (l : List Transaction) (v : AllFit τ l) (s : State) (h : List Command) (q : Progress τ l s h)
    (allD : s.datas ≡ data_sum l) (allA : s.acts ≡ act_sum l) where
  no_rest : (rest : List Transaction) → l ≡ q.done ++ rest → Stands τ l q.done rest (q.start (length q.done)) s → rest ≡ []
  no_rest [] e w = refl
  no_rest (x ∷ rest) e w = absurd (by (is_refresh x) refl w)
    where
      eA : act_sum l ≡ act_sum q.done + (act_count x + act_sum rest)
      eA = ap act_sum e ∙ sum_append act_count q.done (x ∷ rest)

      by : (z : Bool) → is_refresh x ≡ z → InService z τ l q.done x (start_at x (q.start (length q.done))) s → ⊥
      by true er w = omega (arith, w.2.here, rw er at eA)
      by false er w = omega (arith, w.3.cnt, ap data_sum e, sum_append data_count q.done (x ∷ rest), mul-le-mul_right x.bc w.3.jIn, w.3.rIn)

  all_done : l ≡ q.done
  all_done = q.split ∙ (ap (λ (y : List Transaction). q.done ++ y) (no_rest q.rest q.split q.stands) ∙ append-nil q.done)

  pub all_finish : Finishes τ l (length l) q.last q.start h
  all_finish = subst (λ (k : ℕ). Finishes τ l k q.last q.start h) (sym (ap length all_done)) q.finishes

  pub all_closed : (b : ℕ) → b < τ.banks → is_open (bank_of s b) ≡ false
  all_closed b z = on q.rest (no_rest q.rest q.split q.stands) q.stands
    where
      on : (rest : List Transaction) → rest ≡ [] → Stands τ l q.done rest (q.start (length q.done)) s → is_open (bank_of s b) ≡ false
      on [] e w = ⊎_elim (λ y. y.0) (λ y. absurd (omega (arith, y.1, y.2, ap act_sum all_done))) (w.2.cold b z)
      on (x ∷ rest) e w = let y : ◌≡◌ {A = ℕ} 0 1 = cc in absurd (omega arith)
