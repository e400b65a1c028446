-- A bank to which data commands are due stays open once its ACT has gone.
-- Assumes nothing.
use Prim.Native.Nat.{ℕ, ◌+◌, ◌*◌, ◌/◌, ◌≤◌, ◌<◌}
use native.Mathlib.Omega.{arith}
use native.Mathlib.Nat.{mul-add-div_right, div-eq_of_lt, mul-le-mul_right}
use mathlib.Core.Path.{◌≡◌, refl, ap, ◌∙◌, subst}
use mathlib.Core.Bool.{Bool, true, false}
use mathlib.Core.List.{List, [], ◌∷◌, ◌++◌}
use lib.ListN.{length}
use Rattle.records.specs.declared.table.Table.{Table}
use Rattle.records.specs.declared.transaction.Transaction.{Transaction}
use Rattle.records.specs.declared.command.Command.{Command}
use Rattle.records.specs.Transaction.{is_refresh}
use Rattle.rules.specs.declared.state.State.{State}
use Rattle.rules.specs.State.{is_open, bank_of}
use Rattle.rules.specs.Bound.{start_at}
use Rattle.rules.proofs.laws.TestLaws.{OnSome}
use Rattle.rules.proofs.laws.Ranges.{Ranges}
use Rattle.rules.proofs.queues.Queue.{data_count, place_of, act_bank, act_sum, data_sum, sum_append}
use Rattle.rules.proofs.queues.Fit.{AllFit}
use Rattle.rules.proofs.bound.Phase.{Spot}
use Rattle.rules.proofs.bound.Progress.{spot, InService, Stands, Progress}
use Rattle.rules.proofs.queues.Front.{act_of, Own, data_own, act_of_past, act_of_up}

-- a bank that data commands of the list are due to is open, if its ACT has gone
module _ (τ : Table) (rng : Ranges τ) (l : List Transaction) (v : AllFit τ l) (s : State) (h : List Command) (q : Progress τ l s h) where
  pub due_open : (n : ℕ) → s.datas ≤ n → n < data_sum l → act_of l n < s.acts → is_open (bank_of s (act_bank τ l (act_of l n))) ≡ true
  due_open n le lt ga = on q.rest q.split q.stands
    where
      on : (rest : List Transaction) → l ≡ q.done ++ rest → Stands τ l q.done rest (q.start (length q.done)) s → is_open (bank_of s (act_bank τ l (act_of l n))) ≡ true
      on [] e w = absurd (omega (arith, w.3, ap data_sum e, sum_append data_count q.done []))
      on (x ∷ rest) e w = by (is_refresh x) refl w
        where
          F : ℕ
          F = start_at x (q.start (length q.done))

          by : (z : Bool) → is_refresh x ≡ z → InService z τ l q.done x F s → is_open (bank_of s (act_bank τ l (act_of l n))) ≡ true
          -- while a REF is next, no ACT has gone that has data commands due
          by true er w =
              let past : act_sum q.done ≤ act_of (q.done ++ x ∷ rest) n = act_of_past q.done (x ∷ rest) n (omega (arith, w.2.cnt)) in
              absurd (omega (arith, past, ap (λ (y : List Transaction). act_of y n) e, ga, w.2.here))
          by false er w = w.3.base.opened (act_of l n) (omega (arith, head_act, act_of_up τ l v s.datas n le lt)) ga
            where
              j : ℕ
              j = w.1

              m : ℕ
              m = j * x.bc + w.2

              sp : Spot τ l (act_sum q.done) (data_sum q.done) x
              sp = spot τ l q.done x rest v e er

              m_lt : m < x.bi * x.bc
              m_lt = omega (arith, mul-le-mul_right x.bc w.3.jIn, w.3.rIn)

              e1 : m / x.bc ≡ j
              e1 = mul-add-div_right sp.ok.one j w.2 ∙ (ap (λ (y : ℕ). j + y) (div-eq_of_lt w.3.rIn) ∙ omega arith)

              own : Own τ l 0 (data_sum q.done + m) (place_of x sp.K (act_sum q.done) m)
              own = subst (OnSome (Own τ l 0 (data_sum q.done + m))) (sp.data_m m m_lt) (data_own τ l v 0 0 (data_sum q.done + m))

              head_act : act_of l s.datas ≡ act_sum q.done + j
              head_act = ap (act_of l) w.3.cnt ∙ omega (arith, own.0, e1)
