-- The list is served: after so many cycles every data command has gone. And n cycles and then m are n + m.
-- Assumes nothing.
use Prim.Native.Nat.{ℕ, zero, suc, ◌+◌, ◌≤◌, ◌<◌}
use native.Mathlib.Omega.{arith}
use mathlib.Core.Path.{◌≡◌, refl, sym, ap, ◌∙◌}
use mathlib.Core.Bool.{Bool, true, false}
use mathlib.Core.Option.{Option, none, some}
use mathlib.Core.List.{List, [], ◌∷◌, ◌++◌, append-nil}
use lib.ListN.{length, get_or, length-append}
use lib.Seq.{get_or-append_seam}
use Rattle.records.specs.declared.table.Table.{Table}
use Rattle.records.specs.declared.transaction.Transaction.{Transaction}
use Rattle.records.specs.declared.command.Command.{Command}
use Rattle.records.specs.Transaction.{is_refresh}
use Rattle.rules.specs.declared.state.State.{State}
use Rattle.rules.specs.State.{breaks_none, fresh, after}
use Rattle.rules.specs.CycleRule.{goes, push}
use Rattle.rules.specs.Run.{steps}
use Rattle.rules.specs.Bound.{span, start_at}
use Rattle.rules.specs.Finish.{count_from}
use Rattle.rules.proofs.laws.TestLaws.{OnSome}
use Rattle.rules.proofs.laws.Ranges.{Ranges}
use Rattle.rules.proofs.queues.Queue.{act_sum, data_sum}
use Rattle.rules.proofs.queues.Fit.{AllFit}
use Rattle.rules.proofs.queues.Heads.{goes_place}
use Rattle.rules.proofs.bound.Due.{due_span, start_ge, start_mono, count_ge, count_le}
use Rattle.rules.proofs.bound.Finishes.{no_transaction, nth, Finishes}
use Rattle.rules.proofs.bound.Progress.{InService, Stands, Progress, progress_fresh, steps_progress}

pub steps_add : (n m : ℕ) (τ : Table) (l : List Transaction) (s : State) (h : List Command) → steps (n + m) τ l s h ≡ steps m τ l (steps n τ l s h).0 (steps n τ l s h).1
steps_add zero m τ l s h = let z : 0 + m ≡ m = omega arith in rw z
steps_add (suc n) m τ l s h = let z : suc n + m ≡ suc (n + m) = omega arith in rw z (steps_add n m τ l (after τ s (goes τ l s)) (push (goes τ l s) h))

-- from where a count starts to where the next one does, at most
abbrev pub full : Table → Transaction → ℕ
full τ x = count_from τ x (span τ x)

-- those of the first k transactions, added
abbrev pub total : Table → List Transaction → ℕ → ℕ
total τ l zero = 0
total τ l (suc k) = start_at (nth l k) (total τ l k) + full τ (nth l k)

total_up : (τ : Table) (l : List Transaction) (k d : ℕ) → total τ l k ≤ total τ l (k + d)
total_up τ l k zero = let z : k + 0 ≡ k = omega arith in rw z (omega arith)
total_up τ l k (suc d) = let z : k + suc d ≡ suc (k + d) = omega arith in rw z (omega (arith, total_up τ l k d, start_ge (nth l (k + d)) (total τ l (k + d))))

fin_total : (τ : Table) (l : List Transaction) (K : ℕ) (fin st : ℕ → ℕ) (h : List Command) → Finishes τ l K fin st h → (k : ℕ) → k ≤ K → st k ≤ total τ l k
fin_total τ l K fin st h q zero z = omega (arith, q.zeroth)
fin_total τ l K fin st h q (suc k) z =
    let e : k + 1 ≡ suc k = omega arith in
    let a = count_le τ (nth l k) (fin k) (start_at (nth l k) (st k)) (q.near k (omega arith)) in
    omega (arith, a, rw e at (q.next k (omega arith)), start_mono (nth l k) (st k) (total τ l k) (fin_total τ l K fin st h q k (omega arith)))

-- each step is one cycle
pub goes_now : (τ : Table) (l : List Transaction) (s : State) → OnSome (λ c. c.cycle ≡ s.cycle) (goes τ l s)
goes_now τ l s =
    goes_place (breaks_none τ s) τ l s.cycle s.acts s.datas (λ c. c.cycle ≡ s.cycle) (λ p e. refl) (λ p e. refl)

pub one_cycle : (τ : Table) (s : State) (o : Option Command) → OnSome (λ c. c.cycle ≡ s.cycle) o → (after τ s o).cycle ≡ s.cycle + 1
one_cycle τ s none u = refl
one_cycle τ s (some c) u = ap (λ (y : ℕ). y + 1) u

pub steps_cycle : (n : ℕ) (τ : Table) (l : List Transaction) (s : State) (h : List Command) → (steps n τ l s h).0.cycle ≡ s.cycle + n
steps_cycle zero τ l s h = omega arith
steps_cycle (suc n) τ l s h = steps_cycle n τ l (after τ s (goes τ l s)) (push (goes τ l s) h) ∙ omega (arith, one_cycle τ s (goes τ l s) (goes_now τ l s))

module _ (τ : Table) (rng : Ranges τ) (l : List Transaction) (v : AllFit τ l) where
  pub late_served : (s : State) (h : List Command) (q : Progress τ l s h) → total τ l (length l) < s.cycle → (s.datas ≡ data_sum l) × (s.acts ≡ act_sum l)
  late_served s h q z = on q.rest q.split q.stands
    where
      on : (rest : List Transaction) → l ≡ q.done ++ rest → Stands τ l q.done rest (q.start (length q.done)) s → (s.datas ≡ data_sum l) × (s.acts ≡ act_sum l)
      on [] e w =
          let eA : act_sum l ≡ act_sum q.done = ap act_sum e ∙ ap act_sum (append-nil q.done) in
          (w.3 ∙ sym (ap data_sum e ∙ ap data_sum (append-nil q.done)), omega (arith, w.2.le, q.caps.0, eA))
      on (x ∷ rest) e w = absurd (omega (arith, by (is_refresh x) refl w, count_ge τ x (span τ x), t, b, ap (total τ l) n))
        where
          -- a transaction in service is within its span
          by : (z : Bool) → is_refresh x ≡ z → InService z τ l q.done x (start_at x (q.start (length q.done))) s
              → s.cycle ≤ start_at x (q.start (length q.done)) + span τ x
          by true er w = rw er w.2.ref_time
          by false er w = omega (arith, w.3.data_time, due_span τ x w.1 w.2 er w.3.jIn w.3.rIn)

          f : q.start (length q.done) ≤ total τ l (length q.done)
          f = fin_total τ l (length q.done) q.last q.start h q.finishes (length q.done) (omega arith)

          g : nth l (length q.done) ≡ x
          g = ap (λ (y : List Transaction). get_or y (length q.done) no_transaction) e ∙ get_or-append_seam q.done x rest no_transaction

          t : total τ l (suc (length q.done)) ≤ total τ l (suc (length q.done) + length rest)
          t = total_up τ l (suc (length q.done)) (length rest)

          n : length l ≡ suc (length q.done) + length rest
          n = ap length e ∙ (length-append q.done (x ∷ rest) ∙ omega arith)

          b : start_at x (q.start (length q.done)) + full τ x ≤ total τ l (suc (length q.done))
          b = rw g (omega (arith, start_mono x (q.start (length q.done)) (total τ l (length q.done)) f))

  -- enough cycles serve the list
  pub all_served : (n : ℕ) → total τ l (length l) < n → ((steps n τ l (fresh τ) []).0.datas ≡ data_sum l) × ((steps n τ l (fresh τ) []).0.acts ≡ act_sum l)
  all_served n z =
      late_served (steps n τ l (fresh τ) []).0 (steps n τ l (fresh τ) []).1 (steps_progress τ rng l v n (fresh τ) [] (progress_fresh τ rng l v))
      (omega (arith, steps_cycle n τ l (fresh τ) []))
