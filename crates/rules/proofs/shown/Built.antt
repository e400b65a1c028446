-- The built schedule: there is one, it is the only one, it passes the judge, and it ends before cycle 100,000,000.
-- Assumes nothing.
use Prim.Native.Nat.{ℕ, zero, suc, ◌+◌, ◌≤◌, ◌<◌}
use native.Mathlib.Omega.{arith}
use mathlib.Core.Path.{◌≡◌, refl, sym, ap, ◌∙◌, subst}
use mathlib.Core.Logic.{⊎_elim}
use mathlib.Core.Bool.{true, false}
use mathlib.Core.List.{List, [], ◌∷◌, ◌++◌, append-nil}
use lib.Dec.{ltb}
use lib.ListN.{length}
use borrow.Author.Tests.{lt-ltb}
use Rattle.records.specs.declared.table.Table.{Table}
use Rattle.records.specs.declared.transaction.Transaction.{Transaction}
use Rattle.records.specs.declared.command.Command.{Command}
use Rattle.rules.specs.declared.state.State.{State}
use Rattle.records.specs.Tests.{every}
use Rattle.records.specs.Table.{Accepted}
use Rattle.records.specs.Transaction.{list_fits}
use Rattle.records.proofs.Arrivals.{few_listed, each_listed}
use Rattle.rules.specs.History.{open_in}
use Rattle.rules.specs.Verdict.{all_shut, Legal}
use Rattle.rules.specs.Pattern.{onto}
use Rattle.rules.specs.State.{is_open, fresh}
use Rattle.rules.specs.Queues.{act_queue, data_queue}
use Rattle.rules.specs.CycleRule.{acts_in, datas_in, gone, Built}
use Rattle.rules.specs.Run.{served, steps, Ran, run}
use Rattle.rules.specs.Promise.{next_cycle}
use Rattle.rules.proofs.laws.TestLaws.{true_false, and_both}
use Rattle.rules.proofs.laws.Ranges.{Ranges, ranges}
use Rattle.rules.proofs.history.Newest.{AllBelow, all_below_up}
use Rattle.rules.proofs.history.BankRules.{open_same}
use Rattle.rules.proofs.history.Link.{Sums}
use Rattle.rules.proofs.history.Judged.{legal_accepted}
use Rattle.rules.proofs.laws.Numbers.{from?}
use Rattle.rules.proofs.queues.Queue.{act_sum, data_sum, act_length, data_length}
use Rattle.rules.proofs.queues.Fit.{AllFit, all_fit}
use Rattle.rules.proofs.bound.Finishes.{Finishes}
use Rattle.rules.proofs.bound.Progress.{Progress, progress_fresh, steps_progress}
use Rattle.rules.proofs.bound.InBound.{all_finish, all_closed}
use Rattle.rules.proofs.bound.Served.{steps_add, total, steps_cycle, all_served}
use Rattle.rules.proofs.bound.Limit.{never_long}
use Rattle.rules.proofs.runs.RunTo.{run_steps}
use Rattle.rules.proofs.history.Exact.{fresh_legal, exact}
use Rattle.rules.proofs.runs.ToEnd.{served_steps, is_served, served_all, run_progress, end_cycles, end_served}
use Rattle.rules.proofs.runs.HowMany.{legal_count, acts_turn, datas_turn, length_turn}

-- lists turned round
onto_onto : (a b c : List Command) → onto (onto a b) c ≡ onto b (a ++ c)
onto_onto [] b c = refl
onto_onto (r ∷ a) b c = onto_onto a (r ∷ b) c

pub turn_back : (h : List Command) → onto (onto h []) [] ≡ h
turn_back h = onto_onto h [] [] ∙ append-nil h

before_onto : (n : ℕ) (a b : List Command) → AllBelow n a → every (λ r. ltb r.cycle n) b ≡ true → every (λ r. ltb r.cycle n) (onto a b) ≡ true
before_onto n [] b q e = e
before_onto n (r ∷ a) b q e = before_onto n a (r ∷ b) q.1 (and_both _ _ (lt-ltb r.cycle n q.0) e)

module _ (τ : Table) (acc : Accepted τ) (l : List Transaction) (fit : list_fits τ l ≡ true) where
  rng : Ranges τ
  rng = ranges τ acc

  pub each_fits : AllFit τ l
  each_fits = all_fit τ rng.banks.least l (each_listed τ l fit)

  pub short : total τ l (length l) < 100000000
  short = never_long τ rng l each_fits (each_listed τ l fit) (few_listed τ l fit)

  -- the state and the history after n steps from a fresh state
  abbrev pub state_at : ℕ → State
  state_at n = (steps n τ l (fresh τ) []).0

  abbrev pub history_at : ℕ → List Command
  history_at n = (steps n τ l (fresh τ) []).1

  pub by_state : (n : ℕ) → gone n τ l ≡ history_at n
  by_state = exact τ rng l each_fits

  pub sums_at : (n : ℕ) → Sums τ (history_at n) (state_at n)
  sums_at n = (fresh_legal τ rng l each_fits n).0

  progress_at : (n : ℕ) → Progress τ l (state_at n) (history_at n)
  progress_at n = steps_progress τ rng l each_fits n (fresh τ) [] (progress_fresh τ rng l each_fits)

  -- what has gone when both queues are empty is the built schedule
  pub stop_built : (n : ℕ) → ((state_at n).datas ≡ data_sum l) × ((state_at n).acts ≡ act_sum l) → Built τ l (onto (history_at n) [])
  stop_built n e =
      record {
        cycles = n;
        schedule = ap (λ (h : List Command). onto h []) (sym (by_state n));
        acts = acts_turn (history_at n) ∙ (sym (sums_at n).acts ∙ (e.1 ∙ sym (act_length τ l)));
        datas = datas_turn (history_at n) ∙ (sym (sums_at n).datas ∙ (e.0 ∙ sym (data_length τ l)));
      }

  pub enough : (n : ℕ) → total τ l (length l) < n → ((state_at n).datas ≡ data_sum l) × ((state_at n).acts ≡ act_sum l)
  enough = all_served τ rng l each_fits

  -- a list that is not yet served stands below cycle 100,000,000
  pub stop_soon : (n : ℕ) → served τ l (state_at n) ≡ false → n < 100000000
  stop_soon n h = ⊎_elim (λ z. z)
      (λ z. let a = enough n (omega (arith, z.1, short)) in
      true_false (served τ l (state_at n)) (is_served τ l (state_at n) (omega (arith, a.0)) (omega (arith, a.1))) h) (from? n 100000000)

  pub exists : (rs : List Command) × Built τ l rs
  exists = (onto (history_at (total τ l (length l) + 1)) [], stop_built (total τ l (length l) + 1) (enough (total τ l (length l) + 1) (omega arith)))

  module _ (rs : List Command) (b : Built τ l rs) where
    pub built_history : onto rs [] ≡ history_at b.cycles
    built_history = ap (λ (y : List Command). onto y []) b.schedule ∙ (turn_back (gone b.cycles τ l) ∙ by_state b.cycles)

    pub all_gone : ((state_at b.cycles).datas ≡ data_sum l) × ((state_at b.cycles).acts ≡ act_sum l)
    all_gone = (
      (sums_at b.cycles).datas ∙ (sym (ap datas_in built_history) ∙ (datas_turn rs ∙ (b.datas ∙ data_length τ l))),
      (sums_at b.cycles).acts ∙ (sym (ap acts_in built_history) ∙ (acts_turn rs ∙ (b.acts ∙ act_length τ l))),
    )

    -- later cycles add nothing
    stays : (d : ℕ) → rs ≡ onto (history_at (b.cycles + d)) []
    stays d =
        sym (turn_back rs)
        ∙ ap (λ (h : List Command). onto h [])
        (built_history ∙ (sym (served_steps d τ l (state_at b.cycles) (history_at b.cycles) (omega (arith, all_gone.0)) (omega (arith, all_gone.1)))
        ∙ ap (λ (y : State × List Command). y.1) (sym (steps_add b.cycles d τ l (fresh τ) []))))

  pub built_only : (rs rs' : List Command) → Built τ l rs → Built τ l rs' → rs ≡ rs'
  built_only rs rs' b b' =
      let z : b.cycles + b'.cycles ≡ b'.cycles + b.cycles = omega arith in
      stays rs b b'.cycles ∙ (ap (λ (n : ℕ). onto (history_at n) []) z ∙ sym (stays rs' b' b.cycles))

  pub built_at : (n : ℕ) → total τ l (length l) < n → (rs : List Command) → Built τ l rs → rs ≡ onto (gone n τ l) []
  built_at n z rs b =
      built_only rs (onto (history_at n) []) b (stop_built n (enough n z)) ∙ ap (λ (h : List Command). onto h []) (sym (by_state n))

  module _ (rs : List Command) (b : Built τ l rs) where
    pub built_count : length rs ≡ length (act_queue τ l) + length (data_queue τ l)
    built_count =
        let c = legal_count τ (history_at b.cycles) (fresh_legal τ rng l each_fits b.cycles).1 in
        let e = ap length (built_history rs b) in
        let d = ap datas_in (built_history rs b) in
        let a = ap acts_in (built_history rs b) in
        omega (arith, c, e, d, a, length_turn rs, datas_turn rs, acts_turn rs, b.datas, b.acts)

    all_shut_lem : (n : ℕ) → n ≤ τ.banks → all_shut n (history_at b.cycles) ≡ true
    all_shut_lem zero z = refl
    all_shut_lem (suc n) z =
        let e : open_in n (history_at b.cycles) ≡ false = open_same n (history_at b.cycles)
        ∙ (ap is_open (sym ((sums_at b.cycles).bank n (omega (arith, rng.banks.most))))
        ∙ all_closed τ rng l each_fits (state_at b.cycles) (history_at b.cycles) (progress_at b.cycles) (all_gone rs b).0 (all_gone rs b).1 n z) in
        rw e (all_shut_lem n (omega arith))

    pub built_passes : Legal τ rs
    built_passes =
        legal_accepted τ rs 0 [] (rw (built_history rs b) (fresh_legal τ rng l each_fits b.cycles).1) (rw (built_history rs b) (all_shut_lem τ.banks (omega arith)))

    pub built_early : every (λ r. ltb r.cycle 100000000) rs ≡ true
    built_early =
        let n = total τ l (length l) + 1 in
        let few : (state_at n).cycle ≤ 100000000 = omega (arith, steps_cycle n τ l (fresh τ) [], short) in
        let low : AllBelow 100000000 (history_at n) = all_below_up (state_at n).cycle 100000000 few (history_at n) (sums_at n).low in
        rw (built_at n (omega arith) rs b, by_state n) (before_onto 100000000 (history_at n) [] low refl)

    -- where each transaction ended, and where its count started
    pub built_bound : (last : ℕ → ℕ) × (start : ℕ → ℕ) × Finishes τ l (length l) last start (onto rs [])
    built_bound =
        let q = progress_at b.cycles in
        (q.last, q.start, rw (built_history rs b) (all_finish τ rng l each_fits (state_at b.cycles) (history_at b.cycles) q (all_gone rs b).0 (all_gone rs b).1))

    -- a fresh run that serves the list leaves it
    module _ (n : ℕ) (e : served τ l (run n τ l (fresh τ) []).state ≡ true) where
      abbrev r : Ran
      r = run n τ l (fresh τ) []

      pub run_built : onto r.history [] ≡ rs
      run_built =
          let a = served_all τ rng l each_fits r.state r.history (run_progress τ rng l each_fits n) e in
          ap (λ (y : State × List Command). onto y.1 []) (sym (run_steps n τ l (fresh τ) []))
          ∙ built_only (onto (history_at r.cycles) []) rs
          (stop_built r.cycles (subst (λ (y : State × List Command). (y.0.datas ≡ data_sum l) × (y.0.acts ≡ act_sum l)) (sym (run_steps n τ l (fresh τ) [])) a)) b

      pub run_reports : r.cycles ≡ next_cycle (onto rs [])
      run_reports =
          end_cycles τ rng l each_fits n e ∙ ap next_cycle (sym (turn_back r.history) ∙ ap (λ (h : List Command). onto h []) run_built)

  pub run_ends : (n : ℕ) → 100000000 ≤ n → served τ l (run n τ l (fresh τ) []).state ≡ true
  run_ends n z = end_served τ rng l each_fits n short (omega (arith, short))
