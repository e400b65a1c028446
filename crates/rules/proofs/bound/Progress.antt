-- How far the cycle rule has come with a list: which transactions are done, and where the next one stands.
-- Assumes nothing.
use Prim.Native.Nat.{ℕ, zero, suc, ◌+◌, ◌≤◌}
use native.Mathlib.Omega.{arith}
use mathlib.Core.Path.{◌≡◌, refl, sym, ap, ◌∙◌, subst}
use mathlib.Core.Logic.{inl, inr}
use mathlib.Core.Bool.{Bool, true, false}
use mathlib.Core.Option.{Option, none, some}
use mathlib.Core.List.{List, [], ◌∷◌, ◌++◌, append_assoc}
use lib.ListN.{length, length-append}
use lib.Seq.{get_or-append_seam}
use Rattle.records.specs.declared.table.Table.{Table}
use Rattle.records.specs.declared.transaction.Transaction.{Transaction}
use Rattle.records.specs.declared.command.Command.{Command}
use Rattle.records.specs.Transaction.{is_refresh}
use Rattle.rules.specs.declared.state.State.{State}
use Rattle.rules.specs.State.{fresh, after}
use Rattle.rules.specs.CycleRule.{goes, push}
use Rattle.rules.specs.Run.{steps}
use Rattle.rules.specs.Bound.{span, start_at}
use Rattle.rules.specs.Finish.{count_from}
use Rattle.rules.specs.Queues.{act_count}
use Rattle.rules.proofs.laws.TestLaws.{OnSome}
use Rattle.rules.proofs.laws.Ranges.{Ranges}
use Rattle.rules.proofs.queues.Queue.{data_count, bank_of_place, sum, act_sum, data_sum, at_own, sum_append}
use Rattle.rules.proofs.queues.Fit.{Fits, AllFit, plain_fit, refresh_of}
use Rattle.rules.proofs.bound.Recent.{ext, ext_eq}
use Rattle.rules.proofs.bound.GoneActs.{Base, base_idle, base_fresh}
use Rattle.rules.proofs.bound.Due.{start_ge, start_arrival}
use Rattle.rules.proofs.bound.Phase.{Spot, Serving, Between, between_later, enter}
use Rattle.rules.proofs.bound.Steps.{OfNumber, LastOf, Next, phase_step}
use Rattle.rules.proofs.bound.RefNext.{RefNext, enter_ref, NextRef, not_act, refresh_step}
use Rattle.rules.proofs.queues.Counts.{Capped, caps_step, none_left}
use Rattle.rules.proofs.bound.Finishes.{no_transaction, nth, Finishes, finishes_kept, finishes_more}

pub fit_mid : (τ : Table) (p : List Transaction) (x : Transaction) (rest : List Transaction) → AllFit τ (p ++ x ∷ rest) → Fits τ x
fit_mid τ [] x rest v = v.0
fit_mid τ (y ∷ p) x rest v = fit_mid τ p x rest v.1

pub spot : (τ : Table) (l p : List Transaction) (x : Transaction) (rest : List Transaction) → AllFit τ l → l ≡ p ++ x ∷ rest → is_refresh x ≡ false
    → Spot τ l (act_sum p) (data_sum p) x
spot τ l p x rest v e er =
    record {
      K = length p;
      ok = plain_fit τ x (fit_mid τ p x rest (rw e at v)) er;
      bank_k = λ k h. rw e (ap (bank_of_place τ) (at_own act_count x rest p k (rw er h)) ∙ rw er);
      act_k = λ k h. rw e (at_own act_count x rest p k (rw er h));
      data_m = λ m h. rw e (at_own data_count x rest p m h);
    }

-- x is in service, after the transactions p; its count started at F
abbrev pub InService : Bool → Table → List Transaction → List Transaction → Transaction → ℕ → State → Type 0
InService true τ l p x F s = (ta : ℕ → ℕ) × (c : ℕ) × RefNext τ l (act_sum p) (data_sum p) F ta c s
InService false τ l p x F s = (ta : ℕ → ℕ) × (j : ℕ) × (r : ℕ) × Serving τ l (act_sum p) (data_sum p) x F ta j r s

-- after the transactions p the rest are left, of which the first is in service; its count may start at F
abbrev pub Stands : Table → List Transaction → List Transaction → List Transaction → ℕ → State → Type 0
Stands τ l p [] F s = (ta : ℕ → ℕ) × (c : ℕ) × Base τ l (act_sum p) ta c s × (s.datas ≡ data_sum p)
Stands τ l p (x ∷ rest) F s = InService (is_refresh x) τ l p x (start_at x F) s

pub record Progress (τ : Table) (l : List Transaction) (s : State) (h : List Command) : Type 0 where
  pub done : List Transaction
  pub rest : List Transaction
  pub split : l ≡ done ++ rest
  pub last : ℕ → ℕ
  pub start : ℕ → ℕ
  pub finishes : Finishes τ l (length done) last start h
  pub stands : Stands τ l done rest (start (length done)) s
  pub caps : Capped l s

-- the next transaction, or the end
go_on_lem : (τ : Table) (rng : Ranges τ) (l p rest : List Transaction) (v : AllFit τ l) → l ≡ p ++ rest → (c F : ℕ) (ta : ℕ → ℕ) (s : State)
    → Between τ l (act_sum p) (data_sum p) c F ta s → Stands τ l p rest F s
go_on_lem τ rng l p [] v e c F ta s q = (ta, c, q.base, q.cnt)
go_on_lem τ rng l p (x ∷ rest) v e c F ta s q = on (is_refresh x) refl
  where
    q' : Between τ l (act_sum p) (data_sum p) c (start_at x F) ta s
    q' = between_later τ l (act_sum p) (data_sum p) c F (start_at x F) ta s (start_ge x F) q

    on : (z : Bool) → is_refresh x ≡ z → InService z τ l p x (start_at x F) s
    on true er =
        let w = refresh_of τ x (fit_mid τ p x rest (rw e at v)) er in
        (ta, c, enter_ref τ rng l (act_sum p) (data_sum p) (start_at x F) (rw e (not_act τ rng p x rest w)) c ta s q')
    on false er = (ta, 0, 0, enter τ rng l (act_sum p) (data_sum p) x (spot τ l p x rest v e er) c (start_at x F) ta s (start_arrival x F) q')

pub progress_fresh : (τ : Table) (rng : Ranges τ) (l : List Transaction) → AllFit τ l → Progress τ l (fresh τ) []
progress_fresh τ rng l v =
    record {
      done = [];
      rest = l;
      split = refl;
      last = λ i. 0;
      start = λ i. 0;
      finishes = record { zeroth = refl; next = λ k h. absurd (omega arith); got = λ k h. absurd (omega arith); near = λ k h. absurd (omega arith) };
      stands = go_on_lem τ rng l [] l v refl 0 0 (λ i. 0) (fresh τ)
          (record {
            base = base_fresh τ l rng;
            cnt = refl;
            old = λ i h a. absurd (omega arith);
            cf = omega arith;
            lo = omega arith;
            hi = omega arith;
            refresh_f = tt;
            refresh_now = inr tt;
          });
      caps = (omega arith, omega arith);
    }

module _ (τ : Table) (rng : Ranges τ) (l : List Transaction) (v : AllFit τ l) where
  module _ (s : State) (h : List Command) (q : Progress τ l s h) where
    abbrev K : ℕ
    K = length q.done

    abbrev F : ℕ
    F = q.start K

    -- what the step is shown to keep, of the command o
    abbrev After : Option Command → Type 0
    After o = Progress τ l (after τ s o) (push o h)

    -- the same transaction goes on
    still : (rest : List Transaction) → l ≡ q.done ++ rest → (o : Option Command) → OnSome (OfNumber K) o → Capped l (after τ s o)
        → Stands τ l q.done rest F (after τ s o) → After o
    still rest e o u k w =
        record {
          done = q.done;
          rest = rest;
          split = e;
          last = q.last;
          start = q.start;
          finishes = finishes_kept τ l K q.last q.start h q.finishes o u;
          stands = w;
          caps = k;
        }

    -- it is done
    module _ (x : Transaction) (rest : List Transaction) (e : l ≡ q.done ++ x ∷ rest) where
      here : nth l K ≡ x
      here = ap (λ (y : List Transaction). nth y K) e ∙ get_or-append_seam q.done x rest no_transaction

      len : length (q.done ++ x ∷ []) ≡ K + 1
      len = length-append q.done (x ∷ [])

      sums : (f : Transaction → ℕ) → sum f q.done + f x ≡ sum f (q.done ++ x ∷ [])
      sums f = sym (sum_append f q.done (x ∷ []) ∙ omega arith)

      finished : (c : Command) → LastOf K s.cycle c → s.cycle ≤ start_at x F + span τ x → Capped l (after τ s (some c)) → (ta : ℕ → ℕ)
          → Between τ l (act_sum q.done + act_count x) (data_sum q.done + data_count x) s.cycle (count_from τ x s.cycle) ta (after τ s (some c))
          → After (some c)
      finished c u b k ta en =
          record {
            done = q.done ++ x ∷ [];
            rest = rest;
            split = split';
            last = ext q.last K s.cycle;
            start = start';
            finishes = subst (λ (n : ℕ). Finishes τ l n (ext q.last K s.cycle) start' (c ∷ h)) (sym len)
                (subst (λ (y : Transaction). Finishes τ l (K + 1) (ext q.last K s.cycle) (ext q.start (K + 1) (count_from τ y s.cycle)) (c ∷ h)) here
                (finishes_more τ l K q.last q.start h q.finishes s.cycle c u (rw here b)));
            stands = subst (λ (f : ℕ). Stands τ l (q.done ++ x ∷ []) rest f (after τ s (some c)))
                (sym (ext_eq q.start (K + 1) (count_from τ x s.cycle) (length (q.done ++ x ∷ [])) len))
                (go_on_lem τ rng l (q.done ++ x ∷ []) rest v split' s.cycle (count_from τ x s.cycle) ta (after τ s (some c))
                (rw (← sums act_count, ← sums data_count) en));
            caps = k;
          }
        where
          split' : l ≡ (q.done ++ x ∷ []) ++ rest
          split' = e ∙ sym (append_assoc q.done (x ∷ []) rest)

          start' : ℕ → ℕ
          start' = ext q.start (K + 1) (count_from τ x s.cycle)

    pub progress_step : After (goes τ l s)
    unfolding Next NextRef spot
    progress_step = on q.rest q.split q.stands
      where
        caps' : Capped l (after τ s (goes τ l s))
        caps' = caps_step τ l s q.caps

        on : (rest : List Transaction) → l ≡ q.done ++ rest → Stands τ l q.done rest F s → After (goes τ l s)
        on [] e w =
            subst After (sym idle_now)
            (still [] e none tt q.caps (w.0, w.1, base_idle τ l (act_sum q.done) w.0 w.1 s w.2, w.3))
          where
            idle_now : goes τ l s ≡ none
            idle_now =
                none_left τ l s (omega (arith, ap data_sum e, sum_append data_count q.done [], w.3))
                (omega (arith, ap act_sum e, sum_append act_count q.done [], w.2.le))
        on (x ∷ rest) e w = by (is_refresh x) refl w
          where
            F' : ℕ
            F' = start_at x F

            -- the transaction ends with the command that goes
            ends : (o : Option Command) → goes τ l s ≡ o → s.cycle ≤ F' + span τ x → ((c : Command) × (o ≡ some c) × LastOf K s.cycle c)
                → ((ta : ℕ → ℕ) × Between τ l (act_sum q.done + act_count x) (data_sum q.done + data_count x) s.cycle (count_from τ x s.cycle) ta (after τ s o)) → After o
            ends o p b y z =
                subst After (sym y.1)
                (finished x rest e y.0 y.2 b (subst (λ (o : Option Command). Capped l (after τ s o)) (p ∙ y.1) caps') z.0
                (subst (λ (o : Option Command). Between τ l (act_sum q.done + act_count x) (data_sum q.done + data_count x) s.cycle (count_from τ x s.cycle) z.0 (after τ s o))
                y.1 z.1))

            by : (z : Bool) → is_refresh x ≡ z → InService z τ l q.done x F' s → After (goes τ l s)
            by true er w = in_ref (subst (λ (m : List Transaction). NextRef τ m (act_sum q.done) (data_sum q.done) x F' K s (goes τ m s)) (sym e)
                (refresh_step τ rng q.done x rest (refresh_of τ x (fit_mid τ q.done x rest (rw e at v)) er) F' w.0 w.1 s
                (subst (λ (m : List Transaction). RefNext τ m (act_sum q.done) (data_sum q.done) F' w.0 w.1 s) e w.2) (start_arrival x F)))
              where
                in_ref : NextRef τ l (act_sum q.done) (data_sum q.done) x F' K s (goes τ l s) → After (goes τ l s)
                in_ref (inl y) =
                    still (x ∷ rest) e (goes τ l s) y.0 caps'
                    (subst (λ (z : Bool). InService z τ l q.done x F' (after τ s (goes τ l s))) (sym er) y.1)
                in_ref (inr y) = ends (goes τ l s) refl y.0 y.1 y.2
            by false er w =
                in_phase (phase_step τ rng l v (act_sum q.done) (data_sum q.done) x (spot τ l q.done x rest v e er) F' w.0 w.1 w.2 s w.3)
              where
                in_phase : Next τ l (act_sum q.done) (data_sum q.done) x F' K s (goes τ l s) → After (goes τ l s)
                in_phase (inl y) =
                    still (x ∷ rest) e (goes τ l s) y.0 caps'
                    (subst (λ (z : Bool). InService z τ l q.done x F' (after τ s (goes τ l s))) (sym er) y.1)
                in_phase (inr y) = ends (goes τ l s) refl y.0 y.1 (y.2.0, rw er y.2.1)

  pub steps_progress : (n : ℕ) (s : State) (h : List Command) → Progress τ l s h → Progress τ l (steps n τ l s h).0 (steps n τ l s h).1
  steps_progress zero s h q = q
  steps_progress (suc n) s h q = steps_progress n (after τ s (goes τ l s)) (push (goes τ l s) h) (progress_step s h q)
