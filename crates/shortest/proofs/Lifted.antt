-- Lower bounds of a pattern's cycles, lifted: copies are set out at the earliest cycles that the rules let them have, and stay below the pattern's.
-- Assumes nothing.
use Rattle.std.specs.Prelude.{None}
use Rattle.rules.specs.Types.{Found}
use Prim.Native.Nat.{ℕ, suc, ◌+◌, ◌-◌, ◌*◌, ◌≤◌, ◌<◌}
use native.Mathlib.Omega.{arith}
use mathlib.Core.Path.{◌≡◌, refl, sym, ap, ◌∙◌, subst}
use mathlib.Core.Bool.{Bool, true, false}
use mathlib.Core.List.{List, [], ◌∷◌}
use lib.Dec.{eqb, ltb}
use lib.ListN.{length, take, drop, set}
use lib.Seq.{take-suc, split_at, take-length, get_or-set_same, get_or-set_other}
use borrow.Author.Tests.{eqb-true, eqb-false, ltb-true, ltb-false}
use Rattle.records.specs.declared.table.Table.{Table}
use Rattle.records.specs.declared.command.Command.{Command}
use Rattle.records.specs.Command.{command}
use Rattle.rules.specs.declared.state.State.{State}
use Rattle.rules.specs.State.{fresh, note, Held}
use Rattle.rules.specs.History.{broken}
use Rattle.rules.specs.Pattern.{moved, end_to_end, onto, EveryNumberLegal}
use Rattle.rules.proofs.history.Judged.{LegalHistory, legal_older, accepted_legal}
use Rattle.rules.proofs.history.JudgeState.{judging_fresh, judging_broken, judging_note}
use Rattle.rules.proofs.patterns.Moved.{record_later}
use Rattle.rules.proofs.patterns.Copies.{after_copies, moved_append}
use Rattle.rules.proofs.patterns.FiveDecide.{onto_append, end_history}
use Rattle.broken.specs.ByState.{found_by}
use Rattle.shortest.specs.Shortest.{IsPattern}
use Rattle.shortest.specs.Search.{nil, nth, Below, Under, Capped}
use Rattle.shortest.specs.Lifting.{Lower, seen, Scanned, Limit, Lifting}
use Rattle.shortest.proofs.Monotone.{fine_lower}
use Rattle.shortest.proofs.Shape.{pattern_length, pattern_within}

pub seen_next : (L : ℕ) (p : List Command) (k i : ℕ) → i < length p → seen L p k (suc i) ≡ record_later (L * k) (nth p i) ∷ seen L p k i
seen_next L p k i l =
    ap (λ (q : List Command). onto (moved (L * k) q) (after_copies L p k)) (take-suc p i nil l)
    ∙ (ap (λ (q : List Command). onto q (after_copies L p k)) (moved_append (L * k) (take i p) (nth p i ∷ []))
    ∙ onto_append (moved (L * k) (take i p)) (record_later (L * k) (nth p i) ∷ []) (after_copies L p k))

seen_all : (L : ℕ) (p : List Command) (k : ℕ) → seen L p k (length p) ≡ seen L p (suc k) 0
seen_all L p k = ap (λ (q : List Command). onto (moved (L * k) q) (after_copies L p k)) (take-length p)

copies_legal : (τ : Table) (L : ℕ) (p : List Command) → EveryNumberLegal τ L p → (n : ℕ) → LegalHistory τ (after_copies L p n)
copies_legal τ L p f n =
    subst (LegalHistory τ) (end_history τ L p n 0 n (omega arith)) (accepted_legal τ (end_to_end L p n 0) 0 [] tt (f n)).0

-- each record of each copy breaks no rule
pub fine_at : (τ : Table) (L : ℕ) (p : List Command) → EveryNumberLegal τ L p → (k i : ℕ) → i < length p
    → broken τ (record_later (L * k) (nth p i)) (seen L p k i) ≡ None
fine_at τ L p f k i l =
    (legal_older τ (moved (L * k) (drop (suc i) p)) (record_later (L * k) (nth p i) ∷ seen L p k i)
    (subst (LegalHistory τ)
    (ap (λ (q : List Command). onto (moved (L * k) q) (after_copies L p k)) (split_at p i nil l)
    ∙ (ap (λ (q : List Command). onto q (after_copies L p k)) (moved_append (L * k) (take i p) (nth p i ∷ drop (suc i) p))
    ∙ onto_append (moved (L * k) (take i p)) (record_later (L * k) (nth p i) ∷ moved (L * k) (drop (suc i) p)) (after_copies L p k)))
    (copies_legal τ L p f (suc k)))
    ).0

module _ (τ : Table) (w : Bool) (bi bc L k : ℕ) (x₀ : List Command) where
  abbrev n : ℕ
  n = bi * suc bc

  abbrev Lifts : ℕ → ℕ → List Command → State → Type 0
  Lifts c i x s = Lifting τ w bi bc L k x₀ c i x s

  pub lift_start : Lifts 0 0 x₀ (fresh τ)
  lift_start = record { history = []; judging = judging_fresh τ; keeps = λ p q u v. (tt, u, v) }

  -- a whole copy is set out
  pub lift_wrap : (c : ℕ) (x : List Command) (s : State) → Lifts c n x s → Lifts (suc c) 0 x s
  lift_wrap c x s f =
      record {
        history = f.history;
        judging = f.judging;
        keeps = λ p q u v.
            let a = f.keeps p q u v in
            (subst (Lower f.history) (ap (seen L p c) (sym (pattern_length q)) ∙ seen_all L p c) a.0, a.1, a.2);
      }

  module _ (fit : Held τ) (c i : ℕ) (x : List Command) (s : State) (f : Lifts c i x s) (l : i < n) where
    abbrev y : Command
    y = nth x i

    -- what it breaks at a cycle
    abbrev finds : ℕ → Found
    finds t = found_by τ s y.kind t y.bank

    module _ (p : List Command) (q : IsPattern τ w bi bc L p) (u : Under n x₀ p) (v : Capped k x₀ p) where
      inside : i < length p
      inside = omega (arith, pattern_length q)

      -- the pattern's own cycle breaks no rule here
      own_fine : finds ((nth p i).cycle + L * c) ≡ None
      unfolding found_by
      own_fine =
          let a = f.keeps p q u v in
          let b = a.1 i l in
          rw (b.0, b.1)
          (sym (judging_broken τ fit f.history s f.judging (record_later (L * c) (nth p i)))
          ∙ fine_lower τ (record_later (L * c) (nth p i)) f.history (seen L p c i) a.0 (fine_at τ L p q.accepted c i inside))

      module _ (lim r : ℕ) (z : Scanned finds (y.cycle + L * c) lim r) where
        -- so what is scanned is no later
        no_later : r ≤ (nth p i).cycle + L * c
        no_later = on (ltb ((nth p i).cycle + L * c) r) refl
          where
            on : (e : Bool) → ltb ((nth p i).cycle + L * c) r ≡ e → r ≤ (nth p i).cycle + L * c
            on true e = absurd (z.before ((nth p i).cycle + L * c) (omega (arith, ((f.keeps p q u v).1 i l).2)) (ltb-true ((nth p i).cycle + L * c) r e) own_fine)
            on false e = ltb-false ((nth p i).cycle + L * c) r e

        -- it is below every limit
        pub no_hope : lim < r → Limit (ltb i k) (y.cycle + L * c) L (L * c) lim → ⊥
        no_hope o h = on (ltb i k) refl
          where
            on : (e : Bool) → ltb i k ≡ e → ⊥
            on true e =
                let m : i < k = ltb-true i k e in
                omega (arith, no_later, h.capped e, (f.keeps p q u v).2 i m)
            on false e = omega (arith, no_later, h.free e, pattern_within q i inside)

    -- the record after the scan
    abbrev pub raised : ℕ → Command
    raised r = command (r - L * c) y.kind y.bank y.number

    pub lift_next : (lim r : ℕ) → Scanned finds (y.cycle + L * c) lim r → r ≤ lim → i < length x
        → Lifts c (suc i) (set x i (raised r)) (note τ s r y.kind y.bank)
    unfolding found_by
    lift_next lim r z o m =
        record {
          history = at ∷ f.history;
          judging = judging_note τ fit f.history s f.judging at (judging_broken τ fit f.history s f.judging at ∙ z.fine o);
          keeps = λ p q u v.
              let a = f.keeps p q u v in
              let b = a.1 i l in (
                subst (Lower (at ∷ f.history)) (sym (seen_next L p c i (inside p q u v))) ((b.0, b.1, no_later p q u v lim r z), a.0),
                (λ j lj. under p q u v j lj (eqb j i) refl),
                (λ j lj. capped p q u v j lj (eqb j i) refl),
              );
        }
      where
        at : Command
        at = command r y.kind y.bank y.number

        under : (p : List Command) → IsPattern τ w bi bc L p → Under n x₀ p → Capped k x₀ p → (j : ℕ) → j < n → (e : Bool) → eqb j i ≡ e
            → Below (nth (set x i (raised r)) j) (nth p j)
        under p q u v j lj true e =
            subst (λ (j : ℕ). Below (nth (set x i (raised r)) j) (nth p j)) (sym (eqb-true j i e))
            (subst (λ (g : Command). Below g (nth p i)) (sym (get_or-set_same x i (raised r) nil m))
            (((f.keeps p q u v).1 i l).0, ((f.keeps p q u v).1 i l).1, omega (arith, no_later p q u v lim r z, z.low)))
        under p q u v j lj false e =
            subst (λ (g : Command). Below g (nth p j)) (sym (get_or-set_other x i j (raised r) nil (eqb-false j i e))) ((f.keeps p q u v).1 j lj)

        capped : (p : List Command) → IsPattern τ w bi bc L p → Under n x₀ p → Capped k x₀ p → (j : ℕ) → j < k → (e : Bool) → eqb j i ≡ e
            → (nth p j).cycle ≤ (nth (set x i (raised r)) j).cycle
        capped p q u v j lj true e =
            subst (λ (j : ℕ). (nth p j).cycle ≤ (nth (set x i (raised r)) j).cycle) (sym (eqb-true j i e))
            (subst (λ (g : Command). (nth p i).cycle ≤ g.cycle) (sym (get_or-set_same x i (raised r) nil m))
            (omega (arith, z.low, (f.keeps p q u v).2 i (omega (arith, eqb-true j i e)))))
        capped p q u v j lj false e =
            subst (λ (g : Command). (nth p j).cycle ≤ g.cycle) (sym (get_or-set_other x i j (raised r) nil (eqb-false j i e))) ((f.keeps p q u v).2 j lj)
