-- Five copies decide every number of copies: five are accepted exactly when every number of copies, set end to end, is a legal schedule.
-- Assumes nothing.
use Prim.Native.Nat.{ℕ, zero, suc, ◌+◌, ◌≤◌, ◌<◌}
use native.Mathlib.Omega.{arith}
use mathlib.Core.Path.{◌≡◌, refl, sym, ap, ◌∙◌, subst}
use mathlib.Core.Logic.{◌↔◌}
use mathlib.Core.Bool.{Bool, true, false}
use mathlib.Core.List.{List, [], ◌∷◌, ◌++◌}
use lib.Dec.{ltb, eqb}
use borrow.Author.Tests.{lt-ltb, le-ltb, eqb-true, eqb-false}
use Rattle.records.specs.Tests.{pick}
use Rattle.records.specs.declared.table.Table.{Table}
use Rattle.records.specs.declared.command.Command.{Command}
use Rattle.rules.specs.declared.verdict.Rule.{Rule}
use Rattle.rules.specs.declared.verdict.Verdict.{Verdict}
use Rattle.rules.specs.declared.verdict.Verdict.TheVariants.{Accepted as Legally, Refused as Not}
use Rattle.rules.specs.declared.verdict.PatternVerdict.{PatternVerdict}
use Rattle.rules.specs.declared.verdict.PatternVerdict.TheVariants.{Accepted, Refused}
use Rattle.rules.specs.Verdict.{all_shut, judge_from, Legal}
use Rattle.rules.specs.Pattern.{copy, end_to_end, EveryNumberLegal, onto, copies_from, copies}
use Rattle.rules.proofs.history.Judged.{LegalHistory, legal_rising, legal_accepted, accepted_legal}
use Rattle.rules.proofs.patterns.Moved.{judge_alike}
use Rattle.rules.proofs.patterns.Copies.{after_copies, moved_copy, alike_next}

pub onto_append : (a b h : List Command) → onto (a ++ b) h ≡ onto b (onto a h)
onto_append [] b h = refl
onto_append (r ∷ a) b h = onto_append a b (r ∷ h)

empty_shut : (n : ℕ) → all_shut n [] ≡ true
empty_shut zero = refl
empty_shut (suc n) = empty_shut n

not_both : {A : Type 0} (x : Rule) (c i : ℕ) → ◌≡◌ {A = PatternVerdict} Accepted (Refused x c i) → A
not_both x c i e = let z : ◌≡◌ {A = ℕ} 0 1 = cc in absurd (omega arith)

module _ (τ : Table) (L : ℕ) (p : List Command) where
  abbrev H : ℕ → List Command
  H k = after_copies L p k

  -- copy k + 1 breaks no rule after k copies, and closes its banks
  CopyLegal : ℕ → Type 0
  CopyLegal k = judge_from τ (copy L p k) 0 (H k) ≡ Legally

  -- so it is of the first n
  FirstLegal : ℕ → Type 0
  FirstLegal n = (k : ℕ) → k < n → CopyLegal k

  one_more_lem : (n : ℕ) → FirstLegal n → CopyLegal n → FirstLegal (suc n)
  unfolding FirstLegal
  one_more_lem n u c k l = on (eqb k n) refl
    where
      on : (b : Bool) → eqb k n ≡ b → CopyLegal k
      on true e = subst CopyLegal (sym (eqb-true k n e)) c
      on false e = u k (omega (arith, eqb-false k n e))

  first_history : (n : ℕ) → FirstLegal n → LegalHistory τ (H n) × (all_shut τ.banks (H n) ≡ true)
  unfolding FirstLegal CopyLegal
  first_history zero u = (tt, empty_shut τ.banks)
  first_history (suc n) u = accepted_legal τ (copy L p n) 0 (H n) (first_history n (λ k l. u k (omega arith))).0 (u n (omega arith))

  -- from the sixth on, a copy is legal because the one before it is
  next : (k : ℕ) → 3 ≤ k → FirstLegal (suc (suc k)) → CopyLegal (suc (suc k))
  unfolding FirstLegal CopyLegal
  next k z u =
      ap (λ (rs : List Command). judge_from τ rs 0 (H (suc (suc k)))) (sym (moved_copy L (suc k) p))
      ∙ (judge_alike τ L (copy L p (suc k)) 0 (H (suc k)) (H (suc (suc k)))
      (alike_next τ L p k z (first_history 1 (λ j l. u j (omega arith))).0 (first_history (suc k) (λ j l. u j (omega arith))).0
      (legal_rising τ (H (suc (suc k))) (first_history (suc (suc k)) u).0))
      ∙ u (suc k) (omega arith))

  from_five : FirstLegal 5 → (n : ℕ) → FirstLegal (suc (suc (suc (suc (suc n)))))
  from_five u zero = u
  from_five u (suc n) = let v = from_five u n in one_more_lem (suc (suc (suc (suc (suc n))))) v (next (suc (suc (suc n))) (omega arith) v)

  -- copies accepted are copies legal; m is k + n
  accepted_first : (n k m : ℕ) → m ≡ k + n → FirstLegal k → copies_from τ L p n k (H k) ≡ Accepted → FirstLegal m
  unfolding FirstLegal CopyLegal
  accepted_first zero k m s u e = λ j l. u j (omega arith)
  accepted_first (suc n) k m s u e = on (judge_from τ (copy L p k) 0 (H k)) refl e (accepted_first n (suc k) m (omega arith))
    where
      on : (v : Verdict) → judge_from τ (copy L p k) 0 (H k) ≡ v
          → (elim v [ Legally ↦ copies_from τ L p n (suc k) (H (suc k)) | Not x i ↦ Refused x (suc k) i ]) ≡ Accepted
          → (FirstLegal (suc k) → copies_from τ L p n (suc k) (H (suc k)) ≡ Accepted → FirstLegal m) → FirstLegal m
      on Legally ev e ih = ih (one_more_lem k u ev) e
      on (Not x i) ev e ih = not_both x (suc k) i (sym e)

  first_accepted : (n k m : ℕ) → m ≡ k + n → FirstLegal m → copies_from τ L p n k (H k) ≡ Accepted
  unfolding FirstLegal CopyLegal
  first_accepted zero k m s u = refl
  first_accepted (suc n) k m s u = rw (u k (omega arith), copies_from) (first_accepted n (suc k) m (omega arith) u)

  -- copies legal are copies that, set end to end, are a legal schedule
  pub end_history : (n k m : ℕ) → m ≡ k + n → onto (end_to_end L p n k) (H k) ≡ H m
  end_history zero k m s = let z : k ≡ m = omega arith in ap H z
  end_history (suc n) k m s = onto_append (copy L p k) (end_to_end L p n (suc k)) (H k) ∙ end_history n (suc k) m (omega arith)

  first_legal : (n : ℕ) → FirstLegal n → Legal τ (end_to_end L p n 0)
  first_legal n u =
      let e : onto (end_to_end L p n 0) [] ≡ H n = end_history n 0 n (omega arith) in
      let q = first_history n u in
      legal_accepted τ (end_to_end L p n 0) 0 [] (rw e q.0) (rw e q.1)

  legal_first : (n : ℕ) → ((m : ℕ) → m ≤ n → Legal τ (end_to_end L p m 0)) → FirstLegal n
  unfolding FirstLegal CopyLegal
  legal_first n f k l =
      let e : onto (end_to_end L p (suc k) 0) [] ≡ H (suc k) = end_history (suc k) 0 (suc k) (omega arith) in
      let q = accepted_legal τ (end_to_end L p (suc k) 0) 0 [] tt (f (suc k) l) in
      legal_accepted τ (copy L p k) 0 (H k) (rw e at q.0) (rw e at q.1)

  -- the verdict on n copies means: every number of copies up to n, set end to end, is a legal schedule
  pub copies_legal : (n : ℕ) → (copies τ L p n ≡ Accepted) ↔ ((m : ℕ) → m ≤ n → Legal τ (end_to_end L p m 0))
  unfolding FirstLegal
  copies_legal n = (
    λ e m l. first_legal m (λ k j. accepted_first n 0 n (omega arith) (λ i z. absurd (omega arith)) e k (omega arith)),
    λ f. first_accepted n 0 n (omega arith) (legal_first n f),
  )

  pub five_accepted : copies τ L p 5 ≡ Accepted → (n : ℕ) → copies τ L p n ≡ Accepted
  unfolding FirstLegal
  five_accepted e n =
      first_accepted n 0 n (omega arith)
      (λ k l. from_five (accepted_first 5 0 5 refl (λ i z. absurd (omega arith)) e) n k (omega arith))

  -- "every number of copies, set end to end, is a legal schedule": five copies decide
  pub five_legal : (copies τ L p 5 ≡ Accepted) ↔ EveryNumberLegal τ L p
  five_legal = (λ e n. (copies_legal n).0 (five_accepted e n) n (omega arith), λ f. (copies_legal 5).1 (λ m l. f m))

  -- the copy that a refusal names
  named : (n k : ℕ) (h : List Command) (x : Rule) (c i : ℕ) → copies_from τ L p n k h ≡ Refused x c i → (k < c) × (c ≤ k + n)
  named zero k h x c i e = not_both x c i e
  named (suc n) k h x c i e = on (judge_from τ (copy L p k) 0 h) e (named n (suc k) (onto (copy L p k) h) x c i)
    where
      on : (v : Verdict) → (elim v [ Legally ↦ copies_from τ L p n (suc k) (onto (copy L p k) h) | Not y j ↦ Refused y (suc k) j ]) ≡ Refused x c i
          → (copies_from τ L p n (suc k) (onto (copy L p k) h) ≡ Refused x c i → (suc k < c) × (c ≤ suc k + n)) → (k < c) × (c ≤ k + suc n)
      on Legally e ih = (omega (arith, (ih e).0), omega (arith, (ih e).1))
      on (Not y j) e ih = let z : suc k ≡ c = cc in (omega arith, omega arith)

  -- it is the lowest: fewer copies are accepted, and as many or more are refused alike
  lowest : (n k : ℕ) (h : List Command) (x : Rule) (c i : ℕ) → copies_from τ L p n k h ≡ Refused x c i
      → (m : ℕ) → copies_from τ L p m k h ≡ pick (ltb (k + m) c) Accepted (Refused x c i)
  lowest zero k h x c i e m = not_both x c i e
  lowest (suc n) k h x c i e zero = rw (lt-ltb (k + 0) c (omega (arith, (named (suc n) k h x c i e).0)))
  lowest (suc n) k h x c i e (suc m) = on (judge_from τ (copy L p k) 0 h) e (λ e. lowest n (suc k) (onto (copy L p k) h) x c i e m)
    where
      on : (v : Verdict) → (elim v [ Legally ↦ copies_from τ L p n (suc k) (onto (copy L p k) h) | Not y j ↦ Refused y (suc k) j ]) ≡ Refused x c i
          → (copies_from τ L p n (suc k) (onto (copy L p k) h) ≡ Refused x c i → copies_from τ L p m (suc k) (onto (copy L p k) h) ≡ pick (ltb (suc k + m) c) Accepted (Refused x c i))
          → (elim v [ Legally ↦ copies_from τ L p m (suc k) (onto (copy L p k) h) | Not y j ↦ Refused y (suc k) j ]) ≡ pick (ltb (k + suc m) c) Accepted (Refused x c i)
      on Legally e ih = let z : suc k + m ≡ k + suc m = omega arith in rw z at (ih e)
      on (Not y j) e ih = let z : suc k ≡ c = cc in rw (le-ltb (k + suc m) c (omega arith)) e

  module _ (n : ℕ) (x : Rule) (c i : ℕ) (e : copies τ L p n ≡ Refused x c i) where
    pub refused_from : (m : ℕ) → c ≤ m → copies τ L p m ≡ Refused x c i
    refused_from m l = lowest n 0 [] x c i e m ∙ rw (le-ltb (0 + m) c (omega arith))

    pub accepted_below : (m : ℕ) → m < c → copies τ L p m ≡ Accepted
    accepted_below m l = lowest n 0 [] x c i e m ∙ rw (lt-ltb (0 + m) c (omega arith))

  -- five copies decide: the verdict on five is the verdict on any number from five on
  pub five_decide : (n : ℕ) → copies τ L p (n + 5) ≡ copies τ L p 5
  five_decide n = on (copies τ L p 5) refl
    where
      on : (v : PatternVerdict) → copies τ L p 5 ≡ v → copies τ L p (n + 5) ≡ v
      on Accepted e = five_accepted e (n + 5)
      on (Refused x c i) e = refused_from 5 x c i e (n + 5) (omega (arith, (named 5 0 [] x c i e).1))
