-- "Yes exactly when ..": the answer is "serves" exactly when the request says yes. Who is named is at fault, and none below. There is one answer.
-- Assumes nothing.
use Prim.Native.Nat.{ℕ, zero, suc, ◌+◌, ◌≤◌, ◌<◌}
use native.Mathlib.Omega.{arith}
use mathlib.Core.Path.{◌≡◌, refl, sym, ap, ◌∙◌, subst}
use mathlib.Core.Logic.{◌↔◌, ◌⊎◌, inl, inr, ⊎_elim}
use mathlib.Core.Bool.{true}
use mathlib.Core.Option.{some}
use mathlib.Core.List.{List, []}
use lib.ListN.{length, take}
use Rattle.records.specs.declared.table.Table.{Table}
use Rattle.records.specs.declared.transaction.Transaction.{Transaction}
use Rattle.records.specs.declared.command.Kind.{Kind}
use Rattle.records.specs.declared.command.Kind.TheVariants.{Ref}
use Rattle.records.specs.declared.command.Command.{Command}
use Rattle.rules.specs.declared.verdict.Rule.{Rule}
use Rattle.rules.specs.declared.verdict.Verdict.{Verdict}
use Rattle.rules.specs.declared.verdict.Verdict.TheVariants.{Accepted, Refused}
use Rattle.rules.specs.Kinds.{is_data}
use Rattle.rules.specs.Pattern.{onto}
use Rattle.rules.specs.Verdict.{judge}
use Rattle.rules.proofs.laws.Numbers.{same?, from?}
use Rattle.serves.specs.declared.answer.Served.{Served}
use Rattle.serves.specs.declared.answer.Served.TheVariants.{Serves, Refused as Judged, AtFault as Names}
use Rattle.serves.specs.Serves.{records_of, due_under, Stands, act_before, AtFault, missing, repeated, not_its_own, other_number, out_of_order, misplaced, DoesTheWork, NoneBelow, Lowest, Says}
use Rattle.serves.proofs.Tests.{same_some}
use Rattle.serves.proofs.Opened.{stands_lawful, opened}

module _ (τ : Table) (l : List Transaction) (rs : List Command) where
  work_says : DoesTheWork τ l rs → Says τ l rs Serves
  work_says w = (w.legal, w.inside, λ x lt f. none_at x lt f)
    where
      none_at : (x : ℕ) → x < length l → AtFault τ l rs x → ⊥
      none_at x lt (missing k b h) = absurd (omega (arith, w.once x lt k b (omega (arith, h)), h))
      none_at x lt (repeated k b d h) = absurd (omega (arith, w.once x lt k b d, h))
      none_at x lt (not_its_own i r p e z) = absurd (omega (arith, subst (λ (y : ℕ). 1 ≤ due_under τ l y r.kind r.bank) e (w.due i r p), z))
      none_at x lt (other_number i y r p e d a f) = f (same_some (act_before rs i r.bank) y r.number a (w.acts i r p d) ∙ e)
      none_at x lt (out_of_order i j v r p p' le e q) = w.order i j v r p p' le q
      none_at x lt (misplaced i j r v p p' e n (inl (le, h, h'))) = absurd (omega (arith, w.ref_before i j r v p e p' h, le))
      none_at x lt (misplaced i j r v p p' e n (inr (le, h))) = absurd (omega (arith, w.ref_after i j r v p e p' h, le))

  says_work : Says τ l rs Serves → DoesTheWork τ l rs
  says_work s =
      record {
        legal = s.0;
        inside = s.1;
        due = λ i r p. is_due i r p (from? (due_under τ l r.number r.kind r.bank) 1);
        once = λ x lt k b d. as_often x lt k b d (from? (records_of k b x rs) (due_under τ l x k b)) (from? (due_under τ l x k b) (records_of k b x rs));
        order = λ i j w r p q le k. s.2 r.number (s.1 j r q) (out_of_order i j w r p q le refl k);
        acts = own_act;
        ref_after = λ i j r w p e q h. after i j r w p e q h (from? j i);
        ref_before = λ i j r w p e q h. before i j r w p e q h (from? i j);
      }
    where
      is_due : (i : ℕ) (r : Command) → Stands rs i r
          → (due_under τ l r.number r.kind r.bank < 1) ⊎ ((d : ℕ) × (due_under τ l r.number r.kind r.bank ≡ 1 + d))
          → 1 ≤ due_under τ l r.number r.kind r.bank
      is_due i r p (inl z) = absurd (s.2 r.number (s.1 i r p) (not_its_own i r p refl (omega (arith, z))))
      is_due i r p (inr z) = omega (arith, z.1)

      as_often : (x : ℕ) → x < length l → (k : Kind) (b : ℕ) → 1 ≤ due_under τ l x k b
          → (records_of k b x rs < due_under τ l x k b) ⊎ ((d : ℕ) × (records_of k b x rs ≡ due_under τ l x k b + d))
          → (due_under τ l x k b < records_of k b x rs) ⊎ ((d : ℕ) × (due_under τ l x k b ≡ records_of k b x rs + d))
          → records_of k b x rs ≡ due_under τ l x k b
      as_often x lt k b d (inl z) y = absurd (s.2 x lt (missing k b z))
      as_often x lt k b d (inr z) (inl y) = absurd (s.2 x lt (repeated k b d y))
      as_often x lt k b d (inr z) (inr y) = omega (arith, z.1, y.1)

      -- there is an ACT before it, and it carries no other number
      own_act : (i : ℕ) (r : Command) → Stands rs i r → is_data r.kind ≡ true → act_before rs i r.bank ≡ some r.number
      own_act i r p d =
          let o = opened τ r (onto (take i rs) []) (stands_lawful τ rs s.0 i r p) d in
          ⊎_elim (λ e. o.1 ∙ ap (λ (y : ℕ). some y) e) (λ f. absurd (s.2 r.number (s.1 i r p) (other_number i o.0 r p refl d o.1 f)))
          (same? o.0 r.number)

      -- two records at one place are one
      one_record : (i j : ℕ) (r w : Command) → Stands rs i r → Stands rs j w → j ≡ i → r.number ≡ w.number
      one_record i j r w p q e = ap (λ (y : Command). y.number) (same_some {A = Command} _ r w p (subst (λ (y : ℕ). Stands rs y w) e q))

      after : (i j : ℕ) (r w : Command) → Stands rs i r → r.kind ≡ Ref → Stands rs j w → w.number < r.number → (j < i) ⊎ ((d : ℕ) × (j ≡ i + d)) → j < i
      after i j r w p e q h (inl z) = z
      after i j r w p e q h (inr (zero, z)) = absurd (omega (arith, h, one_record i j r w p q (omega (arith, z))))
      after i j r w p e q h (inr (suc d, z)) = absurd (s.2 r.number (s.1 i r p) (misplaced i j r w p q e refl (inr (omega (arith, z), h))))

      before : (i j : ℕ) (r w : Command) → Stands rs i r → r.kind ≡ Ref → Stands rs j w → r.number < w.number → (i < j) ⊎ ((d : ℕ) × (i ≡ j + d)) → i < j
      before i j r w p e q h (inl z) = z
      before i j r w p e q h (inr (zero, z)) = absurd (omega (arith, h, one_record i j r w p q (omega (arith, z))))
      before i j r w p e q h (inr (suc d, z)) = absurd (s.2 r.number (s.1 i r p) (misplaced i j r w p q e refl (inl (omega (arith, z), h, s.1 j w q))))

  pub serves_exactly : DoesTheWork τ l rs ↔ Says τ l rs Serves
  serves_exactly = (work_says, says_work)

  -- who is named is at fault, and none below
  pub named : (x : ℕ) → Says τ l rs (Names x) → x < length l → AtFault τ l rs x × NoneBelow τ l rs x
  named x (k, inl w) lt = (w.1, w.2)
  named x (k, inr w) lt = absurd (omega (arith, w.0, lt))

  -- ---- one answer

  none_lowest : (x : ℕ) → NoneBelow τ l rs (length l) → Lowest τ l rs x → ⊥
  none_lowest x f w = f x w.0 w.1

  same_lowest : (x y : ℕ) → Lowest τ l rs x → Lowest τ l rs y → x ≡ y
  same_lowest x y a b = on (from? x y) (from? y x)
    where
      on : (x < y) ⊎ ((d : ℕ) × (x ≡ y + d)) → (y < x) ⊎ ((d : ℕ) × (y ≡ x + d)) → x ≡ y
      on (inl z) q = absurd (b.2 x z a.1)
      on (inr z) (inl q) = absurd (a.2 y q b.1)
      on (inr z) (inr q) = omega (arith, z.1, q.1)

  not_both : {A : Type 0} (x : Rule) (i : ℕ) → judge τ rs ≡ Accepted → judge τ rs ≡ Refused x i → A
  not_both x i p q = let z : ◌≡◌ {A = ℕ} 0 1 = cc in absurd (omega arith)

  pub one_answer : (a b : Served) → Says τ l rs a → Says τ l rs b → a ≡ b
  one_answer Serves Serves p q = refl
  one_answer Serves (Judged x i) p q = not_both x i p.0 q
  one_answer Serves (Names x) p (q, inl w) = absurd (none_lowest x p.2 w)
  one_answer Serves (Names x) p (q, inr (e, f, (i, r, s, h))) = absurd (omega (arith, p.1 i r s, h))
  one_answer (Judged x i) Serves p q = not_both x i q.0 p
  one_answer (Judged x i) (Judged y j) p q = ap answer_of (sym p ∙ q)
    where
      answer_of : Verdict → Served
      answer_of Accepted = Serves
      answer_of (Refused z k) = Judged z k
  one_answer (Judged x i) (Names y) p q = not_both x i q.0 p
  one_answer (Names x) Serves (p, inl w) q = absurd (none_lowest x q.2 w)
  one_answer (Names x) Serves (p, inr (e, f, (i, r, s, h))) q = absurd (omega (arith, q.1 i r s, h))
  one_answer (Names x) (Judged y j) p q = not_both y j p.0 q
  one_answer (Names x) (Names y) (p, inl w) (q, inl v) = ap (λ (z : ℕ). Names z) (same_lowest x y w v)
  one_answer (Names x) (Names y) (p, inl w) (q, inr v) = absurd (none_lowest x v.1 w)
  one_answer (Names x) (Names y) (p, inr w) (q, inl v) = absurd (none_lowest y w.1 v)
  one_answer (Names x) (Names y) (p, inr w) (q, inr v) = ap (λ (z : ℕ). Names z) (w.0 ∙ sym v.0)
