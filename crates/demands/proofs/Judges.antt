-- Demand 2: what is built is the schedule of the cycle rule, and the judges accept exactly the legal and name the first that is broken.
-- Assumes nothing.
use Rattle.std.specs.Prelude.{Result, Ok, Err}
use Rattle.records.specs.declared.refusal.Refusal.{Refusal}
use Rattle.rules.specs.declared.verdict.PatternVerdict.{PatternVerdict}
use Prim.Native.Nat.{ℕ, ◌+◌, ◌*◌}
use mathlib.Core.Bool.{Bool, true}
use mathlib.Core.Path.{◌≡◌, refl, sym, ap, ◌∙◌, subst}
use mathlib.Core.Logic.{◌↔◌}
use mathlib.Core.List.{List, [], ◌∷◌}
use native.Mathlib.Omega.{arith}
use lib.Dec.{ltb}
use lib.ListN.{length, take}
use borrow.Author.Tests.{le-ltb}
use Rattle.records.specs.declared.table.Table.{Table}
use Rattle.records.specs.declared.transaction.Transaction.{Transaction}
use Rattle.records.specs.Tests.{pick}
use Rattle.records.specs.Told.{refusal}
use Rattle.records.specs.Command.{commands_in}
use Rattle.records.proofs.Laws.{answers, answered}
use Rattle.records.proofs.Written.{bytes_stand}
use Rattle.rules.specs.declared.verdict.Rule.{Rule}
use Rattle.rules.specs.declared.verdict.Verdict.{Verdict as Says}
use Rattle.rules.specs.declared.verdict.Verdict.TheVariants.{Refused as Broken}
use Rattle.rules.specs.declared.verdict.PatternVerdict.TheVariants.{Accepted as AllPassed, Refused as BrokenAt}
use Rattle.rules.specs.Verdict.{all_shut, judge}
use Rattle.rules.specs.Pattern.{onto, copy, end_to_end, copies, EveryNumberLegal}
use Rattle.rules.specs.Demands.{FineTo}
use Rattle.rules.proofs.shown.Demands.{demand_2 as of-rules}
use Rattle.judge.specs.Answer.{schedule_refusal, pattern_refusal, judged}
use Rattle.judge.proofs.Accepts.{pattern_accepts}
use Rattle.builder.specs.Build.{Stands}
use Rattle.promises.specs.Admit.{admitted}
use Rattle.promises.specs.Judging.{judging, PatternTold}
use Rattle.promises.specs.Schedules.{BuildsChecked, Schedules}
use Rattle.promises.specs.Numbers.{Numbers, telling, rule_number, verdict_values, judged_numbers, pattern_numbers}
use Rattle.demands.specs.Demands.{BreaksNumber, Demand2}
use Rattle.demands.proofs.Rows.{by_numbers, within_copy, kind_byte_lem, judged_case, pattern_case, passed_case, all_passed_case}

-- ---- of a schedule that is answered

module _ (τ : Table) (l : List Transaction) (b₀ b f₀ f : List ℕ) (e n : ℕ) where
  checked_stands : (c : Result Unit Refusal) → BuildsChecked c τ l b₀ b f₀ f (Ok (e, n)) → Stands τ l b₀ b f₀ f n
  unfolding BuildsChecked
  checked_stands (Ok _) h = h.2
  checked_stands (Err x) h = let y : ◌≡◌ {A = ℕ} 0 1 = let k = h.0 in cc in absurd (omega arith)

  stands : (check : Table → Result Unit Refusal) → Schedules check (Ok τ) l b₀ b f₀ f (Ok (e, n)) → Stands τ l b₀ b f₀ f n
  unfolding Schedules
  stands check h = checked_stands (check τ) h

-- ---- of a table that is read

module _ (τ : Table) (s : List ℕ) where
  -- where number 7 does not refuse, the verdict is told
  pub told : schedule_refusal (length s) ≡ 0 → judged_numbers (judging (Ok τ) s) ≡ telling τ.edition (verdict_values (judge τ (commands_in s)))
  unfolding judging judged
  told z =
      let x = Err (refusal (schedule_refusal (length s)) 0 τ.edition) in
      sym (ap judged_numbers (answers 0 (schedule_refusal (length s)) (sym z) (Ok (τ.edition, judge τ (commands_in s))) x refl))

  judging_accepts : schedule_refusal (length s) ≡ 0
      → (judged_numbers (judging (Ok τ) s) ≡ telling τ.edition [])
      ↔ (FineTo τ [] (commands_in s) (length (commands_in s)) × (all_shut τ.banks (onto (commands_in s) []) ≡ true))
  judging_accepts z =
      let of = of-rules.accepts τ (commands_in s) in (
        λ e. of.0 (passed_case (judge τ (commands_in s)) (ap (λ (a : Numbers). a.values) (sym (told z) ∙ e))),
        λ h. told z ∙ ap (λ (v : Says). telling τ.edition (verdict_values v)) (of.1 h),
      )

  verdict_is : (e : ℕ) (x : Rule) (i : ℕ) → judging (Ok τ) s ≡ Ok (e, Broken x i) → judge τ (commands_in s) ≡ Broken x i
  unfolding judging judged
  verdict_is e x i h =
      let z = schedule_refusal (length s) in
      let a = answered (λ (j : Result (ℕ × Says) Refusal). j) z (Ok (τ.edition, judge τ (commands_in s))) (Err (refusal z 0 τ.edition)) (Ok (e, Broken x i)) h
      (λ k. let y : ◌≡◌ {A = ℕ} 0 1 = cc in absurd (omega arith)) in
      ap (λ (r : Result (ℕ × Says) Refusal). elim r [ Ok p ↦ p.1 | Err y ↦ Broken x i ]) a.1

  judging_names : (e n i : ℕ) → judged_numbers (judging (Ok τ) s) ≡ telling e (n ∷ i ∷ []) → BreaksNumber τ [] (commands_in s) n i
  judging_names e n i h =
      let w = judged_case (judging (Ok τ) s) e n i h in
      by_numbers τ [] (commands_in s) w.0 n i w.1 (of-rules.names τ (commands_in s) w.0 i (verdict_is e w.0 i w.2))

  pattern_told : (L : ℕ) (r : Result (ℕ × PatternVerdict) Refusal) → pattern_refusal (length s) L ≡ 0 → PatternTold (Ok τ) s L r
      → (pattern_numbers r ≡ telling τ.edition []) ↔ EveryNumberLegal τ L (commands_in s)
  unfolding PatternTold
  pattern_told L r z p = let a = pattern_accepts τ s L r p in (λ e. (a.0 (passed r p e)).1, λ h. ap pattern_numbers (a.1 (z, h)))
    where
      passed : (r : Result (ℕ × PatternVerdict) Refusal) → PatternTold (Ok τ) s L r → pattern_numbers r ≡ telling τ.edition [] → r ≡ Ok (τ.edition, AllPassed)
      passed (Ok (e, v)) p h =
          ap (λ (k : ℕ). Ok (k, v)) p.1 ∙ ap (λ (w : PatternVerdict). Ok (τ.edition, w)) (all_passed_case v (ap (λ (a : Numbers). a.values) h))
      passed (Err x) p h = absurd (p.0 z)

  pattern_lowest : (L : ℕ) (r : Result (ℕ × PatternVerdict) Refusal) (e n c i : ℕ) → PatternTold (Ok τ) s L r → pattern_numbers r ≡ telling e (n ∷ c ∷ i ∷ [])
      → (x : Rule) × (rule_number x ≡ n) × ((m : ℕ) → copies τ L (commands_in s) m ≡ pick (ltb m c) AllPassed (BrokenAt x c i))
  unfolding PatternTold
  pattern_lowest L r e n c i p k =
      let w = pattern_case r e n c i k in
      let q = subst (λ (y : Result (ℕ × PatternVerdict) Refusal). PatternTold (Ok τ) s L y) w.2 p in
      (w.0, w.1, q.2)

  pattern_within : (L : ℕ) (r : Result (ℕ × PatternVerdict) Refusal) (e n c i : ℕ) → PatternTold (Ok τ) s L r → pattern_numbers r ≡ telling e (n ∷ c ∷ i ∷ [])
      → (k : ℕ) × (c ≡ k + 1) × BreaksNumber τ (onto (end_to_end L (commands_in s) k 0) []) (copy L (commands_in s) k) n i
  pattern_within L r e n c i p k =
      let w = pattern_lowest L r e n c i p k in
      let at = w.2 c ∙ ap (λ (b : Bool). pick b AllPassed (BrokenAt w.0 c i)) (le-ltb c c (omega arith)) in
      within_copy τ L (commands_in s) w.0 n c c i w.1 at

-- ---- the demand

pub demand_2 : (expected : ℕ) (table : List ℕ) (τ : Table) → admitted expected table ≡ Ok τ → Demand2 expected table τ
demand_2 expected table τ read =
    record {
      built = λ check l b₀ b f₀ f e n h.
          let k = stands τ l b₀ b f₀ f e n check (subst (λ (a : Result Table Refusal). Schedules check a l b₀ b f₀ f (Ok (e, n))) read h) in
          (k.schedule, k.built, k.count, ap (λ (m : ℕ). take (8 * m) b) k.count ∙ bytes_stand k.schedule b₀ b k.buffer);
      accepts = λ s z.
          subst (λ (a : Result Table Refusal). (judged_numbers (judging a s) ≡ telling τ.edition [])
          ↔ (FineTo τ [] (commands_in s) (length (commands_in s)) × (all_shut τ.banks (onto (commands_in s) []) ≡ true))) (sym read) (judging_accepts τ s z);
      names = λ s e n i h. judging_names τ s e n i (subst (λ (a : Result Table Refusal). judged_numbers (judging a s) ≡ telling e (n ∷ i ∷ [])) read h);
      pattern = λ s L r z p. pattern_told τ s L r z (subst (λ (a : Result Table Refusal). PatternTold a s L r) read p);
      lowest = λ s L r e n c i p. pattern_lowest τ s L r e n c i (subst (λ (a : Result Table Refusal). PatternTold a s L r) read p);
      within = λ s L r e n c i p. pattern_within τ s L r e n c i (subst (λ (a : Result Table Refusal). PatternTold a s L r) read p);
      kind_byte = kind_byte_lem;
    }
