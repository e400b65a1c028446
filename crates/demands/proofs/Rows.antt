-- The number of a rule is that of its row, and the number of a kind the byte of its record.
-- Assumes nothing.
use Rattle.std.specs.Prelude.{Result, Ok, Err, Some}
use Rattle.records.specs.declared.refusal.Refusal.{Refusal}
use Prim.Native.Nat.{ℕ, zero, suc, ◌+◌, ◌<◌}
use native.Mathlib.Omega.{arith}
use native.Mathlib.Nat.{zero-add}
use mathlib.Core.Bool.{Bool, true, false}
use mathlib.Core.Path.{◌≡◌, refl, sym, ap, ◌∙◌, subst}
use mathlib.Core.Logic.{inl, inr, ⊎_elim}
use mathlib.Core.Option.{some}
use mathlib.Core.List.{List, [], ◌∷◌, ◌++◌, map}
use lib.ListN.{length, get_elem?, get_or, take}
use Rattle.records.specs.declared.table.Table.{Table}
use Rattle.records.specs.declared.command.Command.{Command}
use Rattle.records.specs.Little.{num, num32}
use Rattle.records.specs.Command.{read_command}
use Rattle.records.proofs.Inverse.{kind_number_lem}
use Rattle.rules.specs.declared.verdict.Rule.{Rule}
use Rattle.rules.specs.declared.verdict.Verdict.{Verdict}
use Rattle.rules.specs.declared.verdict.Verdict.TheVariants.{Accepted as Passed, Refused as Broken}
use Rattle.rules.specs.declared.verdict.PatternVerdict.{PatternVerdict}
use Rattle.rules.specs.declared.verdict.PatternVerdict.TheVariants.{Accepted as AllPassed, Refused as BrokenAt}
use Rattle.rules.specs.Kinds.{first_broken, rules_in_order}
use Rattle.rules.specs.History.{rules, broken}
use Rattle.rules.specs.Verdict.{judge_from}
use Rattle.rules.specs.Pattern.{onto, copy, end_to_end, copies_from, copies}
use Rattle.rules.specs.Demands.{FirstBroken}
use Rattle.rules.proofs.shown.Demands.{names_from}
use Rattle.promises.specs.Numbers.{Numbers, telling, rule_number, command_numbers, verdict_values, judged_numbers, pattern_values, pattern_numbers}
use Rattle.demands.specs.Demands.{FirstFails, BreaksNumber}

first_fails : (ts : List Bool) (l : List Rule) (x : Rule) → first_broken ts l ≡ Some x
    → (k : ℕ) × (get_elem? (map rule_number l) k ≡ some (rule_number x)) × (get_or ts k true ≡ false) × ((m : ℕ) → m < k → get_or ts m true ≡ true)
first_fails [] l x e = let z : ◌≡◌ {A = ℕ} 0 1 = cc in absurd (omega arith)
first_fails (t ∷ ts) [] x e = let z : ◌≡◌ {A = ℕ} 0 1 = cc in absurd (omega arith)
first_fails (false ∷ ts) (y ∷ l) x e = let same : y ≡ x = cc in (0, ap (λ (r : Rule). some (rule_number r)) same, refl, λ m h. absurd (omega arith))
first_fails (true ∷ ts) (y ∷ l) x e = let q = first_fails ts l x e in (suc q.0, q.1, q.2, lower q.0 q.3)
  where
    lower : (k : ℕ) → ((m : ℕ) → m < k → get_or ts m true ≡ true) → (m : ℕ) → m < suc k → get_or (true ∷ ts) m true ≡ true
    lower k f zero h = refl
    lower k f (suc m) h = f m (omega arith)

-- the numbers of `numbers_tested` are those of the rules in their order
row_number : (τ : Table) (r : Command) (h : List Command) (x : Rule) → broken τ r h ≡ Some x → FirstFails (rules τ r h) (rule_number x)
row_number τ r h x e = first_fails (rules τ r h) rules_in_order x e

pub by_numbers : (τ : Table) (h rs : List Command) (x : Rule) (n i : ℕ) → rule_number x ≡ n → FirstBroken τ h rs x i → BreaksNumber τ h rs n i
by_numbers τ h rs x n i e b =
    let g = onto (take i rs) h in (
      b.0,
      ⊎_elim (λ k. inl (k.0, k.1, subst (FirstFails (rules τ k.0 g)) e (row_number τ k.0 g x k.2))) (λ k. inr (sym e ∙ ap rule_number k.0, k.1, k.2)) b.1,
    )

-- ---- a pattern

onto_append : (a b h : List Command) → onto (a ++ b) h ≡ onto b (onto a h)
onto_append [] b h = refl
onto_append (r ∷ a) b h = onto_append a b (r ∷ h)

-- where a verdict on copies names copy c, that copy is refused after those before it
named : (τ : Table) (L : ℕ) (p : List Command) (n k : ℕ) (h : List Command) (x : Rule) (c i : ℕ) → copies_from τ L p n k h ≡ BrokenAt x c i
    → (j : ℕ) × (c ≡ k + j + 1) × (judge_from τ (copy L p (k + j)) 0 (onto (end_to_end L p j k) h) ≡ Broken x i)
named τ L p zero k h x c i e = let z : ◌≡◌ {A = ℕ} 0 1 = cc in absurd (omega arith)
named τ L p (suc n) k h x c i e = on (judge_from τ (copy L p k) 0 h) refl e (named τ L p n (suc k) (onto (copy L p k) h) x c i)
  where
    on : (v : Verdict) → judge_from τ (copy L p k) 0 h ≡ v
        → (elim v [ Passed ↦ copies_from τ L p n (suc k) (onto (copy L p k) h) | Broken y m ↦ BrokenAt y (suc k) m ]) ≡ BrokenAt x c i
        → (copies_from τ L p n (suc k) (onto (copy L p k) h) ≡ BrokenAt x c i
        → (j : ℕ) × (c ≡ suc k + j + 1) × (judge_from τ (copy L p (suc k + j)) 0 (onto (end_to_end L p j (suc k)) (onto (copy L p k) h)) ≡ Broken x i))
        → (j : ℕ) × (c ≡ k + j + 1) × (judge_from τ (copy L p (k + j)) 0 (onto (end_to_end L p j k) h) ≡ Broken x i)
    on Passed q e ih =
        let w = ih e in
        let same : suc k + w.0 ≡ k + suc w.0 = omega arith in (
          suc w.0,
          omega (arith, w.1),
          ap (λ (m : ℕ). judge_from τ (copy L p m) 0 (onto (end_to_end L p (suc w.0) k) h)) (sym same)
              ∙ (ap (judge_from τ (copy L p (suc k + w.0)) 0) (onto_append (copy L p k) (end_to_end L p w.0 (suc k)) h) ∙ w.2),
        )
    on (Broken y m) q e ih =
        let rule : y ≡ x = cc in
        let number : suc k ≡ c = cc in
        let place : m ≡ i = cc in
        let same : k + 0 ≡ k = omega arith in
        (0, omega arith, ap (λ (m : ℕ). judge_from τ (copy L p m) 0 h) same ∙ (q ∙ (ap (λ (y : Rule). Broken y m) rule ∙ ap (Broken x) place)))

pub within_copy : (τ : Table) (L : ℕ) (p : List Command) (x : Rule) (n m c i : ℕ) → rule_number x ≡ n → copies τ L p m ≡ BrokenAt x c i
    → (k : ℕ) × (c ≡ k + 1) × BreaksNumber τ (onto (end_to_end L p k 0) []) (copy L p k) n i
within_copy τ L p x n m c i e h =
    let w = named τ L p m 0 [] x c i h in
    let g = onto (end_to_end L p w.0 0) [] in
    let z = zero-add w.0 in
    let y = names_from τ (copy L p w.0) 0 g x i (ap (λ (j : ℕ). judge_from τ (copy L p j) 0 g) (sym z) ∙ w.2) in
    (w.0, omega (arith, w.1), by_numbers τ g (copy L p w.0) x n i e (subst (FirstBroken τ g (copy L p w.0) x) (omega (arith, y.1)) y.2))

-- ---- kinds, and the case of an answer by its numbers

pub kind_byte_lem : (s : List ℕ) → length s ≡ 8 → command_numbers (read_command s) ≡ telling 0 (num32 s 0 ∷ get_or s 4 0 ∷ get_or s 5 0 ∷ num s 6 ∷ [])
unfolding read_command
kind_byte_lem s e = rw e (ap (λ (k : ℕ). telling 0 (num32 s 0 ∷ k ∷ get_or s 5 0 ∷ num s 6 ∷ [])) (kind_number_lem (get_or s 4 0)))

pub judged_case : (r : Result (ℕ × Verdict) Refusal) (e n i : ℕ) → judged_numbers r ≡ telling e (n ∷ i ∷ []) → (x : Rule) × (rule_number x ≡ n) × (r ≡ Ok (e, Broken x i))
judged_case (Err y) e n i h = let z : ◌≡◌ {A = ℕ} 0 2 = ap (λ (a : Numbers). length a.values) h in absurd (omega arith)
judged_case (Ok (d, v)) e n i h = on v h
  where
    on : (v : Verdict) → judged_numbers (Ok (d, v)) ≡ telling e (n ∷ i ∷ []) → (x : Rule) × (rule_number x ≡ n) × (◌≡◌ {A = Result (ℕ × Verdict) Refusal} (Ok (d, v)) (Ok (e, Broken x i)))
    on Passed h = let z : ◌≡◌ {A = ℕ} 0 2 = ap (λ (a : Numbers). length a.values) h in absurd (omega arith)
    on (Broken x j) h =
        let same : j ≡ i = ap (λ (a : Numbers). get_or a.values 1 0) h in
        let its : d ≡ e = ap (λ (a : Numbers). a.edition) h in
        (x, ap (λ (a : Numbers). get_or a.values 0 0) h, ap (λ (k : ℕ). Ok (k, Broken x j)) its ∙ ap (λ (k : ℕ). Ok (e, Broken x k)) same)

pub pattern_case : (r : Result (ℕ × PatternVerdict) Refusal) (e n c i : ℕ) → pattern_numbers r ≡ telling e (n ∷ c ∷ i ∷ [])
    → (x : Rule) × (rule_number x ≡ n) × (r ≡ Ok (e, BrokenAt x c i))
pattern_case (Err y) e n c i h = let z : ◌≡◌ {A = ℕ} 0 3 = ap (λ (a : Numbers). length a.values) h in absurd (omega arith)
pattern_case (Ok (d, v)) e n c i h = on v h
  where
    on : (v : PatternVerdict) → pattern_numbers (Ok (d, v)) ≡ telling e (n ∷ c ∷ i ∷ [])
        → (x : Rule) × (rule_number x ≡ n) × (◌≡◌ {A = Result (ℕ × PatternVerdict) Refusal} (Ok (d, v)) (Ok (e, BrokenAt x c i)))
    on AllPassed h = let z : ◌≡◌ {A = ℕ} 0 3 = ap (λ (a : Numbers). length a.values) h in absurd (omega arith)
    on (BrokenAt x b j) h =
        let copy : b ≡ c = ap (λ (a : Numbers). get_or a.values 1 0) h in
        let same : j ≡ i = ap (λ (a : Numbers). get_or a.values 2 0) h in
        let its : d ≡ e = ap (λ (a : Numbers). a.edition) h in (
          x,
          ap (λ (a : Numbers). get_or a.values 0 0) h,
          ap (λ (k : ℕ). Ok (k, BrokenAt x b j)) its ∙ ap (λ (k : ℕ). Ok (e, BrokenAt x k j)) copy ∙ ap (λ (k : ℕ). Ok (e, BrokenAt x c k)) same,
        )

pub passed_case : (v : Verdict) → verdict_values v ≡ [] → v ≡ Passed
passed_case Passed h = refl
passed_case (Broken x i) h = let z : ◌≡◌ {A = ℕ} 2 0 = ap length h in absurd (omega arith)

pub all_passed_case : (v : PatternVerdict) → pattern_values v ≡ [] → v ≡ AllPassed
all_passed_case AllPassed h = refl
all_passed_case (BrokenAt x c i) h = let z : ◌≡◌ {A = ℕ} 3 0 = ap length h in absurd (omega arith)
