-- Each judge's promise leaves one possible answer, refused or not.
-- Assumes nothing.
use Rattle.std.specs.Prelude.{Result, Ok, Err}
use Rattle.rules.specs.declared.verdict.Verdict.{Verdict}
use Rattle.records.specs.declared.refusal.Refusal.{Refusal}
use Prim.Native.Nat.{ℕ, ◌+◌}
use native.Mathlib.Omega.{arith}
use mathlib.Core.Path.{◌≡◌, refl, sym, ap, ◌∙◌}
use mathlib.Core.Bool.{Bool}
use mathlib.Core.List.{List}
use borrow.Author.Tests.{le-ltb}
use Rattle.records.specs.Tests.{pick}
use Rattle.records.specs.declared.table.Table.{Table}
use Rattle.records.specs.declared.command.Command.{Command}
use Rattle.records.specs.Command.{commands_in}
use Rattle.records.proofs.Unique.{one_answer}
use Rattle.rules.specs.declared.verdict.Rule.{Rule}
use Rattle.rules.specs.declared.verdict.PatternVerdict.{PatternVerdict}
use Rattle.rules.specs.declared.verdict.PatternVerdict.TheVariants.{Accepted, Refused}
use Rattle.rules.specs.Pattern.{EveryNumberLegal, copies}
use Rattle.rules.proofs.patterns.FiveDecide.{five_accepted, five_legal}
use Rattle.judge.specs.Answer.{judged, PatternSays, PatternAnswers}

pub judge_schedule_only : (τ : Table) (s : List ℕ) (x y : Result (ℕ × Verdict) Refusal) → x ≡ judged τ s → y ≡ judged τ s → x ≡ y
judge_schedule_only τ s = one_answer (judged τ s)

module _ (τ : Table) (L : ℕ) (p : List Command) where
  -- from the named copy on
  from_named : (x : Rule) (c i d : ℕ) → PatternSays τ L p (Refused x c i) → copies τ L p (c + d) ≡ Refused x c i
  from_named x c i d f = f (c + d) ∙ ap (λ (b : Bool). pick b Accepted (Refused x c i)) (le-ltb (c + d) c (omega arith))

  not_both : {A : Type 0} (x : Rule) (c i : ℕ) → EveryNumberLegal τ L p → PatternSays τ L p (Refused x c i) → A
  not_both x c i f g =
      let a : copies τ L p (c + 0) ≡ Accepted = five_accepted τ L p ((five_legal τ L p).1 f) (c + 0) in
      let r : copies τ L p (c + 0) ≡ Refused x c i = from_named x c i 0 g in
      let z : ◌≡◌ {A = ℕ} 0 1 = cc in
      absurd (omega arith)

  -- a pattern has one verdict
  says_only : (v w : PatternVerdict) → PatternSays τ L p v → PatternSays τ L p w → v ≡ w
  says_only Accepted Accepted f g = refl
  says_only Accepted (Refused x c i) f g = not_both x c i f g
  says_only (Refused x c i) Accepted f g = not_both x c i g f
  says_only (Refused x c i) (Refused y d j) f g =
      let z : d + c ≡ c + d = omega arith in
      sym (from_named x c i d f) ∙ (ap (copies τ L p) (sym z) ∙ from_named y d j c g)

pub judge_pattern_only : (τ : Table) (s : List ℕ) (L : ℕ) (x y : Result (ℕ × PatternVerdict) Refusal) → PatternAnswers τ s L x → PatternAnswers τ s L y → x ≡ y
judge_pattern_only τ s L (Ok (e, v)) (Ok (f, w)) p q = rw (p.1, q.1, says_only τ L (commands_in s) v w p.2 q.2)
judge_pattern_only τ s L (Ok (e, v)) (Err r) p q = absurd (q.0 p.0)
judge_pattern_only τ s L (Err r) (Ok (e, v)) p q = absurd (p.0 q.0)
judge_pattern_only τ s L (Err r) (Err u) p q = ap Err (p.1 ∙ sym q.1)
