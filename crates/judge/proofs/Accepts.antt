-- The judges accept exactly the legal.
-- Assumes nothing.
use Rattle.std.specs.Prelude.{Result, Ok, Err}
use Rattle.rules.specs.declared.verdict.Verdict.{Verdict}
use Rattle.records.specs.declared.refusal.Refusal.{Refusal}
use Rattle.rules.specs.declared.verdict.PatternVerdict.{PatternVerdict}
use Prim.Native.Nat.{ℕ}
use native.Mathlib.Omega.{arith}
use mathlib.Core.Path.{◌≡◌, refl, sym, ap, ◌∙◌}
use mathlib.Core.Logic.{◌↔◌}
use mathlib.Core.List.{List}
use lib.ListN.{length}
use Rattle.records.specs.declared.table.Table.{Table}
use Rattle.records.specs.Told.{refusal}
use Rattle.records.specs.Command.{commands_in}
use Rattle.records.proofs.Laws.{answers, answered}
use Rattle.rules.specs.declared.verdict.Verdict.TheVariants.{Accepted}
use Rattle.rules.specs.declared.verdict.PatternVerdict.TheVariants.{Accepted as EveryAccepted}
use Rattle.rules.specs.Verdict.{judge, Legal}
use Rattle.rules.specs.Pattern.{EveryNumberLegal}
use Rattle.judge.specs.Answer.{schedule_refusal, pattern_refusal, judged, PatternAnswers}
use Rattle.judge.proofs.Unique.{judge_pattern_only}

module _ (τ : Table) (s : List ℕ) where
  abbrev z : ℕ
  z = schedule_refusal (length s)

  -- the verdict, and the refusal, that it can be
  abbrev said : Result (ℕ × Verdict) Refusal
  said = Ok (τ.edition, judge τ (commands_in s))

  abbrev refused : Result (ℕ × Verdict) Refusal
  refused = Err (refusal z 0 τ.edition)

  pub judge_accepts : (judged τ s ≡ Ok (τ.edition, Accepted)) ↔ ((z ≡ 0) × Legal τ (commands_in s))
  unfolding judged
  judge_accepts = (
    λ e.
        let a : (z ≡ 0) × (said ≡ Ok (τ.edition, Accepted)) =
        answered (λ (x : Result (ℕ × Verdict) Refusal). x) z said refused (Ok (τ.edition, Accepted)) e
        (λ k. let y : ◌≡◌ {A = ℕ} 0 1 = cc in absurd (omega arith)) in
        (a.0, ap (λ (r : Result (ℕ × Verdict) Refusal). elim r [ Ok p ↦ p.1 | Err x ↦ Accepted ]) a.1),
    λ a. sym (answers 0 z (sym a.0) said refused refl) ∙ ap (λ (w : Verdict). Ok (τ.edition, w)) a.1,
  )

-- whatever the judge of patterns answers
pub pattern_accepts : (τ : Table) (s : List ℕ) (L : ℕ) (r : Result (ℕ × PatternVerdict) Refusal) → PatternAnswers τ s L r
    → (r ≡ Ok (τ.edition, EveryAccepted)) ↔ ((pattern_refusal (length s) L ≡ 0) × EveryNumberLegal τ L (commands_in s))
pattern_accepts τ s L r p = (
  λ e. let q : PatternAnswers τ s L (Ok (τ.edition, EveryAccepted)) = rw e at p in (q.0, q.2),
  λ a. judge_pattern_only τ s L r (Ok (τ.edition, EveryAccepted)) p (a.0, refl, a.1),
)
