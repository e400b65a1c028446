-- Each call's definition, by what `admit` answered: a, of the expected edition w and the table's bytes s.
-- Assumes nothing.
use Rattle.std.specs.Prelude.{Result, Ok, Err}
use Rattle.rules.specs.declared.verdict.Verdict.{Verdict}
use Rattle.rules.specs.declared.verdict.PatternVerdict.{PatternVerdict}
use Prim.Native.Nat.{ℕ}
use mathlib.Core.Path.{◌≡◌, refl}
use mathlib.Core.List.{List}
use lib.ListN.{replicate}
use Rattle.records.specs.declared.table.Table.{Table}
use Rattle.records.specs.declared.refusal.Refusal.{Refusal}
use Rattle.records.specs.Table.{table_of}
use Rattle.judge.specs.Answer.{judged, PatternAnswers}
use Rattle.capture.specs.Answer.{captured, LeavesCapture}
use Rattle.shortest.specs.Answer.{LeavesShortest}
use Rattle.builder.specs.Bound.{bound_told}
use Rattle.controller.specs.declared.controller.Controller.{Controller}
use Rattle.controller.specs.Controller.{fresh_controller}
use Rattle.promises.specs.Admit.{admitted}
use Rattle.promises.specs.Judging.{judging, PatternTold}
use Rattle.promises.specs.Tracing.{capturing}
use Rattle.promises.specs.Patterns.{ShortestTold}
use Rattle.promises.specs.Bounds.{bounding}
use Rattle.promises.specs.Running.{starting}
use Rattle.admission.proofs.Laws.{by_admitted}

module _ (w : ℕ) (s : List ℕ) (a : Result Table Refusal) (e : a ≡ admitted w s) where
  module _ (τ : Table) (t : a ≡ Ok τ) where
    pub judge_read : (b : List ℕ) (r : Result (ℕ × Verdict) Refusal) → r ≡ judged τ b → r ≡ judging (admitted w s) b
    unfolding judging
    judge_read b r h = by_admitted (λ (z : Result Table Refusal). r ≡ judging z b) w s a (Ok τ) e t h

    pub pattern_read : (b : List ℕ) (L : ℕ) (r : Result (ℕ × PatternVerdict) Refusal) → PatternAnswers τ b L r → PatternTold (admitted w s) b L r
    unfolding PatternTold
    pattern_read b L r h = by_admitted (λ (z : Result Table Refusal). PatternTold z b L r) w s a (Ok τ) e t h

    pub capture_read_lem : (c b₀ b : List ℕ) (r : Result (ℕ × ℕ × Verdict) Refusal) → LeavesCapture (captured τ c b₀) r b → LeavesCapture (capturing (admitted w s) c b₀) r b
    unfolding capturing
    capture_read_lem c b₀ b r h = by_admitted (λ (z : Result Table Refusal). LeavesCapture (capturing z c b₀) r b) w s a (Ok τ) e t h

    pub shortest_read : (type bi bc most : ℕ) (b₀ b : List ℕ) (r : Result (ℕ × ℕ × ℕ) Refusal) → LeavesShortest τ type bi bc most b₀ b r
        → ShortestTold (admitted w s) type bi bc most b₀ b r
    unfolding ShortestTold
    shortest_read type bi bc most b₀ b r h = by_admitted (λ (z : Result Table Refusal). ShortestTold z type bi bc most b₀ b r) w s a (Ok τ) e t h

    pub bound_read : (bi bc : ℕ) (r : Result (ℕ × ℕ) Refusal) → r ≡ bound_told τ bi bc → r ≡ bounding (admitted w s) bi bc
    unfolding bounding
    bound_read bi bc r h = by_admitted (λ (z : Result Table Refusal). r ≡ bounding z bi bc) w s a (Ok τ) e t h

    pub start_read : (c : Controller) → c ≡ fresh_controller τ → record { controller = c; answer = Ok τ.edition } ≡ starting (admitted w s)
    unfolding starting
    start_read c h = by_admitted (λ (z : Result Table Refusal). record { controller = c; answer = Ok τ.edition } ≡ starting z) w s a (Ok τ) e t (rw h refl)

  module _ (x : Refusal) (t : a ≡ Err x) where
    pub judge_refused : (b : List ℕ) → Err x ≡ judging (admitted w s) b
    unfolding judging
    judge_refused b = by_admitted (λ (z : Result Table Refusal). Err x ≡ judging z b) w s a (Err x) e t refl

    pub pattern_refused : (b : List ℕ) (L : ℕ) → PatternTold (admitted w s) b L (Err x)
    unfolding PatternTold
    pattern_refused b L = by_admitted (λ (z : Result Table Refusal). PatternTold z b L (Err x)) w s a (Err x) e t refl

    pub capture_refused : (c b : List ℕ) → LeavesCapture (capturing (admitted w s) c b) (Err x) b
    unfolding capturing
    capture_refused c b = by_admitted (λ (z : Result Table Refusal). LeavesCapture (capturing z c b) (Err x) b) w s a (Err x) e t (refl, refl)

    pub shortest_refused : (type bi bc most : ℕ) (b : List ℕ) → ShortestTold (admitted w s) type bi bc most b b (Err x)
    unfolding ShortestTold
    shortest_refused type bi bc most b = by_admitted (λ (z : Result Table Refusal). ShortestTold z type bi bc most b b (Err x)) w s a (Err x) e t (refl, refl)

    pub bound_refused : (bi bc : ℕ) → Err x ≡ bounding (admitted w s) bi bc
    unfolding bounding
    bound_refused bi bc = by_admitted (λ (z : Result Table Refusal). Err x ≡ bounding z bi bc) w s a (Err x) e t refl

    pub start_refused : (c : Controller) (n : Table) → n ≡ table_of (replicate 16 0) → c ≡ fresh_controller n → record { controller = c; answer = Err x } ≡ starting (admitted w s)
    unfolding starting
    start_refused c n k h = by_admitted (λ (z : Result Table Refusal). record { controller = c; answer = Err x } ≡ starting z) w s a (Err x) e t (rw (h, k) refl)
