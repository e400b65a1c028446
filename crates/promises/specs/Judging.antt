-- What the judges answer on a table's bytes.
use Rattle.std.specs.Prelude.{ℕ, ◌≡◌, List, Result, Ok, Err}
use Rattle.records.specs.declared.table.Table.{Table}
use Rattle.records.specs.declared.refusal.Refusal.{Refusal}
use Rattle.rules.specs.declared.verdict.Verdict.{Verdict}
use Rattle.rules.specs.declared.verdict.PatternVerdict.{PatternVerdict}
use Rattle.judge.specs.Answer.{judged, PatternAnswers}

-- numbers 1, 2 and 10; then number 7 and the verdict on the schedule's bytes
unfoldable pub judging : Result Table Refusal → List ℕ → Result (ℕ × Verdict) Refusal
judging (Ok τ) s = judged τ s
judging (Err x) s = Err x

-- numbers 1, 2 and 10; then 7, 8 and the verdict on every number of copies
unfoldable pub PatternTold : Result Table Refusal → List ℕ → ℕ → Result (ℕ × PatternVerdict) Refusal → Type 0
PatternTold (Ok τ) s L r = PatternAnswers τ s L r
PatternTold (Err x) s L r = r ≡ Err x
