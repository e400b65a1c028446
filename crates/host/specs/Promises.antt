-- What the calls promise, where it is more than that the answer is a definition's: of the desk's promise, with the answer as plain numbers.
use Rattle.std.specs.Prelude.{ℕ, ◌≡◌, List, Result}
use Rattle.records.specs.declared.refusal.Refusal.{Refusal}
use Rattle.rules.specs.declared.verdict.PatternVerdict.{PatternVerdict}
use Rattle.serves.specs.declared.answer.Served.{Served}
use Rattle.records.specs.declared.table.Table.{Table}
use Rattle.records.specs.declared.transaction.Transaction.{Transaction}
use Rattle.records.specs.Told.{Wrote}
use Rattle.capture.specs.Answer.{Captured}
use Rattle.lists.specs.Decode.{Decoding}
use Rattle.controller.specs.declared.controller.Controller.{Controller}
use Rattle.controller.specs.Run.{RunLeft}
use Rattle.promises.specs.Judging.{PatternTold}
use Rattle.promises.specs.Patterns.{ShortestTold}
use Rattle.promises.specs.Schedules.{Schedules}
use Rattle.promises.specs.Serving.{Serving}
use Rattle.answers.specs.declared.answer.Answer.{Answer}
use Rattle.answers.specs.declared.answer.RunAnswer.{RunAnswer}
use Rattle.verdict_answers.specs.declared.verdict.VerdictAnswer.{VerdictAnswer}
use Rattle.verdict_answers.specs.declared.verdict.CaptureAnswer.{CaptureAnswer}
use Rattle.verdict_answers.specs.declared.verdict.ServesAnswer.{ServesAnswer}
use Rattle.answers.specs.declared.patterns.PatternAnswer.{PatternAnswer}
use Rattle.answers.specs.Answers.{of_written, of_read, of_build, shortest_of, of_run, run_of}
use Rattle.verdict_answers.specs.Verdicts.{pattern_of, capture_of, serves_of}

-- one record written: r is the answer, b what the buffer holds as the call returns
abbrev pub Writes : Wrote → Answer → List ℕ → Type 0
Writes w r b = (r ≡ of_written w.answer) × (b ≡ w.buffer)

-- a pattern judged: r is the numbers of the one verdict that the desk's judge may give
abbrev pub PatternSaid : Result Table Refusal → List ℕ → ℕ → VerdictAnswer → Type 0
PatternSaid a s L r = (v : Result (ℕ × PatternVerdict) Refusal) × PatternTold a s L v × (r ≡ pattern_of v)

-- a capture judged: b is what the buffer of the commands holds as the call returns
abbrev pub Traces : Captured → CaptureAnswer → List ℕ → Type 0
Traces w r b = (r ≡ capture_of w.answer) × (b ≡ w.buffer)

-- the shortest pattern: r is the numbers of the one answer that the desk's call may give; b₀ is what the buffer held, b what it holds
abbrev pub PatternFound : Result Table Refusal → ℕ → ℕ → ℕ → ℕ → List ℕ → List ℕ → PatternAnswer → Type 0
PatternFound a type bi bc most b₀ b r = (v : Result (ℕ × ℕ × ℕ) Refusal) × ShortestTold a type bi bc most b₀ b v × (r ≡ shortest_of v)

-- transactions read: l is what the run of records holds
abbrev pub ReadsInto : Decoding → Answer → List Transaction → Type 0
ReadsInto d r l = (r ≡ of_read d.answer) × (l ≡ d.list)

-- a schedule: b₀ and f₀ are what the two buffers held, b and f what they hold
abbrev pub Scheduled : (Table → Result Unit Refusal) → Result Table Refusal → List Transaction → List ℕ → List ℕ → List ℕ → List ℕ → Answer → Type 0
Scheduled check a l b₀ b f₀ f r = (v : Result (ℕ × ℕ) Refusal) × Schedules check a l b₀ b f₀ f v × (r ≡ of_build v)

-- a schedule and a list: r is the numbers of the one answer that the desk may give
abbrev pub ServesSaid : (Table → Result Unit Refusal) → Result Table Refusal → List Transaction → List ℕ → ServesAnswer → Type 0
ServesSaid check a l s r = (v : Result (ℕ × Served) Refusal) × Serving check a l s v × (r ≡ serves_of v)

-- a run where the controller lies: c is the controller and b the room as the call returns
abbrev pub RunsIn : RunLeft → Answer → Controller → List ℕ → Type 0
RunsIn w r c b = (r ≡ of_run w.told.answer) × (c ≡ w.told.controller) × (b ≡ w.buffer)

-- the same of a controller handed in and back
abbrev pub RunsBack : RunLeft → RunAnswer → List ℕ → Type 0
RunsBack w r b = (r ≡ run_of w.told) × (b ≡ w.buffer)
