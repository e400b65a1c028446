-- "A verdict is acceptance, or a refusal that carries the rule inside it with the record number, from 0": the judges' answers, and those on a schedule
-- and a list, as structs of the desk's `Numbers`, with 0 for a value that the answer's case does not have.
use Rattle.std.specs.Prelude.{ℕ, Result, Ok, Err}
use Rattle.records.specs.declared.refusal.Refusal.{Refusal}
use Rattle.rules.specs.declared.verdict.Verdict.{Verdict}
use Rattle.rules.specs.declared.verdict.PatternVerdict.{PatternVerdict}
use Rattle.serves.specs.declared.answer.Served.{Served}
use Rattle.serves.specs.declared.answer.Served.TheVariants.{Serves, Refused as Against, AtFault}
use Rattle.promises.specs.Numbers.{Numbers, refusing, judged_numbers, pattern_numbers, capture_numbers, serves_numbers}
use Rattle.verdict_answers.specs.declared.verdict.VerdictAnswer.{VerdictAnswer}
use Rattle.verdict_answers.specs.declared.verdict.CaptureAnswer.{CaptureAnswer}
use Rattle.verdict_answers.specs.declared.verdict.ServesAnswer.{ServesAnswer}
use Rattle.answers.specs.Answers.{value}

-- the table's edition, the rule broken (0 where none is), the copy and the record in it
abbrev pub saying : ℕ → ℕ → ℕ → ℕ → VerdictAnswer
saying e rule copy i = record { refused = 0; position = 0; edition = e; rule = rule; copy = copy; «record» = i }

abbrev pub saying_of : Numbers → ℕ → ℕ → ℕ → VerdictAnswer
saying_of a rule copy i = record { refused = a.refused; position = a.position; edition = a.edition; rule = rule; copy = copy; «record» = i }

-- nothing was judged
abbrev pub not_saying : Refusal → VerdictAnswer
not_saying x = saying_of (refusing x) 0 0 0

-- on a schedule: the rule and the record, no copy
abbrev pub verdict_of : Result (ℕ × Verdict) Refusal → VerdictAnswer
verdict_of r = let a = judged_numbers r in saying_of a (value a 0) 0 (value a 1)

abbrev pub verdict_said : ℕ → Verdict → VerdictAnswer
verdict_said e v = verdict_of (Ok (e, v))

-- on a pattern: the rule, "the lowest copy, then the record within it"
abbrev pub pattern_of : Result (ℕ × PatternVerdict) Refusal → VerdictAnswer
pattern_of r = let a = pattern_numbers r in saying_of a (value a 0) (value a 1) (value a 2)

abbrev pub pattern_said : ℕ → PatternVerdict → VerdictAnswer
pattern_said e v = pattern_of (Ok (e, v))

-- on a capture: how many commands were written, then the rule and the record among those commands
abbrev pub capture_answer : Numbers → CaptureAnswer
capture_answer a = record { refused = a.refused; position = a.position; edition = a.edition; count = value a 0; rule = value a 1; «record» = value a 2 }

abbrev pub capture_of : Result (ℕ × ℕ × Verdict) Refusal → CaptureAnswer
capture_of r = capture_answer (capture_numbers r)

abbrev pub capture_said : ℕ → ℕ → Verdict → CaptureAnswer
capture_said e n v = capture_of (Ok (e, n, v))

-- how many commands were written
abbrev pub commands_written : Result (ℕ × ℕ × Verdict) Refusal → ℕ
commands_written r = value (capture_numbers r) 0

-- on a schedule and a list: 1 where it serves, and else 0; the rule and the record of the judge's verdict; the transaction
abbrev pub serves_answer : Numbers → ℕ → ℕ → ℕ → ℕ → ServesAnswer
serves_answer a serves rule i x =
    record { refused = a.refused; position = a.position; edition = a.edition; serves = serves; rule = rule; «record» = i; transaction = x }

abbrev pub served_said : ℕ → Served → ServesAnswer
served_said e Serves = serves_answer (serves_numbers (Ok (e, Serves))) 1 0 0 0
served_said e (Against x i) = let a = serves_numbers (Ok (e, Against x i)) in serves_answer a 0 (value a 0) (value a 1) 0
served_said e (AtFault x) = let a = serves_numbers (Ok (e, AtFault x)) in serves_answer a 0 0 0 (value a 0)

abbrev pub serves_of : Result (ℕ × Served) Refusal → ServesAnswer
serves_of (Ok (e, a)) = served_said e a
serves_of (Err x) = serves_answer (refusing x) 0 0 0 0
