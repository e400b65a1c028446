-- "If an answer is an enum, a definition gives this paper's number and values for each of its cases", which is in the desk's `Numbers`: the
-- desk's answers as structs of those numbers, with 0 for a value that the answer's case does not have.
use Rattle.std.specs.Prelude.{ℕ, List, get_or, replicate, Result, Ok, Err}
use Rattle.records.specs.declared.table.Table.{Table}
use Rattle.records.specs.declared.transaction.Transaction.{Transaction}
use Rattle.stamps.specs.declared.one_record.CaptureRecord.{CaptureRecord}
use Rattle.controller.specs.declared.run.RunReport.{RunReport}
use Rattle.records.specs.declared.refusal.Refusal.{Refusal}
use Rattle.records.specs.declared.command.Command.{Command}
use Rattle.records.specs.Table.{group_numbers_of}
use Rattle.controller.specs.declared.run.RunTold.{RunTold}
use Rattle.promises.specs.declared.starting.StartTold.{StartTold}
use Rattle.promises.specs.Numbers.{Numbers, refusing as refusal_numbers, written_numbers, table_numbers, transaction_numbers, command_numbers, capture_record_numbers, read_numbers, build_numbers, bound_numbers, shortest_numbers, start_numbers, run_numbers}
use Rattle.answers.specs.declared.answer.Answer.{Answer}
use Rattle.answers.specs.declared.reader.TableAnswer.{TableAnswer}
use Rattle.answers.specs.declared.reader.TransactionAnswer.{TransactionAnswer}
use Rattle.answers.specs.declared.reader.CommandAnswer.{CommandAnswer}
use Rattle.answers.specs.declared.reader.CaptureRecordAnswer.{CaptureRecordAnswer}
use Rattle.answers.specs.declared.patterns.PatternAnswer.{PatternAnswer}
use Rattle.answers.specs.declared.answer.StartAnswer.{StartAnswer}
use Rattle.answers.specs.declared.answer.RunAnswer.{RunAnswer}

-- a value of an answer, 0 where it has none
abbrev pub value : Numbers → ℕ → ℕ
value a k = get_or a.values k 0

-- of an answer whose values are a count, and the cycles run
abbrev pub answering : Numbers → Answer
answering a = record { refused = a.refused; position = a.position; edition = a.edition; count = value a 0; cycles = value a 1 }

-- an answer that is no refusal names its edition, a count, and the cycles run
abbrev pub answer : ℕ → ℕ → ℕ → Answer
answer e n m = record { refused = 0; position = 0; edition = e; count = n; cycles = m }

abbrev pub refusing : Refusal → Answer
refusing x = answering (refusal_numbers x)

-- ---- one record

abbrev pub of_written : Result ℕ Refusal → Answer
of_written r = answering (written_numbers r)

-- the table's twenty numbers, all 0 where it is refused
abbrev pub table_answer : Numbers → List ℕ → TableAnswer
table_answer a l = record { refused = a.refused; position = a.position; edition = a.edition; numbers = l }

abbrev pub of_table : Result Table Refusal → TableAnswer
of_table (Ok τ) = table_answer (table_numbers (Ok τ)) (group_numbers_of τ)
of_table (Err x) = table_answer (table_numbers (Err x)) (replicate 20 0)

abbrev pub transaction_answer : Numbers → TransactionAnswer
transaction_answer a =
    record {
      refused = a.refused;
      position = a.position;
      edition = a.edition;
      kind = value a 0;
      start = value a 1;
      bi = value a 2;
      bc = value a 3;
      arrival = value a 4;
    }

abbrev pub of_transaction : Result Transaction Refusal → TransactionAnswer
of_transaction r = transaction_answer (transaction_numbers r)

abbrev pub command_said : Numbers → CommandAnswer
command_said a =
    record { refused = a.refused; position = a.position; edition = a.edition; cycle = value a 0; kind = value a 1; bank = value a 2; number = value a 3 }

abbrev pub command_answer : Command → CommandAnswer
command_answer c = command_said (command_numbers (Ok c))

abbrev pub of_command : Result Command Refusal → CommandAnswer
of_command r = command_said (command_numbers r)

abbrev pub capture_record_answer : Numbers → CaptureRecordAnswer
capture_record_answer a = record { refused = a.refused; position = a.position; edition = a.edition; stamp = value a 0; kind = value a 1; bank = value a 2 }

abbrev pub of_capture_record : Result CaptureRecord Refusal → CaptureRecordAnswer
of_capture_record r = capture_record_answer (capture_record_numbers r)

-- ---- lists, schedules, the bound

abbrev pub of_read : Result (ℕ × ℕ) Refusal → Answer
of_read r = answering (read_numbers r)

-- how many commands were written
abbrev pub count_of : Result (ℕ × ℕ) Refusal → ℕ
count_of r = value (build_numbers r) 0

abbrev pub of_build : Result (ℕ × ℕ) Refusal → Answer
of_build r = answering (build_numbers r)

abbrev pub of_bound : Result (ℕ × ℕ) Refusal → Answer
of_bound r = answering (bound_numbers r)

-- ---- the shortest pattern

-- the least length, and how many records were written
abbrev pub pattern_answer : Numbers → PatternAnswer
pattern_answer a = record { refused = a.refused; position = a.position; edition = a.edition; length = value a 0; count = value a 1 }

abbrev pub shortest_of : Result (ℕ × ℕ × ℕ) Refusal → PatternAnswer
shortest_of r = pattern_answer (shortest_numbers r)

abbrev pub shortest_found : ℕ → ℕ → ℕ → PatternAnswer
shortest_found e L n = shortest_of (Ok (e, L, n))

-- how many records were written
abbrev pub records_found : Result (ℕ × ℕ × ℕ) Refusal → ℕ
records_found r = value (shortest_numbers r) 1

-- ---- the running controller

abbrev pub of_start : Result ℕ Refusal → Answer
of_start r = answering (start_numbers r)

abbrev pub start_of : StartTold → StartAnswer
start_of s = record { controller = s.controller; answer = of_start s.answer }

abbrev pub of_run : Result RunReport Refusal → Answer
of_run r = answering (run_numbers r)

abbrev pub run_of : RunTold → RunAnswer
run_of s = record { controller = s.controller; answer = of_run s.answer }
