-- What the program `trace` prints of a capture (document 02, request 6). It reads standard input as the listing does: the expected edition "as two
-- bytes before the table; fewer than two get number 1", the table, and then the capture.
use Rattle.std.specs.Prelude.{ℕ, ◌≡◌, List, ◌++◌, ltb, length, take, drop, replicate, Result, Ok, Err}
use Rattle.records.specs.declared.refusal.Refusal.{Refusal}
use Rattle.records.specs.Tests.{pick}
use Rattle.records.specs.Told.{refusal, over}
use Rattle.records.specs.Little.{num}
use Rattle.records.specs.declared.command.Command.{Command}
use Rattle.records.specs.Command.{commands_from}
use Rattle.rules.specs.declared.verdict.Verdict.{Verdict}
use Rattle.rules.specs.declared.verdict.Verdict.TheVariants.{Accepted, Refused as Broken}
use Rattle.capture.specs.Answer.{Captured}
use Rattle.promises.specs.Admit.{admitted}
use Rattle.promises.specs.Numbers.{rule_number}
use Rattle.promises.specs.Tracing.{capturing}
use Rattle.lines.specs.Lines.{accepted_line, broken_line, refused_line, commands_text}

-- "A verdict is acceptance, or a refusal that carries the rule inside it with the record number": `accepted`, or `record N breaks rule R`
unfoldable pub verdict_line : Verdict → List ℕ
verdict_line Accepted = accepted_line
verdict_line (Broken rule n) = broken_line n (rule_number rule)

-- a capture that was judged: the edition of the table, the commands, and the verdict on them. A kind that no paper names is its number
unfoldable pub trace_text : ℕ → List Command → Verdict → List ℕ
trace_text e commands v = commands_text e commands ++ verdict_line v

-- what is printed for an answer of the desk's call: the commands stand in the room
unfoldable pub answer_text : Result (ℕ × ℕ × Verdict) Refusal → List ℕ → List ℕ
answer_text (Ok (e, n, v)) room = trace_text e (commands_from room n 0) v
answer_text (Err x) room = refused_line x

abbrev pub left_text : Captured → List ℕ
left_text w = answer_text w.answer w.buffer

-- 69,632 records hold at most as many commands, of 8 bytes each
unfoldable pub empty_room : List ℕ
empty_room = replicate 557056 0

-- the text for an expected edition, a table and a capture: the call's answer, in that room
unfoldable pub call_text : ℕ → List ℕ → List ℕ → List ℕ
call_text expected table capture = left_text (capturing (admitted expected table) capture empty_room)

-- the text for the bytes behind the expected edition: the first 32 are the table, or all where there are fewer; the rest are the capture
abbrev pub behind_text : ℕ → List ℕ → List ℕ
behind_text expected s = call_text expected (take 32 s) (drop 32 s)

-- the text for the whole input
abbrev pub trace_of : List ℕ → List ℕ
trace_of input = pick (ltb (length input) 2) (refused_line (refusal 1 0 0)) (behind_text (num input 0) (drop 2 input))

-- what a function that writes such a text leaves: the text from the buffer's start, all beyond as it stood, and n, its length; s and l are the
-- buffer before and after
pub record Writes (text : List ℕ) (n : ℕ) (s l : List ℕ) : Type 0 where
  pub size : n ≡ length text
  pub left : l ≡ over text s
