-- "The listing program reads standard input, table first and transactions after, with 64 KiB of command room." It takes the expected edition "as
-- two bytes before the table; fewer than two get number 1" (document 02, request 1). "The 4-byte record is arrival 0, and the listing program keeps
-- it" (request 9).
use Rattle.std.specs.Prelude.{ℕ, ◌/◌, false, ◌≡◌, List, ltb, length, take, drop, replicate, Result, Ok, Err}
use Rattle.records.specs.declared.refusal.Refusal.{Refusal}
use Rattle.records.specs.Tests.{pick}
use Rattle.records.specs.Told.{refusal}
use Rattle.records.specs.Little.{num}
use Rattle.records.specs.Transaction.{transactions_in}
use Rattle.records.specs.Command.{commands_from}
use Rattle.lists.specs.Check.{check_bytes}
use Rattle.promises.specs.Admit.{admitted}
use Rattle.promises.specs.Schedules.{Schedules}
use Rattle.lines.specs.Lines.{schedule_text, refused_line}

-- what is printed for an answer of the desk's call: the commands stand in the room, the finishing cycles in their slice
unfoldable pub answer_text : Result (ℕ × ℕ) Refusal → List ℕ → List ℕ → List ℕ
answer_text (Ok (e, n)) room finishes = schedule_text e (commands_from room n 0) finishes
answer_text (Err x) room finishes = refused_line x

-- the text for an expected edition, a table and transactions: the call's answer, in a room of 64 KiB and with a finishing cycle for each of 256
-- transactions
pub record ListsCall (expected : ℕ) (table list text : List ℕ) : Type 0 where
  pub answer : Result (ℕ × ℕ) Refusal
  pub room : List ℕ
  pub finishes : List ℕ
  pub schedules :
      Schedules (λ τ. check_bytes false τ list) (admitted expected table) (transactions_in list) (replicate 65536 0) room (replicate 256 0) finishes answer
  pub is : text ≡ answer_text answer room (take (length list / 4) finishes)

-- the text for the bytes behind the expected edition: the first 32 are the table, or all where there are fewer; the rest are the transactions
abbrev pub ListsBehind : ℕ → List ℕ → List ℕ → Type 0
ListsBehind expected s text = ListsCall expected (take 32 s) (drop 32 s) text

-- the text for the whole input
abbrev pub Lists : List ℕ → List ℕ → Type 0
Lists input text = pick (ltb (length input) 2) (text ≡ refused_line (refusal 1 0 0)) (ListsBehind (num input 0) (drop 2 input) text)
