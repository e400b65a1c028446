-- What the program `pattern` prints of the shortest pattern (document 02, request 11). It reads standard input in the listing's manner: the expected
-- edition "as two bytes before the table; fewer than two get number 1", the table, and then what is asked for.
use Rattle.std.specs.Prelude.{ℕ, ◌-◌, ◌≡◌, List, [], ◌∷◌, ◌++◌, ltb, length, get_or, take, drop, replicate, Result, Ok, Err}
use Rattle.records.specs.declared.refusal.Refusal.{Refusal}
use Rattle.records.specs.Tests.{pick}
use Rattle.records.specs.Told.{refusal}
use Rattle.records.specs.Little.{num}
use Rattle.records.specs.declared.command.Command.{Command}
use Rattle.records.specs.Command.{commands_from}
use Rattle.promises.specs.Admit.{admitted}
use Rattle.promises.specs.Patterns.{ShortestTold}
use Rattle.text.specs.Decimal.{decimal}
use Rattle.lines.specs.Words.{edition_word, commands_word, newline}
use Rattle.lines.specs.Lines.{refused_line, command_lines}

-- ` length `
abbrev pub length_word : List ℕ
length_word = 32 ∷ 108 ∷ 101 ∷ 110 ∷ 103 ∷ 116 ∷ 104 ∷ 32 ∷ []

-- `edition E length L commands N`
unfoldable pub length_line : ℕ → ℕ → ℕ → List ℕ
length_line e L n = edition_word ++ decimal e ++ length_word ++ decimal L ++ commands_word ++ (decimal n ++ newline)

-- a pattern: the edition of the table, the length, and the records
unfoldable pub pattern_text : ℕ → ℕ → List Command → List ℕ
pattern_text e L p = length_line e L (length p) ++ command_lines p

-- what is printed for an answer of the desk's call: the records stand in the room
unfoldable pub answer_text : Result (ℕ × ℕ × ℕ) Refusal → List ℕ → List ℕ
answer_text (Ok (e, L, n)) room = pattern_text e L (commands_from room n 0)
answer_text (Err x) room = refused_line x

-- the text for an expected edition, a table, a type, BI, BC and a greatest length: the call's answer, in a room for six records
pub record Told (expected : ℕ) (table : List ℕ) (type bi bc most : ℕ) (text : List ℕ) : Type 0 where
  pub answer : Result (ℕ × ℕ × ℕ) Refusal
  pub room : List ℕ
  pub told : ShortestTold (admitted expected table) type bi bc most (replicate 48 0) room answer
  pub is : text ≡ answer_text answer room

-- the text for the whole input: two bytes of edition, the table, of either size, and behind it type, BI, BC and the greatest length, a byte each. Fewer
-- bytes than these six are a table cut short
abbrev pub PatternOf : List ℕ → List ℕ → Type 0
PatternOf input text =
    let n = length input in
    pick (ltb n 6) (text ≡ refused_line (refusal 1 0 0))
    (Told (num input 0) (take (n - 6) (drop 2 input)) (get_or input (n - 4) 0) (get_or input (n - 3) 0) (get_or input (n - 2) 0) (get_or input (n - 1) 0) text)
