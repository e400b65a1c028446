-- The lines of the listing and of the trace. Document 01 shows the whole of example 3: `edition 7 commands 4`, then a line for each command, as `10 WRA 0 0`, then one
-- for each transaction, as `finish 0 10`; "A refusal prints only `refused N at P edition E`."
use Rattle.std.specs.Prelude.{ℕ, ◌+◌, List, [], ◌∷◌, ◌++◌, length}
use Rattle.text.specs.Decimal.{decimal}
use Rattle.records.specs.declared.command.Command.{Command}
use Rattle.records.specs.declared.refusal.Refusal.{Refusal}
use Rattle.lines.specs.Words.{edition_word, commands_word, finish_word, refused_word, at_word, accepted_word, record_word, breaks_word, space, newline, kind_text}

-- `edition E commands N`
unfoldable pub first_line : ℕ → ℕ → List ℕ
first_line e n = edition_word ++ decimal e ++ commands_word ++ (decimal n ++ newline)

-- the command's cycle, its kind, its bank, and the transaction's number
unfoldable pub command_line : Command → List ℕ
command_line c = (decimal c.cycle ++ space) ++ (kind_text c.kind ++ space) ++ (decimal c.bank ++ space) ++ (decimal c.number ++ newline)

-- `finish K C`: transaction K finishes at cycle C
unfoldable pub finish_line : ℕ → ℕ → List ℕ
finish_line k cycle = finish_word ++ (decimal k ++ space) ++ (decimal cycle ++ newline)

-- `refused N at P edition E`
unfoldable pub refused_line : Refusal → List ℕ
refused_line x = refused_word ++ decimal x.number ++ at_word ++ decimal x.position ++ (space ++ edition_word) ++ (decimal x.edition ++ newline)

-- `accepted`: the verdict on a capture that is legal
abbrev pub accepted_line : List ℕ
accepted_line = accepted_word ++ newline

-- `record N breaks rule R`: the verdict against a capture
unfoldable pub broken_line : ℕ → ℕ → List ℕ
broken_line n r = record_word ++ decimal n ++ breaks_word ++ (decimal r ++ newline)

-- a line for each command
unfoldable pub command_lines : List Command → List ℕ
command_lines [] = []
command_lines (c ∷ l) = command_line c ++ command_lines l

-- a line for each finish, of transaction k and those after it
unfoldable pub finish_lines : ℕ → List ℕ → List ℕ
finish_lines k [] = []
finish_lines k (cycle ∷ l) = finish_line k cycle ++ finish_lines (k + 1) l

-- how every text begins that is no refusal's: the table's edition, and the commands
unfoldable pub commands_text : ℕ → List Command → List ℕ
commands_text e commands = first_line e (length commands) ++ command_lines commands

-- a schedule's listing: the edition of its table, its commands, its finishing cycles
unfoldable pub schedule_text : ℕ → List Command → List ℕ → List ℕ
schedule_text e commands finishes = commands_text e commands ++ finish_lines 0 finishes
