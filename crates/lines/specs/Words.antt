-- The words of the listing and of the trace, as bytes.
use Rattle.std.specs.Prelude.{ℕ, List, [], ◌∷◌}
use Rattle.text.specs.Decimal.{decimal}
use Rattle.records.specs.declared.command.Kind.{Kind}
use Rattle.records.specs.declared.command.Kind.TheVariants.{Act, Rd, Rda, Wr, Wra, Ref, Other}

-- `edition `
abbrev pub edition_word : List ℕ
edition_word = 101 ∷ 100 ∷ 105 ∷ 116 ∷ 105 ∷ 111 ∷ 110 ∷ 32 ∷ []

-- ` commands `
abbrev pub commands_word : List ℕ
commands_word = 32 ∷ 99 ∷ 111 ∷ 109 ∷ 109 ∷ 97 ∷ 110 ∷ 100 ∷ 115 ∷ 32 ∷ []

-- `finish `
abbrev pub finish_word : List ℕ
finish_word = 102 ∷ 105 ∷ 110 ∷ 105 ∷ 115 ∷ 104 ∷ 32 ∷ []

-- `refused `
abbrev pub refused_word : List ℕ
refused_word = 114 ∷ 101 ∷ 102 ∷ 117 ∷ 115 ∷ 101 ∷ 100 ∷ 32 ∷ []

-- ` at `
abbrev pub at_word : List ℕ
at_word = 32 ∷ 97 ∷ 116 ∷ 32 ∷ []

-- `accepted`
abbrev pub accepted_word : List ℕ
accepted_word = 97 ∷ 99 ∷ 99 ∷ 101 ∷ 112 ∷ 116 ∷ 101 ∷ 100 ∷ []

-- `record `
abbrev pub record_word : List ℕ
record_word = 114 ∷ 101 ∷ 99 ∷ 111 ∷ 114 ∷ 100 ∷ 32 ∷ []

-- ` breaks rule `
abbrev pub breaks_word : List ℕ
breaks_word = 32 ∷ 98 ∷ 114 ∷ 101 ∷ 97 ∷ 107 ∷ 115 ∷ 32 ∷ 114 ∷ 117 ∷ 108 ∷ 101 ∷ 32 ∷ []

-- a space, and the end of a line
abbrev pub space : List ℕ
space = 32 ∷ []

abbrev pub newline : List ℕ
newline = 10 ∷ []

-- `ACT`, `RD`, `RDA`, `WR`, `WRA`, `REF`; any other kind is its number. No schedule has one, but a capture may
unfoldable pub kind_text : Kind → List ℕ
kind_text Act = 65 ∷ 67 ∷ 84 ∷ []
kind_text Rd = 82 ∷ 68 ∷ []
kind_text Rda = 82 ∷ 68 ∷ 65 ∷ []
kind_text Wr = 87 ∷ 82 ∷ []
kind_text Wra = 87 ∷ 82 ∷ 65 ∷ []
kind_text Ref = 82 ∷ 69 ∷ 70 ∷ []
kind_text (Other n) = decimal n
