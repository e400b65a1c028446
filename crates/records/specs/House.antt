-- "House tables are constants, no device's data sheet": their sixteen numbers, of D the twenty.
use Rattle.std.specs.Prelude.{ℕ, List, [], ◌∷◌, ◌++◌}
use Rattle.records.specs.declared.table.Table.{Table}
use Rattle.records.specs.Table.{table_of, group_table_of}

-- A, with its FAW, its RTP and its RFC left open
abbrev pub house : ℕ → ℕ → ℕ → List ℕ
house faw rtp rfc = 7 ∷ 8 ∷ 4 ∷ 4 ∷ 10 ∷ 10 ∷ 28 ∷ 38 ∷ 6 ∷ faw ∷ 10 ∷ 8 ∷ rtp ∷ 12 ∷ 6 ∷ rfc ∷ []

abbrev pub numbers_a : List ℕ
numbers_a = house 32 6 0

-- "Table B: A with FAW 155."
abbrev pub numbers_b : List ℕ
numbers_b = house 155 6 0

-- "Table C: A with RTP 2."
abbrev pub numbers_c : List ℕ
numbers_c = house 32 2 0

-- Table T is the team's own: no two numbers alike, B below CCD, FAW no multiple of 4, so that no number of a table can stand in for another unseen.
abbrev pub numbers_t : List ℕ
numbers_t = 9 ∷ 6 ∷ 4 ∷ 5 ∷ 11 ∷ 12 ∷ 26 ∷ 40 ∷ 7 ∷ 33 ∷ 13 ∷ 10 ∷ 8 ∷ 14 ∷ 3 ∷ 0 ∷ []

-- Table D is the team's own: A in four groups, with a long CCD of 9, a long RRD of 20 and a long WTR of 13. Each is so long that a command of
-- another group between two of one group may be no obstacle where the older one still is.
abbrev pub numbers_d : List ℕ
numbers_d = numbers_a ++ (4 ∷ 9 ∷ 20 ∷ 13 ∷ [])

abbrev pub table_a : Table
table_a = table_of numbers_a

abbrev pub table_b : Table
table_b = table_of numbers_b

abbrev pub table_c : Table
table_c = table_of numbers_c

abbrev pub table_t : Table
table_t = table_of numbers_t

abbrev pub table_d : Table
table_d = group_table_of numbers_d
