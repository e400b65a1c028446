-- A number as text: its decimal digits, the greatest first, as the bytes 48 to 57 (`0` to `9`).
use Rattle.std.specs.Prelude.{ℕ, zero, suc, ◌+◌, ◌*◌, ◌-◌, ◌/◌, ◌%◌, true, false, List, [], ◌∷◌, ◌++◌, ltb}

-- a number below 10 is one digit; any other is the digits of its tenth part, and then its last digit. The first number is how many digits are
-- allowed.
unfoldable pub digits_in : ℕ → ℕ → List ℕ
digits_in zero n = []
digits_in (suc k) n = elim (ltb n 10) [ true ↦ (48 + n) ∷ [] | false ↦ digits_in k (n / 10) ++ ((48 + n % 10) ∷ []) ]

-- n has at most n + 1 digits
unfoldable pub decimal : ℕ → List ℕ
decimal n = digits_in (suc n) n

-- the number that such a text says, read from the left; m is what was read before
unfoldable pub said_after : ℕ → List ℕ → ℕ
said_after m [] = m
said_after m (x ∷ l) = said_after (m * 10 + (x - 48)) l

abbrev pub said : List ℕ → ℕ
said l = said_after 0 l
