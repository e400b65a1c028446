-- Digits at the powers of ten, and at the greatest numbers of 16, 32 and 64 bits, as one list.
use Rattle.std.specs.Prelude.{ℕ, ◌≡◌, List, [], ◌∷◌}
use Rattle.text.specs.Decimal.{decimal}

abbrev pub numbers : List ℕ
numbers = 0 ∷ 9 ∷ 10 ∷ 99 ∷ 100 ∷ 65535 ∷ 4294967295 ∷ 18446744073709551615 ∷ []

abbrev pub texts : List ℕ → List (List ℕ)
texts [] = []
texts (n ∷ l) = decimal n ∷ texts l

abbrev pub Worked : Type 0
Worked =
    texts numbers ≡
    (48 ∷ [])
    ∷ (57 ∷ [])
    ∷ (49 ∷ 48 ∷ [])
    ∷ (57 ∷ 57 ∷ [])
    ∷ (49 ∷ 48 ∷ 48 ∷ [])
    ∷ (54 ∷ 53 ∷ 53 ∷ 51 ∷ 53 ∷ [])
    ∷ (52 ∷ 50 ∷ 57 ∷ 52 ∷ 57 ∷ 54 ∷ 55 ∷ 50 ∷ 57 ∷ 53 ∷ [])
    ∷ (49 ∷ 56 ∷ 52 ∷ 52 ∷ 54 ∷ 55 ∷ 52 ∷ 52 ∷ 48 ∷ 55 ∷ 51 ∷ 55 ∷ 48 ∷ 57 ∷ 53 ∷ 53 ∷ 49 ∷ 54 ∷ 49 ∷ 53 ∷ [])
    ∷ []
