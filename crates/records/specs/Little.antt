-- "Numbers are little-endian."
use Rattle.std.specs.Prelude.{ℕ, ◌+◌, ◌*◌, ◌/◌, ◌%◌, List, [], ◌∷◌, get_or, set}

abbrev pub le16 : ℕ → ℕ → ℕ
le16 a b = a + b * 256

abbrev pub le32 : ℕ → ℕ → ℕ → ℕ → ℕ
le32 a b c d = a + b * 256 + c * 65536 + d * 16777216

-- the 16-bit number at a place
abbrev pub num : List ℕ → ℕ → ℕ
num s at = le16 (get_or s at 0) (get_or s (at + 1) 0)

-- the 32-bit number at a place
abbrev pub num32 : List ℕ → ℕ → ℕ
num32 s at = le32 (get_or s at 0) (get_or s (at + 1) 0) (get_or s (at + 2) 0) (get_or s (at + 3) 0)

-- the bytes of numbers of 16 bits
abbrev pub bytes16 : List ℕ → List ℕ
bytes16 [] = []
bytes16 (x ∷ l) = (x % 256) ∷ (x / 256) ∷ bytes16 l

-- the bytes of a number of 32 bits
abbrev pub bytes32 : ℕ → List ℕ
bytes32 x = (x % 256) ∷ (x / 256 % 256) ∷ (x / 65536 % 256) ∷ (x / 16777216) ∷ []

-- a list with a 16-bit number at a place
abbrev pub put16 : List ℕ → ℕ → ℕ → List ℕ
put16 s at x = set (set s at (x % 256)) (at + 1) (x / 256)

-- a list with a 32-bit number at a place
abbrev pub put32 : List ℕ → ℕ → ℕ → List ℕ
put32 s at x = set (set (set (set s at (x % 256)) (at + 1) (x / 256 % 256)) (at + 2) (x / 65536 % 256)) (at + 3) (x / 16777216)
