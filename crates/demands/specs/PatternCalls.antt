-- Document 02, request 11: the public call for the shortest pattern as a single list, which is part of the single claim of `Calls`. `two` is table A with
-- 2 banks.
use Rattle.std.specs.Prelude.{ℕ, ◌≡◌, ◌⊎◌, List, [], ◌∷◌, replicate, Result}
use Rattle.records.specs.declared.refusal.Refusal.{Refusal}
use Rattle.records.specs.Little.{bytes16}
use Rattle.promises.specs.Admit.{admitted}
use Rattle.promises.specs.Patterns.{ShortestTold}
use Rattle.promises.specs.Numbers.{Numbers, shortest_numbers}
use Rattle.demands.specs.Handed.{A, ccd1, cut, told}

abbrev pub two : List ℕ
two = bytes16 (7 ∷ 2 ∷ 4 ∷ 4 ∷ 10 ∷ 10 ∷ 28 ∷ 38 ∷ 6 ∷ 32 ∷ 10 ∷ 8 ∷ 6 ∷ 12 ∷ 6 ∷ 0 ∷ [])

-- a type, BI, BC and a greatest length, with a buffer that holds b₀: whatever answer keeps the promise tells these numbers, and leaves the buffer as it was
abbrev pub NotSought : ℕ → List ℕ → ℕ → ℕ → ℕ → ℕ → List ℕ → Numbers → Type 0
NotSought e t type bi bc most b₀ n =
    (b : List ℕ) (r : Result (ℕ × ℕ × ℕ) Refusal) → ShortestTold (admitted e t) type bi bc most b₀ b r → (shortest_numbers r ≡ n) × (b ≡ b₀)

-- it tells a pattern, or that there is none
abbrev pub Sought : ℕ → List ℕ → ℕ → ℕ → ℕ → ℕ → List ℕ → Type 0
Sought e t type bi bc most b₀ =
    (b : List ℕ) (r : Result (ℕ × ℕ × ℕ) Refusal) → ShortestTold (admitted e t) type bi bc most b₀ b r
    → ((shortest_numbers r).refused ≡ 0) ⊎ ((shortest_numbers r).refused ≡ 13)

abbrev pub pattern_calls : List (Type 0)
pattern_calls =
    -- 1 before 2, 2 before 10, 10 before 4, 4 before 5, 5
    NotSought 8 cut 2 1 1 128 [] (told 1 0 0)
    ∷ NotSought 8 ccd1 2 1 1 128 [] (told 2 0 0)
    ∷ NotSought 8 A 2 1 1 128 [] (told 10 7 7)
    ∷ NotSought 7 A 2 1 1 128 [] (told 4 0 7)
    ∷ NotSought 7 A 0 1 1 128 (replicate 15 9) (told 5 0 7)
    ∷ NotSought 7 A 1 3 1 128 (replicate 47 9) (told 5 0 7)
    -- "BI and BC from 1 with BI × (1 + BC) at most 6, and a greatest length of 1 to 128", "BI above banks"
    ∷ NotSought 7 A 0 0 1 128 (replicate 48 9) (told 4 0 7)
    ∷ NotSought 7 A 0 1 0 128 (replicate 48 9) (told 4 0 7)
    ∷ NotSought 7 A 0 1 6 128 (replicate 48 9) (told 4 0 7)
    ∷ NotSought 7 A 0 4 1 128 (replicate 48 9) (told 4 0 7)
    ∷ NotSought 7 A 0 1 1 0 (replicate 48 9) (told 4 0 7)
    ∷ NotSought 7 A 0 1 1 129 (replicate 48 9) (told 4 0 7)
    ∷ NotSought 7 two 0 3 1 128 (replicate 48 9) (told 4 0 7)
    -- each limit itself
    ∷ Sought 7 A 0 1 1 1 (replicate 16 9)
    ∷ Sought 7 A 1 1 5 128 (replicate 48 9)
    ∷ Sought 7 A 1 3 1 128 (replicate 48 9)
    ∷ Sought 7 two 0 2 2 128 (replicate 48 9)
    ∷ []
