-- The true gap, by stamps and by cycles.
-- Assumes nothing.
use Rattle.std.proofs.Common.{◌≡◌, ℕ, ◌+◌, ◌%◌, ◌^◌, ◌<◌, ◌≤◌, arith}
use Rattle.stamps.specs.Capture.{gap}

-- what `wrapping_sub` ensures is the difference taken round the wrap
pub gap_is : (p q r : ℕ) → p < 65536 → r < 65536 → (r + p) % 2 ^ 16 ≡ q → r ≡ gap p q
unfolding gap
gap_is p q r hp hr e = let f : (r + p) % 65536 ≡ q = e in omega arith

pub gap_first : (q : ℕ) → q < 65536 → 0 + gap 0 q ≡ q
unfolding gap
gap_first q h = omega arith

-- the stamps of two cycles tell how far they are apart, below 65,536
pub gap_cycles : (c d : ℕ) → c ≤ d → d < c + 65536 → c + gap (c % 65536) (d % 65536) ≡ d
unfolding gap
gap_cycles c d l m = omega arith

-- and stamps are equal only where no cycle lies between
pub stamps_differ : (c d : ℕ) → c < d → d < c + 65536 → d % 65536 ≡ c % 65536 → ⊥
stamps_differ c d l m e = omega arith
