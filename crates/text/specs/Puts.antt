-- Text put into a buffer at a place.
use Rattle.std.specs.Prelude.{ℕ, ◌+◌, ◌≤◌, ◌≡◌, List, length}
use Rattle.records.specs.Told.{put_at, over}

-- the text stands in the buffer from `at` on, all else as it stood, and `next` is the place behind it; s and l are the buffer before and after
pub record Puts (text : List ℕ) (at next : ℕ) (s l : List ℕ) : Type 0 where
  pub place : next ≡ at + length text
  pub left : l ≡ put_at s at text
  -- it had room, and the buffer is as long as before: both are said for the next text
  pub room : at + length text ≤ length s
  pub size : length l ≡ length s

-- what a function that writes a text of a kind leaves: such a text from the buffer's start, all beyond as it stood, and n, its length; s and l are
-- the buffer before and after
abbrev pub Writes : (List ℕ → Type 0) → ℕ → List ℕ → List ℕ → Type 0
Writes is n s l = (text : List ℕ) × is text × (n ≡ length text) × (l ≡ over text s)
