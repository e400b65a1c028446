-- Document 02, request 11: what the search for the shortest pattern answers on a table's bytes, r, and what it leaves in the buffer, which held b₀: b.
use Rattle.std.specs.Prelude.{ℕ, ◌≡◌, List, Result, Ok, Err}
use Rattle.records.specs.declared.table.Table.{Table}
use Rattle.records.specs.declared.refusal.Refusal.{Refusal}
use Rattle.shortest.specs.Answer.{LeavesShortest}

-- numbers 1, 2 and 10; then 4, 5 and 13, the least length and its first pattern
unfoldable pub ShortestTold : Result Table Refusal → ℕ → ℕ → ℕ → ℕ → List ℕ → List ℕ → Result (ℕ × ℕ × ℕ) Refusal → Type 0
ShortestTold (Ok τ) type bi bc most b₀ b r = LeavesShortest τ type bi bc most b₀ b r
ShortestTold (Err x) type bi bc most b₀ b r = (r ≡ Err x) × (b ≡ b₀)
