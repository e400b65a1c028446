-- Document 02, request 11, of the public call: each refusal has its exact cause and changes nothing, and what is answered is the shortest pattern.
use Rattle.std.specs.Prelude.{ℕ, suc, ◌*◌, Bool, true, false, not, ◌≡◌, List, [], ◌∷◌, ltb, eqb, length, Result, Ok, Err}
use Rattle.records.specs.Told.{over}
use Rattle.records.specs.Table.{table_at, read_table}
use Rattle.records.specs.declared.table.Table.{Table}
use Rattle.records.specs.declared.refusal.Refusal.{Refusal}
use Rattle.records.specs.Command.{commands_from, bytes_of_all}
use Rattle.shortest.specs.Shortest.{Shortest, NoneUpTo}
use Rattle.shortest.specs.Answer.{is_asked}
use Rattle.promises.specs.Admit.{admitted, edition_of}
use Rattle.promises.specs.Patterns.{ShortestTold}
use Rattle.promises.specs.Numbers.{shortest_numbers}
use Rattle.demands.specs.Causes.{Row, row, FirstRow, table_rows}

-- 4: "Inputs outside these limits, a type not read or write, or BI above banks"; 5: "room for BI × (1 + BC) records"; 13, where `none` says whether no
-- pattern exists; "The position is 0 for all three"
abbrev pub shortest_rows : Table → ℕ → ℕ → ℕ → ℕ → ℕ → Bool → List Row
shortest_rows τ type bi bc most room none =
    row 4 0 (not (is_asked τ.banks type bi bc most)) ∷ row 5 0 (ltb room (8 * (bi * suc bc))) ∷ row 13 0 none ∷ []

-- r is the answer to a type, BI, BC and a greatest length; b₀ is what the buffer holds before the call, and b after it
pub record Patterns (expected : ℕ) (table : List ℕ) : Type 0 where
  -- 13 "exactly if none exists up to the greatest length"
  pub causes : (type bi bc most : ℕ) (b₀ b : List ℕ) (r : Result (ℕ × ℕ × ℕ) Refusal) (none : Bool) → ShortestTold (admitted expected table) type bi bc most b₀ b r
      → (none ≡ true → NoneUpTo (table_at table) (eqb type 1) bi bc most) → (none ≡ false → NoneUpTo (table_at table) (eqb type 1) bi bc most → ⊥)
      → FirstRow (table_rows expected table (shortest_rows (table_at table) type bi bc most (length b₀) none)) (shortest_numbers r)
  -- a refused call changes no byte
  pub unwritten : (type bi bc most : ℕ) (b₀ b : List ℕ) (x : Refusal) → ShortestTold (admitted expected table) type bi bc most b₀ b (Err x) → b ≡ b₀
  -- every answer and every refusal names the table's edition
  pub edition : (type bi bc most : ℕ) (b₀ b : List ℕ) (r : Result (ℕ × ℕ × ℕ) Refusal) → ShortestTold (admitted expected table) type bi bc most b₀ b r
      → (shortest_numbers r).edition ≡ edition_of (read_table table)
  -- the records that stand in the buffer are the shortest pattern, and all beyond them stands as it stood
  pub found : (type bi bc most : ℕ) (b₀ b : List ℕ) (e L n : ℕ) → ShortestTold (admitted expected table) type bi bc most b₀ b (Ok (e, L, n))
      → (τ : Table) × (admitted expected table ≡ Ok τ) × (n ≡ length (commands_from b n 0)) × Shortest τ (eqb type 1) bi bc most L (commands_from b n 0)
      × (b ≡ over (bytes_of_all (commands_from b n 0)) b₀)
