-- The bound, on a table's bytes.
use Rattle.std.specs.Prelude.{ℕ, Result, Ok, Err}
use Rattle.records.specs.declared.table.Table.{Table}
use Rattle.records.specs.declared.refusal.Refusal.{Refusal}
use Rattle.builder.specs.Bound.{bound_told}

-- numbers 1, 2 and 10; then number 4 and the bound for (BI, BC)
unfoldable pub bounding : Result Table Refusal → ℕ → ℕ → Result (ℕ × ℕ) Refusal
bounding (Ok τ) bi bc = bound_told τ bi bc
bounding (Err x) bi bc = Err x
