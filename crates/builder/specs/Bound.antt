-- "the bound gives 4, position 0, for BI or BC outside 1 to 16 or BI above banks"
use Rattle.std.specs.Prelude.{ℕ, not, ◌&&◌, [], ◌∷◌, leb, eqb, Result, Ok, Err}
use Rattle.records.specs.declared.refusal.Refusal.{Refusal}
use Rattle.records.specs.Tests.{pick, within}
use Rattle.records.specs.Told.{refusal, first_failed}
use Rattle.records.specs.declared.table.Table.{Table}
use Rattle.rules.specs.Bound.{bound}

abbrev pub bound_refusal : ℕ → ℕ → ℕ → ℕ
bound_refusal banks bi bc = first_failed ((4, not (within 1 16 bi && (within 1 16 bc && leb bi banks))) ∷ [])

unfoldable pub bound_told : Table → ℕ → ℕ → Result (ℕ × ℕ) Refusal
bound_told τ bi bc =
    let z = bound_refusal τ.banks bi bc in
    pick (eqb z 0) (Ok (τ.edition, bound τ bi bc)) (Err (refusal z 0 τ.edition))
