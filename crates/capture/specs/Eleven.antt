-- "Number 11, at the lowest such record: a stamp equal to the one before it, or a true cycle above 4,294,967,295."
use Rattle.std.specs.Prelude.{ℕ, zero, suc, ◌<◌, ◌≡◌, ◌⊎◌, List, length}
use Rattle.std.proofs.Math.Option.{some}
use Rattle.std.proofs.Math.ListN.{get_elem?}
use Rattle.stamps.specs.Capture.{Timed, lowest}

-- record i is such a record; ticks are records too, and the first has none before it
abbrev pub Such : List Timed → ℕ → Type 0
Such l zero = (x : Timed) × (get_elem? l 0 ≡ some x) × (4294967295 < x.cycle)
Such l (suc i) =
    (y : Timed) × (x : Timed) × (get_elem? l i ≡ some y) × (get_elem? l (suc i) ≡ some x)
    × ((x.seen.stamp ≡ y.seen.stamp) ⊎ (4294967295 < x.cycle))

-- `lowest` names the lowest, and is the count where there is none
pub record Lowest (l : List Timed) : Type 0 where
  pub such : lowest l < length l → Such l (lowest l)
  pub before : (i : ℕ) → i < lowest l → Such l i → ⊥
