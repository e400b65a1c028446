-- One text for each input.
-- Assumes nothing.
use mathlib.Core.Path.{sym, ◌∙◌}
use mathlib.Core.List.{List}
use Prim.Native.Nat.{ℕ}
use Rattle.traced.specs.Only.{Only}

pub only : (input : List ℕ) → Only input
only input s m n k l p q = (p.size ∙ sym q.size, p.left ∙ sym q.left)
