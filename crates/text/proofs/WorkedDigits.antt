-- The worked digits follow from the definition.
-- Assumes nothing.
use mathlib.Core.Path.{refl}
use Rattle.text.specs.Decimal.{digits_in, decimal}
use Rattle.text.specs.Worked.{Worked}

pub worked : Worked
unfolding decimal digits_in
worked = refl
