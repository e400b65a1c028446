-- What the proofs of the leaves cite: tests in the form in which code makes them.
-- Assumes nothing.
use Prim.Native.Nat.{◌<◌}
use mathlib.Core.Bool.{Bool, true, false}
use native.Mathlib.Omega.{arith}
use Rattle.rules.specs.Square.{side}

pub side_two : (w : Bool) → side w < 2
side_two true = omega arith
side_two false = omega arith
