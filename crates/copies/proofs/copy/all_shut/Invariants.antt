use mathlib.Core.Path.{◌≡◌}
use Rattle.timing.specs.Kept.{told}
use Rattle.broken.specs.ByState.{shut_by}
use Rattle.copies.proofs.copy.all_shut.Given as goal

abbrev pub invariant-loop-b : goal.invariant-loop-b
invariant-loop-b l = l.shut ≡ shut_by (told l.s) l.b
