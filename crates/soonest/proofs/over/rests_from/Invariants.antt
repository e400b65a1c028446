use mathlib.Core.Path.{◌≡◌}
use Rattle.earliest.specs.Earliest.{most_below}
use Rattle.soonest.proofs.Numbers.{rests_at}
use Rattle.soonest.proofs.over.rests_from.Given as goal

abbrev pub invariant-loop-b : goal.invariant-loop-b
invariant-loop-b l = l.from ≡ most_below l.b (rests_at l.t l.s)
