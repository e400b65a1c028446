use Rattle.std.proofs.Common.{◌≡◌}
use Rattle.shortest.specs.Search.{tally}
use Rattle.shortest.proofs.place.count.Given as goal

abbrev pub invariant-loop-i : goal.invariant-loop-i
invariant-loop-i l = l.n ≡ tally l.b l.items l.i
