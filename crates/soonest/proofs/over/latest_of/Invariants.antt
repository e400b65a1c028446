use mathlib.Core.Path.{◌≡◌}
use lib.ListN.{get_or}
use Rattle.timing.specs.Kept.{quiet_kept}
use Rattle.earliest.specs.Earliest.{most_below}
use Rattle.soonest.proofs.over.latest_of.Given as goal

abbrev pub invariant-loop-g : goal.invariant-loop-g
invariant-loop-g l = (l.act ≡ most_below l.g (λ i. (get_or l.groups i quiet_kept).act)) × (l.rd ≡ most_below l.g (λ i. (get_or l.groups i quiet_kept).rd)) × (l.wr ≡ most_below l.g (λ i. (get_or l.groups i quiet_kept).wr))
