use Rattle.std.proofs.Common.{◌≡◌, ◌<◌, ◌-◌, length as length_of}
use Rattle.shortest.proofs.Orders.{Ordering}
use Rattle.lifts.proofs.hope.+hope.Given as goal

abbrev pub invariant-loop-b : goal.invariant-loop-b
invariant-loop-b l = Ordering l.t l.write l.bi l.bc l.length l.k l.m l.items l.b × (l.m < l.n) × (length_of l.items ≡ 6)

-- the records that are not in order yet
abbrev pub decreases-hope : goal.decreases-hope
decreases-hope l = l.n - l.m
