use Rattle.std.proofs.Common.{◌<◌}
use Rattle.shortest.proofs.Searching.{Choosing}
use Rattle.search.proofs.search.+search.Given as goal

abbrev pub invariant-loop-m : goal.invariant-loop-m
invariant-loop-m l = Choosing l.t l.write l.bi l.bc l.length l.left l.k l.items l.m × (l.k < l.n)

-- the cycles that are left
abbrev pub decreases-search : goal.decreases-search
decreases-search l = l.left
