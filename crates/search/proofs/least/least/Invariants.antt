use Rattle.shortest.proofs.Lengths.{NoneBelow}
use Rattle.search.proofs.least.least.Given as goal

abbrev pub invariant-loop-length : goal.invariant-loop-length
invariant-loop-length l = NoneBelow l.t l.write l.bi l.bc l.length
