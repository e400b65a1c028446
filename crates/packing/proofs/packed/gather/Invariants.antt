use Rattle.std.proofs.Common.{◌≡◌}
use Rattle.lists.specs.Packed.{packed}
use Rattle.packing.proofs.packed.gather.Given as goal

abbrev pub invariant-loop-k : goal.invariant-loop-k
invariant-loop-k l = l.bytes ≡ packed l.k l.list
