use Rattle.std.proofs.Common.{◌≡◌}
use Rattle.records.specs.Transaction.{transactions_in}
use Rattle.lists.specs.Packed.{packed}
use Rattle.packing.proofs.packed.widen.Given as goal

abbrev pub invariant-loop-k : goal.invariant-loop-k
invariant-loop-k l = l.bytes ≡ packed l.k (transactions_in l.s)
