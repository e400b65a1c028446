use Rattle.std.proofs.Common.{◌≡◌}
use Rattle.lists.specs.Decode.{stored}
use Rattle.records.specs.Transaction.{list_of}
use Rattle.lists.proofs.decode.store.Given as goal

abbrev pub invariant-loop-k : goal.invariant-loop-k
invariant-loop-k l = l.list ≡ stored (list_of l.later l.bytes) l.k l.initial.list
