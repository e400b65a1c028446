use Rattle.std.proofs.Common.{◌≡◌}
use Rattle.records.specs.Transaction.{list_of}
use Rattle.lists.specs.Check.{range_from}
use Rattle.lists.proofs.Checks.{left_from}
use Rattle.lists.proofs.check.check_range.Given as goal

abbrev pub invariant-loop-k : goal.invariant-loop-k
invariant-loop-k l = left_from l.t l.later l.s l.arrived l.k ≡ range_from l.t 0 (list_of l.later l.s) 0
