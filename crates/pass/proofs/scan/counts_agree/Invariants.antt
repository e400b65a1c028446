use Rattle.std.proofs.Common.{◌≡◌}
use Rattle.records.specs.Tests.{every_below}
use Rattle.serves.specs.Check.{bank_agrees, number_at}
use Rattle.pass.proofs.scan.counts_agree.Given as goal

abbrev pub invariant-loop-b : goal.invariant-loop-b
invariant-loop-b l = l.all ≡ every_below l.b (bank_agrees l.banks l.x l.y (number_at l.counts))
