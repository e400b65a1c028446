use Rattle.std.proofs.Common.{add-one}
use Rattle.timing.proofs.Telling.{told_at}
use Rattle.copies.proofs.copy.all_shut.Goals as goal

pub loop-b-preserved : goal.loop-b-preserved
loop-b-preserved c = rw (add-one c.loop-b.b, c.kept_open.ensures, told_at, c.loop-b.invariant)
