use Rattle.capture.proofs.Turn.{Turn}
use Rattle.capture.proofs.scan.scan.Given as goal

abbrev pub invariant-loop-i : goal.invariant-loop-i
invariant-loop-i l = Turn l.s l.i l.stamp l.cycle l.count
