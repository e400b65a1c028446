use Rattle.capture.proofs.Turn.{Writing}
use Rattle.capture.proofs.write.write_commands.Given as goal

abbrev pub invariant-loop-i : goal.invariant-loop-i
invariant-loop-i l = Writing l.s l.initial.commands l.commands l.i l.stamp l.cycle l.k
