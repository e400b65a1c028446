use Rattle.records.specs.Command.{commands_from}
use Rattle.finishing.specs.Finish.{Marked}
use Rattle.finishing.proofs.finish.mark.Given as goal

abbrev pub invariant-loop-j : goal.invariant-loop-j
invariant-loop-j l = Marked (commands_from l.bytes l.j 0) l.initial.finishes l.finishes
