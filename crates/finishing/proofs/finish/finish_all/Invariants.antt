use Rattle.finishing.specs.Finish.{Finished}
use Rattle.finishing.proofs.finish.finish_all.Given as goal

abbrev pub invariant-loop-k : goal.invariant-loop-k
invariant-loop-k l = Finished l.t l.list l.k l.initial.finishes l.finishes
