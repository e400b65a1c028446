use Rattle.timing.specs.Kept.{told}
use Rattle.judge.proofs.FiveCopies.{Round}
use Rattle.judge.proofs.pattern.judge_five.Given as goal

abbrev pub invariant-loop-k : goal.invariant-loop-k
invariant-loop-k l = Round l.grouping.table l.length l.s l.k (told l.state)
