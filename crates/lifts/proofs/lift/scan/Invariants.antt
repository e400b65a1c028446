use Rattle.std.proofs.Common.{map}
use Rattle.timing.specs.Kept.{stamp_of, told_bank, told_group}
use Rattle.shortest.specs.Lifting.{found_at}
use Rattle.shortest.proofs.LiftTurn.{NotBefore}
use Rattle.lifts.proofs.lift.scan.Given as goal

abbrev pub invariant-loop-c : goal.invariant-loop-c
invariant-loop-c l = NotBefore (found_at l.t l.cycle (told_bank l.k) (map told_group l.groups) l.own (stamp_of l.a4) (stamp_of l.refresh) l.kind) l.from l.c
