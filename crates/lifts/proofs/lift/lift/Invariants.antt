use Rattle.std.proofs.Common.{◌<◌}
use Rattle.shortest.proofs.LiftTurn.{Turn}
use Rattle.lifts.proofs.lift.lift.Given as goal

abbrev pub invariant-loop-turn : goal.invariant-loop-turn
invariant-loop-turn l = Turn l.t l.length l.k l.n l.initial.x l.off l.i l.turn l.x l.s × (l.quiet < 30)
