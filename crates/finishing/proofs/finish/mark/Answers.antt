use native.Mathlib.Omega.{arith}
use Rattle.finishing.proofs.Marks.{unmarked, in_range_lem, stores, skips}
use Rattle.finishing.proofs.finish.mark.Goals as goal
use Rattle.finishing.proofs.finish.mark.Goals.{then-can_end, else-can_end}

pub loop-j-init : goal.loop-j-init
loop-j-init c = unmarked _ _

pub bounds-finishes-c : goal.bounds-finishes-c
bounds-finishes-c c = omega (arith, in_range_lem _ c.args.m c.loop-j.j _ c.loop-j.finishes c.loop-j.invariant c.requires.1 c.loop-j-test.true c.command_at-c.result c.command_at-c.ensures)

pub loop-j-preserved : goal.loop-j-preserved
loop-j-preserved c =
    let m = c.loop-j.invariant in
    elim c.if-can_end.branch [
      | then-can_end w ↦ rw w.finishes-is (stores _ c.args.m c.loop-j.j _ c.loop-j.finishes m c.requires.1 c.loop-j-test.true c.command_at-c.result c.command_at-c.ensures c.can_end.result c.can_end.ensures w.if-can_end.true)
      | else-can_end w ↦ rw w.finishes-is (skips _ c.args.m c.loop-j.j _ c.loop-j.finishes m c.requires.1 c.loop-j-test.true c.command_at-c.result c.command_at-c.ensures c.can_end.result c.can_end.ensures w.if-can_end.false)
    ]
