use native.Mathlib.Omega.{arith}
use lib.ListN.{get_or}
use Rattle.text.proofs.Putting.{puts_nothing}
use Rattle.lines.specs.Lines.{finish_lines}
use Rattle.lines.proofs.Long.{finish_most}
use Rattle.printed.proofs.Turns.{finish_turn, finish_end}
use Rattle.printed.proofs.many.put_finish_lines.Goals as goal

pub loop-i-init : goal.loop-i-init
unfolding finish_lines
loop-i-init c = (omega arith, puts_nothing c.args.at c.args.out.now (omega arith))

pub put_finish_line-next-requires : goal.put_finish_line-next-requires
put_finish_line-next-requires c = omega (arith, finish_most c.loop-i.i (get_or c.args.s.now c.loop-i.i 0) (omega arith) (c.type_inv.s c.loop-i.i).fits)

pub loop-i-preserved : goal.loop-i-preserved
loop-i-preserved c = (
  omega (arith, c.put_finish_line-next.ensures.place, finish_most c.loop-i.i (get_or c.args.s.now c.loop-i.i 0) (omega arith) (c.type_inv.s c.loop-i.i).fits),
  finish_turn c.args.s.now c.loop-i.i _ _ _ _ _ _ (omega arith) c.loop-i.invariant.1 c.put_finish_line-next.ensures,
)

pub shape_of-out : goal.shape_of-out
shape_of-out c = c.loop-i.invariant.1.size

pub returns : goal.returns
returns c = finish_end c.args.s.now c.loop-i.i _ _ _ _ _ (omega arith) c.loop-i.invariant.0 c.loop-i.invariant.1
