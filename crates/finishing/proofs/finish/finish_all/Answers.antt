use native.Mathlib.Omega.{arith}
use Rattle.finishing.proofs.Finishing.{not_yet, as_marked, one_finished}
use Rattle.finishing.proofs.finish.finish_all.Goals as goal

pub loop-k-init : goal.loop-k-init
loop-k-init c = not_yet _ _ _

pub finish_of-requires : goal.finish_of-requires
finish_of-requires c = omega (arith, as_marked _ _ c.loop-k.k _ c.loop-k.finishes c.loop-k.invariant (omega (arith, c.loop-k-test.true, c.loop-k.invariant.size, c.requires.1)), c.requires.2 c.loop-k.k c.loop-k-test.true)

pub loop-k-preserved : goal.loop-k-preserved
loop-k-preserved c = one_finished c.args.t _ c.loop-k.k _ c.loop-k.finishes c.loop-k.invariant (omega (arith, c.loop-k-test.true, c.loop-k.invariant.size, c.requires.1)) c.later_at-x.result c.later_at-x.ensures c.finish_of.result c.finish_of.ensures
