use borrow.Author.Rules.{rules}
use native.Mathlib.Omega.{arith}
use lib.ListN.{length-take}
use Rattle.traced.proofs.Telling.{behind_short, behind_long}
use Rattle.traced.proofs.trace_behind.Goals as goal

pub returns-then-s-lt32 : goal.returns-then-s-lt32
returns-then-s-lt32 c = behind_short _ c.args.s.now _ _ _ c.if-s-lt32.true c.trace_call.ensures

pub slice_bounds-trace_call-end-2 : goal.slice_bounds-trace_call-end-2
slice_bounds-trace_call-end-2 c = omega (arith, length-take 32 c.args.s.now)

pub returns : goal.returns
returns c = behind_long _ c.args.s.now _ _ _ c.trace_call-2.ensures
