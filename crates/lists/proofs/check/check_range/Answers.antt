use Rattle.std.specs.Prelude.{Err}
use Rattle.std.proofs.Common.{◌∙◌, ap, arith}
use Rattle.lists.proofs.Checks.{left_fits, left_out, left_none}
use Rattle.lists.proofs.check.check_range.Goals as goal

pub loop-k-preserved : goal.loop-k-preserved
loop-k-preserved c =
    left_fits c.args.t c.args.later c.args.s.now c.loop-k.arrived c.loop-k.k c.kth-x.result (omega arith) c.kth-x.ensures (cc) ∙ c.loop-k.invariant

pub returns-then-not-fits_after : goal.returns-then-not-fits_after
returns-then-not-fits_after c =
    ap Err c.refuse.ensures
    ∙ left_out c.args.t c.args.later c.args.s.now c.loop-k.arrived c.loop-k.k c.kth-x.result (omega arith) c.kth-x.ensures (cc)
    ∙ c.loop-k.invariant

pub returns : goal.returns
returns c = left_none c.args.t c.args.later c.args.s.now c.loop-k.arrived c.loop-k.k (omega arith) ∙ c.loop-k.invariant
