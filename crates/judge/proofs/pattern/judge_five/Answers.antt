use native.Mathlib.Omega.{arith}
use mathlib.Core.Path.{sym}
use Rattle.timing.proofs.Telling.{told_fresh}
use Rattle.judge.proofs.FiveCopies.{round_start, round_stops, round_next}
use Rattle.judge.proofs.pattern.judge_five.Goals as goal

pub loop-k-init : goal.loop-k-init
loop-k-init c = rw (c.new-grouping.ensures, c.kept_fresh-state.ensures, told_fresh c.args.t) (round_start c.args.t c.args.length c.args.s.now)

pub returns-in-Refused : goal.returns-in-Refused
returns-in-Refused c =
    rw (sym c.new-grouping.ensures) (round_stops c.loop-k.invariant (omega (arith, c.loop-k-test.true)) _ c.judge_copy-copied.ensures.verdict _ _ c.in-Refused.is)

pub loop-k-preserved : goal.loop-k-preserved
loop-k-preserved c =
    round_next c.loop-k.invariant (omega (arith, c.loop-k-test.true)) _ c.judge_copy-copied.ensures.verdict _ c.in-Accepted.is c.judge_copy-copied.ensures.state
