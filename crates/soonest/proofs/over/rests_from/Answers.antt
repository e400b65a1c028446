use native.Mathlib.Omega.{arith}
use mathlib.Core.Path.{◌≡◌, ◌∙◌}
use Rattle.soonest.proofs.Numbers.{most_turn, rests_at, rests_told}
use Rattle.soonest.proofs.over.rests_from.Goals as goal

pub loop-b-preserved : goal.loop-b-preserved
loop-b-preserved c = most_turn (rests_at c.args.t c.args.s) c.loop-b.b c.loop-b.from _ _ c.loop-b.invariant c.rest_from.ensures c.max-from.ensures

pub returns : goal.returns
returns c =
    let z : c.loop-b.b ≡ c.args.t.banks = omega arith in
    rw z at c.loop-b.invariant ∙ rests_told c.args.t c.args.s
