use native.Mathlib.Omega.{arith}
use mathlib.Core.Path.{◌≡◌, refl}
use lib.ListN.{get_or}
use Rattle.timing.specs.Kept.{quiet_kept}
use Rattle.soonest.proofs.Numbers.{most_turn}
use Rattle.soonest.proofs.over.latest_of.Goals as goal

pub loop-g-preserved : goal.loop-g-preserved
loop-g-preserved c = (
  most_turn (λ i. (get_or c.args.groups i quiet_kept).act) c.loop-g.g c.loop-g.act _ _ c.loop-g.invariant.0 refl c.max-act.ensures,
  most_turn (λ i. (get_or c.args.groups i quiet_kept).rd) c.loop-g.g c.loop-g.rd _ _ c.loop-g.invariant.1 refl c.max-rd.ensures,
  most_turn (λ i. (get_or c.args.groups i quiet_kept).wr) c.loop-g.g c.loop-g.wr _ _ c.loop-g.invariant.2 refl c.max-wr.ensures,
)

pub returns : goal.returns
returns c = let z : c.loop-g.g ≡ c.args.n = omega arith in rw (c.loop-g.invariant.0, c.loop-g.invariant.1, c.loop-g.invariant.2, z)
