use native.Mathlib.Omega.{arith}
use mathlib.Core.Path.{refl, ◌∙◌}
use lib.ListN.{length-map}
use Rattle.sound.proofs.Laws.{fill_start, fill_end}
use Rattle.timing.specs.Kept.{told_group, quiet_kept}
use Rattle.controller.specs.Controller.{group_kept}
use Rattle.controller.proofs.Numbers.{held_turn}
use Rattle.controller.proofs.controller.groups_kept.Goals as goal

pub loop-k-init : goal.loop-k-init
loop-k-init c = fill_start 8 _ _ _ _ refl

pub loop-k-preserved : goal.loop-k-preserved
loop-k-preserved c = held_turn 8 told_group group_kept quiet_kept c.args.gs _ _ _ c.loop-k.invariant (omega (arith, c.loop-k-test.true)) c.from.ensures

pub returns : goal.returns
returns c = fill_end 8 _ _ _ _ _ c.loop-k.invariant c.loop-k-test.false (length-map c.args.gs told_group ∙ c.well_formed.0.1.0.1)
