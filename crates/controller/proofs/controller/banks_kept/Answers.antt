use native.Mathlib.Omega.{arith}
use mathlib.Core.Path.{refl, ◌∙◌}
use lib.ListN.{length-map}
use Rattle.sound.proofs.Laws.{fill_start, fill_end}
use Rattle.timing.specs.Kept.{told_bank, shut_kept}
use Rattle.controller.specs.Controller.{bank_kept}
use Rattle.controller.proofs.Numbers.{held_turn}
use Rattle.controller.proofs.controller.banks_kept.Goals as goal

pub loop-k-init : goal.loop-k-init
loop-k-init c = fill_start 16 _ _ _ _ refl

pub loop-k-preserved : goal.loop-k-preserved
loop-k-preserved c = held_turn 16 told_bank bank_kept shut_kept c.args.ks _ _ _ c.loop-k.invariant (omega (arith, c.loop-k-test.true)) c.from.ensures

pub returns : goal.returns
returns c = fill_end 16 _ _ _ _ _ c.loop-k.invariant c.loop-k-test.false (length-map c.args.ks told_bank ∙ c.well_formed.0.1.0.1)
