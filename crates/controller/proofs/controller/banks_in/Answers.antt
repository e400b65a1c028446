use mathlib.Core.Path.{refl}
use Rattle.sound.proofs.Laws.{fill_start, fill_end}
use Rattle.timing.specs.Kept.{told_bank}
use Rattle.controller.specs.Controller.{bank_tells}
use Rattle.controller.proofs.Numbers.{zeros, in_turn}
use Rattle.controller.proofs.controller.banks_in.Goals as goal

pub loop-i-init : goal.loop-i-init
loop-i-init c = fill_start 16 _ _ _ _ refl

pub loop-i-preserved : goal.loop-i-preserved
loop-i-preserved c = in_turn 16 told_bank bank_tells zeros _ c.loop-i.kept _ c.from.result c.loop-i.invariant c.loop-i-test.true c.from.ensures

pub returns : goal.returns
returns c = fill_end 16 _ _ _ _ _ c.loop-i.invariant c.loop-i-test.false c.well_formed.0.1.0.1
