use Rattle.std.proofs.Common.{rules}
use Rattle.std.proofs.lemmas.Grind.{common_steps}
use native.Mathlib.Omega.{arith}
use Rattle.timing.specs.Kept.{told}
use Rattle.refusals.proofs.refused.is_sound.Goals as goal

pub returns-then-gone : goal.returns-then-gone
unfolding told
returns-then-gone c = search rules

pub returns-else-gone : goal.returns-else-gone
unfolding told
returns-else-gone c = grind (arith, common_steps)
