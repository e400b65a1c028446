use native.Mathlib.Omega.{arith}
use Rattle.heads.proofs.Laws.{few}
use Rattle.jump.proofs.run.run.Goals as goal

pub run_marked-requires : goal.run_marked-requires
run_marked-requires c = (c.requires.0, c.requires.1, omega (arith, few c.requires.0.list))

pub returns : goal.returns
returns c = c.run_marked.ensures.0
