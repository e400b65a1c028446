use Rattle.std.proofs.Common.{arith}
use Rattle.pass.proofs.Passing.{few, finds_say}
use Rattle.pass.proofs.schedule.served.Goals as goal

pub overflow_cast-n : goal.overflow_cast-n
overflow_cast-n c = omega (arith, few c.requires.0)

pub returns : goal.returns
returns c = rw c.answer_of.ensures (finds_say c.requires.0 c.args.s.now c.requires.2 c.requires.1 c.pass-f.ensures)
