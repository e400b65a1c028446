use native.Mathlib.Omega.{arith}
use Rattle.lines.proofs.Long.{refused_most}
use Rattle.printed.proofs.answer.put_refusal.Goals as goal

pub put_refused_line-requires : goal.put_refused_line-requires
put_refused_line-requires c = omega (arith, refused_most c.args.x (omega arith) (omega arith) (omega arith))
