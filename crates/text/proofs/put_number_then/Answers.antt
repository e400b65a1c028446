use mathlib.Core.Path.{◌∙◌}
use native.Mathlib.Omega.{arith}
use Rattle.text.proofs.Digits.{then_long}
use Rattle.text.proofs.Putting.{puts_then}
use Rattle.text.proofs.put_number_then.Goals as goal

pub put_number-next-requires : goal.put_number-next-requires
put_number-next-requires c = omega (arith, then_long c.args.n c.args.end)

pub put_byte-requires : goal.put_byte-requires
put_byte-requires c = omega (arith, then_long c.args.n c.args.end)

pub shape_of-out : goal.shape_of-out
shape_of-out c = c.put_byte.ensures.size ∙ c.put_number-next.ensures.size

pub returns : goal.returns
returns c = puts_then c.put_number-next.ensures c.put_byte.ensures
