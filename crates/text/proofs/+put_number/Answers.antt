use mathlib.Core.Path.{◌∙◌}
use native.Mathlib.Omega.{arith}
use Rattle.text.proofs.Digits.{one_long, one_more_lem}
use Rattle.text.proofs.Putting.{number_one, number_more}
use Rattle.text.proofs.+put_number.Goals as goal

pub digit-requires : goal.digit-requires
digit-requires t c = c.if-n-lt10.true

pub put_byte-requires : goal.put_byte-requires
put_byte-requires t c = omega (arith, one_long c.args.n c.if-n-lt10.true)

pub shape_of-out-then-n-lt10 : goal.shape_of-out-then-n-lt10
shape_of-out-then-n-lt10 t c = c.put_byte.ensures.size

pub returns-then-n-lt10 : goal.returns-then-n-lt10
returns-then-n-lt10 t c = number_one c.args.n _ _ _ _ _ c.if-n-lt10.true c.digit.ensures c.put_byte.ensures

pub put_number-next-requires : goal.put_number-next-requires
put_number-next-requires t c = (omega (arith, c.if-n-lt10.false), omega (arith, one_more_lem c.args.n c.if-n-lt10.false))

pub put_byte-requires-else-n-lt10 : goal.put_byte-requires-else-n-lt10
put_byte-requires-else-n-lt10 t c = omega (arith, one_more_lem c.args.n c.if-n-lt10.false)

pub shape_of-out-else-n-lt10 : goal.shape_of-out-else-n-lt10
shape_of-out-else-n-lt10 t c = c.put_byte-else-n-lt10.ensures.size ∙ c.put_number-next.ensures.size

pub returns-else-n-lt10 : goal.returns-else-n-lt10
returns-else-n-lt10 t c = number_more c.args.n _ _ _ _ _ _ _ c.if-n-lt10.false c.digit-else-n-lt10.ensures c.put_number-next.ensures c.put_byte-else-n-lt10.ensures
