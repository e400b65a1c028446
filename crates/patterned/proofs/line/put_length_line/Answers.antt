use borrow.Author.Rules.{rules}
use native.Mathlib.Omega.{arith}
use Rattle.text.proofs.Putting.{puts_then}
use Rattle.patterned.specs.Pattern.{length_line}
use Rattle.patterned.proofs.Telling.{length_long}
use Rattle.patterned.proofs.line.put_length_line.Goals as goal

pub put_word-a-requires : goal.put_word-a-requires
put_word-a-requires c = omega (arith, length_long c.args.edition c.args.least c.args.commands)

pub put_number-b-requires : goal.put_number-b-requires
put_number-b-requires c = omega (arith, length_long c.args.edition c.args.least c.args.commands)

pub put_word-c-requires : goal.put_word-c-requires
put_word-c-requires c = omega (arith, length_long c.args.edition c.args.least c.args.commands)

pub put_number-d-requires : goal.put_number-d-requires
put_number-d-requires c = omega (arith, length_long c.args.edition c.args.least c.args.commands)

pub put_word-e-requires : goal.put_word-e-requires
put_word-e-requires c = omega (arith, length_long c.args.edition c.args.least c.args.commands)

pub put_number_then-requires : goal.put_number_then-requires
put_number_then-requires c = omega (arith, length_long c.args.edition c.args.least c.args.commands)

pub returns : goal.returns
unfolding length_line
returns c = puts_then (puts_then (puts_then (puts_then (puts_then c.put_word-a.ensures c.put_number-b.ensures) c.put_word-c.ensures) c.put_number-d.ensures) c.put_word-e.ensures) c.put_number_then.ensures
