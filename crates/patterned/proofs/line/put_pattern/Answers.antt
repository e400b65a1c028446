use borrow.Author.Rules.{rules}
use native.Mathlib.Omega.{arith}
use Rattle.patterned.proofs.Telling.{length_most, pattern_put}
use Rattle.patterned.proofs.line.put_pattern.Goals as goal

pub put_length_line-next-requires : goal.put_length_line-next-requires
put_length_line-next-requires c = omega (arith, length_most c.args.edition c.args.least c.args.written (omega arith) (omega arith) (omega arith))

pub put_command_lines-requires : goal.put_command_lines-requires
put_command_lines-requires c = (c.requires.0, omega (arith, c.put_length_line-next.ensures.place, length_most c.args.edition c.args.least c.args.written (omega arith) (omega arith) (omega arith)))

pub returns : goal.returns
returns c = pattern_put _ _ _ _ _ _ _ _ _ c.put_length_line-next.ensures c.put_command_lines.ensures.0
