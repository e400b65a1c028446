use native.Mathlib.Omega.{arith}
use Rattle.lines.proofs.Long.{first_most}
use Rattle.printed.proofs.Turns.{commands_put}
use Rattle.printed.proofs.answer.put_commands.Goals as goal

pub put_first_line-next-requires : goal.put_first_line-next-requires
put_first_line-next-requires c = omega (arith, first_most c.args.edition c.args.written (omega arith) (omega arith))

pub put_command_lines-requires : goal.put_command_lines-requires
put_command_lines-requires c = (c.requires.0, omega (arith, c.put_first_line-next.ensures.place, first_most c.args.edition c.args.written (omega arith) (omega arith)))

pub returns : goal.returns
returns c = (commands_put _ _ _ _ _ _ _ _ c.put_first_line-next.ensures c.put_command_lines.ensures.0, omega (arith, c.put_command_lines.ensures.1, c.put_first_line-next.ensures.place, first_most c.args.edition c.args.written (omega arith) (omega arith)))
