use native.Mathlib.Omega.{arith}
use Rattle.printed.proofs.Turns.{schedule_put}
use Rattle.printed.proofs.answer.put_schedule.Goals as goal

pub put_commands-next-requires : goal.put_commands-next-requires
put_commands-next-requires c = (c.requires.0, omega arith)

pub put_finish_lines-requires : goal.put_finish_lines-requires
put_finish_lines-requires c = (c.requires.1, omega (arith, c.put_commands-next.ensures.1))

pub returns : goal.returns
returns c = schedule_put _ _ _ _ _ _ _ _ c.put_commands-next.ensures.0 c.put_finish_lines.ensures.0
