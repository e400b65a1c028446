use borrow.Author.Rules.{rules}
use Rattle.verdict_answers.proofs.verdict.capture_of.Goals as goal

pub overflow_cast-n : goal.overflow_cast-n
overflow_cast-n c = record { fits = rw c.in-Ok.is at c.requires }

pub returns-in-Ok : goal.returns-in-Ok
returns-in-Ok c = rw c.in-Ok.is c.capture_said.ensures

pub returns-in-Err : goal.returns-in-Err
returns-in-Err c = rw (c.in-Err.is, c.refused-r.ensures)
