use borrow.Author.Rules.{rules}
use Rattle.answers.proofs.patterns.shortest_of.Goals as goal

pub overflow_cast-n : goal.overflow_cast-n
overflow_cast-n c = record { fits = rw c.in-Ok.is at c.requires }

pub returns-in-Ok : goal.returns-in-Ok
returns-in-Ok c = rw c.in-Ok.is c.found.ensures

pub returns-in-Err : goal.returns-in-Err
returns-in-Err c = rw (c.in-Err.is, c.refused-r.ensures)
