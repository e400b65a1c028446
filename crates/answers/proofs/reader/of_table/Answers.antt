use borrow.Author.Rules.{rules}
use Rattle.answers.proofs.reader.of_table.Goals as goal

pub returns-in-Ok : goal.returns-in-Ok
returns-in-Ok c = rw (c.in-Ok.is, c.numbers_of-numbers.ensures, c.from_16.ensures)

pub returns-in-Err : goal.returns-in-Err
returns-in-Err c = rw (c.in-Err.is, c.refused-r.ensures)
