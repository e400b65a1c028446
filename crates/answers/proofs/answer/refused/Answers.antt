use borrow.Author.Rules.{rules}
use Rattle.answers.proofs.answer.refused.Goals as goal

pub returns : goal.returns
returns c = rw (c.from_8.ensures, c.from_16.ensures)
