use borrow.Author.Rules.{rules}
use Rattle.answers.proofs.answer.start_of.Goals as goal

pub returns : goal.returns
returns c = rw c.of_start-answer.ensures
