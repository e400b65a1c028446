use borrow.Author.Rules.{rules}
use Rattle.answers.proofs.answer.run_of.Goals as goal

pub returns : goal.returns
returns c = rw c.of_run-answer.ensures
