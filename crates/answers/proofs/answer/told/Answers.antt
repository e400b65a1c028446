use borrow.Author.Rules.{rules}
use Rattle.answers.proofs.answer.told.Goals as goal

pub returns : goal.returns
returns c = rw c.from_16.ensures
