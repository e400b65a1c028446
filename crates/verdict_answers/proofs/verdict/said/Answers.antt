use borrow.Author.Rules.{rules}
use Rattle.verdict_answers.proofs.verdict.said.Goals as goal

pub returns : goal.returns
returns c = rw c.from_16.ensures
