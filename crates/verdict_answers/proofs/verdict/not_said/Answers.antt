use borrow.Author.Rules.{rules}
use Rattle.verdict_answers.proofs.verdict.not_said.Goals as goal

pub returns : goal.returns
returns c = rw c.refused-r.ensures
