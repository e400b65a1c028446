use borrow.Author.Rules.{rules}
use Rattle.verdict_answers.proofs.verdict.capture_said.Goals as goal

pub returns : goal.returns
returns c = rw c.verdict_said-a.ensures
