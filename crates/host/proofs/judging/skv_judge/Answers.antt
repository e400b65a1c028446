use borrow.Author.Rules.{rules}
use Rattle.host.proofs.judging.skv_judge.Goals as goal

pub returns : goal.returns
returns c = rw c.judge.ensures at c.verdict_of.ensures
