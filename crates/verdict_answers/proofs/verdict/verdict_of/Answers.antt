use borrow.Author.Rules.{rules}
use Rattle.verdict_answers.proofs.verdict.verdict_of.Goals as goal

pub returns-in-Ok : goal.returns-in-Ok
returns-in-Ok c = rw c.in-Ok.is c.verdict_said.ensures

pub returns-in-Err : goal.returns-in-Err
returns-in-Err c = rw c.in-Err.is c.not_said.ensures
