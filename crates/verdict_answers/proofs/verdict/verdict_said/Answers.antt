use borrow.Author.Rules.{rules}
use Rattle.verdict_answers.proofs.verdict.verdict_said.Goals as goal

pub returns-in-Accepted : goal.returns-in-Accepted
returns-in-Accepted c = rw c.in-Accepted.is c.said.ensures

pub returns-in-Refused : goal.returns-in-Refused
returns-in-Refused c = rw c.in-Refused.is (rw c.rule_number.ensures at c.said-in-Refused.ensures)
