use borrow.Author.Rules.{rules}
use Rattle.verdict_answers.proofs.verdict.served_said.Goals as goal

pub returns-in-Serves : goal.returns-in-Serves
returns-in-Serves c = rw c.in-Serves.is c.serves_told.ensures

pub returns-in-Refused : goal.returns-in-Refused
returns-in-Refused c = rw c.in-Refused.is (rw c.rule_number.ensures at c.serves_told-in-Refused.ensures)

pub returns-in-AtFault : goal.returns-in-AtFault
returns-in-AtFault c = rw c.in-AtFault.is c.serves_told-in-AtFault.ensures
