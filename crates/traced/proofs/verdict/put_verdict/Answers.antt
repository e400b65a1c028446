use borrow.Author.Rules.{rules}
use native.Mathlib.Omega.{arith}
use Rattle.traced.proofs.Telling.{broken_room, verdict_accepted, verdict_broken}
use Rattle.traced.proofs.verdict.put_verdict.Goals as goal

pub put_broken_line-requires : goal.put_broken_line-requires
put_broken_line-requires c = broken_room _ _ _ _ c.requires (omega arith) (omega arith)

pub returns-in-Accepted : goal.returns-in-Accepted
returns-in-Accepted c = verdict_accepted _ _ _ _ _ c.in-Accepted.is c.put_accepted_line.ensures

pub returns-in-Refused : goal.returns-in-Refused
returns-in-Refused c = verdict_broken _ _ _ _ _ _ _ _ c.in-Refused.is c.rule_number.ensures c.put_broken_line.ensures
