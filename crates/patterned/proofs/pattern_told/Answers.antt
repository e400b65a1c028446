use borrow.Author.Rules.{rules}
use Rattle.text.proofs.Putting.{writes}
use Rattle.patterned.proofs.Telling.{call_found, call_refused, call_room}
use Rattle.patterned.proofs.pattern_told.Goals as goal

pub put_pattern-requires : goal.put_pattern-requires
put_pattern-requires c = call_room _ _ _ _ _ _ _ _ c.shortest_pattern-answer.ensures _ _ _ _ c.in-Ok.is c.shortest_pattern-answer.auto.pattern c.requires

pub returns-in-Ok : goal.returns-in-Ok
returns-in-Ok c = writes _ _ _ _ _ (call_found _ _ _ _ _ _ _ _ c.shortest_pattern-answer.ensures _ _ _ c.in-Ok.is) c.put_pattern.ensures

pub returns-in-Err : goal.returns-in-Err
returns-in-Err c = writes _ _ _ _ _ (call_refused _ _ _ _ _ _ _ _ c.shortest_pattern-answer.ensures _ c.in-Err.is) c.put_refusal.ensures
