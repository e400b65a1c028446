use borrow.Author.Rules.{rules}
use Rattle.text.proofs.Putting.{writes}
use Rattle.listed.proofs.Telling.{call_built, call_refused, call_room}
use Rattle.listed.proofs.list_call.Goals as goal

pub put_schedule-requires : goal.put_schedule-requires
put_schedule-requires c = call_room _ _ _ _ _ _ c.schedule_straight_bytes-answer.ensures _ _ _ c.in-Ok.is c.schedule_straight_bytes-answer.auto.commands c.schedule_straight_bytes-answer.auto.finishes c.requires

pub returns-in-Ok : goal.returns-in-Ok
returns-in-Ok c = writes _ _ _ _ _ (call_built _ _ _ _ _ _ c.schedule_straight_bytes-answer.ensures _ _ c.in-Ok.is) c.put_schedule.ensures

pub returns-in-Err : goal.returns-in-Err
returns-in-Err c = writes _ _ _ _ _ (call_refused _ _ _ _ _ _ c.schedule_straight_bytes-answer.ensures _ c.in-Err.is) c.put_refusal.ensures
