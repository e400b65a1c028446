use borrow.Author.Rules.{rules}
use Rattle.traced.proofs.Telling.{writes, room_size, call_judged, call_refused, call_room, refusal_room}
use Rattle.traced.proofs.trace_call.Goals as goal

pub slice_bounds-commands-end : goal.slice_bounds-commands-end
slice_bounds-commands-end c = room_size _ c.command_buffer-room.ensures

pub put_trace-requires : goal.put_trace-requires
put_trace-requires c = call_room _ _ _ _ _ _ c.command_buffer-room.ensures c.judge_capture-answer.ensures _ _ _ _ c.in-Ok.is c.judge_capture-answer.auto.commands c.requires

pub put_refusal-requires : goal.put_refusal-requires
put_refusal-requires c = refusal_room _ c.requires

pub shape_of-out-in-Ok : goal.shape_of-out-in-Ok
shape_of-out-in-Ok c = c.put_trace.ensures.size

pub returns-in-Ok : goal.returns-in-Ok
returns-in-Ok c = writes _ _ _ _ _ (call_judged _ _ _ _ _ _ c.command_buffer-room.ensures c.judge_capture-answer.ensures _ _ _ c.in-Ok.is) c.put_trace.ensures

pub shape_of-out-in-Err : goal.shape_of-out-in-Err
shape_of-out-in-Err c = c.put_refusal.ensures.size

pub returns-in-Err : goal.returns-in-Err
returns-in-Err c = writes _ _ _ _ _ (call_refused _ _ _ _ _ _ c.command_buffer-room.ensures c.judge_capture-answer.ensures _ c.in-Err.is) c.put_refusal.ensures
