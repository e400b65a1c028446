use borrow.Author.Rules.{rules}
use Rattle.promises.proofs.Laws.{told_held}
use Rattle.promises.proofs.Told.{capture_read_lem, capture_refused}
use Rattle.judgements.proofs.tracing.judge_capture.Goals as goal

pub judge_capture-requires : goal.judge_capture-requires
judge_capture-requires c = told_held _ _ _ _ c.admit.ensures c.in-Ok.is

pub returns-in-Ok : goal.returns-in-Ok
returns-in-Ok c = capture_read_lem _ _ _ c.admit.ensures _ c.in-Ok.is _ _ _ _ c.judge_capture.ensures

pub returns-in-Err : goal.returns-in-Err
returns-in-Err c = capture_refused _ _ _ c.admit.ensures _ c.in-Err.is _ _
