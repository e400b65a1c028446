use borrow.Author.Rules.{rules}
use Rattle.promises.proofs.Laws.{told_held}
use Rattle.promises.proofs.Told.{judge_read, judge_refused}
use Rattle.judgements.proofs.judging.judge.Goals as goal

pub judge_schedule-requires : goal.judge_schedule-requires
judge_schedule-requires c = told_held _ _ _ _ c.admit.ensures c.in-Ok.is

pub returns-in-Ok : goal.returns-in-Ok
returns-in-Ok c = judge_read _ _ _ c.admit.ensures _ c.in-Ok.is _ _ c.judge_schedule.ensures

pub returns-in-Err : goal.returns-in-Err
returns-in-Err c = judge_refused _ _ _ c.admit.ensures _ c.in-Err.is _
