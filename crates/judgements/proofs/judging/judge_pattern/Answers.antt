use borrow.Author.Rules.{rules}
use Rattle.promises.proofs.Laws.{told_held}
use Rattle.promises.proofs.Told.{pattern_read, pattern_refused}
use Rattle.judgements.proofs.judging.judge_pattern.Goals as goal

pub judge_pattern-requires : goal.judge_pattern-requires
judge_pattern-requires c = told_held _ _ _ _ c.admit.ensures c.in-Ok.is

pub returns-in-Ok : goal.returns-in-Ok
returns-in-Ok c = pattern_read _ _ _ c.admit.ensures _ c.in-Ok.is _ _ _ c.judge_pattern.ensures

pub returns-in-Err : goal.returns-in-Err
returns-in-Err c = pattern_refused _ _ _ c.admit.ensures _ c.in-Err.is _ _
