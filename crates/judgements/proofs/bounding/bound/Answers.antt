use borrow.Author.Rules.{rules}
use Rattle.promises.proofs.Told.{bound_read, bound_refused}
use Rattle.judgements.proofs.bounding.bound.Goals as goal

pub returns-in-Ok : goal.returns-in-Ok
returns-in-Ok c = bound_read _ _ _ c.admit.ensures _ c.in-Ok.is _ _ _ c.tell_bound.ensures

pub returns-in-Err : goal.returns-in-Err
returns-in-Err c = bound_refused _ _ _ c.admit.ensures _ c.in-Err.is _ _
