use borrow.Author.Rules.{rules}
use Rattle.promises.proofs.Told.{start_read, start_refused}
use Rattle.desk.proofs.running.start.Goals as goal

pub returns-in-Ok : goal.returns-in-Ok
returns-in-Ok c = start_read _ _ _ c.admit.ensures _ c.in-Ok.is _ c.start_of-controller.ensures

pub returns-in-Err : goal.returns-in-Err
returns-in-Err c = start_refused _ _ _ c.admit.ensures _ c.in-Err.is _ _ c.table_of.ensures c.start_of-controller-in-Err.ensures
