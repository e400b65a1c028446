use Rattle.runner.proofs.Told.{ran_fine, ran_refused}
use Rattle.runner.proofs.running.run_by.Goals as goal

pub returns-in-Ok : goal.returns-in-Ok
returns-in-Ok g c = ran_fine _ _ _ _ c.check_bytes.ensures c.in-Ok.is _ _ _ _ _ _ c.run_fine.ensures

pub returns-in-Err : goal.returns-in-Err
returns-in-Err g c = ran_refused _ _ _ _ c.check_bytes.ensures _ c.in-Err.is _ _ _ _
