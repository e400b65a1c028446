use Rattle.scheduler.proofs.Told.{build_fine, build_refused}
use Rattle.scheduler.proofs.schedules.schedule_by.Goals as goal

pub returns-in-Ok : goal.returns-in-Ok
returns-in-Ok g c = build_fine _ _ _ _ c.check_bytes.ensures c.in-Ok.is _ _ _ _ _ _ c.schedule_fine.ensures

pub returns-in-Err : goal.returns-in-Err
returns-in-Err g c = build_refused _ _ _ _ c.check_bytes.ensures _ c.in-Err.is _ _ _
