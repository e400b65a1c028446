use Rattle.records.specs.declared.table.Table.{Table}
use Rattle.lists.specs.Check.{check_bytes}
use Rattle.admission.proofs.Laws.{told_accepted}
use Rattle.scheduler.proofs.Told.{schedule_read, schedule_refused}
use Rattle.scheduler.proofs.schedules.schedule_records.Goals as goal

pub schedule_by-requires : goal.schedule_by-requires
schedule_by-requires g c = told_accepted _ _ _ _ c.admit.ensures c.in-Ok.is

pub returns-in-Ok : goal.returns-in-Ok
returns-in-Ok g c = schedule_read _ _ _ c.admit.ensures _ c.in-Ok.is (λ (τ : Table). check_bytes c.args.later τ c.args.list.now) _ _ _ _ _ _ c.schedule_by.ensures

pub returns-in-Err : goal.returns-in-Err
returns-in-Err g c = schedule_refused _ _ _ c.admit.ensures _ c.in-Err.is (λ (τ : Table). check_bytes c.args.later τ c.args.list.now) _ _ _
