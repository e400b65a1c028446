use Rattle.records.specs.declared.table.Table.{Table}
use Rattle.lists.specs.Check.{check_bytes}
use Rattle.admission.proofs.Laws.{told_accepted}
use Rattle.runner.proofs.Told.{run_read, run_refused}
use Rattle.runner.proofs.running.run_records.Goals as goal

pub run_by-requires : goal.run_by-requires
run_by-requires g c = told_accepted _ _ _ _ c.admit.ensures c.in-Ok.is

pub returns-in-Ok : goal.returns-in-Ok
returns-in-Ok g c = run_read _ _ _ c.admit.ensures _ c.in-Ok.is (λ (τ : Table). check_bytes c.args.later τ c.args.list.now) _ _ _ _ _ _ c.run_by.ensures

pub returns-in-Err : goal.returns-in-Err
returns-in-Err g c = run_refused _ _ _ c.admit.ensures _ c.in-Err.is (λ (τ : Table). check_bytes c.args.later τ c.args.list.now) _ _ _ _
