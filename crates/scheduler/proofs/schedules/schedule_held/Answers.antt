use native.Mathlib.Omega.{arith}
use mathlib.Core.Path.{◌≡◌}
use lib.ListN.{length}
use Rattle.records.specs.declared.table.Table.{Table}
use Rattle.lists.specs.Check.{check_list}
use Rattle.lists.specs.Packed.{held}
use Rattle.scheduler.proofs.Told.{held_built, held_not_built}
use Rattle.scheduler.proofs.schedules.schedule_held.Goals as goal

pub returns-in-Ok : goal.returns-in-Ok
returns-in-Ok g c =
    let full : length c.args.bytes ≡ 2048 = c.well_formed.1.0.1.0.1 in
    held_built c.args.w.n c.args.bytes (omega (arith, full, c.requires.few)) c.args.w.table _ c.in-Ok.is
    _ _ _ _ _ c.schedule_by.ensures

pub returns-in-Err : goal.returns-in-Err
returns-in-Err g c = held_not_built (λ (τ : Table). check_list τ (held c.args.w.n c.args.bytes)) c.args.w.table _ c.in-Err.is _ _ _
