use native.Mathlib.Omega.{arith}
use mathlib.Core.Path.{◌≡◌}
use lib.ListN.{length, length-take}
use Rattle.records.specs.declared.table.Table.{Table}
use Rattle.lists.specs.Check.{check_list}
use Rattle.lists.specs.Packed.{held}
use Rattle.service.proofs.Told.{held_serves, held_not_told}
use Rattle.service.proofs.serving.serves_held.Goals as goal

pub slice_bounds-serves_by-end : goal.slice_bounds-serves_by-end
slice_bounds-serves_by-end c =
    let full : length c.args.bytes ≡ 2048 = c.well_formed.1.0.1.0.1 in
    rw length-take (omega (arith, full, c.requires.few))

pub serves_by-requires : goal.serves_by-requires
serves_by-requires c = c.requires.accepted _ c.in-Ok.is

pub returns-in-Ok : goal.returns-in-Ok
returns-in-Ok c =
    let full : length c.args.bytes ≡ 2048 = c.well_formed.1.0.1.0.1 in
    held_serves c.args.w.n c.args.bytes (omega (arith, full, c.requires.few)) c.args.w.table _ c.in-Ok.is
    _ _ c.serves_by.ensures

pub returns-in-Err : goal.returns-in-Err
returns-in-Err c = held_not_told (λ (τ : Table). check_list τ (held c.args.w.n c.args.bytes)) c.args.w.table _ c.in-Err.is _ _
