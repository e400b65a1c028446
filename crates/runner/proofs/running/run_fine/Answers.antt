use native.Mathlib.Omega.{arith}
use lib.ListN.{length-take}
use Rattle.admission.proofs.Laws.{fine_listed, few_plain, wide_room, wide_list, wide_listed}
use Rattle.runner.proofs.Told.{same_ran}
use Rattle.runner.proofs.running.run_fine.Goals as goal

pub run_controller-requires : goal.run_controller-requires
run_controller-requires g c = fine_listed _ _ _ c.requires c.if-later.true

pub widen-bytes-requires : goal.widen-bytes-requires
widen-bytes-requires g c = (omega arith, few_plain _ _ _ c.requires c.if-later.false)

pub slice_bounds-bytes-end : goal.slice_bounds-bytes-end
slice_bounds-bytes-end g c = omega (arith, few_plain c.args.t c.args.later c.args.list.now c.requires c.if-later.false)

pub slice_bounds-run_controller-end : goal.slice_bounds-run_controller-end
slice_bounds-run_controller-end g c = rw length-take (omega (arith, wide_room c.args.t c.args.later c.args.list.now c.requires c.if-later.false c.widen-bytes.result c.widen-bytes.ensures))

pub run_controller-requires-2 : goal.run_controller-requires-2
run_controller-requires-2 g c = wide_listed _ _ _ c.requires c.if-later.false _ c.widen-bytes.ensures

pub returns : goal.returns
returns g c = same_ran _ _ _ _ (wide_list _ _ _ c.requires c.if-later.false _ c.widen-bytes.ensures) _ _ _ _ c.run_controller-2.ensures
