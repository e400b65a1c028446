use native.Mathlib.Omega.{arith}
use lib.ListN.{length-take}
use Rattle.admission.proofs.Laws.{fine_listed, few_plain, wide_room, wide_list, wide_listed}
use Rattle.scheduler.proofs.schedules.schedule_fine.Goals as goal

pub schedule_packed-requires : goal.schedule_packed-requires
schedule_packed-requires g c = fine_listed _ _ _ c.requires c.if-later.true

pub widen-bytes-requires : goal.widen-bytes-requires
widen-bytes-requires g c = (omega arith, few_plain _ _ _ c.requires c.if-later.false)

pub slice_bounds-bytes-end : goal.slice_bounds-bytes-end
slice_bounds-bytes-end g c = omega (arith, few_plain c.args.t c.args.later c.args.list.now c.requires c.if-later.false)

pub slice_bounds-schedule_packed-end : goal.slice_bounds-schedule_packed-end
slice_bounds-schedule_packed-end g c = rw length-take (omega (arith, wide_room c.args.t c.args.later c.args.list.now c.requires c.if-later.false c.widen-bytes.result c.widen-bytes.ensures))

pub schedule_packed-requires-2 : goal.schedule_packed-requires-2
schedule_packed-requires-2 g c = wide_listed _ _ _ c.requires c.if-later.false _ c.widen-bytes.ensures

pub returns : goal.returns
returns g c = rw (← wide_list c.args.t c.args.later c.args.list.now c.requires c.if-later.false c.widen-bytes.result c.widen-bytes.ensures) c.schedule_packed-2.ensures
