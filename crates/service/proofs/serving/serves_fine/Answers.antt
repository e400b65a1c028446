use native.Mathlib.Omega.{arith}
use lib.ListN.{length-take}
use Rattle.admission.proofs.Laws.{fine_listed, few_plain, wide_room, wide_list, wide_listed}
use Rattle.service.proofs.serving.serves_fine.Goals as goal

pub serves_packed-requires : goal.serves_packed-requires
serves_packed-requires c = fine_listed _ _ _ c.requires c.if-later.true

pub returns-then-later : goal.returns-then-later
returns-then-later c = rw c.if-later.true c.serves_packed.ensures

pub widen-bytes-requires : goal.widen-bytes-requires
widen-bytes-requires c = (omega arith, few_plain _ _ _ c.requires c.if-later.false)

pub slice_bounds-bytes-end : goal.slice_bounds-bytes-end
slice_bounds-bytes-end c = omega (arith, few_plain c.args.t c.args.later c.args.list.now c.requires c.if-later.false)

pub slice_bounds-serves_packed-end : goal.slice_bounds-serves_packed-end
slice_bounds-serves_packed-end c = rw length-take (omega (arith, wide_room c.args.t c.args.later c.args.list.now c.requires c.if-later.false c.widen-bytes.result c.widen-bytes.ensures))

pub serves_packed-requires-else-later : goal.serves_packed-requires-else-later
serves_packed-requires-else-later c = wide_listed _ _ _ c.requires c.if-later.false _ c.widen-bytes.ensures

pub returns-else-later : goal.returns-else-later
returns-else-later c = rw (← wide_list c.args.t c.args.later c.args.list.now c.requires c.if-later.false c.widen-bytes.result c.widen-bytes.ensures) c.serves_packed-else-later.ensures
