use Rattle.std.proofs.Common.{◌≡◌, arith, length, ◌/◌, refl}
use Rattle.pass.proofs.Noted.{noted_start}
use Rattle.pass.proofs.Seen.{seen_none}
use Rattle.pass.proofs.Passing.{most, few, kind_small, bank_small, counted_few, turn_out, turn_in, least_small, pass_end}
use Rattle.pass.proofs.pass.pass.Goals as goal

pub loop-j-init : goal.loop-j-init
loop-j-init c = rw (seen_none c.args.s.now) (noted_start _ _ _ (few c.requires.0))

pub loop-j-preserved : goal.loop-j-preserved
loop-j-preserved c =
    turn_in c.requires.0 c.args.s.now c.requires.2 c.loop-j-test.true c.loop-j.invariant refl c.num_at-y.ensures c.number_if.ensures c.if-n-k.false c.slot_of-i.ensures.0 c.slot_of-i.ensures.1
    c.later_at-x.ensures c.marks_after-marks.ensures c.lower_if.ensures

pub loop-j-preserved-then-n-k : goal.loop-j-preserved-then-n-k
loop-j-preserved-then-n-k c = turn_out c.requires.0 c.args.s.now c.requires.2 c.loop-j-test.true c.loop-j.invariant refl c.num_at-y.ensures c.number_if.ensures c.if-n-k.true

pub scan-lowest-requires : goal.scan-lowest-requires
scan-lowest-requires c =
    let e : c.loop-j.j ≡ length c.args.s.now / 8 = omega arith in
    let h = least_small c.requires.0 c.args.s.now c.requires.2 e c.loop-j.invariant in
    (most c.requires.0, omega (arith, h, c.requires.0.bytes), omega (arith, h, few c.requires.0))

pub returns : goal.returns
returns c =
    let e : c.loop-j.j ≡ length c.args.s.now / 8 = omega arith in
    pass_end c.requires.0 c.args.s.now c.requires.2 e c.loop-j.invariant c.scan-lowest.ensures

pub overflow_cast-marks : goal.overflow_cast-marks
overflow_cast-marks c = omega (arith, few c.requires.0)

pub bounds-acts-at : goal.bounds-acts-at
bounds-acts-at c = bank_small c.requires.0 c.args.s.now c.requires.2 c.loop-j-test.true

pub bounds-acts-at-in-loop-j : goal.bounds-acts-at-in-loop-j
bounds-acts-at-in-loop-j c = bank_small c.requires.0 c.args.s.now c.requires.2 c.loop-j-test.true

pub slot_of-i-requires : goal.slot_of-i-requires
slot_of-i-requires c = (omega (arith, few c.requires.0), kind_small c.requires.0 c.args.s.now c.requires.2 c.loop-j-test.true, bank_small c.requires.0 c.args.s.now c.requires.2 c.loop-j-test.true)

pub overflow_add-counts : goal.overflow_add-counts
overflow_add-counts c = omega (arith, counted_few c.requires.0 c.args.s.now c.requires.2 c.loop-j-test.true c.loop-j.invariant c.slot_of-i.result c.slot_of-i.ensures.1)
