use native.Mathlib.Omega.{arith}
use Prim.Native.Nat.{◌+◌}
use mathlib.Core.Path.{sym, ap, ◌∙◌}
use mathlib.Core.Bool.{Bool}
use Rattle.records.specs.Tests.{pick}
use Rattle.capture.proofs.Turn.{turn_start, turn_stops, turn_counted, turn_end_number, turn_end_count}
use Rattle.capture.proofs.scan.scan.Goals as goal

pub loop-i-init : goal.loop-i-init
loop-i-init c = turn_start c.args.s.now (λ i. omega (arith, c.type_inv.s i))

pub cycle_after-c-requires : goal.cycle_after-c-requires
cycle_after-c-requires c = c.loop-i.invariant.small

pub returns-then-is_bad : goal.returns-then-is_bad
returns-then-is_bad c =
    record {
      place = turn_stops c.loop-i.invariant c.loop-i-test.true c.record_at-x.result c.record_at-x.ensures c.cycle_after-c.result c.cycle_after-c.ensures (sym c.is_bad.ensures ∙ c.if-is_bad.true);
      commands = λ e. absurd (omega (arith, c.loop-i-test.true));
      few = omega (arith, c.loop-i.invariant.few, c.loop-i.invariant.low);
    }

pub counted-count-requires : goal.counted-count-requires
counted-count-requires c = omega (arith, c.loop-i.invariant.few)

pub loop-i-preserved : goal.loop-i-preserved
loop-i-preserved c = (turn_counted c.loop-i.invariant c.loop-i-test.true c.record_at-x.result c.record_at-x.ensures c.cycle_after-c.result c.cycle_after-c.ensures (sym c.is_bad.ensures ∙ c.if-is_bad.false) c.counted-count.result (c.counted-count.ensures ∙ ap (λ (b : Bool). pick b c.loop-i.count (c.loop-i.count + 1)) c.is_tick.ensures))

pub returns : goal.returns
returns c =
    record {
      place = turn_end_number c.loop-i.invariant c.loop-i-test.false;
      commands = λ e. turn_end_count c.loop-i.invariant c.loop-i-test.false;
      few = omega (arith, c.loop-i.invariant.few, c.loop-i.invariant.low);
    }
