use native.Mathlib.Omega.{arith}
use mathlib.Core.Path.{sym, ◌∙◌}
use Rattle.capture.proofs.Turn.{writing_start, writing_size, writing_small, writing_tick, writing_room, writing_command, writing_end}
use Rattle.capture.proofs.write.write_commands.Goals as goal

pub loop-i-init : goal.loop-i-init
loop-i-init c = writing_start c.args.s.now c.args.commands.now (λ i. omega (arith, c.type_inv.s i))

pub cycle_after-cycle-requires : goal.cycle_after-cycle-requires
cycle_after-cycle-requires c = c.loop-i.invariant.turn.small

pub loop-i-preserved-then-is_tick : goal.loop-i-preserved-then-is_tick
loop-i-preserved-then-is_tick c = (writing_tick c.loop-i.invariant c.requires.0 c.requires.1 c.loop-i-test.true c.record_at-x.result c.record_at-x.ensures c.cycle_after-cycle.result c.cycle_after-cycle.ensures (sym c.is_tick.ensures ∙ c.if-is_tick.true))

pub command_of-requires : goal.command_of-requires
command_of-requires c = writing_small c.loop-i.invariant c.requires.0 c.requires.1 c.loop-i-test.true c.record_at-x.result c.record_at-x.ensures c.cycle_after-cycle.result c.cycle_after-cycle.ensures

pub overflow_mul-k : goal.overflow_mul-k
overflow_mul-k c = omega (arith, writing_room c.loop-i.invariant c.requires.0 c.requires.1 c.loop-i-test.true c.record_at-x.result c.record_at-x.ensures c.cycle_after-cycle.result c.cycle_after-cycle.ensures (sym c.is_tick.ensures ∙ c.if-is_tick.false), writing_size c.loop-i.invariant c.requires.0 c.requires.1)

pub put_command-requires : goal.put_command-requires
put_command-requires c = writing_room c.loop-i.invariant c.requires.0 c.requires.1 c.loop-i-test.true c.record_at-x.result c.record_at-x.ensures c.cycle_after-cycle.result c.cycle_after-cycle.ensures (sym c.is_tick.ensures ∙ c.if-is_tick.false)

pub overflow_add-k : goal.overflow_add-k
overflow_add-k c = omega (arith, c.loop-i.invariant.turn.few)

pub loop-i-preserved : goal.loop-i-preserved
loop-i-preserved c = (writing_command c.loop-i.invariant c.requires.0 c.requires.1 c.loop-i-test.true c.record_at-x.result c.record_at-x.ensures c.cycle_after-cycle.result c.cycle_after-cycle.ensures (sym c.is_tick.ensures ∙ c.if-is_tick.false) c.command_of.result _ c.command_of.ensures c.put_command.ensures)

pub shape_of-commands : goal.shape_of-commands
shape_of-commands c = writing_size c.loop-i.invariant c.requires.0 c.requires.1

pub returns : goal.returns
returns c = writing_end c.loop-i.invariant c.requires.0 c.requires.1 c.loop-i-test.false
