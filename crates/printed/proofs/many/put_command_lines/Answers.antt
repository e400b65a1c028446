use native.Mathlib.Omega.{arith}
use Prim.Native.Nat.{◌*◌}
use mathlib.Core.Path.{ap}
use lib.ListN.{length}
use Rattle.records.specs.declared.command.Command.{Command}
use Rattle.records.specs.Command.{commands_from}
use Rattle.text.proofs.Putting.{puts_nothing}
use Rattle.lines.specs.Lines.{command_line, command_lines}
use Rattle.lines.proofs.Long.{command_most}
use Rattle.printed.proofs.Turns.{command_turn, command_end}
use Rattle.printed.proofs.many.put_command_lines.Goals as goal

pub loop-i-init : goal.loop-i-init
unfolding command_lines commands_from
loop-i-init c = (omega arith, puts_nothing c.args.at c.args.out.now (omega arith))

pub put_command_line-next-requires : goal.put_command_line-next-requires
put_command_line-next-requires c = omega (arith, ap (λ (z : Command). length (command_line z)) c.command_at.ensures, command_most c.args.s.now (8 * c.loop-i.i) (λ k. (c.type_inv.s k).fits))

pub loop-i-preserved : goal.loop-i-preserved
loop-i-preserved c = (
  omega (arith, c.put_command_line-next.ensures.place, ap (λ (z : Command). length (command_line z)) c.command_at.ensures, command_most c.args.s.now (8 * c.loop-i.i) (λ k. (c.type_inv.s k).fits)),
  command_turn c.args.s.now c.loop-i.i _ _ _ _ _ _ _ c.command_at.ensures c.loop-i.invariant.1 c.put_command_line-next.ensures,
)

pub shape_of-out : goal.shape_of-out
shape_of-out c = c.loop-i.invariant.1.size

pub returns : goal.returns
returns c = command_end c.args.s.now c.loop-i.i _ _ _ _ _ (omega arith) c.loop-i.invariant.0 c.loop-i.invariant.1
