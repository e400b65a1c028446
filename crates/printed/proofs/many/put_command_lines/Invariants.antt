use Prim.Native.Nat.{◌+◌, ◌*◌, ◌≤◌}
use Rattle.records.specs.Command.{commands_from}
use Rattle.text.specs.Puts.{Puts}
use Rattle.lines.specs.Lines.{command_lines}
use Rattle.printed.proofs.many.put_command_lines.Given as goal

abbrev pub invariant-loop-i : goal.invariant-loop-i
invariant-loop-i l = (l.next ≤ l.at + 25 * l.i) × Puts (command_lines (commands_from l.s l.i 0)) l.at l.next l.initial.out l.out
