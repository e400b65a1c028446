use Prim.Native.Nat.{◌+◌, ◌*◌, ◌≤◌}
use lib.ListN.{take}
use Rattle.text.specs.Puts.{Puts}
use Rattle.lines.specs.Lines.{finish_lines}
use Rattle.printed.proofs.many.put_finish_lines.Given as goal

abbrev pub invariant-loop-i : goal.invariant-loop-i
invariant-loop-i l = (l.next ≤ l.at + 39 * l.i) × Puts (finish_lines 0 (take l.i l.s)) l.at l.next l.initial.out l.out
