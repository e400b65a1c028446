use mathlib.Core.Path.{◌≡◌}
use lib.ListN.{take}
use Rattle.records.specs.Told.{over}
use Rattle.records.specs.Little.{bytes16}
use Rattle.tables.proofs.table.put_numbers.Given as goal

abbrev pub invariant-loop-i : goal.invariant-loop-i
invariant-loop-i l = l.s ≡ over (bytes16 (take l.i l.n)) l.initial.s
