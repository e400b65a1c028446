use Rattle.std.proofs.Common.{◌≡◌, take}
use Rattle.records.specs.Told.{over}
use Rattle.records.specs.Command.{bytes_of_all}
use Rattle.shortest.proofs.write.write_records.Given as goal

abbrev pub invariant-loop-i : goal.invariant-loop-i
invariant-loop-i l = l.out ≡ over (bytes_of_all (take l.i l.items)) l.initial.out
