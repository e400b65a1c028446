use mathlib.Core.List.{map}
use Rattle.sound.proofs.Laws.{Filled}
use Rattle.timing.specs.Kept.{told_group}
use Rattle.controller.specs.Controller.{group_tells}
use Rattle.controller.proofs.Numbers.{zero_group}
use Rattle.controller.proofs.controller.groups_in.Given as goal

abbrev pub invariant-loop-i : goal.invariant-loop-i
invariant-loop-i l = Filled 8 group_tells zero_group l.gs (map told_group l.kept) l.i
