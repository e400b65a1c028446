use mathlib.Core.List.{map}
use Rattle.sound.proofs.Laws.{Filled}
use Rattle.timing.specs.Kept.{told_group, quiet_kept}
use Rattle.controller.specs.Controller.{group_kept}
use Rattle.controller.proofs.controller.groups_kept.Given as goal

abbrev pub invariant-loop-k : goal.invariant-loop-k
invariant-loop-k l = Filled 8 group_kept (told_group quiet_kept) (map told_group l.gs) l.held l.k
