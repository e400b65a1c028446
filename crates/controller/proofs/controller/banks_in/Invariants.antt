use mathlib.Core.List.{map}
use Rattle.sound.proofs.Laws.{Filled}
use Rattle.timing.specs.Kept.{told_bank}
use Rattle.controller.specs.Controller.{bank_tells}
use Rattle.controller.proofs.Numbers.{zeros}
use Rattle.controller.proofs.controller.banks_in.Given as goal

abbrev pub invariant-loop-i : goal.invariant-loop-i
invariant-loop-i l = Filled 16 bank_tells zeros l.ks (map told_bank l.kept) l.i
