use mathlib.Core.List.{map}
use Rattle.sound.proofs.Laws.{Filled}
use Rattle.timing.specs.Kept.{told_bank, shut_kept}
use Rattle.controller.specs.Controller.{bank_kept}
use Rattle.controller.proofs.controller.banks_kept.Given as goal

abbrev pub invariant-loop-k : goal.invariant-loop-k
invariant-loop-k l = Filled 16 bank_kept (told_bank shut_kept) (map told_bank l.ks) l.held l.k
