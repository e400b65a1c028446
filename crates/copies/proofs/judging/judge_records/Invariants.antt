use Prim.Native.Nat.{◌*◌}
use Rattle.rules.specs.State.{Held}
use Rattle.timing.specs.Kept.{told}
use Rattle.copies.specs.Seen.{whole}
use Rattle.copies.proofs.Turn.{Turn}
use Rattle.copies.proofs.judging.judge_records.Given as goal

abbrev pub invariant-loop-i : goal.invariant-loop-i
invariant-loop-i g l = Held l.t × Turn l.t l.s (l.length * l.k) (whole l.length l.s l.k) l.n l.i (told l.state)
