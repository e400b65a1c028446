use Rattle.serves.specs.Check.{listed_at, seen}
use Rattle.pass.proofs.Noted.{Noted}
use Rattle.pass.proofs.pass.pass.Given as goal

abbrev pub invariant-loop-j : goal.invariant-loop-j
invariant-loop-j l = Noted l.banks l.n (listed_at l.list) (seen l.s l.j) l.counts l.acts l.last l.refs l.marks l.outside
