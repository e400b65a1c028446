use Rattle.serves.specs.Check.{listed_at, number_at}
use Rattle.pass.proofs.Scanning.{Scanned}
use Rattle.pass.proofs.scan.scan.Given as goal

abbrev pub invariant-loop-k : goal.invariant-loop-k
invariant-loop-k l = Scanned l.banks (listed_at l.list) (number_at l.refs) (number_at l.last) (number_at l.counts) l.least l.k l.most
