use Rattle.heads.proofs.Laws.{Sought}
use Rattle.heads.proofs.queue.seek.Given as goal

abbrev pub invariant-loop-number : goal.invariant-loop-number
invariant-loop-number l = Sought l.list l.n l.datas l.fn.from.number l.initial.offset l.initial.before l.number l.offset l.before
