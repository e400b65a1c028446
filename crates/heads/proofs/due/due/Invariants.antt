use mathlib.Core.Path.{◌≡◌}
use Rattle.rules.specs.Queues.{act_count}
use Rattle.rules.proofs.queues.Queue.{data_count, sum}
use Rattle.heads.proofs.Laws.{first}
use Rattle.heads.proofs.due.due.Given as goal

abbrev pub invariant-loop-k : goal.invariant-loop-k
invariant-loop-k l = (l.acts ≡ sum act_count (first l.list l.k)) × (l.datas ≡ sum data_count (first l.list l.k))
