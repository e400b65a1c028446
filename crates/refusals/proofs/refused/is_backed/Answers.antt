use native.Mathlib.Omega.{arith}
use Rattle.records.specs.Transaction.{later_from}
use Rattle.heads.proofs.Laws.{first_fits}
use Rattle.refusals.proofs.Backed.{gone_none, gone_last}
use Rattle.refusals.proofs.refused.is_backed.Goals as goal

pub returns-then-datas-eq0 : goal.returns-then-datas-eq0
returns-then-datas-eq0 c = gone_none c.args.t (later_from c.args.list.now c.args.n 0) (first_fits c.requires c.args.n (omega arith)) c.args.acts c.args.datas c.if-datas-eq0.true

pub returns-then-last : goal.returns-then-last
returns-then-last c = rw c.if-last.true at (gone_last c.args.t (later_from c.args.list.now c.args.n 0) (first_fits c.requires c.args.n (omega arith)) c.args.acts c.args.datas c.if-datas-eq0.false c.queue_after.result.head c.queue_after.ensures.head)

pub returns-else-last : goal.returns-else-last
returns-else-last c = rw c.if-last.false (rw c.if-last.false at (gone_last c.args.t (later_from c.args.list.now c.args.n 0) (first_fits c.requires c.args.n (omega arith)) c.args.acts c.args.datas c.if-datas-eq0.false c.queue_after.result.head c.queue_after.ensures.head))
