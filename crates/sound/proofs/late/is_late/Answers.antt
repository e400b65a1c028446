use borrow.Author.Tests.{le-ltb}
use Rattle.sound.proofs.FirstNew.{late_by, none_late}
use Rattle.sound.proofs.late.is_late.Goals as goal

pub returns-then-k-n : goal.returns-then-k-n
returns-then-k-n c = late_by c.args.list.now c.args.n c.args.lent c.args.cycle c.later_at.result c.if-k-n.true c.later_at.ensures

pub returns-else-k-n : goal.returns-else-k-n
returns-else-k-n c = rw (le-ltb _ _ c.if-k-n.false) (none_late c.args.list.now c.args.n c.args.lent c.args.cycle c.if-k-n.false)
