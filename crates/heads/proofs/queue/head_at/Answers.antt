use mathlib.Core.Bool.{true, false}
use Rattle.heads.proofs.Standing.{asked, stands_here, nothing_here}
use Rattle.heads.proofs.queue.head_at.Goals as goal

pub returns-then-n-i : goal.returns-then-n-i
returns-then-n-i c = nothing_here c.requires.0 c.requires.1 c.if-n-i.true _ c.no_head.ensures

pub data_head-requires : goal.data_head-requires
data_head-requires c = asked c.requires.0 c.requires.1 _ c.later_at-x.ensures c.if-n-i.false true c.if-datas.true

pub returns-then-datas : goal.returns-then-datas
returns-then-datas c = stands_here c.requires.0 c.requires.1 c.later_at-x.result c.later_at-x.ensures c.if-n-i.false c.data_head.result (rw c.if-datas.true c.data_head.ensures)

pub act_head-requires : goal.act_head-requires
act_head-requires c = asked c.requires.0 c.requires.1 _ c.later_at-x.ensures c.if-n-i.false false c.if-datas.false

pub returns : goal.returns
returns c = stands_here c.requires.0 c.requires.1 c.later_at-x.result c.later_at-x.ensures c.if-n-i.false c.act_head.result (rw c.if-datas.false c.act_head.ensures)
