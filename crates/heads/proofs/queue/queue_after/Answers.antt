use Rattle.heads.proofs.Standing.{start_placed, start_left, recount}
use Rattle.heads.proofs.queue.queue_after.Goals as goal

pub queue_from-requires : goal.queue_from-requires
queue_from-requires c = (c.requires, start_placed c.args.t c.args.list.now c.args.n c.args.count)

pub returns : goal.returns
returns c = recount (start_left c.args.t c.args.list.now c.args.datas c.args.count) c.queue_from.ensures
