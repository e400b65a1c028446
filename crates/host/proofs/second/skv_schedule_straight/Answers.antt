use Rattle.host.proofs.Laws.{few_of_list}
use Rattle.host.proofs.second.skv_schedule_straight.Goals as goal

pub of_build-requires : goal.of_build-requires
of_build-requires c = few_of_list c.args.expected c.args.table.now c.args.commands.now c.schedule_straight.new.commands c.args.finishes.now c.schedule_straight.new.finishes c.schedule_straight.result c.args.list.now c.schedule_straight.ensures
