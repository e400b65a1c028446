use Rattle.host.proofs.Laws.{few_of_list}
use Rattle.host.proofs.schedules.skv_schedule.Goals as goal

pub of_build-requires : goal.of_build-requires
of_build-requires c = few_of_list c.args.expected c.args.table.now c.args.commands.now c.schedule.new.commands c.args.finishes.now c.schedule.new.finishes c.schedule.result c.args.list.now c.schedule.ensures
