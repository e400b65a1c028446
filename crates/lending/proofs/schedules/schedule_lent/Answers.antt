use Rattle.std.proofs.Common.{length}
use Rattle.admission.specs.Admit.{admitted}
use Rattle.lending.proofs.Lent.{let_in, schedules_lent}
use Rattle.lending.proofs.schedules.schedule_lent.Goals as goal

pub schedule_held-requires : goal.schedule_held-requires
schedule_held-requires g c = let_in c.args.expected c.args.table.now (length c.args.list.now) c.admit_lent-w.result c.admit_lent-w.ensures

pub returns : goal.returns
returns g c =
    schedules_lent c.args.list.now c.args.commands.now c.schedule_held.new.commands c.args.finishes.now c.schedule_held.new.finishes c.schedule_held.result
    (admitted c.args.expected c.args.table.now) c.admit_lent-w.result c.admit_lent-w.ensures c.gather-bytes.result c.gather-bytes.ensures c.schedule_held.ensures
