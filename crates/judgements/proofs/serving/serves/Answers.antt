use Rattle.std.proofs.Common.{length}
use Rattle.admission.specs.Admit.{admitted}
use Rattle.lending.proofs.Lent.{let_in}
use Rattle.judgements.proofs.LentServes.{serves_lent_lem}
use Rattle.judgements.proofs.serving.serves.Goals as goal

pub serves_held-requires : goal.serves_held-requires
serves_held-requires c = let_in c.args.expected c.args.table.now (length c.args.list.now) c.admit_lent-w.result c.admit_lent-w.ensures

pub returns : goal.returns
returns c =
    serves_lent_lem c.args.list.now c.args.schedule.now c.serves_held.result (admitted c.args.expected c.args.table.now) c.admit_lent-w.result c.admit_lent-w.ensures c.gather-bytes.result c.gather-bytes.ensures
    c.serves_held.ensures
