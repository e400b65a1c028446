use Rattle.std.proofs.Common.{◌∙◌, ap, length}
use Rattle.records.specs.Transaction.{list_of}
use Rattle.lists.specs.declared.decode.Plan.{Plan}
use Rattle.lists.specs.Decode.{stored}
use Rattle.admission.specs.Admit.{admitted}
use Rattle.decoding.proofs.Planned.{reading_room, reading_planned}
use Rattle.decoding.proofs.reading.read_records.Goals as goal

pub store-requires : goal.store-requires
store-requires c = rw c.plan_reading-p.ensures (reading_room c.args.later (admitted c.args.expected c.args.table.now) c.args.bytes.now (length c.args.list.now))

pub returns : goal.returns
returns c =
    let planned = reading_planned c.args.later (admitted c.args.expected c.args.table.now) c.args.bytes.now c.args.list.now in (
      ap (λ (p : Plan). p.answer) c.plan_reading-p.ensures ∙ planned.0,
      c.store.ensures ∙ ap (λ (p : Plan). stored (list_of c.args.later c.args.bytes.now) p.n c.args.list.now) c.plan_reading-p.ensures ∙ planned.1,
    )
