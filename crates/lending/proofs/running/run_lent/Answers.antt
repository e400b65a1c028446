use Rattle.std.proofs.Common.{◌∙◌, sym, length}
use Rattle.records.specs.declared.table.Table.{Table}
use Rattle.lists.specs.Check.{check_list}
use Rattle.lists.specs.Packed.{held}
use Rattle.admission.specs.Admit.{admitted}
use Rattle.lending.proofs.Lent.{let_in, runs_lent, not_run}
use Rattle.lending.proofs.running.run_lent.Goals as goal

pub run_held-o-requires : goal.run_held-o-requires
run_held-o-requires g c = let_in c.args.expected c.args.table.now (length c.args.list.now) c.admit_lent-w.result c.admit_lent-w.ensures

pub returns-then-has_run : goal.returns-then-has_run
returns-then-has_run g c =
    runs_lent c.args.list.now c.args.c.now c.args.count c.args.room.now (admitted c.args.expected c.args.table.now) c.admit_lent-w.result c.admit_lent-w.ensures c.gather-bytes.result c.gather-bytes.ensures
    c.run_held-o.result c.run_held-o.new.room c.run_held-o.ensures

pub returns-else-has_run : goal.returns-else-has_run
returns-else-has_run g c =
    let w = c.admit_lent-w.result in
    let h = held w.n c.gather-bytes.result in
    let j =
    runs_lent c.args.list.now c.args.c.now c.args.count c.args.room.now (admitted c.args.expected c.args.table.now) w c.admit_lent-w.ensures c.gather-bytes.result c.gather-bytes.ensures
    c.run_held-o.result c.run_held-o.new.room c.run_held-o.ensures in
    let stays = not_run (λ (τ : Table). check_list τ h) w.table c.args.c.now h c.args.count c.args.room.now c.run_held-o.result c.run_held-o.new.room c.run_held-o.ensures (sym c.has_run.ensures ∙ c.if-has_run.false) in
    (j.0, stays ∙ j.1, j.2)
