use mathlib.Core.Path.{refl, sym, ◌∙◌}
use Rattle.records.proofs.Laws.{check_lets, check_says}
use Rattle.heads.proofs.Laws.{few}
use Rattle.controller.proofs.NotRefused.{leaves_refused, leaves_ran, ready, few_commands}
use Rattle.controller.proofs.run.run_controller.Goals as goal

pub returns-in-Err : goal.returns-in-Err
returns-in-Err g c =
    let q = check_says _ 0 c.args.t.edition _ (sym c.check_run.ensures ∙ c.in-Err.is) in
    leaves_refused _ _ _ _ _ _ _ c.kept_in-s.ensures _ refl _ q.1 q.0

pub lend_to-lent-requires : goal.lend_to-lent-requires
lend_to-lent-requires g c = few c.requires

pub run-r-requires : goal.run-r-requires
run-r-requires g c =
    let z = check_lets _ 0 c.args.t.edition (sym c.check_run.ensures ∙ c.in-Ok.is) in
    (ready _ _ _ _ _ _ _ c.requires refl z _ c.lend_to-lent.ensures, c.due-all.ensures)

pub overflow_cast-report : goal.overflow_cast-report
overflow_cast-report g c =
    let z = check_lets _ 0 c.args.t.edition (sym c.check_run.ensures ∙ c.in-Ok.is) in
    record { fits = few_commands _ _ _ _ _ _ _ c.requires refl z _ c.lend_to-lent.ensures c.ranges.count.fits _ c.run-r.ensures.commands }

pub returns-in-Ok : goal.returns-in-Ok
returns-in-Ok g c =
    let z = check_lets _ 0 c.args.t.edition (sym c.check_run.ensures ∙ c.in-Ok.is) in
    leaves_ran _ _ _ _ _ _ _ c.kept_in-s.ensures _ refl _ c.run-r.result _ _ c.lend_to-lent.ensures c.controller_of.ensures c.run-r.ensures z
