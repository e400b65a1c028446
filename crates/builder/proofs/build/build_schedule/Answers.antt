use Rattle.std.specs.Prelude.{Err}
use Rattle.std.proofs.Common.{rules}
use mathlib.Core.Path.{◌≡◌, refl, sym, ◌∙◌}
use lib.ListN.{length}
use Rattle.records.proofs.Laws.{check_lets, check_says}
use Rattle.builder.proofs.Laws.{number_told, refused_left_lem, built_left}
use Rattle.builder.proofs.build.build_schedule.Goals as goal

pub returns-in_err-check_build : goal.returns-in_err-check_build
returns-in_err-check_build g c =
    let q = check_says _ 0 c.args.t.edition _ (sym c.check_build.ensures ∙ c.in_err-check_build.was) in
    let k = number_told c.args.t c.args.list.now c.args.n _ _ (length c.args.commands.now) (length c.args.finishes.now) _ c.due-all.ensures.0 c.due-all.ensures.1 refl in
    let e : c.from_residual.result ≡ Err c.in_err-check_build.field-0.0 = search rules in
    rw e (refused_left_lem _ _ _ _ _ k _ q.1 q.0)

pub returns : goal.returns
returns g c =
    let k = number_told c.args.t c.args.list.now c.args.n _ _ (length c.args.commands.now) (length c.args.finishes.now) _ c.due-all.ensures.0 c.due-all.ensures.1 refl in
    built_left _ _ _ _ _ k _ _ _ (check_lets _ 0 c.args.t.edition (sym c.check_build.ensures ∙ c.in_ok-check_build.was)) c.build-s.ensures
