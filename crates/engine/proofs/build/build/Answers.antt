use mathlib.Core.Path.{refl, ap, ◌∙◌}
use Rattle.timing.specs.Kept.{told}
use Rattle.timing.proofs.Telling.{told_fresh}
use Rattle.engine.proofs.Schedule.{fresh_ready, mark_asked, finish_asked, builds}
use Rattle.engine.proofs.build.build.Goals as goal

pub due-all-requires : goal.due-all-requires
due-all-requires c = c.requires.0

pub run-r-requires : goal.run-r-requires
run-r-requires c = (fresh_ready c.args.t c.args.list.now c.args.n c.requires.0 c.args.buffer.now c.args.finishes.now c.requires.1 c.requires.2 (told c.kept_fresh-start.result) (ap told c.kept_fresh-start.ensures ∙ told_fresh c.args.t) 100000000, c.due-all.ensures)

pub mark-requires : goal.mark-requires
mark-requires c = mark_asked c.args.t c.args.list.now c.args.n c.requires.0 c.args.buffer.now c.args.finishes.now c.requires.1 c.requires.2 (told c.kept_fresh-start.result) (ap told c.kept_fresh-start.ensures ∙ told_fresh c.args.t) 100000000 refl _ c.run-r.result c.run-r.ensures

pub finish_all-requires : goal.finish_all-requires
finish_all-requires c = finish_asked c.args.t c.args.list.now c.args.n c.requires.0 c.args.buffer.now c.args.finishes.now c.requires.1 c.requires.2 (told c.kept_fresh-start.result) (ap told c.kept_fresh-start.ensures ∙ told_fresh c.args.t) 100000000 refl _ c.run-r.result c.run-r.ensures _ c.mark.ensures

pub returns : goal.returns
returns c = builds c.args.t c.args.list.now c.args.n c.requires.0 c.args.buffer.now c.args.finishes.now c.requires.1 c.requires.2 (told c.kept_fresh-start.result) (ap told c.kept_fresh-start.ensures ∙ told_fresh c.args.t) 100000000 refl _ c.run-r.result c.run-r.ensures _ c.mark.ensures _ c.finish_all.ensures
