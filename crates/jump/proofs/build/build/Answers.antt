use mathlib.Core.Path.{refl, ap, ◌∙◌}
use Rattle.timing.specs.Kept.{told}
use Rattle.timing.proofs.Telling.{told_fresh}
use Rattle.engine.proofs.Schedule.{fresh_ready, finish_asked, builds}
use Rattle.jump.proofs.build.build.Goals as goal

pub due-all-requires : goal.due-all-requires
due-all-requires c = c.requires.0

pub run_marked-r-requires : goal.run_marked-r-requires
run_marked-r-requires c = (fresh_ready c.args.t c.args.list.now c.args.n c.requires.0 c.args.buffer.now c.args.finishes.now c.requires.1 c.requires.2 (told c.kept_fresh-start.result) (ap told c.kept_fresh-start.ensures ∙ told_fresh c.args.t) 100000000, c.due-all.ensures, c.requires.2)

pub finish_all-requires : goal.finish_all-requires
finish_all-requires c = finish_asked c.args.t c.args.list.now c.args.n c.requires.0 c.args.buffer.now c.args.finishes.now c.requires.1 c.requires.2 (told c.kept_fresh-start.result) (ap told c.kept_fresh-start.ensures ∙ told_fresh c.args.t) 100000000 refl _ c.run_marked-r.result c.run_marked-r.ensures.0 _ c.run_marked-r.ensures.1

pub returns : goal.returns
returns c = builds c.args.t c.args.list.now c.args.n c.requires.0 c.args.buffer.now c.args.finishes.now c.requires.1 c.requires.2 (told c.kept_fresh-start.result) (ap told c.kept_fresh-start.ensures ∙ told_fresh c.args.t) 100000000 refl _ c.run_marked-r.result c.run_marked-r.ensures.0 _ c.run_marked-r.ensures.1 _ c.finish_all.ensures
