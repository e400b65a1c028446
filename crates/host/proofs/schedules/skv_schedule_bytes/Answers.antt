use mathlib.Core.Bool.{false}
use borrow.Author.Rules.{rules}
use Rattle.host.proofs.Laws.{few_of_bytes}
use Rattle.host.proofs.schedules.skv_schedule_bytes.Goals as goal

pub of_build-requires : goal.of_build-requires
of_build-requires c = few_of_bytes _ _ _ _ _ _ _ false _ c.schedule_bytes.ensures
