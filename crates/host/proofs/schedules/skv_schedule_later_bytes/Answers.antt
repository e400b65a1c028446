use mathlib.Core.Bool.{true}
use borrow.Author.Rules.{rules}
use Rattle.host.proofs.Laws.{few_of_bytes}
use Rattle.host.proofs.schedules.skv_schedule_later_bytes.Goals as goal

pub of_build-requires : goal.of_build-requires
of_build-requires c = few_of_bytes _ _ _ _ _ _ _ true _ c.schedule_later_bytes.ensures
