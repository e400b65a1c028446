use mathlib.Core.Path.{ap, ◌∙◌}
use mathlib.Core.List.{List, []}
use Rattle.records.specs.declared.command.Command.{Command}
use Rattle.records.specs.Command.{commands_in}
use Rattle.rules.specs.Verdict.{judge_from}
use Rattle.rules.proofs.history.JudgeState.{judging_fresh}
use Rattle.timing.proofs.Telling.{told_fresh}
use Rattle.copies.proofs.Seen.{moved_none}
use Rattle.judge.proofs.schedule.verdict_on.Goals as goal

pub judge_copy-requires-clause-sums : goal.judge_copy-requires-clause-sums
judge_copy-requires-clause-sums c = rw (c.new.ensures, c.kept_fresh.ensures, told_fresh c.args.t) (judging_fresh c.args.t)

pub returns : goal.returns
returns c =
    (rw c.new.ensures at c.judge_copy.ensures.verdict) ∙ ap (λ (rs : List Command). judge_from c.args.t rs 0 []) (moved_none (commands_in c.args.s.now))
