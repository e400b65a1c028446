use Rattle.std.proofs.Common.{rules}
use mathlib.Core.Path.{refl}
use Rattle.records.specs.Command.{commands_in}
use Rattle.judge.proofs.FiveCopies.{five_say}
use Rattle.judge.proofs.pattern.judge_pattern.Goals as goal

pub returns : goal.returns
returns c = (search rules, refl, five_say c.args.t c.args.length (commands_in c.args.s.now) c.judge_five.result c.judge_five.ensures)
