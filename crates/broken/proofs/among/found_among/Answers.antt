use Rattle.std.proofs.Common.{rules, ◌∙◌}
use Rattle.broken.proofs.Laws.{found_act}
use Rattle.broken.proofs.among.found_among.Goals as goal

pub returns-then-is_act : goal.returns-then-is_act
returns-then-is_act c = c.act_found.ensures ∙ found_act _ _ _ _ _ _ _ _ c.if-c-cycle.false (search rules) c.acts_far.result (search rules)
