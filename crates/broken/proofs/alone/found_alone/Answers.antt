use Rattle.std.proofs.Common.{rules, ◌∙◌}
use Rattle.broken.proofs.Laws.{found_act, found_data}
use Rattle.broken.proofs.alone.found_alone.Goals as goal

pub returns-then-is_act : goal.returns-then-is_act
returns-then-is_act c = c.act_found.ensures ∙ found_act _ _ _ _ _ _ _ _ c.if-c-cycle.false (search rules) c.since.result (search rules)

pub returns-else-is_act : goal.returns-else-is_act
returns-else-is_act c = c.data_found.ensures ∙ found_data _ _ _ _ _ _ _ _ c.if-c-cycle.false c.requires.1 (search rules) c.requires.2 c.keeps_distance.result (search rules)
