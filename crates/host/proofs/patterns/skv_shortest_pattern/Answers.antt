use borrow.Author.Rules.{rules}
use Rattle.host.proofs.Laws.{few_found}
use Rattle.host.proofs.patterns.skv_shortest_pattern.Goals as goal

pub shortest_of-requires : goal.shortest_of-requires
shortest_of-requires c = few_found _ _ _ _ _ _ _ _ c.shortest_pattern.ensures

pub returns : goal.returns
returns c = (_, c.shortest_pattern.ensures, c.shortest_of.ensures)
