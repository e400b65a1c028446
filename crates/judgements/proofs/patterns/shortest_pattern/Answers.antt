use borrow.Author.Rules.{rules}
use Rattle.promises.proofs.Laws.{told_held}
use Rattle.promises.proofs.Told.{shortest_read, shortest_refused}
use Rattle.judgements.proofs.patterns.shortest_pattern.Goals as goal

pub shortest-requires : goal.shortest-requires
shortest-requires c = told_held _ _ _ _ c.admit.ensures c.in-Ok.is

pub returns-in-Ok : goal.returns-in-Ok
returns-in-Ok c = shortest_read _ _ _ c.admit.ensures _ c.in-Ok.is _ _ _ _ _ _ _ c.shortest.ensures

pub returns-in-Err : goal.returns-in-Err
returns-in-Err c = shortest_refused _ _ _ c.admit.ensures _ c.in-Err.is _ _ _ _ _
