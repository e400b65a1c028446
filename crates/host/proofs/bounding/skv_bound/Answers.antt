use borrow.Author.Rules.{rules}
use Rattle.host.proofs.bounding.skv_bound.Goals as goal

pub returns : goal.returns
returns c = rw c.bound.ensures at c.of_bound.ensures
