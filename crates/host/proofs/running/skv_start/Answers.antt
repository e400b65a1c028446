use borrow.Author.Rules.{rules}
use Rattle.host.proofs.running.skv_start.Goals as goal

pub returns : goal.returns
returns c = rw c.start.ensures at c.start_of.ensures
