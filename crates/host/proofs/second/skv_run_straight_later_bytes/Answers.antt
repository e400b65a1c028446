use borrow.Author.Rules.{rules}
use Rattle.host.proofs.second.skv_run_straight_later_bytes.Goals as goal

pub returns : goal.returns
returns c = (rw c.run_straight_later_bytes.ensures.0 at c.run_of.ensures, c.run_straight_later_bytes.ensures.1)
