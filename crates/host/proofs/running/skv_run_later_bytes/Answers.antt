use borrow.Author.Rules.{rules}
use Rattle.host.proofs.running.skv_run_later_bytes.Goals as goal

pub returns : goal.returns
returns c = (rw c.run_later_bytes.ensures.0 at c.run_of.ensures, c.run_later_bytes.ensures.1)
