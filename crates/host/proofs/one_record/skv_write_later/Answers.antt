use borrow.Author.Rules.{rules}
use Rattle.host.proofs.one_record.skv_write_later.Goals as goal

pub returns : goal.returns
returns c = (rw c.write_later.ensures.0 at c.of_written.ensures, c.write_later.ensures.1)
