use borrow.Author.Rules.{rules}
use Rattle.host.proofs.one_record.skv_read_transaction.Goals as goal

pub returns : goal.returns
returns c = rw c.read_transaction.ensures at c.of_transaction.ensures
