use borrow.Author.Rules.{rules}
use Rattle.host.proofs.one_record.skv_read_table.Goals as goal

pub returns : goal.returns
returns c = rw c.read_table.ensures at c.of_table.ensures
