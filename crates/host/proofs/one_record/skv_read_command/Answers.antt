use borrow.Author.Rules.{rules}
use Rattle.host.proofs.one_record.skv_read_command.Goals as goal

pub returns : goal.returns
returns c = rw c.read_command.ensures at c.of_command.ensures
