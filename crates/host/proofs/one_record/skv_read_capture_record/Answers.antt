use borrow.Author.Rules.{rules}
use Rattle.host.proofs.one_record.skv_read_capture_record.Goals as goal

pub returns : goal.returns
returns c = rw c.read_capture_record.ensures at c.of_capture_record.ensures
