use Rattle.text.proofs.Putting.{puts_then}
use Rattle.lines.proofs.line.put_kind_then.Goals as goal

pub returns : goal.returns
returns c = puts_then c.put_kind-next.ensures c.put_byte.ensures
