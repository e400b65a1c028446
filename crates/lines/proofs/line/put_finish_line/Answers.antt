use Rattle.text.proofs.Putting.{puts_then}
use Rattle.lines.specs.Lines.{finish_line}
use Rattle.lines.proofs.line.put_finish_line.Goals as goal

pub returns : goal.returns
unfolding finish_line
returns c = puts_then (puts_then c.put_word-a.ensures c.put_number_then-b.ensures) c.put_number_then.ensures
