use Rattle.text.proofs.Putting.{puts_then}
use Rattle.lines.specs.Lines.{first_line}
use Rattle.lines.proofs.line.put_first_line.Goals as goal

pub returns : goal.returns
unfolding first_line
returns c = puts_then (puts_then (puts_then c.put_word-a.ensures c.put_number-b.ensures) c.put_word-c.ensures) c.put_number_then.ensures
