use Rattle.text.proofs.Putting.{puts_then}
use Rattle.lines.specs.Lines.{broken_line}
use Rattle.lines.proofs.line.put_broken_line.Goals as goal

pub returns : goal.returns
unfolding broken_line
returns c = puts_then (puts_then (puts_then c.put_word-a.ensures c.put_number-b.ensures) c.put_word-c.ensures) c.put_number_then.ensures
