use Rattle.text.proofs.Putting.{puts_then}
use Rattle.lines.specs.Lines.{refused_line}
use Rattle.lines.proofs.line.put_refused_line.Goals as goal

pub returns : goal.returns
unfolding refused_line
returns c = puts_then (puts_then (puts_then (puts_then (puts_then c.put_word-a.ensures c.put_number-b.ensures) c.put_word-c.ensures) c.put_number-d.ensures) c.put_word-e.ensures) c.put_number_then.ensures
