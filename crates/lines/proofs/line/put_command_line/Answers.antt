use Rattle.text.proofs.Putting.{puts_then}
use Rattle.lines.specs.Lines.{command_line}
use Rattle.lines.proofs.line.put_command_line.Goals as goal

pub returns : goal.returns
unfolding command_line
returns c = puts_then (puts_then (puts_then c.put_number_then-a.ensures c.put_kind_then-b.ensures) c.put_number_then-d.ensures) c.put_number_then.ensures
