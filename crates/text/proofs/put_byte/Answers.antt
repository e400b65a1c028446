use Rattle.text.proofs.Putting.{puts_byte}
use Rattle.text.proofs.put_byte.Goals as goal

pub returns : goal.returns
returns c = puts_byte _ _ _ c.requires
