use mathlib.Core.Path.{refl}
use Rattle.traced.specs.Trace.{empty_room}
use Rattle.traced.proofs.command_buffer.Goals as goal

pub returns : goal.returns
unfolding empty_room
returns c = refl
