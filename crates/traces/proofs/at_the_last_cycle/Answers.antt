use Rattle.std.proofs.Common.{arith, sym, length-take-le}
use Rattle.traces.proofs.at_the_last_cycle.Goals as goal

pub slice_bounds-trace-end : goal.slice_bounds-trace-end
slice_bounds-trace-end g c = sym (length-take-le 262182 c.put_long.new.long (omega (arith, c.put_long.ensures)))
