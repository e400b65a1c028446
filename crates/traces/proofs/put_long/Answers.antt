use Rattle.std.proofs.Common.{arith, sym, ◌∙◌, length-take-le}
use Rattle.traces.proofs.put_long.Goals as goal

pub slice_bounds-copy_from_slice-end-2 : goal.slice_bounds-copy_from_slice-end-2
slice_bounds-copy_from_slice-end-2 c = sym (length-take-le 34 c.args.long.now (omega (arith, c.requires.1)))

pub copy_from_slice-requires : goal.copy_from_slice-requires
copy_from_slice-requires c = length-take-le 34 c.args.long.now (omega (arith, c.requires.1)) ∙ sym c.requires.0
