use native.Mathlib.Omega.{arith}
use Rattle.bounds.proofs.Bounds.{Words, s_small, d_small, x_small}
use Rattle.bounds.proofs.bound.bound_of.Goals as goal
use Rattle.bounds.proofs.bound.bound_of.Goals.{Start}

words : (c : Start) → Words c.args.t
words c = record { b = omega arith; ccdl = omega arith; rp = omega arith; ras = omega arith; rc = omega arith; rrdl = omega arith; faw = omega arith; rl = omega arith; wl = omega arith; rtp = omega arith; wr = omega arith; wtrl = omega arith }

pub overflow_add-bound_d : goal.overflow_add-bound_d
overflow_add-bound_d c = omega (arith, c.bound_d.ensures, d_small c.args.t (words c.before.before.before.before.before))

pub spaced-acts-requires : goal.spaced-acts-requires
spaced-acts-requires c = (omega arith, omega (arith, c.bound_d.ensures, d_small c.args.t (words c.before.before.before.before.before)))

pub overflow_add-served : goal.overflow_add-served
overflow_add-served c = omega (arith, c.bound_s.ensures, s_small c.args.t (words c.before.before.before.before.before.before.before.before.before))

pub overflow_add-served-2 : goal.overflow_add-served-2
overflow_add-served-2 c = omega (arith, c.bound_s.ensures, s_small c.args.t (words c.before.before.before.before.before.before.before.before.before.before))

pub overflow_add-bound_x : goal.overflow_add-bound_x
overflow_add-bound_x c = omega (arith, c.bound_x.ensures, x_small c.args.t (words c.before.before.before.before.before.before.before.before.before.before.before))
