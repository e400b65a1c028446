use native.Mathlib.Omega.{arith}
use mathlib.Core.Path.{◌≡◌, refl}
use Rattle.heads.proofs.Laws.{few, acts_few, sought_on, before_is, sought}
use Rattle.heads.proofs.queue.seek.Goals as goal

pub loop-number-init : goal.loop-number-init
loop-number-init c = record { within = c.requires.1.within; left = refl; before = refl }

pub returns-then-offset-size : goal.returns-then-offset-size
returns-then-offset-size c = sought c.loop-number.invariant c.requires.1 (λ k. rw (c.size_in-size.ensures, c.later_at-x.ensures) at c.if-offset-size.true)

pub overflow_add-before : goal.overflow_add-before
overflow_add-before c = omega (arith, before_is c.loop-number.invariant c.requires.1, acts_few c.requires.0 c.loop-number.number c.loop-number.invariant.within, few c.requires.0, c.acts_in-before.ensures.1)

pub loop-number-preserved : goal.loop-number-preserved
loop-number-preserved c = sought_on c.loop-number.invariant c.loop-number-test.true _ c.later_at-x.ensures c.size_in-size.result c.acts_in-before.result c.size_in-size.ensures c.acts_in-before.ensures.0 c.if-offset-size.false

pub returns : goal.returns
returns c = let e : c.loop-number.number ≡ c.args.n = omega arith in rw e at (sought c.loop-number.invariant c.requires.1 (λ k. absurd (omega arith)))
