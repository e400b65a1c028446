use borrow.Author.Rules.{rules}
use Rattle.text.proofs.Putting.{writes}
use Rattle.patterned.specs.Pattern.{PatternOf}
use Rattle.patterned.proofs.Telling.{too_short, long_enough}
use Rattle.patterned.proofs.pattern_of.Goals as goal

pub returns-then-n-lt6 : goal.returns-then-n-lt6
returns-then-n-lt6 c = writes (PatternOf c.args.input.now) _ _ _ _ (too_short c.args.input.now _ c.if-n-lt6.true c.refuse.ensures) c.put_refusal.ensures

pub returns : goal.returns
returns c = long_enough c.args.input.now _ _ _ _ _ c.if-n-lt6.false c.num_at.ensures c.from-most.ensures c.pattern_told.ensures
