use borrow.Author.Rules.{rules}
use Rattle.text.proofs.Putting.{writes}
use Rattle.listed.specs.Listing.{Lists}
use Rattle.listed.proofs.Telling.{too_short, long_enough}
use Rattle.listed.proofs.listing_of.Goals as goal

pub returns-then-input-lt2 : goal.returns-then-input-lt2
returns-then-input-lt2 c = writes (Lists c.args.input.now) _ _ _ _ (too_short c.args.input.now _ c.if-input-lt2.true c.refuse.ensures) c.put_refusal.ensures

pub returns : goal.returns
returns c = long_enough c.args.input.now _ _ _ _ c.if-input-lt2.false c.num_at.ensures c.list_behind.ensures
