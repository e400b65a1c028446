use Rattle.std.proofs.Common.{◌+◌, refl, arith, replicate}
use Rattle.shortest.specs.Search.{nil}
use Rattle.shortest.proofs.Turns.{shaped_placeable}
use Rattle.shortest.proofs.Leaf.{shaped_start}
use Rattle.shortest.proofs.Lengths.{none_first, some_records, length_found, length_nothing, length_hopeless, none_left}
use Rattle.search.proofs.least.least.Goals as goal

pub loop-length-init : goal.loop-length-init
loop-length-init c = none_first c.args.t c.args.write c.args.bi c.args.bc

pub hope-some-requires : goal.hope-some-requires
hope-some-requires c =
    let some = some_records c.args.bi c.args.bc c.requires.1 in
    (c.requires.0, c.distances-near.ensures, c.distances-away.ensures, c.requires.4, (omega arith), omega (arith, c.requires.5, c.loop-length-test.true), c.records_of-n.ensures.0, omega (arith, c.records_of-n.ensures.0, some), omega (arith, c.requires.3, c.records_of-n.ensures.0), omega arith, omega (arith, c.records_of-n.ensures.0, some), shaped_placeable c.args.t c.requires.4 (shaped_start c.args.write c.args.bi c.args.bc c.loop-length.length (replicate 6 nil) c.requires.1 (omega arith) (omega arith) refl))

pub loop-length-preserved-then-not-some : goal.loop-length-preserved-then-not-some
loop-length-preserved-then-not-some c = length_hopeless (replicate 6 nil) refl c.loop-length.invariant (c.hope-some.ensures c.if-not-some.true)

pub returns : goal.returns
returns c = none_left c.args.most c.loop-length.length (omega (arith, c.loop-length-test.false)) c.loop-length.invariant

-- the greatest length was the last
pub returns-then-not-some : goal.returns-then-not-some
returns-then-not-some c = none_left c.args.most (c.loop-length.length + 1) (omega arith) (length_hopeless (replicate 6 nil) refl c.loop-length.invariant (c.hope-some.ensures c.if-not-some.true))

pub returns-in-Some : goal.returns-in-Some
returns-in-Some c =
    length_found (replicate 6 nil) refl c.loop-length.invariant c.args.most (omega (arith, c.loop-length-test.true)) _ c.in-Some.ensures

pub loop-length-preserved : goal.loop-length-preserved
loop-length-preserved c = length_nothing (replicate 6 nil) refl c.loop-length.invariant c.in_default.ensures

pub returns-in_default : goal.returns-in_default
returns-in_default c =
    none_left c.args.most (c.loop-length.length + 1) (omega arith) (length_nothing (replicate 6 nil) refl c.loop-length.invariant c.in_default.ensures)
