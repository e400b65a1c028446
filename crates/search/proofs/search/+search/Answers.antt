use Rattle.std.proofs.Common.{◌≡◌, ◌<◌, ℕ, arith, rules, length as length_of}
use mathlib.Core.Path.{subst}
use Rattle.shortest.specs.Search.{Shaped}
use Rattle.shortest.proofs.Turns.{shaped_placeable}
use Rattle.shortest.proofs.Written.{shaped_readable}
use Rattle.shortest.proofs.Searching.{turn_start, turn_skip, turn_shaped, turn_hopeless, turn_nothing, turn_found, turn_end, turn_none, leaf_found, leaf_none}
use Rattle.search.proofs.search.+search.Goals as goal

pub judge_records-legal-requires : goal.judge_records-legal-requires
judge_records-legal-requires t c = (c.requires.0, c.requires.7, shaped_readable c.requires.5 (subst (λ (j : ℕ). Shaped c.args.write c.args.bi c.args.bc c.args.length j c.args.items) c.if-k-n.true c.requires.12))

pub returns-then-left-eq0 : goal.returns-then-left-eq0
returns-then-left-eq0 t c = let l : c.args.k < c.args.n = omega (arith, c.requires.11, c.if-k-n.false) in let z : length_of c.args.items ≡ 6 = search rules in turn_none c.args.t c.args.write c.args.bi c.args.bc c.args.length c.args.left c.args.k c.args.items c.requires.8 (omega (arith, c.requires.6)) (omega (arith, c.requires.7)) c.if-left-eq0.true

pub loop-m-init : goal.loop-m-init
loop-m-init t c = let l : c.args.k < c.args.n = omega (arith, c.requires.11, c.if-k-n.false) in let z : length_of c.args.items ≡ 6 = search rules in (turn_start c.args.t c.args.write c.args.bi c.args.bc c.args.length c.args.left c.args.k c.args.items c.requires.8 (omega (arith, c.requires.6)) (omega (arith, c.requires.7)) c.requires.10 (omega (arith, c.if-left-eq0.false)) c.requires.9 c.requires.12, l)

pub hope-some-requires : goal.hope-some-requires
hope-some-requires t c = (c.requires.0, c.requires.1, c.requires.2, c.requires.3, c.requires.4, c.requires.5, c.requires.6, omega (arith, c.loop-m.invariant.1), c.requires.7, omega arith, omega (arith, c.loop-m.invariant.1), shaped_placeable c.args.t c.requires.3 (turn_shaped c.loop-m.invariant.0 c.loop-m-test.true (record { steps = c.count-step.ensures; kinds = c.kind_at-kind.ensures; classes = c.class_of.ensures; fits = c.is_choice.ensures }) c.put-placed.ensures c.if-not-is_choice.false))

pub loop-m-preserved-then-not-some : goal.loop-m-preserved-then-not-some
loop-m-preserved-then-not-some t c = (turn_hopeless c.loop-m.invariant.0 c.loop-m-test.true (record { steps = c.count-step.ensures; kinds = c.kind_at-kind.ensures; classes = c.class_of.ensures; fits = c.is_choice.ensures }) c.put-placed.ensures c.if-not-is_choice.false (c.hope-some.ensures c.if-not-some.true), c.loop-m.invariant.1)

pub loop-m-preserved-then-not-is_choice : goal.loop-m-preserved-then-not-is_choice
loop-m-preserved-then-not-is_choice t c = (turn_skip c.loop-m.invariant.0 c.loop-m-test.true (record { steps = c.count-step.ensures; kinds = c.kind_at-kind.ensures; classes = c.class_of.ensures; fits = c.is_choice.ensures }) c.if-not-is_choice.true, c.loop-m.invariant.1)

pub search-requires : goal.search-requires
search-requires t c = (omega (arith, c.loop-m.invariant.0.some), (c.requires.0, c.requires.1, c.requires.2, c.requires.3, c.requires.4, c.requires.5, c.requires.6, c.requires.7, c.requires.8, omega (arith, c.requires.9), omega arith, omega (arith, c.loop-m.invariant.1), turn_shaped c.loop-m.invariant.0 c.loop-m-test.true (record { steps = c.count-step.ensures; kinds = c.kind_at-kind.ensures; classes = c.class_of.ensures; fits = c.is_choice.ensures }) c.put-placed.ensures c.if-not-is_choice.false))

pub returns-then-legal : goal.returns-then-legal
returns-then-legal t c = leaf_found _ c.if-k-n.true c.requires.6 c.requires.10 c.requires.12 (c.judge_records-legal.ensures.0 c.if-legal.true)

pub returns-else-legal : goal.returns-else-legal
returns-else-legal t c = leaf_none _ c.if-k-n.true c.requires.6 c.requires.10 c.requires.12 (c.judge_records-legal.ensures.1 c.if-legal.false)

pub returns-in-Some : goal.returns-in-Some
returns-in-Some t c = turn_found c.loop-m.invariant.0 c.loop-m-test.true (record { steps = c.count-step.ensures; kinds = c.kind_at-kind.ensures; classes = c.class_of.ensures; fits = c.is_choice.ensures }) c.put-placed.ensures c.if-not-is_choice.false c.in-Some.found c.in-Some.ensures

pub loop-m-preserved : goal.loop-m-preserved
loop-m-preserved t c = (turn_nothing c.loop-m.invariant.0 c.loop-m-test.true (record { steps = c.count-step.ensures; kinds = c.kind_at-kind.ensures; classes = c.class_of.ensures; fits = c.is_choice.ensures }) c.put-placed.ensures c.if-not-is_choice.false c.in_default.ensures, c.loop-m.invariant.1)

pub returns : goal.returns
returns t c = turn_end c.loop-m.invariant.0 c.loop-m-test.false c.search-2.result c.search-2.ensures
