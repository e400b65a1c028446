use borrow.Author.Rules.{rules}
use native.Mathlib.Omega.{arith}
use Prim.Native.Nat.{ℕ, ◌+◌, ◌<◌}
use mathlib.Core.Bool.{true}
use mathlib.Core.Path.{◌≡◌, refl, sym, ap, ◌∙◌, subst}
use lib.ListN.{set, length as length_of}
use Rattle.records.specs.declared.command.Kind.{Kind}
use Rattle.records.specs.Command.{command}
use Rattle.rules.proofs.laws.TestLaws.{true_false}
use Rattle.shortest.specs.Search.{Placeable, Hopeless}
use Rattle.shortest.proofs.Turns.{placeable_put}
use Rattle.shortest.proofs.Orders.{order_start, order_full, order_next, order_end}
use Rattle.lifts.proofs.hope.+hope.Goals as goal

pub lift-requires : goal.lift-requires
lift-requires t c = (c.requires.0, c.requires.1, c.requires.2, c.requires.4, c.requires.5, c.requires.7, c.requires.8, subst (λ (j : ℕ). Placeable c.args.t j c.args.items) c.if-m-n.true c.requires.11)

pub returns-then-m-n : goal.returns-then-m-n
returns-then-m-n t c f = subst (λ (j : ℕ). Hopeless c.args.t c.args.write c.args.bi c.args.bc c.args.length c.args.k j c.args.items) (sym c.if-m-n.true) (c.lift.ensures f c.args.write c.args.bi c.args.bc c.requires.6)

pub loop-b-init : goal.loop-b-init
loop-b-init t c = let l : c.args.m < c.args.n = omega (arith, c.requires.10, c.if-m-n.false) in let z : length_of c.args.items ≡ 6 = search rules in (order_start c.args.t c.args.write c.args.bi c.args.bc c.args.length c.args.k c.args.m c.args.items c.requires.9 (omega (arith, c.requires.6)) (omega (arith, c.requires.8)), l, z)

pub hope-some-requires : goal.hope-some-requires
hope-some-requires t c = (omega (arith, c.loop-b.invariant.1), (c.requires.0, c.requires.1, c.requires.2, c.requires.3, c.requires.4, c.requires.5, c.requires.6, c.requires.7, c.requires.8, omega (arith, c.requires.9), omega (arith, c.loop-b.invariant.1), subst (Placeable c.args.t (c.args.m + 1)) (sym (c.put-order.ensures ∙ ap (λ (y : Kind). set c.args.items c.args.m (command 0 y c.loop-b.b 0)) c.kind_at.ensures)) (placeable_put c.args.t c.args.write c.args.bc c.args.m c.args.items 0 c.count-step.result c.loop-b.b c.loop-b.invariant.0.room (omega (arith, c.requires.3, c.loop-b-test.true)) c.requires.11)))

pub returns-then-some : goal.returns-then-some
returns-then-some t c f = true_false true refl f

pub loop-b-preserved : goal.loop-b-preserved
loop-b-preserved t c = (order_next c.loop-b.invariant.0 c.count-step.ensures c.kind_at.ensures c.put-order.ensures (c.hope-some.ensures c.if-some.false), c.loop-b.invariant.1, c.loop-b.invariant.2)

pub loop-b-preserved-then-bc-step : goal.loop-b-preserved-then-bc-step
loop-b-preserved-then-bc-step t c = (order_full c.loop-b.invariant.0 (omega (arith, c.count-step.ensures, c.if-bc-step.true)), c.loop-b.invariant.1, c.loop-b.invariant.2)

pub returns : goal.returns
returns t c f = order_end c.loop-b.invariant.0 c.loop-b-test.false
