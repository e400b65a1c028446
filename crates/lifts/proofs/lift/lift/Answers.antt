use Rattle.std.proofs.Common.{arith, rules, sym, ◌∙◌}
use Rattle.shortest.proofs.LiftTurn.{turn_start, turn_known, turn_ref, turn_bank, turn_lost, turn_act, turn_data}
use Rattle.lifts.proofs.lift.lift.Goals as goal

pub loop-turn-init : goal.loop-turn-init
loop-turn-init c = (rw c.kept_fresh-s.ensures (turn_start c.args.t c.args.length c.args.k c.args.n c.args.items c.requires.5 (search rules) c.requires.7), omega arith)

pub overflow_cast-at : goal.overflow_cast-at
overflow_cast-at c = omega (arith, turn_bank c.requires.0 c.loop-turn.invariant.0)

pub offset_bounds-s-at : goal.offset_bounds-s-at
offset_bounds-s-at c = omega (arith, turn_bank c.requires.0 c.loop-turn.invariant.0)

pub bounds-s-at : goal.bounds-s-at
bounds-s-at c = omega (arith, turn_bank c.requires.0 c.loop-turn.invariant.0)

pub scan-c-requires : goal.scan-c-requires
scan-c-requires c = (c.requires.0.groups, c.requires.1, c.requires.2, turn_known c.requires.0 c.loop-turn.invariant.0, turn_ref c.requires.0 c.loop-turn.invariant.0, omega (arith, c.loop-turn.invariant.0.near, c.limit_of-lim.ensures.1))

pub returns-then-lim-c : goal.returns-then-lim-c
returns-then-lim-c c = λ f. turn_lost c.requires.0 c.loop-turn.invariant.0 c.group_of-g.ensures.0 c.bound_of-bound.ensures.0 c.max.ensures c.scan-c.ensures c.limit_of-lim.ensures.0 c.if-lim-c.true

pub loop-turn-preserved-then-is_act : goal.loop-turn-preserved-then-is_act
loop-turn-preserved-then-is_act c = (rw c.group_opened.ensures (turn_act c.requires.0 c.loop-turn.invariant.0 c.group_of-g.ensures.0 c.bound_of-bound.ensures.0 c.max.ensures c.scan-c.ensures c.requires.6 c.requires.4 c.if-lim-c.false c.next_shift-off.ensures c.next_place-i.ensures (sym c.is_act.ensures ∙ c.if-is_act.true)), omega (arith, c.quiet_after-quiet.ensures, c.if-quiet-eq30.false))

pub loop-turn-preserved : goal.loop-turn-preserved
loop-turn-preserved c = (rw (c.group_moved.ensures, c.kept_after.ensures, c.is_closing.ensures, c.is_wr-write.ensures) (turn_data c.requires.0 c.loop-turn.invariant.0 c.group_of-g.ensures.0 c.bound_of-bound.ensures.0 c.max.ensures c.scan-c.ensures c.requires.6 c.requires.4 c.if-lim-c.false c.next_shift-off.ensures c.next_place-i.ensures (sym c.is_act.ensures ∙ c.if-is_act.false)), omega (arith, c.quiet_after-quiet.ensures, c.if-quiet-eq30.false))
