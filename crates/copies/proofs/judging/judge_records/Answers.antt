use Rattle.std.proofs.Common.{rules}
use native.Mathlib.Omega.{arith}
use mathlib.Core.Path.{sym, ap, ◌∙◌}
use mathlib.Core.Bool.{Bool}
use Rattle.records.specs.Tests.{pick}
use Rattle.rules.specs.declared.verdict.Verdict.TheVariants.{Accepted, Refused}
use Rattle.rules.specs.declared.verdict.Rule.TheVariants.{End}
use Rattle.copies.specs.Seen.{record_count}
use Rattle.copies.proofs.Turn.{turn_start, turn_judging, turn_end}
use Rattle.copies.proofs.InPlace.{low_bank, range_stops, ref_stops, ref_next, rule_stops, act_next, data_next, kept_room}
use Rattle.copies.proofs.judging.judge_records.Goals.{then-is_ref+in-None, else-is_ref+in-None-found+then-is_act, else-is_ref+in-None-found+else-is_act}
use Rattle.copies.proofs.judging.judge_records.Goals as goal

pub loop-i-init : goal.loop-i-init
loop-i-init g c = (search rules, rw c.table-t.ensures (turn_start c.requires.sums))

pub returns-then-not-in_table-clause-verdict : goal.returns-then-not-in_table-clause-verdict
returns-then-not-in_table-clause-verdict g c =
    rw (sym c.table-t.ensures)
    (range_stops c.loop-i.state c.loop-i.invariant.0 c.loop-i.invariant.1 c.loop-i-test.true c.command_at-r.ensures c.shift_of-shift.ensures.0
    (sym c.in_table.ensures ∙ c.if-not-in_table.true))

pub returns-in-Some-clause-verdict : goal.returns-in-Some-clause-verdict
returns-in-Some-clause-verdict g c =
    rw (sym c.table-t.ensures)
    (ref_stops c.loop-i.state c.loop-i.invariant.0 c.loop-i.invariant.1 c.loop-i-test.true c.command_at-r.ensures c.shift_of-shift.ensures.0
    (sym c.in_table.ensures ∙ c.if-not-in_table.false) (sym c.is_ref.ensures ∙ c.if-is_ref.true) c.kept_rests.ensures c.found_ref.ensures _ c.in-Some.is)

pub overflow_add-state : goal.overflow_add-state
overflow_add-state g c =
    omega (arith, (kept_room c.args.length c.args.s.now c.args.k c.loop-i.state c.loop-i.invariant.1 c.requires.five c.requires.few).0)

pub bounds-state-at : goal.bounds-state-at
bounds-state-at g c = low_bank c.loop-i.invariant.0 _ _ (sym c.in_table.ensures ∙ c.if-not-in_table.false)

pub returns-in-Some-found-clause-verdict : goal.returns-in-Some-found-clause-verdict
returns-in-Some-found-clause-verdict g c =
    rw (sym c.table-t.ensures)
    (rule_stops c.loop-i.state c.loop-i.invariant.0 c.loop-i.invariant.1 c.loop-i-test.true c.command_at-r.ensures c.shift_of-shift.ensures.0
    (sym c.in_table.ensures ∙ c.if-not-in_table.false) (sym c.is_ref.ensures ∙ c.if-is_ref.false) c.table-t.ensures c.group-g.ensures.own
    c.found.ensures _ c.in-Some-found.is)

pub overflow_add-state-then-is_act : goal.overflow_add-state-then-is_act
overflow_add-state-then-is_act g c =
    omega (arith, (kept_room c.args.length c.args.s.now c.args.k c.loop-i.state c.loop-i.invariant.1 c.requires.five c.requires.few).0)

pub overflow_add-state-else-is_act : goal.overflow_add-state-else-is_act
overflow_add-state-else-is_act g c =
    omega (arith, (kept_room c.args.length c.args.s.now c.args.k c.loop-i.state c.loop-i.invariant.1 c.requires.five c.requires.few).1)

pub bounds-state-at-else-is_act : goal.bounds-state-at-else-is_act
bounds-state-at-else-is_act g c = low_bank c.loop-i.invariant.0 _ _ (sym c.in_table.ensures ∙ c.if-not-in_table.false)

pub loop-i-preserved : goal.loop-i-preserved
loop-i-preserved g c =
    elim c.if-is_ref.branch [
      | then-is_ref+in-None w ↦ (
          rw w.state-is (
            c.loop-i.invariant.0,
            ref_next c.loop-i.state c.loop-i.invariant.0 c.loop-i.invariant.1 c.loop-i-test.true c.command_at-r.ensures c.shift_of-shift.ensures.0
                (sym c.in_table.ensures ∙ c.if-not-in_table.false) (sym c.is_ref.ensures ∙ w.if-is_ref.true) w.kept_rests.ensures w.found_ref.ensures w.in-None.is,
          )
          )
      | else-is_ref+in-None-found+then-is_act w ↦ (
          rw (w.state-is, w.group_opened.ensures) (
            c.loop-i.invariant.0,
            act_next c.loop-i.state c.loop-i.invariant.0 c.loop-i.invariant.1 c.loop-i-test.true c.command_at-r.ensures c.shift_of-shift.ensures.0
                (sym c.in_table.ensures ∙ c.if-not-in_table.false) (sym c.is_ref.ensures ∙ w.if-is_ref.false) c.table-t.ensures w.group-g.ensures.own
                w.found.ensures w.in-None-found.is (sym w.is_act.ensures ∙ w.if-is_act.true),
          )
          )
      | else-is_ref+in-None-found+else-is_act w ↦ (
          rw (w.state-is, w.group_moved.ensures, w.kept_after.ensures, w.is_closing.ensures, w.is_wr-write.ensures) (
            c.loop-i.invariant.0,
            data_next c.loop-i.state c.loop-i.invariant.0 c.loop-i.invariant.1 c.loop-i-test.true c.command_at-r.ensures c.shift_of-shift.ensures.0
                (sym c.in_table.ensures ∙ c.if-not-in_table.false) (sym c.is_ref.ensures ∙ w.if-is_ref.false) c.table-t.ensures w.group-g.ensures.own
                w.found.ensures w.in-None-found.is (sym w.is_act.ensures ∙ w.if-is_act.false),
          )
          )
    ]

pub returns-clause-verdict : goal.returns-clause-verdict
returns-clause-verdict g c =
    let ended = λ (b : Bool). pick b Accepted (Refused End (record_count c.args.s.now)) in
    rw (sym c.table-t.ensures) (c.end_of.ensures ∙ ap ended c.all_shut.ensures ∙ turn_end c.loop-i.invariant.0 c.loop-i.invariant.1 c.loop-i-test.false)

pub returns-clause-state : goal.returns-clause-state
returns-clause-state g c = λ e. rw (sym c.table-t.ensures) (turn_judging c.loop-i.invariant.0 c.loop-i.invariant.1 c.loop-i-test.false)
