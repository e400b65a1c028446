use borrow.Author.Rules.{rules}
use native.Mathlib.Omega.{arith}
use Prim.Native.Nat.{ℕ, ◌-◌, ◌*◌, ◌<◌}
use mathlib.Core.Path.{refl, sym, ap, ◌∙◌, subst}
use mathlib.Core.Logic.{inl, inr}
use mathlib.Core.Bool.{true, false}
use Rattle.records.specs.Told.{put_at}
use Rattle.records.specs.declared.command.Command.{Command}
use Rattle.records.specs.Command.{bytes_of}
use Rattle.rules.specs.State.{Held}
use Rattle.rules.proofs.laws.TestLaws.{true_false}
use Rattle.rules.proofs.laws.Ranges.{held, ranges}
use Rattle.heads.proofs.Laws.{few as few_listed}
use Rattle.timing.specs.Kept.{told}
use Rattle.engine.proofs.Going.{Going, starts, same_size, room_for, few, act_asked}
use Rattle.engine.proofs.InPlace.{at_cycle, kept_asked}
use Rattle.jump.proofs.Jumping.{none_yet, few_cycles, end_in, ends}
use Rattle.jump.proofs.Marking.{unmarked, marked_as}
use Rattle.jump.proofs.Turns.{both, Straight, Computed, turn_of, early, data_goes, data_for, asked, after_data, act_goes, act_for, after_ref, after_act}
use Rattle.jump.proofs.run.run_marked.Statement.{statement}
use Rattle.jump.proofs.run.run_marked.Tie as tie
use Rattle.jump.proofs.run.run_marked.Lts.{then-both_of, else-both_of}

abbrev invariant-loop : tie.invariant-loop-from_a
invariant-loop t list n all start count buffer₀ finishes₀ near away end s₀ latest₀ a₀ d₀ from_a₀ ready₀ knows_a₀ knows_d₀ k₀ buffer finishes s latest a d from_a ready knows_a knows_d k =
    Straight t list n start count end buffer₀ buffer finishes₀ finishes s latest a d from_a ready knows_a knows_d k

abbrev decreases-loop : tie.decreases-loop-from_a
decreases-loop t list n all start count buffer₀ finishes₀ near away end s₀ latest₀ a₀ d₀ from_a₀ ready₀ knows_a₀ knows_d₀ k₀ buffer finishes s latest a d from_a ready knows_a knows_d k = end - s.cycle

holds : (c : tie.Start invariant-loop decreases-loop) → Held c.args.t
holds c = held c.args.t (ranges c.args.t c.requires.0.list.table)

-- what a turn has computed where it knows the next cycle
computed : (c : tie.After-max-at invariant-loop decreases-loop)
    → Computed c.before.before.before.before.before.before.before.before.before.before.before.before.before.before.before.before.before.before.loop-from_a.invariant c.before.before.before.before.before.before.before.before.before.before.before.before.before.before.before.before.before.before.before.before.before.before.before.before.before.before.before.before.before.before.requires.0 c.before.before.before.before.before.before.before.before.before.before.before.before.before.before.before.before.before.before.before.before.before.before.before.before.before.before.distances-near.result c.before.before.before.before.before.before.before.before.before.before.before.before.before.before.before.before.before.before.before.before.before.before.before.before.before.distances-away.result c.before.before.before.before.before.before.before.before.before.before.before.before.group_of-dg.result c.before.before.before.before.before.before.before.before.before.before.before.before.before.group_of-ag.result c.before.before.before.before.before.before.before.before.before.before.is_wr-write.result c.before.before.before.before.before.before.before.before.before.before.before.is_ref-refreshes.result c.before.before.before.before.before.before.before.before.ready_from-ready.result c.before.before.before.before.before.before.before.nine_from-nine.result c.before.before.before.before.before.before.max-from_d.result c.before.before.before.before.opens_from-from_a.result c.before.before.if-both_of.from_a c.max-at.result
computed c =
    record {
      nears = c.before.before.before.before.before.before.before.before.before.before.before.before.before.before.before.before.before.before.before.before.before.before.before.before.before.before.distances-near.ensures;
      aways = c.before.before.before.before.before.before.before.before.before.before.before.before.before.before.before.before.before.before.before.before.before.before.before.before.before.distances-away.ensures;
      of_data = c.before.before.before.before.before.before.before.before.before.before.before.before.group_of-dg.ensures;
      of_act = c.before.before.before.before.before.before.before.before.before.before.before.before.before.group_of-ag.ensures;
      writes = c.before.before.before.before.before.before.before.before.before.before.is_wr-write.ensures;
      refreshes = c.before.before.before.before.before.before.before.before.before.before.before.is_ref-refreshes.ensures;
      ready = c.before.before.before.before.before.before.before.before.ready_from-ready.ensures;
      rule9 = c.before.before.before.before.before.before.before.nine_from-nine.ensures;
      data_from = c.before.before.before.before.before.before.max-from_d.ensures;
      opens = c.before.before.before.before.opens_from-from_a.ensures;
      act_from = elim c.before.before.if-both_of.branch [ then-both_of w ↦ inl (sym c.before.before.before.both_of.ensures ∙ w.if-both_of.true, w.from_a-is ∙ rw w.rests_from.ensures at w.ref_head_from-from_a.ensures) | else-both_of w ↦ inr (sym c.before.before.before.both_of.ensures ∙ w.if-both_of.false, w.from_a-is) ];
      at = rw c.before.min.ensures at c.max-at.ensures;
    }

-- a command goes before the run's end
abbrev when : tie.Else-end-at invariant-loop decreases-loop → ℕ
when c = c.before.max-at.result

ahead : (c : tie.Else-end-at invariant-loop decreases-loop) → when c < c.before.before.before.before.before.before.before.before.before.before.before.before.before.before.before.before.before.before.before.before.before.before.before.before.before.end_of-end.result
ahead c = omega (arith, c.if-end-at.false)

latest-of-requires : tie.Need-latest_of-latest-requires invariant-loop decreases-loop
latest-of-requires c κs =
    (holds c.before.before.before.before.before.before.before.before).groups

loop-holds : tie.Need-loop-from_a-init invariant-loop decreases-loop
unfolding told
loop-holds c =
    let a = c.before.before.before.before.before.before.before.before.before.before.before.args in let r = c.before.before.before.before.before.before.before.before.before.before.before.requires in
    record {
      going = subst (λ (i : ℕ). Going a.t a.list.now a.n (told a.start) a.count a.buffer.now a.buffer.now (told a.start) (both c.before.queue_after-a.result c.data_queue-d.result) i 0) (none_yet a.start.cycle)
          (starts _ r.0 (record { of_acts = c.before.queue_after-a.ensures; of_datas = c.data_queue-d.ensures.stands }));
      started = omega arith;
      within = omega (arith, c.before.before.before.before.before.end_of-end.ensures);
      end = c.before.before.before.before.before.end_of-end.ensures;
      found = c.data_queue-d.ensures.found;
      latest = c.before.before.latest_of-latest.ensures;
      act_known = λ q. true_false false q refl;
      data_known = λ q. true_false false q refl;
      places = (c.before.before.before.before.before.before.before.before.before.before.before.well_formed.1.1.1.1.0.1.1.1.1.1.1.0.1.0.1, c.before.before.before.before.before.before.before.before.before.before.before.well_formed.1.1.1.1.0.1.1.1.1.1.1.1.1.1.1.1.0.1.0.1);
      marking = unmarked a.buffer.now a.finishes.now;
    }

sub-ran : tie.Need-overflow_sub-ran invariant-loop decreases-loop
unfolding told
sub-ran c =
    let l = c.before.before.before.before.before.before.before.before.before.before.before.before.before.before.before.before.before.before.before.before.before.before.before.before in let v = l.loop-from_a in let h = v.invariant in let r = c.before.before.before.before.before.before.before.before.before.before.before.before.before.before.before.before.before.before.before.before.before.before.before.before.before.before.before.before.before.before.before.before.before.before.before.before.requires in let u = computed c.before.before.before.before.before.before in (end_in h.going (turn_of h r.0 u) c.before.before.both_of-served.result c.before.either_64-stop.result c.before.either_64-stop.ensures).0

cast-ran : tie.Need-overflow_cast-ran invariant-loop decreases-loop
unfolding told
cast-ran c =
    let l = c.before.before.before.before.before.before.before.before.before.before.before.before.before.before.before.before.before.before.before.before.before.before.before.before in let v = l.loop-from_a in let h = v.invariant in let r = c.before.before.before.before.before.before.before.before.before.before.before.before.before.before.before.before.before.before.before.before.before.before.before.before.before.before.before.before.before.before.before.before.before.before.before.before.requires in let u = computed c.before.before.before.before.before.before in record { fits = few_cycles (end_in h.going (turn_of h r.0 u) c.before.before.both_of-served.result c.before.either_64-stop.result c.before.either_64-stop.ensures).3 c.before.before.before.before.before.before.before.before.before.before.before.before.before.before.before.before.before.before.before.before.before.before.before.before.before.before.before.before.before.before.before.before.before.before.before.before.ranges.count.fits }

same_length : tie.Need-shape_of-buffer-then-end-at invariant-loop decreases-loop
unfolding told
same_length c =
    let l = c.before.before.before.before.before.before.before.before.before.before.before.before.before.before.before.before.before.before.before.before.before.before.before.before in let v = l.loop-from_a in let h = v.invariant in let r = c.before.before.before.before.before.before.before.before.before.before.before.before.before.before.before.before.before.before.before.before.before.before.before.before.before.before.before.before.before.before.before.before.before.before.before.before.requires in same_size h.going r.0

same-length-2 : tie.Need-shape_of-finishes-then-end-at invariant-loop decreases-loop
same-length-2 c =
    let l = c.before.before.before.before.before.before.before.before.before.before.before.before.before.before.before.before.before.before.before.before.before.before.before.before in let v = l.loop-from_a in let h = v.invariant in let r = c.before.before.before.before.before.before.before.before.before.before.before.before.before.before.before.before.before.before.before.before.before.before.before.before.before.before.before.before.before.before.before.before.before.before.before.before.requires in h.marking.marked.size

returns : tie.Need-returns-then-end-at invariant-loop decreases-loop
unfolding told
returns c =
    let l = c.before.before.before.before.before.before.before.before.before.before.before.before.before.before.before.before.before.before.before.before.before.before.before.before in let v = l.loop-from_a in let h = v.invariant in let r = c.before.before.before.before.before.before.before.before.before.before.before.before.before.before.before.before.before.before.before.before.before.before.before.before.before.before.before.before.before.before.before.before.before.before.before.before.requires in let u = computed c.before.before.before.before.before.before in (rw (ends h.going (turn_of h r.0 u) c.before.before.before.before.before.if-end-at.true c.before.before.both_of-served.result (rw (r.1.0, r.1.1) at c.before.before.both_of-served.ensures) c.before.either_64-stop.result c.before.either_64-stop.ensures) (record { state = refl; cycles = refl; commands = h.going.size; buffer = h.going.buffer }), marked_as h.marking)

add-next : tie.Need-overflow_add-next invariant-loop decreases-loop
unfolding told
add-next c =
    let l = c.before.before.before.before.before.before.before.before.before.before.before.before.before.before.before.before.before.before.before in let v = l.loop-from_a in let h = v.invariant in let r = c.before.before.before.before.before.before.before.before.before.before.before.before.before.before.before.before.before.before.before.before.before.before.before.before.before.before.before.before.before.before.before.requires in let u = computed c.before in omega (arith, (early h r.0 u (ahead (c))).0, (early h r.0 u (ahead (c))).1)

data-after-requires : tie.Need-data_after-d-requires invariant-loop decreases-loop
data-after-requires c κs =
    let l = c.before.before.before.before.before.before.before.before.before.before.before.before.before.before.before.before.before.before.before.before.before.before.before.before.before.before in let v = l.loop-from_a in let h = v.invariant in let r = c.before.before.before.before.before.before.before.before.before.before.before.before.before.before.before.before.before.before.before.before.before.before.before.before.before.before.before.before.before.before.before.before.before.before.before.before.before.before.requires in let u = computed c.before.before.before.before.before.before.before.before in asked h r.0 u (ahead c.before.before.before.before.before.before.before) (omega (arith, c.before.before.before.before.before.before.if-from_d-at.true))

add-s : tie.Need-overflow_add-s invariant-loop decreases-loop
add-s c =
    let l = c.before.before.before.before.before.before.before.before.before.before.before.before.before.before.before.before.before.before.before.before.before.before.before.before.before.before.before.before.before.before.before in let v = l.loop-from_a in let h = v.invariant in let r = c.before.before.before.before.before.before.before.before.before.before.before.before.before.before.before.before.before.before.before.before.before.before.before.before.before.before.before.before.before.before.before.before.before.before.before.before.before.before.before.before.before.before.before.requires in let u = computed c.before.before.before.before.before.before.before.before.before.before.before.before.before in omega (arith, (kept_asked (at_cycle v.s (when c.before.before.before.before.before.before.before.before.before.before.before.before)) (data_goes h r.0 u (ahead c.before.before.before.before.before.before.before.before.before.before.before.before) (omega (arith, c.before.before.before.before.before.before.before.before.before.before.before.if-from_d-at.true)))).2)

loop-again : tie.Need-loop-from_a-preserved-then-write invariant-loop decreases-loop
unfolding told
loop-again c =
    let l = c.before.before.before.before.before.before.before.before.before.before.before.before.before.before.before.before.before.before.before.before.before.before.before.before.before.before.before.before.before.before.before.before.before.before.before.before.before in let v = l.loop-from_a in let h = v.invariant in let r = c.before.before.before.before.before.before.before.before.before.before.before.before.before.before.before.before.before.before.before.before.before.before.before.before.before.before.before.before.before.before.before.before.before.before.before.before.before.before.before.before.before.before.before.before.before.before.before.before.before.requires in let u = computed c.before.before.before.before.before.before.before.before.before.before.before.before.before.before.before.before.before.before.before in after_data h r.0 u (ahead c.before.before.before.before.before.before.before.before.before.before.before.before.before.before.before.before.before.before) (omega (arith, c.before.before.before.before.before.before.before.before.before.before.before.before.before.before.before.before.before.if-from_d-at.true)) _ _ (c.before.before.before.before.before.before.before.before.before.before.before.before.before.put_command.ensures ∙ ap (λ (x : Command). put_at v.buffer (8 * v.k) (bytes_of x)) c.before.before.before.before.before.before.before.before.before.before.before.before.before.before.before.command_of.ensures) refl r.2 c.before.before.before.before.before.before.before.before.before.before.data_after-d.result c.before.before.before.before.before.before.before.before.before.before.data_after-d.ensures true c.before.before.before.before.before.before.before.before.before.is_closing-closes.result _ c.before.before.before.before.before.before.not_of-knows_d.result (sym c.before.before.before.before.before.if-write.true) c.before.before.before.before.before.before.before.before.before.is_closing-closes.ensures refl c.before.before.before.before.before.before.not_of-knows_d.ensures c.before.before.before.kept_after.result c.before.group_moved.result c.group_moved-latest.result c.before.before.before.kept_after.ensures c.before.group_moved.ensures c.group_moved-latest.ensures

loop-again-2 : tie.Need-loop-from_a-preserved-else-write invariant-loop decreases-loop
unfolding told
loop-again-2 c =
    let l = c.before.before.before.before.before.before.before.before.before.before.before.before.before.before.before.before.before.before.before.before.before.before.before.before.before.before.before.before.before.before.before.before.before.before.before.before.before in let v = l.loop-from_a in let h = v.invariant in let r = c.before.before.before.before.before.before.before.before.before.before.before.before.before.before.before.before.before.before.before.before.before.before.before.before.before.before.before.before.before.before.before.before.before.before.before.before.before.before.before.before.before.before.before.before.before.before.before.before.before.requires in let u = computed c.before.before.before.before.before.before.before.before.before.before.before.before.before.before.before.before.before.before.before in after_data h r.0 u (ahead c.before.before.before.before.before.before.before.before.before.before.before.before.before.before.before.before.before.before) (omega (arith, c.before.before.before.before.before.before.before.before.before.before.before.before.before.before.before.before.before.if-from_d-at.true)) _ _ (c.before.before.before.before.before.before.before.before.before.before.before.before.before.put_command.ensures ∙ ap (λ (x : Command). put_at v.buffer (8 * v.k) (bytes_of x)) c.before.before.before.before.before.before.before.before.before.before.before.before.before.before.before.command_of.ensures) refl r.2 c.before.before.before.before.before.before.before.before.before.before.data_after-d.result c.before.before.before.before.before.before.before.before.before.before.data_after-d.ensures false c.before.before.before.before.before.before.before.before.before.is_closing-closes.result _ c.before.before.before.before.before.before.not_of-knows_d.result (sym c.before.before.before.before.before.if-write.false) c.before.before.before.before.before.before.before.before.before.is_closing-closes.ensures refl c.before.before.before.before.before.before.not_of-knows_d.ensures c.before.before.before.kept_after-else-write.result c.before.group_moved-else-write.result c.group_moved-latest-else-write.result c.before.before.before.kept_after-else-write.ensures c.before.group_moved-else-write.ensures c.group_moved-latest-else-write.ensures

advance-requires : tie.Need-advance-a-requires invariant-loop decreases-loop
advance-requires c κs =
    let l = c.before.before.before.before.before.before.before.before.before.before.before.before.before.before.before.before.before.before.before.before.before.before.before.before.before in let v = l.loop-from_a in let h = v.invariant in let r = c.before.before.before.before.before.before.before.before.before.before.before.before.before.before.before.before.before.before.before.before.before.before.before.before.before.before.before.before.before.before.before.before.before.before.before.before.before.requires in let u = computed c.before.before.before.before.before.before.before in act_asked (act_goes h r.0 u (ahead c.before.before.before.before.before.before) c.before.before.before.before.before.if-from_d-at.false)

add-s-2 : tie.Need-overflow_add-s-else-from_d-at invariant-loop decreases-loop
add-s-2 c =
    let l = c.before.before.before.before.before.before.before.before.before.before.before.before.before.before.before.before.before.before.before.before.before.before.before.before.before.before.before.before.before.before in let v = l.loop-from_a in let h = v.invariant in let r = c.before.before.before.before.before.before.before.before.before.before.before.before.before.before.before.before.before.before.before.before.before.before.before.before.before.before.before.before.before.before.before.before.before.before.before.before.before.before.before.before.before.before.requires in let u = computed c.before.before.before.before.before.before.before.before.before.before.before.before in omega (arith, (kept_asked (at_cycle v.s (when c.before.before.before.before.before.before.before.before.before.before.before)) (act_goes h r.0 u (ahead c.before.before.before.before.before.before.before.before.before.before.before) c.before.before.before.before.before.before.before.before.before.before.if-from_d-at.false)).1)

loop-again-3 : tie.Need-loop-from_a-preserved-then-refreshes invariant-loop decreases-loop
unfolding told
loop-again-3 c =
    let l = c.before.before.before.before.before.before.before.before.before.before.before.before.before.before.before.before.before.before.before.before.before.before.before.before.before.before.before.before.before.before.before.before in let v = l.loop-from_a in let h = v.invariant in let r = c.before.before.before.before.before.before.before.before.before.before.before.before.before.before.before.before.before.before.before.before.before.before.before.before.before.before.before.before.before.before.before.before.before.before.before.before.before.before.before.before.before.before.before.before.requires in let u = computed c.before.before.before.before.before.before.before.before.before.before.before.before.before.before in after_ref h r.0 u (ahead c.before.before.before.before.before.before.before.before.before.before.before.before.before) c.before.before.before.before.before.before.before.before.before.before.before.before.if-from_d-at.false _ (c.before.before.before.before.before.before.before.before.before.put_command-else-from_d-at.ensures ∙ ap (λ (x : Command). put_at v.buffer (8 * v.k) (bytes_of x)) c.before.before.before.before.before.before.before.before.before.before.before.command_of-else-from_d-at.ensures) c.before.before.before.before.before.before.advance-a.result c.before.before.before.before.before.before.advance-a.ensures c.before.before.both_of-knows_d.result c.before.before.both_of-knows_d.ensures (sym c.before.before.before.before.before.before.before.before.before.before.before.before.before.before.before.before.before.before.before.before.before.before.before.before.before.is_ref-refreshes.ensures ∙ c.before.if-refreshes.true) _ refl r.2 _ refl

loop-again-4 : tie.Need-loop-from_a-preserved invariant-loop decreases-loop
unfolding told
loop-again-4 c =
    let l = c.before.before.before.before.before.before.before.before.before.before.before.before.before.before.before.before.before.before.before.before.before.before.before.before.before.before.before.before.before.before.before.before.before.before in let v = l.loop-from_a in let h = v.invariant in let r = c.before.before.before.before.before.before.before.before.before.before.before.before.before.before.before.before.before.before.before.before.before.before.before.before.before.before.before.before.before.before.before.before.before.before.before.before.before.before.before.before.before.before.before.before.before.before.requires in let u = computed c.before.before.before.before.before.before.before.before.before.before.before.before.before.before.before.before in after_act h r.0 u (ahead c.before.before.before.before.before.before.before.before.before.before.before.before.before.before.before) c.before.before.before.before.before.before.before.before.before.before.before.before.before.before.if-from_d-at.false _ (c.before.before.before.before.before.before.before.before.before.before.before.put_command-else-from_d-at.ensures ∙ ap (λ (x : Command). put_at v.buffer (8 * v.k) (bytes_of x)) c.before.before.before.before.before.before.before.before.before.before.before.before.before.command_of-else-from_d-at.ensures) c.before.before.before.before.before.before.before.before.advance-a.result c.before.before.before.before.before.before.before.before.advance-a.ensures c.before.before.before.before.both_of-knows_d.result c.before.before.before.before.both_of-knows_d.ensures (sym c.before.before.before.before.before.before.before.before.before.before.before.before.before.before.before.before.before.before.before.before.before.before.before.before.before.before.before.is_ref-refreshes.ensures ∙ c.before.before.before.if-refreshes.false) c.before.group_opened.result c.group_opened-latest.result c.before.group_opened.ensures c.group_opened-latest.ensures _ refl

pub run_marked_spec : {M : Type 1} → statement M
run_marked_spec = tie.close (tie.spec invariant-loop decreases-loop (λ c κs. search rules) (λ c κs. search rules) (λ c κs. search rules) (λ c. omega (arith, (holds c.before.before.before.before.before.before.before.before).groups)) latest-of-requires (λ c κs. c.before.before.before.before.before.before.before.before.before.requires.0.list) (λ c κs. c.before.before.before.before.before.before.before.before.before.before.requires.0.list) loop-holds (λ c. search rules) (λ c. search rules) (λ c κs. (holds c.before.before.before.before.before.before.before.before.before.before.before.before.before.before.before.before).some) (λ c κs. (holds c.before.before.before.before.before.before.before.before.before.before.before.before.before.before.before.before.before).some) (λ c κs. search rules) (λ c κs. search rules) (λ c. omega (arith, c.before.before.before.before.before.before.before.before.loop-from_a.invariant.going.queues.of_datas.bank)) (λ c. omega (arith, c.before.before.before.before.before.before.before.before.loop-from_a.invariant.going.queues.of_datas.bank)) (λ c κs. search rules) (λ c. omega (arith, c.before.before.before.before.group_of-dg.ensures.1, (holds c.before.before.before.before.before.before.before.before.before.before.before.before.before.before.before.before.before.before.before.before.before.before).groups)) (λ c. omega (arith, c.before.before.before.before.group_of-dg.ensures.1, (holds c.before.before.before.before.before.before.before.before.before.before.before.before.before.before.before.before.before.before.before.before.before.before).groups)) (λ c. omega (arith, c.before.before.before.before.group_of-dg.ensures.1, (holds c.before.before.before.before.before.before.before.before.before.before.before.before.before.before.before.before.before.before.before.before.before.before).groups)) (λ c. omega (arith, c.before.before.before.before.group_of-dg.ensures.1, (holds c.before.before.before.before.before.before.before.before.before.before.before.before.before.before.before.before.before.before.before.before.before.before).groups)) (λ c κs. search rules) (λ c κs. search rules) (λ c. omega (arith, c.before.before.before.before.before.before.before.before.before.before.before.before.loop-from_a.invariant.going.queues.of_acts.bank)) (λ c. omega (arith, c.before.before.before.before.before.before.before.before.before.before.before.before.loop-from_a.invariant.going.queues.of_acts.bank)) (λ c. omega (arith, c.before.before.before.before.before.before.before.before.group_of-ag.ensures.1, (holds c.before.before.before.before.before.before.before.before.before.before.before.before.before.before.before.before.before.before.before.before.before.before.before.before.before).groups)) (λ c. omega (arith, c.before.before.before.before.before.before.before.before.group_of-ag.ensures.1, (holds c.before.before.before.before.before.before.before.before.before.before.before.before.before.before.before.before.before.before.before.before.before.before.before.before.before).groups)) (λ c κs. search rules) (λ c κs. search rules) (λ c κs. (holds c.before.before.before.before.before.before.before.before.before.before.before.before.before.before.before.before.before.before.before.before.before.before.before.before.before.before.before.before).banks) (λ c κs. search rules) (λ c κs. search rules) (λ c κs. search rules) (λ c κs. search rules) (λ c κs. search rules) sub-ran cast-ran same_length same-length-2 returns add-next (λ c. let l = c.before.before.before.before.before.before.before.before.before.before.before.before.before.before.before.before.before.before.before.before.before in let v = l.loop-from_a in let h = v.invariant in let r = c.before.before.before.before.before.before.before.before.before.before.before.before.before.before.before.before.before.before.before.before.before.before.before.before.before.before.before.before.before.before.before.before.before.requires in let u = computed c.before.before.before in omega (arith, data_for h r.0 u (ahead c.before.before) (omega (arith, c.before.if-from_d-at.true)), few_listed r.0.list)) (λ c κs. let l = c.before.before.before.before.before.before.before.before.before.before.before.before.before.before.before.before.before.before.before.before.before in let v = l.loop-from_a in let h = v.invariant in let r = c.before.before.before.before.before.before.before.before.before.before.before.before.before.before.before.before.before.before.before.before.before.before.before.before.before.before.before.before.before.before.before.before.before.requires in let u = computed c.before.before.before in omega (arith, (early h r.0 u (ahead c.before.before)).0)) (λ c. let l = c.before.before.before.before.before.before.before.before.before.before.before.before.before.before.before.before.before.before.before.before.before.before.before in let v = l.loop-from_a in let h = v.invariant in let r = c.before.before.before.before.before.before.before.before.before.before.before.before.before.before.before.before.before.before.before.before.before.before.before.before.before.before.before.before.before.before.before.before.before.before.before.requires in let u = computed c.before.before.before.before.before in omega (arith, few (data_goes h r.0 u (ahead c.before.before.before.before) (omega (arith, c.before.before.before.if-from_d-at.true))), c.before.before.before.before.before.before.before.before.before.before.before.before.before.before.before.before.before.before.before.before.before.before.before.before.before.before.before.before.before.before.before.before.before.before.before.ranges.count)) (λ c κs. let l = c.before.before.before.before.before.before.before.before.before.before.before.before.before.before.before.before.before.before.before.before.before.before.before in let v = l.loop-from_a in let h = v.invariant in let r = c.before.before.before.before.before.before.before.before.before.before.before.before.before.before.before.before.before.before.before.before.before.before.before.before.before.before.before.before.before.before.before.before.before.before.before.requires in let u = computed c.before.before.before.before.before in room_for (data_goes h r.0 u (ahead c.before.before.before.before) (omega (arith, c.before.before.before.if-from_d-at.true)))) (λ c. let l = c.before.before.before.before.before.before.before.before.before.before.before.before.before.before.before.before.before.before.before.before.before.before.before.before.before.before in let v = l.loop-from_a in let h = v.invariant in let r = c.before.before.before.before.before.before.before.before.before.before.before.before.before.before.before.before.before.before.before.before.before.before.before.before.before.before.before.before.before.before.before.before.before.before.before.before.before.before.requires in let u = computed c.before.before.before.before.before.before.before.before in omega (arith, (early h r.0 u (ahead c.before.before.before.before.before.before.before)).0)) (λ c. let l = c.before.before.before.before.before.before.before.before.before.before.before.before.before.before.before.before.before.before.before.before.before.before.before.before.before.before in let v = l.loop-from_a in let h = v.invariant in let r = c.before.before.before.before.before.before.before.before.before.before.before.before.before.before.before.before.before.before.before.before.before.before.before.before.before.before.before.before.before.before.before.before.before.before.before.before.before.before.requires in let u = computed c.before.before.before.before.before.before.before.before in omega (arith, data_for h r.0 u (ahead c.before.before.before.before.before.before.before) (omega (arith, c.before.before.before.before.before.before.if-from_d-at.true)), few_listed r.0.list)) (λ c. let l = c.before.before.before.before.before.before.before.before.before.before.before.before.before.before.before.before.before.before.before.before.before.before.before.before.before.before in let v = l.loop-from_a in let h = v.invariant in let r = c.before.before.before.before.before.before.before.before.before.before.before.before.before.before.before.before.before.before.before.before.before.before.before.before.before.before.before.before.before.before.before.before.before.before.before.before.before.before.requires in let u = computed c.before.before.before.before.before.before.before.before in omega (arith, data_for h r.0 u (ahead c.before.before.before.before.before.before.before) (omega (arith, c.before.before.before.before.before.before.if-from_d-at.true)), r.2, h.marking.marked.size)) (λ c. let l = c.before.before.before.before.before.before.before.before.before.before.before.before.before.before.before.before.before.before.before.before.before.before.before.before.before.before in let v = l.loop-from_a in let h = v.invariant in let r = c.before.before.before.before.before.before.before.before.before.before.before.before.before.before.before.before.before.before.before.before.before.before.before.before.before.before.before.before.before.before.before.before.before.before.before.before.before.before.requires in let u = computed c.before.before.before.before.before.before.before.before in omega (arith, few (data_goes h r.0 u (ahead c.before.before.before.before.before.before.before) (omega (arith, c.before.before.before.before.before.before.if-from_d-at.true))), c.before.before.before.before.before.before.before.before.before.before.before.before.before.before.before.before.before.before.before.before.before.before.before.before.before.before.before.before.before.before.before.before.before.before.before.before.before.before.ranges.count)) data-after-requires (λ c κs. search rules) (λ c κs. search rules) add-s (λ c. omega (arith, c.before.before.before.before.before.before.before.before.before.before.before.before.before.before.before.before.before.before.before.before.before.before.before.before.before.before.before.before.before.before.before.before.loop-from_a.invariant.going.queues.of_datas.bank)) (λ c. omega (arith, c.before.before.before.before.before.before.before.before.before.before.before.before.before.before.before.before.before.before.before.before.before.before.before.before.before.before.before.before.before.before.before.before.loop-from_a.invariant.going.queues.of_datas.bank)) (λ c κs. search rules) (λ c. omega (arith, c.before.before.before.before.before.before.before.before.before.before.before.before.before.before.before.before.before.before.before.before.before.before.before.before.before.before.before.before.before.before.before.before.before.before.loop-from_a.invariant.going.queues.of_datas.bank)) (λ c. omega (arith, c.before.before.before.before.before.before.before.before.before.before.before.before.before.before.before.before.before.before.before.before.before.before.before.before.before.before.before.before.before.before.before.before.before.before.loop-from_a.invariant.going.queues.of_datas.bank)) (λ c. omega (arith, c.before.before.before.before.before.before.before.before.before.before.before.before.before.before.before.before.before.before.before.before.before.before.before.before.before.before.before.before.group_of-dg.ensures.1, (holds c.before.before.before.before.before.before.before.before.before.before.before.before.before.before.before.before.before.before.before.before.before.before.before.before.before.before.before.before.before.before.before.before.before.before.before.before.before.before.before.before.before.before.before.before.before.before).groups)) (λ c. omega (arith, c.before.before.before.before.before.before.before.before.before.before.before.before.before.before.before.before.before.before.before.before.before.before.before.before.before.before.before.before.group_of-dg.ensures.1, (holds c.before.before.before.before.before.before.before.before.before.before.before.before.before.before.before.before.before.before.before.before.before.before.before.before.before.before.before.before.before.before.before.before.before.before.before.before.before.before.before.before.before.before.before.before.before.before).groups)) (λ c κs. search rules) (λ c. omega (arith, c.before.before.before.before.before.before.before.before.before.before.before.before.before.before.before.before.before.before.before.before.before.before.before.before.before.before.before.before.before.before.group_of-dg.ensures.1, (holds c.before.before.before.before.before.before.before.before.before.before.before.before.before.before.before.before.before.before.before.before.before.before.before.before.before.before.before.before.before.before.before.before.before.before.before.before.before.before.before.before.before.before.before.before.before.before.before.before).groups)) (λ c. omega (arith, c.before.before.before.before.before.before.before.before.before.before.before.before.before.before.before.before.before.before.before.before.before.before.before.before.before.before.before.before.before.before.group_of-dg.ensures.1, (holds c.before.before.before.before.before.before.before.before.before.before.before.before.before.before.before.before.before.before.before.before.before.before.before.before.before.before.before.before.before.before.before.before.before.before.before.before.before.before.before.before.before.before.before.before.before.before.before.before).groups)) (λ c κs. search rules) (λ c. let l = c.before.before.before.before.before.before.before.before.before.before.before.before.before.before.before.before.before.before.before.before.before.before.before.before.before.before.before.before.before.before.before.before.before.before.before.before.before in let v = l.loop-from_a in let h = v.invariant in let r = c.before.before.before.before.before.before.before.before.before.before.before.before.before.before.before.before.before.before.before.before.before.before.before.before.before.before.before.before.before.before.before.before.before.before.before.before.before.before.before.before.before.before.before.before.before.before.before.before.before.requires in let u = computed c.before.before.before.before.before.before.before.before.before.before.before.before.before.before.before.before.before.before.before in omega (arith, (early h r.0 u (ahead c.before.before.before.before.before.before.before.before.before.before.before.before.before.before.before.before.before.before)).1, (ahead c.before.before.before.before.before.before.before.before.before.before.before.before.before.before.before.before.before.before))) loop-again (λ c. omega (arith, c.before.before.before.before.before.before.before.before.before.before.before.before.before.before.before.before.before.before.before.before.before.before.before.before.before.before.before.before.before.before.before.before.loop-from_a.invariant.going.queues.of_datas.bank)) (λ c. omega (arith, c.before.before.before.before.before.before.before.before.before.before.before.before.before.before.before.before.before.before.before.before.before.before.before.before.before.before.before.before.before.before.before.before.loop-from_a.invariant.going.queues.of_datas.bank)) (λ c κs. search rules) (λ c. omega (arith, c.before.before.before.before.before.before.before.before.before.before.before.before.before.before.before.before.before.before.before.before.before.before.before.before.before.before.before.before.before.before.before.before.before.before.loop-from_a.invariant.going.queues.of_datas.bank)) (λ c. omega (arith, c.before.before.before.before.before.before.before.before.before.before.before.before.before.before.before.before.before.before.before.before.before.before.before.before.before.before.before.before.before.before.before.before.before.before.loop-from_a.invariant.going.queues.of_datas.bank)) (λ c. omega (arith, c.before.before.before.before.before.before.before.before.before.before.before.before.before.before.before.before.before.before.before.before.before.before.before.before.before.before.before.before.group_of-dg.ensures.1, (holds c.before.before.before.before.before.before.before.before.before.before.before.before.before.before.before.before.before.before.before.before.before.before.before.before.before.before.before.before.before.before.before.before.before.before.before.before.before.before.before.before.before.before.before.before.before.before).groups)) (λ c. omega (arith, c.before.before.before.before.before.before.before.before.before.before.before.before.before.before.before.before.before.before.before.before.before.before.before.before.before.before.before.before.group_of-dg.ensures.1, (holds c.before.before.before.before.before.before.before.before.before.before.before.before.before.before.before.before.before.before.before.before.before.before.before.before.before.before.before.before.before.before.before.before.before.before.before.before.before.before.before.before.before.before.before.before.before.before).groups)) (λ c κs. search rules) (λ c. omega (arith, c.before.before.before.before.before.before.before.before.before.before.before.before.before.before.before.before.before.before.before.before.before.before.before.before.before.before.before.before.before.before.group_of-dg.ensures.1, (holds c.before.before.before.before.before.before.before.before.before.before.before.before.before.before.before.before.before.before.before.before.before.before.before.before.before.before.before.before.before.before.before.before.before.before.before.before.before.before.before.before.before.before.before.before.before.before.before.before).groups)) (λ c. omega (arith, c.before.before.before.before.before.before.before.before.before.before.before.before.before.before.before.before.before.before.before.before.before.before.before.before.before.before.before.before.before.before.group_of-dg.ensures.1, (holds c.before.before.before.before.before.before.before.before.before.before.before.before.before.before.before.before.before.before.before.before.before.before.before.before.before.before.before.before.before.before.before.before.before.before.before.before.before.before.before.before.before.before.before.before.before.before.before.before).groups)) (λ c κs. search rules) (λ c. let l = c.before.before.before.before.before.before.before.before.before.before.before.before.before.before.before.before.before.before.before.before.before.before.before.before.before.before.before.before.before.before.before.before.before.before.before.before.before in let v = l.loop-from_a in let h = v.invariant in let r = c.before.before.before.before.before.before.before.before.before.before.before.before.before.before.before.before.before.before.before.before.before.before.before.before.before.before.before.before.before.before.before.before.before.before.before.before.before.before.before.before.before.before.before.before.before.before.before.before.before.requires in let u = computed c.before.before.before.before.before.before.before.before.before.before.before.before.before.before.before.before.before.before.before in omega (arith, (early h r.0 u (ahead c.before.before.before.before.before.before.before.before.before.before.before.before.before.before.before.before.before.before)).1, (ahead c.before.before.before.before.before.before.before.before.before.before.before.before.before.before.before.before.before.before))) loop-again-2 (λ c κs. let l = c.before.before.before.before.before.before.before.before.before.before.before.before.before.before.before.before.before.before.before.before in let v = l.loop-from_a in let h = v.invariant in let r = c.before.before.before.before.before.before.before.before.before.before.before.before.before.before.before.before.before.before.before.before.before.before.before.before.before.before.before.before.before.before.before.before.requires in let u = computed c.before.before in omega (arith, (early h r.0 u (ahead c.before)).0)) (λ c. let l = c.before.before.before.before.before.before.before.before.before.before.before.before.before.before.before.before.before.before.before.before.before.before in let v = l.loop-from_a in let h = v.invariant in let r = c.before.before.before.before.before.before.before.before.before.before.before.before.before.before.before.before.before.before.before.before.before.before.before.before.before.before.before.before.before.before.before.before.before.before.requires in let u = computed c.before.before.before.before in omega (arith, few (act_goes h r.0 u (ahead c.before.before.before) c.before.before.if-from_d-at.false), c.before.before.before.before.before.before.before.before.before.before.before.before.before.before.before.before.before.before.before.before.before.before.before.before.before.before.before.before.before.before.before.before.before.before.ranges.count)) (λ c κs. let l = c.before.before.before.before.before.before.before.before.before.before.before.before.before.before.before.before.before.before.before.before.before.before in let v = l.loop-from_a in let h = v.invariant in let r = c.before.before.before.before.before.before.before.before.before.before.before.before.before.before.before.before.before.before.before.before.before.before.before.before.before.before.before.before.before.before.before.before.before.before.requires in let u = computed c.before.before.before.before in room_for (act_goes h r.0 u (ahead c.before.before.before) c.before.before.if-from_d-at.false)) (λ c. let l = c.before.before.before.before.before.before.before.before.before.before.before.before.before.before.before.before.before.before.before.before.before.before.before.before.before in let v = l.loop-from_a in let h = v.invariant in let r = c.before.before.before.before.before.before.before.before.before.before.before.before.before.before.before.before.before.before.before.before.before.before.before.before.before.before.before.before.before.before.before.before.before.before.before.before.before.requires in let u = computed c.before.before.before.before.before.before.before in omega (arith, few (act_goes h r.0 u (ahead c.before.before.before.before.before.before) c.before.before.before.before.before.if-from_d-at.false), c.before.before.before.before.before.before.before.before.before.before.before.before.before.before.before.before.before.before.before.before.before.before.before.before.before.before.before.before.before.before.before.before.before.before.before.before.before.ranges.count)) advance-requires (λ c κs. search rules) add-s-2 (λ c. let l = c.before.before.before.before.before.before.before.before.before.before.before.before.before.before.before.before.before.before.before.before.before.before.before.before.before.before.before.before.before.before.before.before in let v = l.loop-from_a in let h = v.invariant in let r = c.before.before.before.before.before.before.before.before.before.before.before.before.before.before.before.before.before.before.before.before.before.before.before.before.before.before.before.before.before.before.before.before.before.before.before.before.before.before.before.before.before.before.before.before.requires in let u = computed c.before.before.before.before.before.before.before.before.before.before.before.before.before.before in omega (arith, act_for h r.0 u (ahead c.before.before.before.before.before.before.before.before.before.before.before.before.before) c.before.before.before.before.before.before.before.before.before.before.before.before.if-from_d-at.false, few_listed r.0.list)) (λ c. let l = c.before.before.before.before.before.before.before.before.before.before.before.before.before.before.before.before.before.before.before.before.before.before.before.before.before.before.before.before.before.before.before.before in let v = l.loop-from_a in let h = v.invariant in let r = c.before.before.before.before.before.before.before.before.before.before.before.before.before.before.before.before.before.before.before.before.before.before.before.before.before.before.before.before.before.before.before.before.before.before.before.before.before.before.before.before.before.before.before.before.requires in let u = computed c.before.before.before.before.before.before.before.before.before.before.before.before.before.before in omega (arith, (early h r.0 u (ahead c.before.before.before.before.before.before.before.before.before.before.before.before.before)).0)) (λ c. let l = c.before.before.before.before.before.before.before.before.before.before.before.before.before.before.before.before.before.before.before.before.before.before.before.before.before.before.before.before.before.before.before.before in let v = l.loop-from_a in let h = v.invariant in let r = c.before.before.before.before.before.before.before.before.before.before.before.before.before.before.before.before.before.before.before.before.before.before.before.before.before.before.before.before.before.before.before.before.before.before.before.before.before.before.before.before.before.before.before.before.requires in let u = computed c.before.before.before.before.before.before.before.before.before.before.before.before.before.before in omega (arith, act_for h r.0 u (ahead c.before.before.before.before.before.before.before.before.before.before.before.before.before) c.before.before.before.before.before.before.before.before.before.before.before.before.if-from_d-at.false, few_listed r.0.list)) (λ c. let l = c.before.before.before.before.before.before.before.before.before.before.before.before.before.before.before.before.before.before.before.before.before.before.before.before.before.before.before.before.before.before.before.before in let v = l.loop-from_a in let h = v.invariant in let r = c.before.before.before.before.before.before.before.before.before.before.before.before.before.before.before.before.before.before.before.before.before.before.before.before.before.before.before.before.before.before.before.before.before.before.before.before.before.before.before.before.before.before.before.before.requires in let u = computed c.before.before.before.before.before.before.before.before.before.before.before.before.before.before in omega (arith, act_for h r.0 u (ahead c.before.before.before.before.before.before.before.before.before.before.before.before.before) c.before.before.before.before.before.before.before.before.before.before.before.before.if-from_d-at.false, r.2, h.marking.marked.size)) (λ c. let l = c.before.before.before.before.before.before.before.before.before.before.before.before.before.before.before.before.before.before.before.before.before.before.before.before.before.before.before.before.before.before.before.before in let v = l.loop-from_a in let h = v.invariant in let r = c.before.before.before.before.before.before.before.before.before.before.before.before.before.before.before.before.before.before.before.before.before.before.before.before.before.before.before.before.before.before.before.before.before.before.before.before.before.before.before.before.before.before.before.before.requires in let u = computed c.before.before.before.before.before.before.before.before.before.before.before.before.before.before in omega (arith, (early h r.0 u (ahead c.before.before.before.before.before.before.before.before.before.before.before.before.before)).1, (ahead c.before.before.before.before.before.before.before.before.before.before.before.before.before))) loop-again-3 (λ c. omega (arith, c.before.before.before.before.before.before.before.before.before.before.before.before.before.before.before.before.before.before.before.before.before.before.before.before.before.before.before.before.before.before.before.loop-from_a.invariant.going.queues.of_acts.bank)) (λ c. omega (arith, c.before.before.before.before.before.before.before.before.before.before.before.before.before.before.before.before.before.before.before.before.before.before.before.before.before.before.before.before.before.before.before.loop-from_a.invariant.going.queues.of_acts.bank)) (λ c. omega (arith, c.before.before.before.before.before.before.before.before.before.before.before.before.before.before.before.before.before.before.before.before.before.before.before.before.before.before.group_of-ag.ensures.1, (holds c.before.before.before.before.before.before.before.before.before.before.before.before.before.before.before.before.before.before.before.before.before.before.before.before.before.before.before.before.before.before.before.before.before.before.before.before.before.before.before.before.before.before.before).groups)) (λ c. omega (arith, c.before.before.before.before.before.before.before.before.before.before.before.before.before.before.before.before.before.before.before.before.before.before.before.before.before.before.group_of-ag.ensures.1, (holds c.before.before.before.before.before.before.before.before.before.before.before.before.before.before.before.before.before.before.before.before.before.before.before.before.before.before.before.before.before.before.before.before.before.before.before.before.before.before.before.before.before.before.before).groups)) (λ c κs. search rules) (λ c. omega (arith, c.before.before.before.before.before.before.before.before.before.before.before.before.before.before.before.before.before.before.before.before.before.before.before.before.before.before.before.before.group_of-ag.ensures.1, (holds c.before.before.before.before.before.before.before.before.before.before.before.before.before.before.before.before.before.before.before.before.before.before.before.before.before.before.before.before.before.before.before.before.before.before.before.before.before.before.before.before.before.before.before.before.before).groups)) (λ c. omega (arith, c.before.before.before.before.before.before.before.before.before.before.before.before.before.before.before.before.before.before.before.before.before.before.before.before.before.before.before.before.group_of-ag.ensures.1, (holds c.before.before.before.before.before.before.before.before.before.before.before.before.before.before.before.before.before.before.before.before.before.before.before.before.before.before.before.before.before.before.before.before.before.before.before.before.before.before.before.before.before.before.before.before.before).groups)) (λ c κs. search rules) (λ c. let l = c.before.before.before.before.before.before.before.before.before.before.before.before.before.before.before.before.before.before.before.before.before.before.before.before.before.before.before.before.before.before.before.before.before.before in let v = l.loop-from_a in let h = v.invariant in let r = c.before.before.before.before.before.before.before.before.before.before.before.before.before.before.before.before.before.before.before.before.before.before.before.before.before.before.before.before.before.before.before.before.before.before.before.before.before.before.before.before.before.before.before.before.before.before.requires in let u = computed c.before.before.before.before.before.before.before.before.before.before.before.before.before.before.before.before in omega (arith, (early h r.0 u (ahead c.before.before.before.before.before.before.before.before.before.before.before.before.before.before.before)).1, (ahead c.before.before.before.before.before.before.before.before.before.before.before.before.before.before.before))) loop-again-4)
