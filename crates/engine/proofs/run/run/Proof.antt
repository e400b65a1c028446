use borrow.Author.Rules.{rules}
use native.Mathlib.Omega.{arith}
use Prim.Native.Nat.{◌+◌, ◌-◌, ◌*◌, ◌<◌}
use mathlib.Core.Path.{◌≡◌, refl, sym, ap, ◌∙◌, subst}
use mathlib.Core.Logic.{inl, inr}
use mathlib.Core.Bool.{Bool, true, false}
use mathlib.Core.Option.{none, some}
use mathlib.Core.List.{map}
use Rattle.records.specs.Tests.{pick}
use Rattle.records.specs.Told.{put_at}
use Rattle.records.specs.declared.command.Command.{Command}
use Rattle.records.specs.Command.{bytes_of}
use Rattle.rules.specs.Kinds.{is_act, is_ref, is_data}
use Rattle.rules.specs.State.{data_far, Held}
use Rattle.rules.specs.CycleRule.{goes}
use Rattle.rules.specs.Run.{stops}
use Rattle.rules.proofs.laws.Ranges.{held, ranges}
use Rattle.heads.proofs.Laws.{first}
use Rattle.timing.specs.Kept.{told_group, told}
use Rattle.choices.specs.Choose.{command_of}
use Rattle.engine.proofs.Going.{Turns, starts, same_size, stops_here, counted_out, Moving, room_for, few, act_asked, act_left, data_asked, data_left}
use Rattle.engine.proofs.InPlace.{data?, act?, data_only, act_queues, ref_queues, at_cycle, kept_stops, kept_moves, kept_opens, kept_data, kept_act, kept_act_kind, kept_ref, kept_waits, kept_early, kept_idles, kept_asked, ref_moves, act_stored, data_stored}
use Rattle.engine.proofs.run.run.Statement.{statement}
use Rattle.engine.proofs.run.run.Tie as tie
use Rattle.engine.proofs.run.run.Lts.{then-both_of, else-both_of, then-both_of-3, else-both_of-3}

abbrev invariant-loop : tie.invariant-loop-i
invariant-loop t list n all count buffer₀ near away s₀ q₀ dg₀ ag₀ gd₀ ga₀ i₀ k₀ buffer s q dg ag gd ga i k = Turns t list n (told s₀) count buffer₀ buffer s q dg ag gd ga i k

abbrev decreases-loop : tie.decreases-loop-i
decreases-loop t list n all count buffer₀ near away s₀ q₀ dg₀ ag₀ gd₀ ga₀ i₀ k₀ buffer s q dg ag gd ga i k = count - i

-- from a place in the loop to its top, and to the start
abbrev top : tie.Else-stops_at invariant-loop decreases-loop → tie.At-loop-i invariant-loop decreases-loop
top c = c.before.before.before

abbrev start : tie.At-loop-i invariant-loop decreases-loop → tie.Start invariant-loop decreases-loop
start c = c.before.before.before.before.before.before.before.before.before.before

holds : (c : tie.Start invariant-loop decreases-loop) → Held c.args.t
holds c = held c.args.t (ranges c.args.t c.requires.0.list.table)

-- the two heads' groups are among the eight
data_within : (c : tie.At-loop-i invariant-loop decreases-loop) → c.loop-i.dg < 8
data_within c = omega (arith, c.loop-i.invariant.of_data.1, (holds (start c)).groups)

act_within : (c : tie.At-loop-i invariant-loop decreases-loop) → c.loop-i.ag < 8
act_within c = omega (arith, c.loop-i.invariant.of_act.1, (holds (start c)).groups)

-- the run goes on at this cycle
on : (c : tie.Else-stops_at invariant-loop decreases-loop) → let l = top c in let a = (start l).args in stops a.t (first a.list.now a.n) (told l.loop-i.s) ≡ false
on c = let due = (start (top c)).requires.1 in kept_stops _ _ _ (top c).loop-i.s _ _ _ _ due.0 due.1 c.before.stops_at.ensures c.if-stops_at.false

abbrev Goes : tie.At-loop-i invariant-loop decreases-loop → Command → Type 0
Goes l x = let a = (start l).args in let v = l.loop-i in Moving a.t a.list.now a.n (told a.start) a.count a.buffer.now v.buffer (told v.s) v.q v.i v.k x

-- what was asked of the data queue's head: its own group, and all of them
abbrev data-top : tie.After-both_of-in-loop-i invariant-loop decreases-loop → tie.At-loop-i invariant-loop decreases-loop
data-top c = c.before.before.before.before.before.before.before.before.before.before.before.before.before.before

moved : (c : tie.After-both_of-in-loop-i invariant-loop decreases-loop) → let v = (data-top c).loop-i in c.both_of-in-loop-i.result ≡ data? (start (data-top c)).args.t v.s v.q.datas.head
moved c =
    let l = data-top c in let a = (start l).args in let v = l.loop-i in
    kept_moves a.t a.list.now a.n v.s v.q v.invariant.going.queues v.dg v.gd v.invariant.group_data c.before.before.before.before.data_goes-moves.result c.before.before.both_of.result c.before.if-both_of.moves_far c.both_of-in-loop-i.result v.invariant.of_data c.before.before.before.before.data_goes-moves.ensures c.before.before.both_of.ensures
    (elim c.before.if-both_of.branch [ then-both_of w ↦ inl (w.if-both_of.true, w.moves_far-is ∙ (w.data_far-moves_far.ensures ∙ ap (λ (b : Bool). data_far a.t (map told_group v.s.groups) v.dg b v.s.cycle) w.is_wr.ensures)) | else-both_of w ↦ inr (w.if-both_of.false, w.moves_far-is) ]) c.both_of-in-loop-i.ensures

-- a data command goes
moving_data : (c : tie.Then-both_of-2 invariant-loop decreases-loop) → let v = (data-top c.before).loop-i in Goes (data-top c.before) (command_of v.q.datas.head v.s.cycle) × (is_data v.q.datas.head.kind ≡ true)
moving_data c =
    let l = data-top c.before in let a = (start l).args in let v = l.loop-i in
    let w = kept_data a.t a.list.now a.n v.s v.q v.invariant.going.queues c.before.both_of-in-loop-i.result (moved c.before) c.if-both_of-2.true in
    (record { going = v.invariant.going; ready = (start l).requires.0; more = c.before.before.before.before.before.before.before.before.before.before.before.before.before.before.loop-i-test.true; still = on c.before.before.before.before.before.before.before.before.before.before.before.before; goes = w.0 }, w.1)

-- none does: what the head of the ACT queue does, as a test z of it comes out
abbrev act-top : tie.Else-both_of-2 invariant-loop decreases-loop → tie.At-loop-i invariant-loop decreases-loop
act-top c = c.before.before.before.before.before.before.before.before.before.before.before.before.before.before.before

abbrev Next : tie.Else-both_of-2 invariant-loop decreases-loop → Bool → Type 0
Next c z = let l = act-top c in let a = (start l).args in let v = l.loop-i in goes a.t (first a.list.now a.n) (told v.s) ≡ pick z (some (command_of v.q.acts.head v.s.cycle)) none

moving : (c : tie.Else-both_of-2 invariant-loop decreases-loop) → Next c true → let v = (act-top c).loop-i in Goes (act-top c) (command_of v.q.acts.head v.s.cycle)
moving c w =
    let l = act-top c in let v = l.loop-i in
    record { going = v.invariant.going; ready = (start l).requires.0; more = c.before.before.before.before.before.before.before.before.before.before.before.before.before.before.loop-i-test.true; still = on c.before.before.before.before.before.before.before.before.before.before.before.before; goes = w }

waiting : (c : tie.Else-both_of-2 invariant-loop decreases-loop) → Next c false
    → let l = act-top c in let a = (start l).args in let v = l.loop-i in Turns a.t a.list.now a.n (told a.start) a.count a.buffer.now v.buffer (at_cycle v.s (v.s.cycle + 1)) v.q v.dg v.ag v.gd v.ga (v.i + 1) v.k
waiting c w = let v = (act-top c).loop-i in record { going = kept_idles v.s v.invariant.going c.before.before.before.before.before.before.before.before.before.before.before.before.before.before.loop-i-test.true (on c.before.before.before.before.before.before.before.before.before.before.before.before) w; of_data = v.invariant.of_data; of_act = v.invariant.of_act; group_data = v.invariant.group_data; group_act = v.invariant.group_act }

-- a REF that keeps rule 12, as the banks are at rest or not
abbrev ref_place : tie.After-kept_rests invariant-loop decreases-loop → tie.Else-both_of-2 invariant-loop decreases-loop
ref_place c = c.before.before.before.before.before

asked_ref : (c : tie.After-kept_rests invariant-loop decreases-loop) (z : Bool) → c.kept_rests.result ≡ z → Next (ref_place c) z
asked_ref c z f =
    let e = ref_place c in let a = (start (act-top e)).args in let v = (act-top e).loop-i in
    kept_ref a.t a.list.now a.n v.s v.q v.invariant.going.queues e.before.both_of-in-loop-i.result (moved e.before) e.if-both_of-2.false c.before.before.before.before.is_ref.result c.before.before.before.before.is_ref.ensures c.before.before.ref_waited.result c.before.before.before.if-is_ref.true c.before.before.ref_waited.ensures c.before.if-ref_waited.true c.kept_rests.result z c.kept_rests.ensures f

moving_ref : (c : tie.Then-kept_rests invariant-loop decreases-loop) → let e = ref_place c.before in let v = (act-top e).loop-i in Goes (act-top e) (command_of v.q.acts.head v.s.cycle) × (is_ref v.q.acts.head.kind ≡ true)
moving_ref c = (moving (ref_place c.before) (asked_ref c.before true c.if-kept_rests.true), sym c.before.before.before.before.before.is_ref.ensures ∙ c.before.before.before.before.if-is_ref.true)

-- an ACT, or nothing stands there: its own group, and all of them
abbrev act_place_lem : tie.After-both_of-else-is_ref-2 invariant-loop decreases-loop → tie.Else-both_of-2 invariant-loop decreases-loop
act_place_lem c = c.before.before.before.before.before.before.before.before.before

opened : (c : tie.After-both_of-else-is_ref-2 invariant-loop decreases-loop) → let v = (act-top (act_place_lem c)).loop-i in c.both_of-else-is_ref-2.result ≡ act? (start (act-top (act_place_lem c))).args.t v.s v.q.acts.head
opened c =
    let l = act-top (act_place_lem c) in let a = (start l).args in let v = l.loop-i in
    kept_opens a.t a.list.now a.n v.s v.q v.invariant.going.queues v.ag v.ga v.invariant.group_act c.before.before.before.before.act_goes-opens.result c.before.before.both_of-else-is_ref.result c.before.if-both_of-3.opens_far c.both_of-else-is_ref-2.result (sym c.before.before.before.before.before.before.before.before.is_ref.ensures ∙ c.before.before.before.before.before.before.before.if-is_ref.false) v.invariant.of_act c.before.before.before.before.act_goes-opens.ensures c.before.before.both_of-else-is_ref.ensures
    (elim c.before.if-both_of-3.branch [ then-both_of-3 w ↦ inl (w.if-both_of-3.true, w.opens_far-is ∙ w.acts_far-opens_far.ensures) | else-both_of-3 w ↦ inr (w.if-both_of-3.false, w.opens_far-is) ]) c.both_of-else-is_ref-2.ensures

asked_act : (c : tie.After-both_of-else-is_ref-2 invariant-loop decreases-loop) (z : Bool) → c.both_of-else-is_ref-2.result ≡ z → Next (act_place_lem c) z
asked_act c z f =
    let e = act_place_lem c in let a = (start (act-top e)).args in let v = (act-top e).loop-i in
    subst (Next e) f (kept_act a.t a.list.now a.n v.s v.q v.invariant.going.queues e.before.both_of-in-loop-i.result (moved e.before) e.if-both_of-2.false c.before.before.before.before.before.before.before.before.is_ref.result c.before.before.before.before.before.before.before.before.is_ref.ensures c.both_of-else-is_ref-2.result c.before.before.before.before.before.before.before.if-is_ref.false (opened c))

moving_act : (c : tie.Then-both_of-4 invariant-loop decreases-loop) → let e = act_place_lem c.before in let v = (act-top e).loop-i in Goes (act-top e) (command_of v.q.acts.head v.s.cycle) × (is_act v.q.acts.head.kind ≡ true)
moving_act c =
    let e = act_place_lem c.before in let a = (start (act-top e)).args in let v = (act-top e).loop-i in
    (moving e (asked_act c.before true c.if-both_of-4.true), kept_act_kind a.t a.list.now a.n v.s v.q v.invariant.going.queues e.before.both_of-in-loop-i.result (moved e.before) e.if-both_of-2.false c.before.before.before.before.before.before.before.before.before.is_ref.result c.before.before.before.before.before.before.before.before.before.is_ref.ensures c.before.both_of-else-is_ref-2.result c.before.before.before.before.before.before.before.before.if-is_ref.false (opened c.before) c.if-both_of-4.true)

loop-holds : tie.Need-loop-i-init invariant-loop decreases-loop
unfolding told
loop-holds c = record { going = starts _ c.before.before.before.before.before.before.before.before.before.requires.0 c.before.before.before.before.queues_after-q.ensures; of_data = c.before.before.before.group_of-dg.ensures; of_act = c.before.before.group_of-ag.ensures; group_data = refl; group_act = refl }

returns : tie.Need-returns-then-stops_at invariant-loop decreases-loop
returns c = let loop = c.before.before.before.loop-i in let due = c.before.before.before.before.before.before.before.before.before.before.before.before.before.requires.1 in stops_here loop.invariant.going loop.s refl (kept_stops _ _ _ loop.s _ _ _ _ due.0 due.1 c.before.stops_at.ensures c.if-stops_at.true)

data-far-requires : tie.Need-data_far-moves_far-requires invariant-loop decreases-loop
data-far-requires c κs = ((holds c.before.before.before.before.before.before.before.before.before.before.before.before.before.before.before.before.before.before.before.before.before.before.before.before.before).groups, c.before.before.before.before.before.before.before.before.before.before.before.before.before.before.before.before.before.before.before.before.before.before.distances-near.ensures, c.before.before.before.before.before.before.before.before.before.before.before.before.before.before.before.before.before.before.before.before.before.distances-away.ensures)

command-of-requires : tie.Need-command_of-requires invariant-loop decreases-loop
command-of-requires c κs = let loop = c.before.before.before.before.before.before.before.before.before.before.before.before.before.before.before.before.loop-i in omega (arith, kept_early loop.s loop.invariant.going (on c.before.before.before.before.before.before.before.before.before.before.before.before.before))

mul-put-command : tie.Need-overflow_mul-k invariant-loop decreases-loop
mul-put-command c = omega (arith, few (moving_data c.before.before.before).0, c.before.before.before.before.before.before.before.before.before.before.before.before.before.before.before.before.before.before.before.before.before.before.before.before.before.before.before.before.ranges.count)

add-k : tie.Need-overflow_add-k invariant-loop decreases-loop
add-k c = omega (arith, few (moving_data c.before.before.before.before.before.before).0, c.before.before.before.before.before.before.before.before.before.before.before.before.before.before.before.before.before.before.before.before.before.before.before.before.before.before.before.before.before.before.before.ranges.count)

element-set-from-s : tie.Need-bounds-s-di-then-both_of-2 invariant-loop decreases-loop
element-set-from-s c = omega (arith, (kept_asked c.before.before.before.before.before.before.before.before.before.before.before.before.before.before.before.before.before.before.before.before.before.before.before.before.loop-i.s (moving_data c.before.before.before.before.before.before.before.before.before).0).3)

group-of-requires-3 : tie.Need-group_of-dg-requires-then-both_of-2 invariant-loop decreases-loop
group-of-requires-3 c κs = (holds c.before.before.before.before.before.before.before.before.before.before.before.before.before.before.before.before.before.before.before.before.before.before.before.before.before.before.before.before.before.before.before.before.before.before.before.before).some

mul-gd-3 : tie.Need-offset_bounds-s-dg-then-both_of-2-3 invariant-loop decreases-loop
mul-gd-3 c = omega (arith, c.group_of-dg-then-both_of-2.ensures.1, (holds c.before.before.before.before.before.before.before.before.before.before.before.before.before.before.before.before.before.before.before.before.before.before.before.before.before.before.before.before.before.before.before.before.before.before.before.before.before).groups)

element-copy-out-gd-2 : tie.Need-bounds-s-dg-then-both_of-2-3 invariant-loop decreases-loop
element-copy-out-gd-2 c = omega (arith, c.group_of-dg-then-both_of-2.ensures.1, (holds c.before.before.before.before.before.before.before.before.before.before.before.before.before.before.before.before.before.before.before.before.before.before.before.before.before.before.before.before.before.before.before.before.before.before.before.before.before).groups)

loop-again : tie.Need-loop-i-preserved-then-both_of-2 invariant-loop decreases-loop
loop-again c =
    let e = c.before.before.before.before.before.before.before.before.before.before.before.before.before.before in let v = c.before.before.before.before.before.before.before.before.before.before.before.before.before.before.before.before.before.before.before.before.before.before.before.before.before.before.before.before.before.loop-i in let m = moving_data e in
    record { going = data_stored v.s m.0 _ (data_left m.0 (data_only v.q.datas.head.kind m.1).0 c.before.before.before.before.before.before.before.advance-next.result c.before.before.before.before.before.before.before.advance-next.ensures) v.dg v.invariant.of_data.0 c.before.before.before.group_moved.result _ (c.before.before.before.before.before.before.before.before.before.before.put_command.ensures ∙ ap (λ (x : Command). put_at v.buffer (8 * v.k) (bytes_of x)) c.before.before.before.before.before.before.before.before.before.before.before.before.command_of.ensures) c.before.before.before.before.before.before.before.before.before.before.before.before.before.is_wr-write.result c.before.before.before.before.before.before.is_closing.result c.before.before.before.before.before.kept_after.result c.before.before.before.before.before.before.before.before.before.before.before.before.before.is_wr-write.ensures c.before.before.before.before.before.before.is_closing.ensures c.before.before.before.before.before.kept_after.ensures c.before.before.before.group_moved.ensures m.1; of_data = c.before.before.group_of-dg-then-both_of-2.ensures; of_act = v.invariant.of_act; group_data = refl; group_act = refl }

command-of-requires-2 : tie.Need-command_of-requires-then-kept_rests invariant-loop decreases-loop
command-of-requires-2 c κs = let loop = c.before.before.before.before.before.before.before.before.before.before.before.before.before.before.before.before.before.before.before.before.before.loop-i in omega (arith, kept_early loop.s loop.invariant.going (on c.before.before.before.before.before.before.before.before.before.before.before.before.before.before.before.before.before.before))

mul-put-command-2 : tie.Need-overflow_mul-k-then-kept_rests invariant-loop decreases-loop
mul-put-command-2 c = omega (arith, few (moving_ref c.before.before).0, c.before.before.before.before.before.before.before.before.before.before.before.before.before.before.before.before.before.before.before.before.before.before.before.before.before.before.before.before.before.before.before.before.before.ranges.count)

add-k-2 : tie.Need-overflow_add-k-then-kept_rests invariant-loop decreases-loop
add-k-2 c = omega (arith, few (moving_ref c.before.before.before.before.before).0, c.before.before.before.before.before.before.before.before.before.before.before.before.before.before.before.before.before.before.before.before.before.before.before.before.before.before.before.before.before.before.before.before.before.before.before.before.ranges.count)

add-s-2 : tie.Need-overflow_add-s-then-kept_rests invariant-loop decreases-loop
add-s-2 c = omega (arith, (kept_asked c.before.before.before.before.before.before.before.before.before.before.before.before.before.before.before.before.before.before.before.before.before.before.before.before.before.before.before.loop-i.s (moving_ref c.before.before.before.before.before.before).0).1)

group-of-requires-4 : tie.Need-group_of-ag-requires-then-kept_rests invariant-loop decreases-loop
group-of-requires-4 c κs = (holds c.before.before.before.before.before.before.before.before.before.before.before.before.before.before.before.before.before.before.before.before.before.before.before.before.before.before.before.before.before.before.before.before.before.before.before.before.before).some

mul-ga-3 : tie.Need-offset_bounds-s-ag-then-kept_rests invariant-loop decreases-loop
mul-ga-3 c = omega (arith, c.group_of-ag-then-kept_rests.ensures.1, (holds c.before.before.before.before.before.before.before.before.before.before.before.before.before.before.before.before.before.before.before.before.before.before.before.before.before.before.before.before.before.before.before.before.before.before.before.before.before.before).groups)

element-copy-out-ga-3 : tie.Need-bounds-s-ag-then-kept_rests invariant-loop decreases-loop
element-copy-out-ga-3 c = omega (arith, c.group_of-ag-then-kept_rests.ensures.1, (holds c.before.before.before.before.before.before.before.before.before.before.before.before.before.before.before.before.before.before.before.before.before.before.before.before.before.before.before.before.before.before.before.before.before.before.before.before.before.before).groups)

loop-again-2 : tie.Need-loop-i-preserved-then-kept_rests invariant-loop decreases-loop
loop-again-2 c =
    let v = c.before.before.before.before.before.before.before.before.before.before.before.before.before.before.before.before.before.before.before.before.before.before.before.before.before.before.before.before.before.loop-i in let m = moving_ref c.before.before.before.before.before.before.before.before in
    record { going = rw (c.before.before.before.before.before.put_command-then-kept_rests.ensures, c.before.before.before.before.before.before.before.command_of-then-kept_rests.ensures) (ref_moves v.s m.0 _ (act_left m.0 (ref_queues v.q.acts.head.kind m.1) c.before.before.advance-next-then-kept_rests.result c.before.before.advance-next-then-kept_rests.ensures) m.1); of_data = v.invariant.of_data; of_act = c.before.group_of-ag-then-kept_rests.ensures; group_data = v.invariant.group_data; group_act = refl }

loop-again-4 : tie.Need-loop-i-preserved-else-ref_waited invariant-loop decreases-loop
loop-again-4 c =
    let e = c.before.before.before.before in let a = (start (act-top e)).args in let v = (act-top e).loop-i in
    waiting e (kept_waits a.t a.list.now a.n v.s v.q v.invariant.going.queues e.before.both_of-in-loop-i.result (moved e.before) e.if-both_of-2.false c.before.before.before.is_ref.result c.before.before.before.is_ref.ensures c.before.ref_waited.result c.before.before.if-is_ref.true c.before.ref_waited.ensures c.if-ref_waited.false)

command-of-requires-3 : tie.Need-command_of-requires-then-both_of-4 invariant-loop decreases-loop
command-of-requires-3 c κs = let loop = c.before.before.before.before.before.before.before.before.before.before.before.before.before.before.before.before.before.before.before.before.before.before.before.before.before.loop-i in omega (arith, kept_early loop.s loop.invariant.going (on c.before.before.before.before.before.before.before.before.before.before.before.before.before.before.before.before.before.before.before.before.before.before))

mul-put-command-3 : tie.Need-overflow_mul-k-then-both_of-4 invariant-loop decreases-loop
mul-put-command-3 c = omega (arith, few (moving_act c.before.before).0, c.before.before.before.before.before.before.before.before.before.before.before.before.before.before.before.before.before.before.before.before.before.before.before.before.before.before.before.before.before.before.before.before.before.before.before.before.before.ranges.count)

add-k-3 : tie.Need-overflow_add-k-then-both_of-4 invariant-loop decreases-loop
add-k-3 c = omega (arith, few (moving_act c.before.before.before.before.before).0, c.before.before.before.before.before.before.before.before.before.before.before.before.before.before.before.before.before.before.before.before.before.before.before.before.before.before.before.before.before.before.before.before.before.before.before.before.before.before.before.before.ranges.count)

add-s-3 : tie.Need-overflow_add-s-then-both_of-4 invariant-loop decreases-loop
add-s-3 c = omega (arith, (kept_asked c.before.before.before.before.before.before.before.before.before.before.before.before.before.before.before.before.before.before.before.before.before.before.before.before.before.before.before.before.before.before.before.loop-i.s (moving_act c.before.before.before.before.before.before).0).1)

element-set-from-s-2 : tie.Need-bounds-s-ai-then-both_of-4 invariant-loop decreases-loop
element-set-from-s-2 c = omega (arith, (kept_asked c.before.before.before.before.before.before.before.before.before.before.before.before.before.before.before.before.before.before.before.before.before.before.before.before.before.before.before.before.before.before.before.loop-i.s (moving_act c.before.before.before.before.before.before).0).3)

group-of-requires-5 : tie.Need-group_of-ag-requires-then-both_of-4 invariant-loop decreases-loop
group-of-requires-5 c κs = (holds c.before.before.before.before.before.before.before.before.before.before.before.before.before.before.before.before.before.before.before.before.before.before.before.before.before.before.before.before.before.before.before.before.before.before.before.before.before.before.before.before.before.before.before).some

mul-gd-5 : tie.Need-offset_bounds-s-dg-then-both_of-4 invariant-loop decreases-loop
mul-gd-5 c = omega (arith, data_within c.before.before.before.before.before.before.before.before.before.before.before.before.before.before.before.before.before.before.before.before.before.before.before.before.before.before.before.before.before.before.before.before.before.before)

element-copy-out-gd-3 : tie.Need-bounds-s-dg-then-both_of-4 invariant-loop decreases-loop
element-copy-out-gd-3 c = omega (arith, data_within c.before.before.before.before.before.before.before.before.before.before.before.before.before.before.before.before.before.before.before.before.before.before.before.before.before.before.before.before.before.before.before.before.before.before)

mul-ga-4 : tie.Need-offset_bounds-s-ag-then-both_of-4-3 invariant-loop decreases-loop
mul-ga-4 c = omega (arith, c.before.group_of-ag-then-both_of-4.ensures.1, (holds c.before.before.before.before.before.before.before.before.before.before.before.before.before.before.before.before.before.before.before.before.before.before.before.before.before.before.before.before.before.before.before.before.before.before.before.before.before.before.before.before.before.before.before.before.before).groups)

element-copy-out-ga-4 : tie.Need-bounds-s-ag-then-both_of-4-3 invariant-loop decreases-loop
element-copy-out-ga-4 c = omega (arith, c.before.group_of-ag-then-both_of-4.ensures.1, (holds c.before.before.before.before.before.before.before.before.before.before.before.before.before.before.before.before.before.before.before.before.before.before.before.before.before.before.before.before.before.before.before.before.before.before.before.before.before.before.before.before.before.before.before.before.before).groups)

loop-less-5 : tie.Need-loop-i-smaller-then-both_of-4 invariant-loop decreases-loop
loop-less-5 c = omega (arith, c.before.before.before.before.before.before.before.before.before.before.before.before.before.before.before.before.before.before.before.before.before.before.before.before.before.before.before.before.before.before.before.before.before.before.before.loop-i-test.true)

loop-again-5 : tie.Need-loop-i-preserved-then-both_of-4 invariant-loop decreases-loop
loop-again-5 c =
    let v = c.before.before.before.before.before.before.before.before.before.before.before.before.before.before.before.before.before.before.before.before.before.before.before.before.before.before.before.before.before.before.before.before.before.before.before.before.loop-i in let m = moving_act c.before.before.before.before.before.before.before.before.before.before.before in
    record { going = act_stored v.s m.0 _ (act_left m.0 (act_queues v.q.acts.head.kind m.1) c.before.before.before.before.before.advance-next-then-both_of-4.result c.before.before.before.before.before.advance-next-then-both_of-4.ensures) v.ag v.invariant.of_act.0 c.before.before.before.group_opened.result _ (c.before.before.before.before.before.before.before.before.put_command-then-both_of-4.ensures ∙ ap (λ (x : Command). put_at v.buffer (8 * v.k) (bytes_of x)) c.before.before.before.before.before.before.before.before.before.before.command_of-then-both_of-4.ensures) c.before.before.before.group_opened.ensures m.1; of_data = v.invariant.of_data; of_act = c.before.before.group_of-ag-then-both_of-4.ensures; group_data = refl; group_act = refl }

pub run_spec : {M : Type 1} → statement M
run_spec = tie.close (tie.spec invariant-loop decreases-loop (λ c κs. search rules) (λ c κs. search rules) (λ c κs. c.before.before.before.before.requires.0.list) (λ c κs. (holds c.before.before.before.before.before).some) (λ c κs. (holds c.before.before.before.before.before.before).some) (λ c. omega (arith, c.before.group_of-dg.ensures.1, (holds c.before.before.before.before.before.before.before).groups)) (λ c. omega (arith, c.before.group_of-dg.ensures.1, (holds c.before.before.before.before.before.before.before).groups)) (λ c. omega (arith, c.before.group_of-ag.ensures.1, (holds c.before.before.before.before.before.before.before.before).groups)) (λ c. omega (arith, c.before.group_of-ag.ensures.1, (holds c.before.before.before.before.before.before.before.before).groups)) loop-holds (λ c κs. search rules) (λ c. same_size c.before.before.before.loop-i.invariant.going c.before.before.before.before.before.before.before.before.before.before.before.before.before.requires.0) returns (λ c. search rules) (λ c. search rules) (λ c. search rules) (λ c. omega (arith, c.before.before.before.before.before.before.before.before.loop-i-test.true, c.before.before.before.before.before.before.before.before.before.before.before.before.before.before.before.before.before.before.before.ranges.count)) (λ c. let loop = c.before.before.before.before.before.before.before.before.before.loop-i in omega (arith, kept_early loop.s loop.invariant.going (on c.before.before.before.before.before.before))) (λ c κs. c.before.before.before.before.before.before.before.before.before.before.before.before.before.before.before.before.distances-near.ensures) (λ c κs. search rules) (λ c κs. search rules) data-far-requires (λ c κs. search rules) (λ c κs. search rules) command-of-requires mul-put-command (λ c κs. room_for (moving_data c.before.before.before).0) add-k (λ c κs. data_asked (moving_data c.before.before.before.before.before.before).0) (λ c. omega (arith, (kept_asked c.before.before.before.before.before.before.before.before.before.before.before.before.before.before.before.before.before.before.before.before.before.before.loop-i.s (moving_data c.before.before.before.before.before.before.before).0).2)) (λ c κs. search rules) (λ c κs. search rules) (λ c. omega (arith, (kept_asked c.before.before.before.before.before.before.before.before.before.before.before.before.before.before.before.before.before.before.before.before.before.before.before.before.loop-i.s (moving_data c.before.before.before.before.before.before.before.before.before).0).3)) element-set-from-s (λ c. omega (arith, data_within c.before.before.before.before.before.before.before.before.before.before.before.before.before.before.before.before.before.before.before.before.before.before.before.before)) (λ c. omega (arith, data_within c.before.before.before.before.before.before.before.before.before.before.before.before.before.before.before.before.before.before.before.before.before.before.before.before)) (λ c κs. search rules) (λ c. omega (arith, data_within c.before.before.before.before.before.before.before.before.before.before.before.before.before.before.before.before.before.before.before.before.before.before.before.before.before.before)) (λ c. omega (arith, data_within c.before.before.before.before.before.before.before.before.before.before.before.before.before.before.before.before.before.before.before.before.before.before.before.before.before.before)) group-of-requires-3 mul-gd-3 element-copy-out-gd-2 (λ c. omega (arith, act_within c.before.before.before.before.before.before.before.before.before.before.before.before.before.before.before.before.before.before.before.before.before.before.before.before.before.before.before.before)) (λ c. omega (arith, act_within c.before.before.before.before.before.before.before.before.before.before.before.before.before.before.before.before.before.before.before.before.before.before.before.before.before.before.before.before)) (λ c. omega (arith, c.before.before.before.before.before.before.before.before.before.before.before.before.before.before.before.before.before.before.before.before.before.before.before.before.before.before.before.before.loop-i-test.true)) loop-again (λ c κs. search rules) (λ c κs. search rules) (λ c κs. (holds c.before.before.before.before.before.before.before.before.before.before.before.before.before.before.before.before.before.before.before.before.before.before.before.before.before.before.before.before.before).banks) command-of-requires-2 mul-put-command-2 (λ c κs. room_for (moving_ref c.before.before).0) add-k-2 (λ c κs. act_asked (moving_ref c.before.before.before.before.before).0) add-s-2 group-of-requires-4 mul-ga-3 element-copy-out-ga-3 (λ c. omega (arith, c.before.before.before.before.before.before.before.before.before.before.before.before.before.before.before.before.before.before.before.before.before.before.before.before.before.before.before.before.loop-i-test.true)) loop-again-2 (λ c. omega (arith, c.before.before.before.before.before.before.before.before.before.before.before.before.before.before.before.before.before.before.before.before.loop-i-test.true)) (λ c. waiting c.before.before.before.before.before.before (asked_ref c.before false c.if-kept_rests.false)) (λ c. omega (arith, c.before.before.before.before.before.before.before.before.before.before.before.before.before.before.before.before.before.before.loop-i-test.true)) loop-again-4 (λ c. search rules) (λ c. omega (arith, c.before.before.before.before.before.before.before.before.before.before.before.before.before.before.before.before.before.before.loop-i.invariant.going.queues.of_acts.bank)) (λ c. omega (arith, c.before.before.before.before.before.before.before.before.before.before.before.before.before.before.before.before.before.before.loop-i.invariant.going.queues.of_acts.bank)) (λ c κs. search rules) (λ c κs. search rules) (λ c κs. (holds c.before.before.before.before.before.before.before.before.before.before.before.before.before.before.before.before.before.before.before.before.before.before.before.before.before.before.before.before.before.before.before.before.before.before).groups) (λ c κs. search rules) command-of-requires-3 mul-put-command-3 (λ c κs. room_for (moving_act c.before.before).0) add-k-3 (λ c κs. act_asked (moving_act c.before.before.before.before.before).0) add-s-3 (λ c. omega (arith, (kept_asked c.before.before.before.before.before.before.before.before.before.before.before.before.before.before.before.before.before.before.before.before.before.before.before.before.before.before.before.before.before.before.before.loop-i.s (moving_act c.before.before.before.before.before.before).0).3)) element-set-from-s-2 (λ c. omega (arith, act_within c.before.before.before.before.before.before.before.before.before.before.before.before.before.before.before.before.before.before.before.before.before.before.before.before.before.before.before.before.before.before.before)) (λ c. omega (arith, act_within c.before.before.before.before.before.before.before.before.before.before.before.before.before.before.before.before.before.before.before.before.before.before.before.before.before.before.before.before.before.before.before)) (λ c κs. search rules) (λ c. omega (arith, act_within c.before.before.before.before.before.before.before.before.before.before.before.before.before.before.before.before.before.before.before.before.before.before.before.before.before.before.before.before.before.before.before.before.before)) (λ c. omega (arith, act_within c.before.before.before.before.before.before.before.before.before.before.before.before.before.before.before.before.before.before.before.before.before.before.before.before.before.before.before.before.before.before.before.before.before)) group-of-requires-5 mul-gd-5 element-copy-out-gd-3 mul-ga-4 element-copy-out-ga-4 loop-less-5 loop-again-5 (λ c. omega (arith, c.before.before.before.before.before.before.before.before.before.before.before.before.before.before.before.before.before.before.before.before.before.before.before.before.loop-i-test.true)) (λ c. waiting c.before.before.before.before.before.before.before.before.before.before (asked_act c.before false c.if-both_of-4.false)) (λ c. same_size c.before.loop-i.invariant.going c.before.before.before.before.before.before.before.before.before.before.before.requires.0) (λ c. counted_out c.before.loop-i.invariant.going c.before.loop-i.s refl c.loop-i-test.false))
