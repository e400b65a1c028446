-- A data command goes, by the cycle rule; and the steps of the rule.
-- Assumes nothing.
use Prim.Native.Nat.{ℕ, zero, suc, ◌+◌, ◌≤◌, ◌<◌}
use native.Mathlib.Omega.{arith}
use mathlib.Core.Path.{◌≡◌, refl, sym, ap, ◌∙◌, subst}
use mathlib.Core.Logic.{inl, inr}
use mathlib.Core.Bool.{Bool, true, false}
use mathlib.Core.Option.{Option, none, some}
use mathlib.Core.List.{List, [], ◌∷◌}
use lib.Dec.{eqb}
use lib.ListN.{get_elem?, take}
use borrow.Author.Tests.{ltb-true}
use Rattle.records.specs.declared.table.Table.{Table}
use Rattle.records.specs.declared.transaction.Transaction.{Transaction}
use Rattle.records.specs.declared.command.Kind.TheVariants.{Ref}
use Rattle.records.specs.declared.command.Command.{Command}
use Rattle.rules.specs.declared.state.State.{State}
use Rattle.rules.specs.Kinds.{is_ref, is_data, in_act_queue}
use Rattle.rules.specs.State.{breaks_none, fresh, after}
use Rattle.rules.specs.Queues.{Due, due_at, act_queue, data_queue}
use Rattle.rules.specs.CycleRule.{goes, push}
use Rattle.rules.specs.Run.{steps}
use Rattle.rules.proofs.laws.TestLaws.{true_false, OnSome}
use Rattle.rules.proofs.laws.Ranges.{Ranges}
use Rattle.rules.proofs.history.Legal.{goes_all}
use Rattle.rules.proofs.queues.Fit.{AllFit}
use Rattle.rules.proofs.laws.DataKinds.{act_queued}
use Rattle.rules.proofs.bound.Progress.{Progress, progress_fresh, steps_progress}
use Rattle.rules.proofs.history.Exact.{steps_last}
use Rattle.serves.specs.Serves.{is_the, records_of, dues_of, due_under, Placed, PlacesLater}
use Rattle.serves.proofs.Tests.{and_false}
use Rattle.serves.proofs.Alike.{alike_of, of_alike, found_dues}
use Rattle.serves.proofs.Records.{In}
use Rattle.serves.proofs.Order.{later_key}
use Rattle.serves.proofs.Acts.{at_in, at_in_lem, act_entry, act_no_data_at, act_of_lem}
use Rattle.serves.proofs.Going.{dues_more, more_right, GoodAt, DataBefore, NumberBefore, Going, going_none, data_kind_at}
use Rattle.serves.proofs.ActGoes.{act_goes}

module _ (τ : Table) (rng : Ranges τ) (l : List Transaction) (v : AllFit τ l) where
  module _ (s : State) (h : List Command) (g : Going τ l s.acts s.datas h) (x : Due) where
    module _ (e : get_elem? (data_queue τ l) s.datas ≡ some x) (had : x.act < s.acts) where
      data_good : GoodAt τ l (due_at s.cycle x) h
      unfolding due_under
      data_good =
          record {
            due = omega (arith, found_dues x.kind x.bank x.number (data_queue τ l) s.datas x e refl refl refl);
            opened = λ d. g.held s.datas x (omega arith) e had;
            order = in_order;
            ref_last = λ z. true_false (is_ref x.kind) (ap is_ref z) (data_kind_at τ l v s.datas x e).2;
            ref_first = λ w i z. g.refs w i z s.datas x (omega arith) e;
          }
        where
          here : Placed (data_queue τ l) (due_at s.cycle x)
          here = record { place = s.datas; due = x; there = e; kind = refl; bank = refl; number = refl }

          in_order : (w : Command) → In w h → PlacesLater (data_queue τ l) (due_at s.cycle x) w → ⊥
          in_order w i p = by (is_the w.kind w.bank w.number x.kind x.bank x.number) refl
            where
              b : DataBefore τ l s.datas w
              b = g.datas w i (ap is_data p.second.kind ∙ (data_kind_at τ l v p.second.place p.second.due p.second.there).0)

              earlier : Placed (data_queue τ l) w
              earlier = record { place = b.place; due = b.due; there = b.there; kind = b.kind; bank = b.bank; number = b.number }

              by : (z : Bool) → is_the w.kind w.bank w.number x.kind x.bank x.number ≡ z → ⊥
              by true z =
                  let k = alike_of w.kind w.bank w.number x.kind x.bank x.number z in
                  true_false (is_the x.kind x.bank x.number w.kind w.bank w.number)
                  (of_alike x.kind x.bank x.number w.kind w.bank w.number (sym k.kind) (sym k.bank) (sym k.number)) p.unlike
              by false z =
                  let a = later_key τ l v (at_in l) (at_in_lem l) (due_at s.cycle x) w p in
                  let c = later_key τ l v (at_in l) (at_in_lem l) w (due_at s.cycle x) (record { first = earlier; second = here; later = b.lt; unlike = z }) in
                  absurd (omega (arith, a, c))

      data_goes : Going τ l s.acts (s.datas + 1) (due_at s.cycle x ∷ h)
      data_goes =
          record {
            good = (data_good, g.good);
            counts =
                λ k b y. more_right (is_the x.kind x.bank x.number k b y) (records_of k b y h) (dues_of k b y (take s.acts (act_queue τ l)))
                (dues_of k b y (take s.datas (data_queue τ l))) (dues_of k b y (take (s.datas + 1) (data_queue τ l))) (g.counts k b y)
                (dues_more k b y (data_queue τ l) s.datas x e);
            datas = λ w i d. data_in w i d;
            numbers = λ w i. number_in w i;
            held = λ j y le ey lt. rw ((data_kind_at τ l v s.datas x e).1, and_false (eqb x.bank y.bank)) (g.held j y (omega (arith, le)) ey lt);
            refs = λ w i ek j y le ey. ref_in w i ek j y le ey;
          }
        where
          data_in : (w : Command) → In w (due_at s.cycle x ∷ h) → is_data w.kind ≡ true → DataBefore τ l (s.datas + 1) w
          data_in w (inl ew) d =
              record {
                place =
                    s.datas;
                due =
                    x;
                lt =
                    omega arith;
                there =
                    e;
                kind =
                    ap (λ (c : Command). c.kind) (sym ew);
                bank = ap (λ (c : Command). c.bank) (sym ew);
                number = ap (λ (c : Command). c.number)
                    (sym ew);
              }
          data_in w (inr i) d =
              let b = g.datas w i d in
              record { place = b.place; due = b.due; lt = omega (arith, b.lt); there = b.there; kind = b.kind; bank = b.bank; number = b.number }

          number_in : (w : Command) → In w (due_at s.cycle x ∷ h) → NumberBefore τ l s.acts w
          number_in w (inl ew) =
              let its = act_of_lem τ l v s.datas x e in
              record { place = x.act; due = its.its; lt = had; there = its.there; number = ap (λ (c : Command). c.number) (sym ew) ∙ sym its.number }
          number_in w (inr i) = g.numbers w i

          ref_in : (w : Command) → In w (due_at s.cycle x ∷ h) → w.kind ≡ Ref → (j : ℕ) (y : Due) → s.datas + 1 ≤ j → get_elem? (data_queue τ l) j ≡ some y
              → w.number ≤ y.number
          ref_in w (inl ew) ek j y le ey = true_false (is_ref x.kind) (ap is_ref (ap (λ (c : Command). c.kind) ew ∙ ek)) (data_kind_at τ l v s.datas x e).2
          ref_in w (inr i) ek j y le ey = g.refs w i ek j y (omega (arith, le)) ey

  -- ---- a step, and steps

  module _ (s : State) (h : List Command) (q : Progress τ l s h) (g : Going τ l s.acts s.datas h) where
    abbrev Next : Command → Type 0
    Next c = Going τ l (after τ s (some c)).acts (after τ s (some c)).datas (c ∷ h)

    one_goes : OnSome Next (goes τ l s)
    one_goes =
        goes_all (breaks_none τ s) τ l s.cycle s.acts s.datas Next
        (λ x e u k. let z = data_kind_at τ l v s.datas x e in
        rw (z.0, z.1, z.2) (data_goes s h g x e (ltb-true x.act s.acts u)))
        (λ x e k. let a = act_entry τ l s.acts x e in
        let qd : in_act_queue x.kind ≡ true = ap in_act_queue a.kind ∙ act_queued a.x in
        rw (qd, act_no_data_at τ l s.acts x e) (act_goes τ rng l v s h q g x e k))

    step_goes : Going τ l (after τ s (goes τ l s)).acts (after τ s (goes τ l s)).datas (push (goes τ l s) h)
    step_goes = on (goes τ l s) one_goes
      where
        on : (o : Option Command) → OnSome Next o → Going τ l (after τ s o).acts (after τ s o).datas (push o h)
        on none u = g
        on (some c) u = u

  pub going : (n : ℕ) → Going τ l (steps n τ l (fresh τ) []).0.acts (steps n τ l (fresh τ) []).0.datas (steps n τ l (fresh τ) []).1
  going zero = going_none τ l
  going (suc n) =
      subst (λ (y : State × List Command). Going τ l y.0.acts y.0.datas y.1) (sym (steps_last n τ l (fresh τ) []))
      (step_goes (steps n τ l (fresh τ) []).0 (steps n τ l (fresh τ) []).1 (steps_progress τ rng l v n (fresh τ) [] (progress_fresh τ rng l v)) (going n))
