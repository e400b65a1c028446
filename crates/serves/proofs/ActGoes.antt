-- A command of the ACT queue goes, by the cycle rule.
-- Assumes nothing.
use Prim.Native.Nat.{ℕ, zero, suc, ◌+◌, ◌/◌, ◌≤◌, ◌<◌}
use native.Mathlib.Omega.{arith}
use mathlib.Core.Path.{◌≡◌, refl, sym, ap, ◌∙◌, subst}
use mathlib.Core.Logic.{◌≢◌, ◌⊎◌, inl, inr, ⊎_elim}
use mathlib.Core.Bool.{Bool, true, false, not, ◌&&◌}
use mathlib.Core.Option.{some}
use mathlib.Core.List.{List, ◌∷◌}
use lib.Dec.{eqb}
use lib.ListN.{get_elem?, take}
use borrow.Author.Tests.{eq-eqb, ne_eqb, not-true}
use Rattle.records.specs.declared.table.Table.{Table}
use Rattle.records.specs.declared.transaction.Transaction.{Transaction}
use Rattle.records.specs.declared.command.Kind.{Kind}
use Rattle.records.specs.declared.command.Kind.TheVariants.{Act, Rd, Rda, Wr, Wra, Ref, Other}
use Rattle.records.specs.declared.command.Command.{Command}
use Rattle.records.specs.Tests.{pick, all_of}
use Rattle.rules.specs.declared.state.State.{State}
use Rattle.rules.specs.Kinds.{is_act, is_data}
use Rattle.rules.specs.State.{is_open, bank_of, at_rest, charged, act_tests, refresh_tests, tests_by, breaks_none}
use Rattle.rules.specs.Queues.{Due, due_at, act_queue, data_queue}
use Rattle.rules.proofs.laws.TestLaws.{true_false, and_fst}
use Rattle.rules.proofs.laws.Numbers.{same?, from?}
use Rattle.rules.proofs.laws.Ranges.{Ranges}
use Rattle.rules.proofs.laws.Below.{below_each}
use Rattle.rules.proofs.queues.Heads.{test_at}
use Rattle.rules.proofs.queues.Fit.{AllFit, bank_lt}
use Rattle.rules.proofs.bound.Progress.{Progress}
use Rattle.rules.proofs.added.StillOpen.{due_open}
use Rattle.serves.specs.Serves.{is_the, records_of, dues_of, due_under, latest_act}
use Rattle.serves.proofs.Tests.{and_false, same_some}
use Rattle.serves.proofs.Alike.{found_dues}
use Rattle.serves.proofs.Records.{In}
use Rattle.serves.proofs.Entries.{entry}
use Rattle.serves.proofs.Acts.{act_no_data_at, act_up, ActOf, act_of_lem, own_of}
use Rattle.serves.proofs.Going.{dues_more, more_left, GoodAt, DataBefore, NumberBefore, Going, of_later, data_kind_at}

is_act_lem : (k : Kind) → is_act k ≡ true → k ≡ Act
is_act_lem Act z = refl
is_act_lem Rd z = true_false false z refl
is_act_lem Rda z = true_false false z refl
is_act_lem Wr z = true_false false z refl
is_act_lem Wra z = true_false false z refl
is_act_lem Ref z = true_false false z refl
is_act_lem (Other m) z = true_false false z refl

module _ (τ : Table) (rng : Ranges τ) (l : List Transaction) (v : AllFit τ l) where
  module _ (s : State) (h : List Command) (q : Progress τ l s h) (g : Going τ l s.acts s.datas h) (x : Due) where
    -- a bank that data commands are due to, and whose ACT has gone, is open
    open_for : (j : ℕ) (y : Due) → s.datas ≤ j → get_elem? (data_queue τ l) j ≡ some y → y.act < s.acts → is_open (bank_of s y.bank) ≡ true
    open_for j y le e lt =
        let o = own_of τ l v j y e in
        subst (λ (b : ℕ). is_open (bank_of s b) ≡ true) (sym o.2) (due_open τ rng l v s h q j le o.1 (omega (arith, lt, o.0)))

    -- ---- a command of the ACT queue
    module _ (e : get_elem? (act_queue τ l) s.acts ≡ some x) (ok : breaks_none τ s (due_at s.cycle x) ≡ true) where
      no_data : is_data x.kind ≡ false
      no_data = act_no_data_at τ l s.acts x e

      -- none that has gone has a greater number
      none_greater : (w : Command) → In w h → w.number ≤ x.number
      none_greater w i =
          let n = g.numbers w i in
          let u = act_up τ l n.place s.acts n.due x n.there e (omega (arith, n.lt)) in
          omega (arith, u, n.number)

      shut_for : x.kind ≡ Act → is_open (bank_of s x.bank) ≡ false
      shut_for ek =
          let t : all_of (act_tests τ s s.cycle x.bank) ≡ true = subst (λ (k : Kind). all_of (tests_by τ s k s.cycle x.bank) ≡ true) ek ok in
          not-true (is_open (bank_of s x.bank)) (test_at (act_tests τ s s.cycle x.bank) 0 t)

      shut_all : x.kind ≡ Ref → (b : ℕ) → b < τ.banks → is_open (bank_of s b) ≡ false
      shut_all ek b hb =
          let t : all_of (refresh_tests τ s s.cycle) ≡ true = subst (λ (k : Kind). all_of (tests_by τ s k s.cycle x.bank) ≡ true) ek ok in
          let u = test_at (refresh_tests τ s s.cycle) 7 t in
          not-true (is_open (bank_of s b)) (and_fst (not (is_open (bank_of s b))) (charged τ (bank_of s b) s.cycle)
          (below_each τ.banks (λ b. at_rest τ (bank_of s b) s.cycle) u b hb))

      act_good : GoodAt τ l (due_at s.cycle x) h
      unfolding due_under
      act_good =
          record {
            due = omega (arith, found_dues x.kind x.bank x.number (act_queue τ l) s.acts x e refl refl refl);
            opened = λ d. true_false (is_data x.kind) d no_data;
            order =
                λ w i p. true_false (is_data x.kind) (ap is_data p.first.kind
                ∙ (data_kind_at τ l v p.first.place p.first.due p.first.there).0) no_data;
            ref_last = λ z w i. none_greater w i;
            ref_first = λ w i z. none_greater w i;
          }

      -- the latest ACT of a bank that a data command waits for
      act_held : (j : ℕ) (y : Due) → s.datas ≤ j → get_elem? (data_queue τ l) j ≡ some y → y.act < s.acts + 1
          → latest_act y.bank (due_at s.cycle x ∷ h) ≡ some y.number
      act_held j y le ey lt = ⊎_elim mine others (same? y.act s.acts)
        where
          its : ActOf τ l v y
          its = act_of_lem τ l v j y ey

          mine : y.act ≡ s.acts → latest_act y.bank (due_at s.cycle x ∷ h) ≡ some y.number
          mine z =
              let same : its.its ≡ x = same_some (get_elem? (act_queue τ l) s.acts) its.its x
              (subst (λ (n : ℕ). get_elem? (act_queue τ l) n ≡ some its.its) z its.there) e in
              let eb : x.bank ≡ y.bank = ap (λ (u : Due). u.bank) (sym same) ∙ its.bank in
              let ea : is_act x.kind ≡ true = ap (λ (u : Due). is_act u.kind) (sym same) ∙ ap is_act its.kind in
              let en : x.number ≡ y.number = ap (λ (u : Due). u.number) (sym same) ∙ its.number in
              rw (eq-eqb x.bank y.bank eb, ea, en)

          others : y.act ≢ s.acts → latest_act y.bank (due_at s.cycle x ∷ h) ≡ some y.number
          others z = by (is_act x.kind) refl (same? x.bank y.bank)
            where
              lower : y.act < s.acts
              lower = ⊎_elim (λ u. u) (λ (m, u). up m u) (from? y.act s.acts)
                where
                  up : (m : ℕ) → y.act ≡ s.acts + m → y.act < s.acts
                  up zero u = absurd (z (omega (arith, u)))
                  up (suc m) u = absurd (omega (arith, u, lt))

              by : (c : Bool) → is_act x.kind ≡ c → ((x.bank ≡ y.bank) ⊎ (x.bank ≢ y.bank))
                  → pick (eqb x.bank y.bank && is_act x.kind) (some x.number) (latest_act y.bank h) ≡ some y.number
              by false ea u = rw (ea, and_false (eqb x.bank y.bank)) (g.held j y le ey lower)
              by true ea (inr u) = rw (ne_eqb x.bank y.bank u) (g.held j y le ey lower)
              by true ea (inl u) =
                  true_false (is_open (bank_of s y.bank)) (open_for j y le ey lower)
                  (subst (λ (b : ℕ). is_open (bank_of s b) ≡ false) u (shut_for (is_act_lem x.kind ea)))

      -- when a REF goes, no data command of an earlier transaction is due
      act_refs : x.kind ≡ Ref → (j : ℕ) (y : Due) → s.datas ≤ j → get_elem? (data_queue τ l) j ≡ some y → x.number ≤ y.number
      act_refs ek j y le ey = ⊎_elim
          (λ z. true_false (is_open (bank_of s y.bank)) (open_for j y le ey z) (shut_all ek y.bank hb))
          (λ z. omega (arith, act_up τ l s.acts y.act x its.its e its.there (omega (arith, z.1)), its.number)) (from? y.act s.acts)
        where
          its : ActOf τ l v y
          its = act_of_lem τ l v j y ey

          hb : y.bank < τ.banks
          hb = let a = entry τ l v j y ey in omega (arith, a.bank, bank_lt τ a.x a.fit (a.o / a.x.bc) a.index)

      pub act_goes : Going τ l (s.acts + 1) s.datas (due_at s.cycle x ∷ h)
      act_goes =
          record {
            good = (act_good, g.good);
            counts =
                λ k b y. more_left (is_the x.kind x.bank x.number k b y) (records_of k b y h) (dues_of k b y (take s.acts (act_queue τ l)))
                (dues_of k b y (take s.datas (data_queue τ l))) (dues_of k b y (take (s.acts + 1) (act_queue τ l))) (g.counts k b y)
                (dues_more k b y (act_queue τ l) s.acts x e);
            datas = λ w i d. data_in w i d;
            numbers = λ w i. number_in w i;
            held = act_held;
            refs = λ w i ek j y le ey. ref_in w i ek j y le ey;
          }
        where
          data_in : (w : Command) → In w (due_at s.cycle x ∷ h) → is_data w.kind ≡ true → DataBefore τ l s.datas w
          data_in w (inl ew) d = true_false (is_data w.kind) d (ap (λ (c : Command). is_data c.kind) (sym ew) ∙ no_data)
          data_in w (inr i) d = g.datas w i d

          number_in : (w : Command) → In w (due_at s.cycle x ∷ h) → NumberBefore τ l (s.acts + 1) w
          number_in w (inl ew) = record { place = s.acts; due = x; lt = omega arith; there = e; number = ap (λ (c : Command). c.number) (sym ew) }
          number_in w (inr i) = of_later τ l s.acts w (g.numbers w i)

          ref_in : (w : Command) → In w (due_at s.cycle x ∷ h) → w.kind ≡ Ref → (j : ℕ) (y : Due) → s.datas ≤ j → get_elem? (data_queue τ l) j ≡ some y
              → w.number ≤ y.number
          ref_in w (inl ew) ek j y le ey =
              let k = act_refs (ap (λ (c : Command). c.kind) ew ∙ ek) j y le ey in omega (arith, k, ap (λ (c : Command). c.number) ew)
          ref_in w (inr i) ek j y le ey = g.refs w i ek j y le ey
