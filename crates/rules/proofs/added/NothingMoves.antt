-- Transactions added at the end move no command of the earlier ones.
-- Assumes nothing.
use Rattle.std.specs.Prelude.{Some}
use Prim.Native.Nat.{ℕ, zero, suc, ◌+◌, ◌%◌, ◌≤◌, ◌<◌}
use native.Mathlib.Omega.{arith}
use mathlib.Core.Path.{◌≡◌, refl, sym, ap, ◌∙◌, subst}
use mathlib.Core.Logic.{◌≢◌, ◌⊎◌, inl, inr}
use mathlib.Core.Bool.{Bool, true, false, ◌&&◌}
use mathlib.Core.Option.{Option, none, some}
use mathlib.Core.List.{List, [], ◌++◌}
use lib.Dec.{ltb, eqb}
use lib.ListN.{length, length-set}
use lib.Seq.{get_or-set_same, get_or-set_other, set-get_or}
use borrow.Author.Tests.{not-true, lt-ltb, le-ltb}
use Rattle.records.specs.declared.table.Table.{Table}
use Rattle.records.specs.declared.transaction.Transaction.{Transaction}
use Rattle.records.specs.declared.command.Kind.TheVariants.{Act, Ref}
use Rattle.records.specs.declared.command.Command.{Command}
use Rattle.rules.specs.declared.state.State.{State}
use Rattle.records.specs.Tests.{pick, all_of}
use Rattle.records.specs.Transaction.{is_write, is_refresh}
use Rattle.records.specs.Command.{command}
use Rattle.rules.specs.Kinds.{is_rd, is_wr, is_data}
use Rattle.rules.specs.Square.{group_of, square}
use Rattle.rules.specs.State.{is_open, shut, bank_of, group_at, far_by, rule9, group_after, act_tests, tests_by, breaks_none, fresh, bank_after, add_if, note, idle, after}
use Rattle.rules.specs.Queues.{due_at, bank_at, act_count}
use Rattle.rules.specs.CycleRule.{goes, push}
use Rattle.rules.specs.Run.{steps}
use Rattle.rules.specs.Promise.{of_first}
use Rattle.rules.proofs.laws.TestLaws.{true_false, OnSome, on_pick_lem}
use Rattle.rules.proofs.laws.Ranges.{Ranges}
use Rattle.rules.proofs.laws.Numbers.{same?}
use Rattle.rules.proofs.queues.Queue.{Place, data_count, act_place, data_place, data_due, act_bank, act_sum, data_sum, find_end}
use Rattle.rules.proofs.queues.Fit.{AllFit, Inside, place_at, data_bank}
use Rattle.rules.proofs.laws.DataKinds.{rules_kind}
use Rattle.rules.proofs.queues.Heads.{seen_place, on_seen_lem, data_from, act_from, try_data, try_act, goes_try, test_at, act_ok, refresh_ok}
use Rattle.rules.proofs.queues.Counts.{after_size, acts_up, datas_up}
use Rattle.rules.proofs.bound.Progress.{Progress, progress_fresh, progress_step}
use Rattle.rules.proofs.queues.Front.{find_front, act_of, Own, data_own, act_of_lt}
use Rattle.rules.proofs.added.StillOpen.{due_open}
use Rattle.rules.proofs.laws.Below.{below_same}
use Rattle.rules.proofs.bound.Groups.{set_each, set_pair}
use Rattle.rules.proofs.added.SideBySide.{SameData, Mid, Side, early, mid, late, sort, same, own_number, later_number, Step, step_early, step_late}

module _ (τ : Table) (rng : Ranges τ) (xs ys : List Transaction) (v : AllFit τ xs) where
  module _ (s u : State) (h g : List Command) (q : Mid τ xs ys s u) (more : s.datas < data_sum xs) (e : of_first (length xs) g ≡ h) (st : Progress τ xs s h) where
    -- both test the head of the data queue alike
    head_same : try_data τ xs s ≡ try_data τ (xs ++ ys) u
    head_same =
        on (seen_place s.cycle (data_place xs s.datas)) (on_seen_lem (Own τ xs 0 s.datas) s.cycle (data_place xs s.datas) (data_own τ xs v 0 0 s.datas))
        ∙ (ap (λ (t : ℕ). data_from (breaks_none τ u) τ u.cycle u.acts (seen_place t (data_place xs s.datas))) q.cycle
        ∙ ap (λ (o : Option Place). data_from (breaks_none τ u) τ u.cycle u.acts (seen_place u.cycle o))
        (sym (ap (data_place (xs ++ ys)) (sym q.datas) ∙ find_front data_count ys xs 0 0 s.datas more)))
      where
        nine : (w : Bool) (t b : ℕ) → rule9 τ s w t b ≡ rule9 τ u w t b
        nine w t b =
            below_same τ.groups (λ g. far_by (square τ (eqb g (group_of τ b))) (group_at s g).rd (group_at s g).wr w t)
            (λ g. far_by (square τ (eqb g (group_of τ b))) (group_at u g).rd (group_at u g).wr w t)
            (λ g l. rw ((q.group g).0, (q.group g).1))

        on : (o : Option Place) → OnSome (Own τ xs 0 s.datas) o
            → data_from (breaks_none τ s) τ s.cycle s.acts o ≡ data_from (breaks_none τ u) τ u.cycle u.acts o
        on none k = refl
        on (some p) k =
            let i : (data_due τ p).act < act_sum xs = omega (arith, k.0, k.2) in
            let z = eqb (p.offset % p.transaction.bc + 1) p.transaction.bc in
            let b : bank_of s (data_due τ p).bank ≡ bank_of u (data_due τ p).bank = rw k.1 (q.bank s.datas (omega arith) more) in
            rw (
              rules_kind τ s (is_write p.transaction) z s.cycle (data_due τ p).bank,
              rules_kind τ u (is_write p.transaction) z u.cycle (data_due τ p).bank,
              lt-ltb (data_due τ p).act s.acts (omega (arith, q.acts_s)),
              lt-ltb (data_due τ p).act u.acts (omega (arith, q.acts_u)),
              b,
              nine (is_write p.transaction) s.cycle (data_due τ p).bank,
              q.cycle,
            )

    -- what the head is, where it goes
    abbrev Head : Command → Type 0
    Head c = (c.bank ≡ act_bank τ xs (act_of xs s.datas)) × (c.bank < τ.banks)

    head_is : OnSome Head (try_data τ xs s)
    head_is =
        on (seen_place s.cycle (data_place xs s.datas)) (on_seen_lem (Own τ xs 0 s.datas) s.cycle (data_place xs s.datas) (data_own τ xs v 0 0 s.datas))
        (on_seen_lem (Inside τ data_count) s.cycle (data_place xs s.datas) (place_at τ data_count xs v 0 0 s.datas))
      where
        on : (o : Option Place) → OnSome (Own τ xs 0 s.datas) o → OnSome (Inside τ data_count) o → OnSome Head (data_from (breaks_none τ s) τ s.cycle s.acts o)
        on none k k' = tt
        on (some p) k k' =
            on_pick_lem Head (ltb (data_due τ p).act s.acts && breaks_none τ s (due_at s.cycle (data_due τ p))) (due_at s.cycle (data_due τ p)) none
            (λ y. (k.1, data_bank τ p k')) (λ y. tt)

    -- the same data command goes in both
    mid_data : (c : Command) → Head c → Side τ xs ys (after τ s (some c)) (after τ u (some c))
    mid_data c k =
        sort τ xs ys (after τ s (some c)) (after τ u (some c))
        (record {
          acts_s = omega (arith, q.acts_s, acts_up τ s (some c));
          acts_u = omega (arith, q.acts_u, acts_up τ u (some c));
          size_s = rw (length-set s.banks) q.size_s;
          size_u = rw (length-set u.banks) q.size_u;
          cycle = refl;
          datas = ap (add_if (is_data c.kind)) q.datas;
          group_size = rw (length-set s.groups, length-set u.groups) q.group_size;
          group = set_pair SameData s.groups u.groups (group_of τ c.bank) (group_after c.kind c.cycle (group_at s (group_of τ c.bank)))
              (group_after c.kind c.cycle (group_at u (group_of τ c.bank))) q.group_size q.group
              (ap (pick (is_rd c.kind) (Some c.cycle)) (q.group (group_of τ c.bank)).0, ap (pick (is_wr c.kind) (Some c.cycle)) (q.group (group_of τ c.bank)).1);
          bank = λ n a b. agree n a b (same? (act_bank τ xs (act_of xs n)) c.bank);
        })
      where
        hit : (w : State) → τ.banks ≤ length w.banks → (b : ℕ) → b ≡ c.bank → bank_of (after τ w (some c)) b ≡ bank_after c.kind c.cycle (bank_of w c.bank)
        hit w z b p = rw p (get_or-set_same w.banks c.bank (bank_after c.kind c.cycle (bank_of w c.bank)) shut (omega (arith, k.1)))

        miss : (w : State) (b : ℕ) → b ≢ c.bank → bank_of (after τ w (some c)) b ≡ bank_of w b
        miss w b p = get_or-set_other w.banks c.bank b (bank_after c.kind c.cycle (bank_of w c.bank)) shut p

        here : bank_of s c.bank ≡ bank_of u c.bank
        here = rw k.0 (q.bank s.datas (omega arith) more)

        agree : (n : ℕ) → (after τ s (some c)).datas ≤ n → n < data_sum xs → (act_bank τ xs (act_of xs n) ≡ c.bank) ⊎ (act_bank τ xs (act_of xs n) ≢ c.bank)
            → bank_of (after τ s (some c)) (act_bank τ xs (act_of xs n)) ≡ bank_of (after τ u (some c)) (act_bank τ xs (act_of xs n))
        agree n a b (inl z) =
            hit s q.size_s (act_bank τ xs (act_of xs n)) z ∙ (ap (bank_after c.kind c.cycle) here ∙ sym (hit u q.size_u (act_bank τ xs (act_of xs n)) z))
        agree n a b (inr z) =
            miss s (act_bank τ xs (act_of xs n)) z ∙ (q.bank n (omega (arith, datas_up τ s (some c))) b ∙ sym (miss u (act_bank τ xs (act_of xs n)) z))

    -- nothing goes in the first, and nothing or a command of ys from the ACT queue in the second
    mid_idle : Side τ xs ys (idle s) (idle u)
    mid_idle =
        sort τ xs ys (idle s) (idle u)
        (record {
          acts_s = q.acts_s;
          acts_u = q.acts_u;
          size_s = q.size_s;
          size_u = q.size_u;
          cycle = ap (λ (y : ℕ). y + 1) q.cycle;
          datas = q.datas;
          group_size = q.group_size;
          group = q.group;
          bank = q.bank;
        })

    mid_act : (b : ℕ) → act_ok τ u b ≡ true → Side τ xs ys (idle s) (note τ u u.cycle Act b)
    mid_act b ok =
        sort τ xs ys (idle s) (note τ u u.cycle Act b)
        (record {
          acts_s = q.acts_s;
          acts_u = omega (arith, q.acts_u);
          size_s = q.size_s;
          size_u = rw (length-set u.banks) q.size_u;
          cycle = ap (λ (y : ℕ). y + 1) q.cycle;
          datas = q.datas;
          group_size = rw (length-set u.groups) q.group_size;
          group = set_each (λ g. SameData (group_at s g)) u.groups (group_of τ b) (group_after Act u.cycle (group_at u (group_of τ b))) q.group (q.group (group_of τ b));
          bank = λ n i i'. q.bank n i i' ∙ sym (get_or-set_other u.banks b (act_bank τ xs (act_of xs n)) (bank_after Act u.cycle (bank_of u b)) shut (apart n i i'));
        })
      where
        closed : is_open (bank_of u b) ≡ false
        closed = not-true (is_open (bank_of u b)) (test_at (act_tests τ u u.cycle b) 0 ok)

        apart : (n : ℕ) → s.datas ≤ n → n < data_sum xs → act_bank τ xs (act_of xs n) ≢ b
        apart n i i' p =
            true_false (is_open (bank_of u b))
            (subst (λ (y : ℕ). is_open (bank_of u y) ≡ true) p
            (ap is_open (sym (q.bank n i i')) ∙ due_open τ rng xs v s h st n i i' (omega (arith, q.acts_s, act_of_lt τ xs v n i'))))
            closed

    mid_ref : Side τ xs ys (idle s) (note τ u u.cycle Ref 0)
    mid_ref =
        sort τ xs ys (idle s) (note τ u u.cycle Ref 0)
        (record {
          acts_s = q.acts_s;
          acts_u = omega (arith, q.acts_u);
          size_s = q.size_s;
          size_u = rw (length-set u.banks) q.size_u;
          cycle = ap (λ (y : ℕ). y + 1) q.cycle;
          datas = q.datas;
          group_size = rw (length-set u.groups) q.group_size;
          group = set_each (λ g. SameData (group_at s g)) u.groups (group_of τ 0) (group_after Ref u.cycle (group_at u (group_of τ 0))) q.group (q.group (group_of τ 0));
          bank = λ n i i'. rw (set-get_or u.banks 0 shut) (q.bank n i i');
        })

    step_mid : Step τ xs ys s u h g (goes τ xs s) (goes τ (xs ++ ys) u)
    unfolding Step
    step_mid = on (try_data τ xs s) refl head_is
      where
        on_a : (o : Option Place) → OnSome (λ p. length xs ≤ p.number) o → Step τ xs ys s u h g none (act_from (breaks_none τ u) τ u.cycle o)
        on_a none k = (mid_idle, e)
        on_a (some p) k = on_z (is_refresh p.transaction)
          where
            b : ℕ
            b = bank_at τ p.transaction p.offset

            on_b : (y : Bool) → act_ok τ u b ≡ y → Step τ xs ys s u h g none (pick y (some (command u.cycle Act b p.number)) none)
            on_b true ok = (mid_act b ok, rw (le-ltb p.number (length xs) k) e)
            on_b false bad = (mid_idle, e)

            on_r : (y : Bool) → Step τ xs ys s u h g none (pick y (some (command u.cycle Ref 0 p.number)) none)
            on_r true = (mid_ref, rw (le-ltb p.number (length xs) k) e)
            on_r false = (mid_idle, e)

            on_z : (z : Bool) → Step τ xs ys s u h g none
                (pick (all_of (tests_by τ u (pick z Ref Act) u.cycle (pick z 0 b))) (some (command u.cycle (pick z Ref Act) (pick z 0 b) p.number)) none)
            on_z true = on_r (refresh_ok τ u)
            on_z false = on_b (act_ok τ u b) refl

        on : (o : Option Command) → try_data τ xs s ≡ o → OnSome Head o → Step τ xs ys s u h g (goes τ xs s) (goes τ (xs ++ ys) u)
        on none p k =
            let a : goes τ xs s ≡ none = goes_try τ xs s ∙ rw (p, find_end act_count xs 0 0 s.acts q.acts_s) in
            let b : goes τ (xs ++ ys) u ≡ try_act τ (xs ++ ys) u = goes_try τ (xs ++ ys) u ∙ rw (← head_same, p) in
            rw (a, b) (on_a (seen_place u.cycle (act_place (xs ++ ys) u.acts))
            (on_seen_lem (λ p. length xs ≤ p.number) u.cycle (act_place (xs ++ ys) u.acts) (later_number τ xs ys act_count u.acts q.acts_u)))
        on (some c) p k =
            let a : goes τ xs s ≡ some c = goes_try τ xs s ∙ rw p in
            let b : goes τ (xs ++ ys) u ≡ some c = goes_try τ (xs ++ ys) u ∙ rw (← head_same, p) in
            let t : c.number < length xs = subst (OnSome (λ c. c.number < length xs)) a (own_number τ xs ys s) in
            rw (a, b) (mid_data c k, rw (lt-ltb c.number (length xs) t, e))

  step : (s u : State) (h g : List Command) → τ.banks ≤ length s.banks → Progress τ xs s h → Side τ xs ys s u → of_first (length xs) g ≡ h
      → Step τ xs ys s u h g (goes τ xs s) (goes τ (xs ++ ys) u)
  step s u h g z st (early p k) e = subst (λ (w : State). Step τ xs ys s w h g (goes τ xs s) (goes τ (xs ++ ys) w)) p (step_early τ xs ys s h g z k e)
  step s u h g z st (mid m q) e = step_mid s u h g q m e st
  step s u h g z st (late q) e = step_late τ xs ys s u h g q e

  side_steps : (n : ℕ) (s u : State) (h g : List Command) → τ.banks ≤ length s.banks → Progress τ xs s h → Side τ xs ys s u → of_first (length xs) g ≡ h
      → of_first (length xs) (steps n τ (xs ++ ys) u g).1 ≡ (steps n τ xs s h).1
  unfolding Step
  side_steps zero s u h g z st r e = e
  side_steps (suc n) s u h g z st r e =
      let k = step s u h g z st r e in
      side_steps n (after τ s (goes τ xs s)) (after τ u (goes τ (xs ++ ys) u)) (push (goes τ xs s) h) (push (goes τ (xs ++ ys) u) g)
      (rw after_size z) (progress_step τ rng xs v s h st) k.0 k.1

  -- at every cycle the commands of xs in the two runs are the same
  pub front_unmoved : (n : ℕ) → of_first (length xs) (steps n τ (xs ++ ys) (fresh τ) []).1 ≡ (steps n τ xs (fresh τ) []).1
  front_unmoved n = side_steps n (fresh τ) (fresh τ) [] [] rng.banks.most (progress_fresh τ rng xs v) (same τ xs ys (fresh τ) rng.banks.most) refl
