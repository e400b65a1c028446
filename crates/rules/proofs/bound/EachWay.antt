-- Each way a cycle can go keeps the phase, or ends it.
-- Assumes nothing.
use Rattle.std.specs.Prelude.{Some}
use Prim.Native.Nat.{ℕ, zero, suc, ◌+◌, ◌*◌, ◌≤◌, ◌<◌}
use native.Mathlib.Omega.{arith}
use mathlib.Core.Path.{◌≡◌, refl, sym, ap, ◌∙◌, subst}
use mathlib.Core.Logic.{◌≢◌, ◌⊎◌, inl, inr, ⊎_elim}
use mathlib.Core.Bool.{Bool, true, false, ◌&&◌}
use mathlib.Core.List.{List}
use lib.Dec.{ltb}
use borrow.Author.Tests.{ltb-true, leb-true, not-true}
use Rattle.records.specs.declared.table.Table.{Table}
use Rattle.records.specs.declared.transaction.Transaction.{Transaction}
use Rattle.records.specs.declared.command.Kind.TheVariants.{Act}
use Rattle.rules.specs.declared.state.State.{State}
use Rattle.records.specs.Transaction.{is_write}
use Rattle.rules.specs.State.{past, is_open, bank_of, rule9, act_tests, data_tests, note, idle}
use Rattle.rules.specs.Queues.{bank_at, data_kind}
use Rattle.rules.specs.Bound.{most_ccd, most_from_rd, most_from_wr, bound_s}
use Rattle.rules.proofs.laws.TestLaws.{true_false, and_fst, and_snd}
use Rattle.rules.proofs.laws.Ranges.{Ranges}
use Rattle.rules.proofs.laws.Numbers.{same?, from?}
use Rattle.rules.proofs.queues.Queue.{act_bank, is_act_at}
use Rattle.rules.proofs.queues.Fit.{bank_lt, bank_apart}
use Rattle.rules.proofs.queues.Heads.{test_at, act_ok, data_ok}
use Rattle.rules.proofs.bound.Recent.{Upto, upto_up, past_upto, ext, ext_eq, ext_other, rd_data, wr_data, rd_act, wr_act, nine_blocked}
use Rattle.rules.proofs.bound.GoneActs.{Went, Base, base_up, base_idle, at_old, base_act, DataNote, data_note, done_after, miss, base_data}
use Rattle.rules.proofs.bound.Due.{rrd_one, ccd_two, D-rrd, due_by}
use Rattle.rules.proofs.bound.Phase.{Spot, head_test, Blocked, by_act, by_data, InTime, Serving, Between}
use Rattle.rules.proofs.bound.Ready.{act_ready}

module _ (τ : Table) (rng : Ranges τ) (l : List Transaction) (A0 M0 : ℕ) (x : Transaction) (sp : Spot τ l A0 M0 x) (F : ℕ) (ta : ℕ → ℕ) (j r : ℕ)
    (s : State) (q : Serving τ l A0 M0 x F ta j r s) where
  -- t reaches the bound of ACT 0 at most, and that of a later one never
  reach : (k : ℕ) (t : ℕ) (s' : State) → s'.cycle ≡ t → t ≤ F + bound_s τ → InTime τ F (is_write x) s' k
  reach zero t s' e h = ⊎_elim (λ z. inl (omega arith)) (λ z. inr (omega arith, inl refl)) (from? t (F + bound_s τ))
  reach (suc k) t s' e h = inl (omega arith)

  -- nothing goes
  pub step_idle : s.cycle + 1 ≤ by_data τ F x j r
      → ((k : ℕ) → s.acts ≡ A0 + k → k < x.bi → F ≤ s.cycle → act_ok τ s (bank_at τ x k) ≡ false) → Serving τ l A0 M0 x F ta j r (idle s)
  step_idle e f =
      record {
        base = base_up τ l (A0 + j) ta s.cycle (s.cycle + 1) (idle s) (omega arith) (base_idle τ l (A0 + j) ta s.cycle s q.base);
        cnt = q.cnt;
        jIn = q.jIn;
        rIn = q.rIn;
        old = λ i k a. ((q.old i k a).0, omega (arith, (q.old i k a).1));
        own = q.own;
        begun = λ i k. omega (arith, q.begun i k);
        refresh_f = q.refresh_f;
        refresh_now = ⊎_elim (λ y. inl y) (λ y. inr (upto_up τ.rfc s.cycle (s.cycle + 1) s.refresh (omega arith) y)) q.refresh_now;
        rd_due = q.rd_due;
        wr_due = q.wr_due;
        unop = q.unop;
        act_time = time;
        data_time = e;
        arrived = q.arrived;
      }
    where
      time : (k : ℕ) → s.acts ≡ A0 + k → k < x.bi → InTime τ F (is_write x) (idle s) k
      time k ek kl = on (from? s.cycle (F + bound_s τ)) (from? (s.cycle + 1) (by_act τ F k))
        where
          on : (s.cycle < F + bound_s τ) ⊎ ((d : ℕ) × (s.cycle ≡ F + bound_s τ + d))
              → (s.cycle + 1 < by_act τ F k) ⊎ ((d : ℕ) × (s.cycle + 1 ≡ by_act τ F k + d))
              → InTime τ F (is_write x) (idle s) k
          on (inl a) b = reach k (s.cycle + 1) (idle s) refl (omega arith)
          on (inr a) (inl b) = inl b
          on (inr a) (inr b) =
              true_false (act_ok τ s (bank_at τ x k))
              (act_ready τ rng l A0 M0 x sp F ta j r s q k ek kl (omega (arith, a.1)) (omega (arith, b.1))) (f k ek kl (omega (arith, a.1)))

  -- an ACT goes, of this transaction or a later one
  pub step_act : s.cycle + 1 ≤ by_data τ F x j r → is_act_at l s.acts ≡ true → act_bank τ l s.acts < τ.banks → act_ok τ s (act_bank τ l s.acts) ≡ true
      → Serving τ l A0 M0 x F (ext ta s.acts s.cycle) j r (note τ s s.cycle Act (act_bank τ l s.acts))
  step_act e act lt ok =
      record {
        base = base_up τ l (A0 + j) ta' s.cycle (s.cycle + 1) s' (omega arith)
            (base_act τ l (A0 + j) ta s.cycle s q.base s.cycle (omega arith) lt closed act);
        cnt = q.cnt;
        jIn = q.jIn;
        rIn = q.rIn;
        old = λ i k a. rw (ext_other ta s.acts s.cycle i (λ h. omega (arith, q.base.le))) ((q.old i k a).0, omega (arith, (q.old i k a).1));
        own = λ i k k'. ⊎_elim
            (λ h. rw (ext_eq ta s.acts s.cycle (A0 + i) h) (in_time_lem i (q.act_time i (sym h) k)))
            (λ h. rw (ext_other ta s.acts s.cycle (A0 + i) h) (q.own i k (omega (arith, h)))) (same? (A0 + i) s.acts);
        begun = λ i k. rw (ext_other ta s.acts s.cycle (A0 + i) (λ h. omega (arith, q.base.le))) (omega (arith, q.begun i k));
        refresh_f = q.refresh_f;
        refresh_now = inr (upto_up τ.rfc s.cycle (s.cycle + 1) s.refresh (omega arith)
            (past_upto τ.rfc s.cycle s.refresh (test_at (act_tests τ s s.cycle (act_bank τ l s.acts)) 8 ok)));
        rd_due = rd_act τ s s.cycle (act_bank τ l s.acts) (most_from_rd τ (is_write x)) (by_data τ F x j r) q.rd_due;
        wr_due = wr_act τ s s.cycle (act_bank τ l s.acts) (most_from_wr τ (is_write x)) (by_data τ F x j r) q.wr_due;
        unop = λ i k k'. rw (at_old τ l (A0 + j) ta s.cycle s q.base s.cycle (omega arith) lt closed act (bank_at τ x i) (not_this i k k'))
            (q.unop i k (omega arith));
        act_time = time;
        data_time = e;
        arrived = q.arrived;
      }
    where
      ta' : ℕ → ℕ
      ta' = ext ta s.acts s.cycle

      s' : State
      s' = note τ s s.cycle Act (act_bank τ l s.acts)

      closed : is_open (bank_of s (act_bank τ l s.acts)) ≡ false
      closed = not-true (is_open (bank_of s (act_bank τ l s.acts))) (test_at (act_tests τ s s.cycle (act_bank τ l s.acts)) 0 ok)

      in_time_lem : (k : ℕ) → InTime τ F (is_write x) s k → s.cycle ≤ by_act τ F k
      in_time_lem k (inl z) = omega arith
      in_time_lem k (inr z) = omega (arith, z.0)

      not_this : (i : ℕ) → i < x.bi → s.acts + 1 ≤ A0 + i → bank_at τ x i ≢ act_bank τ l s.acts
      not_this i k k' p = ⊎_elim (λ z. omega (arith, q.base.le))
          (λ z. let h : z.0 < x.bi = omega (arith, z.1) in
          omega (arith, z.1, bank_apart τ x sp.ok i z.0 k h (p ∙ (ap (act_bank τ l) z.1 ∙ sp.bank_k z.0 h)))) (from? s.acts A0)

      time : (k : ℕ) → s.acts + 1 ≡ A0 + k → k < x.bi → InTime τ F (is_write x) s' k
      time zero ek kl = absurd (omega (arith, q.base.le))
      time (suc k) ek kl = inl (omega (arith, in_time_lem k (q.act_time k (omega arith) (omega arith)), D-rrd τ, rrd_one τ rng))

  -- the data command at the head goes
  module _ (ok : head_test τ A0 x j s ≡ true) (z : Bool) where
    abbrev pub s'' : State
    s'' = note τ s s.cycle (data_kind (is_write x) z) (bank_at τ x j)

    gone : A0 + j < s.acts
    gone = ltb-true (A0 + j) s.acts (and_fst (ltb (A0 + j) s.acts) (data_ok τ s (bank_at τ x j) (is_write x)) ok)

    rules : data_ok τ s (bank_at τ x j) (is_write x) ≡ true
    rules = and_snd (ltb (A0 + j) s.acts) (data_ok τ s (bank_at τ x j) (is_write x)) ok

    rule8 : ta (A0 + j) + τ.rcd ≤ s.cycle
    rule8 =
        let a : (bank_of s (bank_at τ x j)).act ≡ Some (ta (A0 + j)) = rw (sp.bank_k j q.jIn) at (q.base.acted_at (A0 + j) (omega arith) gone) in
        leb-true (ta (A0 + j) + τ.rcd) s.cycle (rw a at (test_at (data_tests τ s (is_write x) s.cycle (bank_at τ x j)) 5 rules))

    noted : DataNote τ s s'' s.cycle (act_bank τ l (A0 + j)) z
    noted = rw (sp.bank_k j q.jIn) (data_note τ s s.cycle (bank_at τ x j) (is_write x) z)

    in_room : act_bank τ l (A0 + j) < τ.banks
    in_room = rw (sp.bank_k j q.jIn) (bank_lt τ x sp.ok j q.jIn)

    base'' : Base τ l (done_after z (A0 + j)) ta s.cycle s''
    base'' = base_data τ l (A0 + j) ta s.cycle s q.base s.cycle (omega arith) in_room gone rule8 z s'' noted

    -- the same transaction goes on
    module _ (j' r' : ℕ) (hj : A0 + j' ≡ done_after z (A0 + j)) (hj1 : j' ≤ j + 1) (hm : j' * x.bc + r' ≡ j * x.bc + r + 1) (jl : j' < x.bi) (rl : r' < x.bc)
        (hd : due_by τ x.bc j r + most_ccd τ ≤ due_by τ x.bc j' r') where
      pub step_data : Serving τ l A0 M0 x F ta j' r' s''
      step_data =
          record {
            base = rw n.next_cycle (base_up τ l (A0 + j') ta s.cycle (s.cycle + 1) s'' (omega arith) (rw hj base''));
            cnt = n.next_datas ∙ omega (arith, q.cnt);
            jIn = jl;
            rIn = rl;
            old = λ i k a. ((q.old i k a).0, omega (arith, (q.old i k a).1, n.next_cycle));
            own = λ i k k'. q.own i k (omega (arith, n.same_acts));
            begun = λ i k. begun' i k (from? i j);
            refresh_f = rw n.same_refresh q.refresh_f;
            refresh_now = rw (n.same_refresh, n.same_acts, n.next_cycle)
                (⊎_elim (λ y. inl y) (λ y. inr (upto_up τ.rfc s.cycle (s.cycle + 1) s.refresh (omega arith) y)) q.refresh_now);
            rd_due = rd_data τ s s.cycle (bank_at τ x j) (is_write x) z (most_from_rd τ (is_write x)) (by_data τ F x j r) (by_data τ F x j' r') (omega arith) q.rd_due
                (λ e. rw e (omega (arith, q.data_time)));
            wr_due = wr_data τ s s.cycle (bank_at τ x j) (is_write x) z (most_from_wr τ (is_write x)) (by_data τ F x j r) (by_data τ F x j' r') (omega arith) q.wr_due
                (λ e. rw e (omega (arith, q.data_time)));
            unop = λ i k k'. rw (miss τ l (A0 + j) ta s.cycle s q.base s.cycle (omega arith) in_room gone rule8 z s'' noted (bank_at τ x i)
                (λ p. omega (arith, bank_apart τ x sp.ok i j k q.jIn (p ∙ sp.bank_k j q.jIn), gone, n.same_acts))) (q.unop i k (omega (arith, n.same_acts)));
            act_time = λ k ek kl. time k (q.act_time k (omega (arith, n.same_acts)) kl) ek;
            data_time = omega (arith, q.data_time, n.next_cycle, ccd_two τ rng);
            arrived = q.arrived;
          }
        where
          n : DataNote τ s s'' s.cycle (act_bank τ l (A0 + j)) z
          n = noted

          begun' : (i : ℕ) → i < j' → (i < j) ⊎ ((d : ℕ) × (i ≡ j + d)) → ta (A0 + i) + τ.rcd ≤ s''.cycle
          begun' i k (inl y) = omega (arith, q.begun i y, n.next_cycle)
          begun' i k (inr y) = let e : i ≡ j = omega (arith, y.1) in rw e (omega (arith, rule8, n.next_cycle))

          -- right after a data command no data command of the kind goes
          blocked : Blocked τ (is_write x) s''
          blocked b = no_nine (is_open (bank_of s'' b)) (past (bank_of s'' b).act τ.rcd (s.cycle + 1)) (rule9 τ s'' (is_write x) (s.cycle + 1) b)
              (nine_blocked τ rng s (Went l ta) s.acts s.cycle q.base.recent s.cycle (bank_at τ x j) b (is_write x) z)
            where
              no_nine : (o p n : Bool) → n ≡ false → (o && (p && (n && true))) ≡ false
              no_nine true true n e = rw e
              no_nine true false n e = refl
              no_nine false p n e = refl

          time : (k : ℕ) → InTime τ F (is_write x) s k → s''.acts ≡ A0 + k → InTime τ F (is_write x) s'' k
          time k (inl y) ek = ⊎_elim (λ u. inl (omega (arith, n.next_cycle))) (λ u. inr (omega (arith, n.next_cycle, u.1), inr blocked))
              (from? (s.cycle + 1) (by_act τ F k))
          time k (inr y) ek = ⊎_elim (λ u. absurd (omega (arith, u, gone, n.same_acts))) (λ u. true_false (data_ok τ s (bank_at τ x j) (is_write x)) rules (u (bank_at τ x j))) y.1

    -- the transaction is done
    pub step_last : z ≡ true → j + 1 ≡ x.bi → r + 1 ≡ x.bc → Between τ l (A0 + x.bi) (M0 + x.bi * x.bc) s.cycle s.cycle ta s''
    step_last ez ej er =
        record {
          base = subst (λ (v : ℕ). Base τ l v ta s.cycle s'') (ap (λ (y : Bool). done_after y (A0 + j)) ez ∙ omega arith) base'';
          cnt = noted.next_datas ∙ (ap (λ (y : ℕ). y + 1) q.cnt ∙ sum);
          old = λ i k a. ⊎_elim (λ y. (q.old i y a).1) (λ y. own_case i k y) (from? i A0);
          cf = omega arith;
          lo = omega (arith, noted.next_cycle);
          hi = omega (arith, noted.next_cycle);
          refresh_f = refreshed;
          refresh_now = inr refreshed;
        }
      where
        refreshed : Upto τ.rfc s.cycle s''.refresh
        refreshed = rw noted.same_refresh (⊎_elim (λ y. absurd (omega (arith, y, gone))) (λ y. y) q.refresh_now)

        sum : M0 + (j * x.bc + r) + 1 ≡ M0 + x.bi * x.bc
        sum = omega (arith, ap (λ (y : ℕ). y * x.bc) ej)

        own_case : (i : ℕ) → i < A0 + x.bi → ((d : ℕ) × (i ≡ A0 + d)) → ta i + τ.rcd ≤ s.cycle
        own_case i k y = rw y.1 (⊎_elim (λ u. q.begun y.0 u) (λ u. let e : y.0 ≡ j = omega (arith, u.1, y.1) in rw e rule8) (from? y.0 j))
