-- When an ACT and the data command at the head may go: at the latest when they are due.
-- Assumes nothing.
use Rattle.std.specs.Prelude.{Some, None}
use Rattle.rules.specs.Types.{Stamp}
use Prim.Native.Nat.{ℕ, ◌+◌, ◌*◌, ◌≤◌, ◌<◌}
use native.Mathlib.Omega.{arith}
use native.Mathlib.Nat.{mul-le-mul_right}
use mathlib.Core.Path.{◌≡◌, ap, ◌∙◌}
use mathlib.Core.Logic.{◌≢◌, ◌⊎◌, inl, inr, ⊎_elim}
use mathlib.Core.Bool.{true, false, not}
use mathlib.Core.List.{List}
use borrow.Author.Tests.{lt-ltb, not-true}
use Rattle.records.specs.declared.table.Table.{Table}
use Rattle.records.specs.declared.transaction.Transaction.{Transaction}
use Rattle.rules.specs.declared.state.State.{State}
use Rattle.records.specs.Transaction.{is_write}
use Rattle.rules.specs.Square.{write_tail}
use Rattle.rules.specs.State.{is_open, bank_of, charged, at_rest, refresh_tests, rule6, rule9}
use Rattle.rules.specs.Queues.{bank_at}
use Rattle.rules.specs.Bound.{most_from_rd, most_from_wr, bound_s, bound_d}
use Rattle.rules.proofs.laws.TestLaws.{true_false, and_fst}
use Rattle.rules.proofs.laws.Ranges.{Ranges}
use Rattle.rules.proofs.laws.Numbers.{same?, from?}
use Rattle.rules.proofs.laws.Below.{below_each}
use Rattle.rules.proofs.queues.Fit.{bank_lt}
use Rattle.rules.proofs.queues.Heads.{test_at, act_ok, refresh_ok}
use Rattle.rules.proofs.bound.Recent.{Upto, upto_map, upto_past, Back, rd_map, wr_map, six_ready, nine_ready}
use Rattle.rules.proofs.bound.GoneActs.{Went}
use Rattle.rules.proofs.bound.Due.{S-ras, S-rc, S-rd, S-wr, S-rrd, S-faw, D-rrd, D-faw, due_act}
use Rattle.rules.proofs.bound.Phase.{Spot, Unopened, head_test, by_act, by_data, InTime, Serving}

module _ (τ : Table) (rng : Ranges τ) (l : List Transaction) (A0 M0 : ℕ) (x : Transaction) (sp : Spot τ l A0 M0 x) (F : ℕ) (ta : ℕ → ℕ) (j r : ℕ)
    (s : State) (q : Serving τ l A0 M0 x F ta j r s) where
  -- the ACT k may go once the predecessor is far enough back and its own ACTs are
  module _ (k : ℕ) (ek : s.acts ≡ A0 + k) (kl : k < x.bi) (h0 : F + bound_s τ ≤ s.cycle) (h1 : by_act τ F k ≤ s.cycle + 1) where
    near : (d : ℕ) (st : Stamp) (n : ℕ) → n + 1 ≤ 4 → d ≤ τ.rcd + bound_s τ → d ≤ (n + 1) * bound_d τ → Back (Went l ta) s.acts n st → Upto d s.cycle st
    near d None n h g g' b = tt
    near d (Some y) n h g g' b = ⊎_elim (λ z. omega (arith, b.2.0, (q.old b.0 z b.2.1).0)) (λ z. own_case z) (from? b.0 A0)
      where
        own_case : ((e : ℕ) × (b.0 ≡ A0 + e)) → y + d ≤ s.cycle
        own_case z =
            let a : ta (A0 + z.0) ≤ by_act τ F z.0 = q.own z.0 (omega (arith, z.1, b.1)) (omega (arith, z.1, b.1)) in
            let e : y ≡ ta (A0 + z.0) = b.2.0 ∙ ap ta z.1 in
            let kk : z.0 + (n + 1) ≤ k = omega (arith, z.1, b.1) in
            let m : (z.0 + (n + 1)) * (bound_d τ + 1) ≤ k * (bound_d τ + 1) = mul-le-mul_right (bound_d τ + 1) kk in
            omega arith

    six : rule6 τ s s.cycle (bank_at τ x k) ≡ true
    six = six_ready τ rng s (Went l ta) s.acts s.cycle s.cycle (bank_at τ x k) q.base.recent
        (λ d st m b. near d st 0 (omega arith) (omega (arith, S-rrd τ)) (omega (arith, D-rrd τ)) b)

    pub act_ready : act_ok τ s (bank_at τ x k) ≡ true
    act_ready =
        let u : Unopened τ F (bank_of s (bank_at τ x k)) = q.unop k kl (omega arith) in
        let t = s.cycle in
        let b = bank_of s (bank_at τ x k) in
        rw (
          u.uShut,
          upto_past (τ.ras + τ.rp) t b.act (upto_map τ.rcd F (τ.ras + τ.rp) t b.act (λ y h. omega (arith, S-ras τ)) u.uAct),
          upto_past (τ.rtp + τ.rp) t b.rd (upto_map 0 F (τ.rtp + τ.rp) t b.rd (λ y h. omega (arith, S-rd τ)) u.uRd),
          upto_past (write_tail τ + τ.rp) t b.wr (upto_map 0 F (write_tail τ + τ.rp) t b.wr (λ y h. omega (arith, S-wr τ)) u.uWr),
          upto_past τ.rc t b.act (upto_map τ.rcd F τ.rc t b.act (λ y h. omega (arith, S-rc τ)) u.uAct),
          six,
          upto_past τ.faw t s.a4 (near τ.faw s.a4 3 (omega arith) (S-faw τ) (omega (arith, D-faw τ)) q.base.recent.back4),
          upto_past τ.rfc t s.refresh (upto_map τ.rfc F τ.rfc t s.refresh (λ y h. omega arith) q.refresh_f),
        )

  -- the ACT of the data command at the head has gone once the command is due
  module _ (h : by_data τ F x j r ≤ s.cycle) where
    head_gone : A0 + j < s.acts
    head_gone = ⊎_elim (λ z. z) (λ z. absurd (not_yet (same? s.acts (A0 + j)) z)) (from? (A0 + j) s.acts)
      where
        late : InTime τ F (is_write x) s j → ⊥
        late (inl z) = omega (arith, due_act τ x.bc j r)
        late (inr z) = omega (arith, due_act τ x.bc j r, z.0, rng.rcd.least)

        not_yet : (s.acts ≡ A0 + j) ⊎ (s.acts ≢ A0 + j) → ((d : ℕ) × (A0 + j ≡ s.acts + d)) → ⊥
        not_yet (inl e) z = late (q.act_time j e q.jIn)
        not_yet (inr n) z = omega (arith, n, z.1, q.base.le)

    nine : rule9 τ s (is_write x) s.cycle (bank_at τ x j) ≡ true
    nine = nine_ready τ rng s (is_write x) s.cycle (bank_at τ x j)
        (rd_map (most_from_rd τ (is_write x)) (by_data τ F x j r) (most_from_rd τ (is_write x)) s.cycle s (λ y k. omega arith) q.rd_due)
        (wr_map (most_from_wr τ (is_write x)) (by_data τ F x j r) (most_from_wr τ (is_write x)) s.cycle s (λ y k. omega arith) q.wr_due)

    data_ready : head_test τ A0 x j s ≡ true
    data_ready =
        let t = s.cycle in
        let o : is_open (bank_of s (bank_at τ x j)) ≡ true = rw (sp.bank_k j q.jIn) at (q.base.opened (A0 + j) (omega arith) head_gone) in
        let a : (bank_of s (bank_at τ x j)).act ≡ Some (ta (A0 + j)) = rw (sp.bank_k j q.jIn) at (q.base.acted_at (A0 + j) (omega arith) head_gone) in
        let m : ta (A0 + j) + τ.rcd ≤ t = omega (arith, q.own j q.jIn head_gone, due_act τ x.bc j r) in
        rw (
          lt-ltb (A0 + j) s.acts head_gone,
          o,
          a,
          upto_past τ.rcd t (Some (ta (A0 + j))) m,
          nine,
        )

  -- no REF goes while the transaction has commands left: the ACT queue is at one of its ACTs, or the bank of its next data command is open
  pub no_refresh : refresh_ok τ s ≡ true → ((k : ℕ) → s.acts ≡ A0 + k → k < x.bi → ⊥) → ⊥
  no_refresh ok f = ⊎_elim not_shut (λ z. f j (omega (arith, z.1, q.base.le)) q.jIn) (from? (A0 + j) s.acts)
    where
      rests : (b : ℕ) → b < τ.banks → at_rest τ (bank_of s b) s.cycle ≡ true
      rests = below_each τ.banks (λ b. at_rest τ (bank_of s b) s.cycle) (test_at (refresh_tests τ s s.cycle) 7 ok)

      not_shut : A0 + j < s.acts → ⊥
      not_shut g =
          let b = bank_at τ x j in
          let o : is_open (bank_of s b) ≡ true = rw (sp.bank_k j q.jIn) at (q.base.opened (A0 + j) (omega arith) g) in
          let c : not (is_open (bank_of s b)) ≡ true = and_fst (not (is_open (bank_of s b))) (charged τ (bank_of s b) s.cycle) (rests b (bank_lt τ x sp.ok j q.jIn)) in
          true_false (is_open (bank_of s b)) o (not-true (is_open (bank_of s b)) c)

  -- the head does not go: its time is not up
  pub not_due : head_test τ A0 x j s ≡ false → s.cycle + 1 ≤ by_data τ F x j r
  not_due e = ⊎_elim (λ z. omega arith) (λ z. true_false (head_test τ A0 x j s) (data_ready (omega (arith, z.1))) e) (from? s.cycle (by_data τ F x j r))
