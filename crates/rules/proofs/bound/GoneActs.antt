-- What the state says of the commands of the ACT queue that have gone, by their numbers in it. `ta i` is the cycle of the i-th, v the number of
-- those that are done with, an ACT once its data commands have all gone, and c a cycle that no stamp is past.
-- Assumes nothing.
use Rattle.std.specs.Prelude.{Some}
use Prim.Native.Nat.{ℕ, zero, suc, ◌+◌, ◌≤◌, ◌<◌}
use native.Mathlib.Omega.{arith}
use mathlib.Core.Path.{◌≡◌, refl, sym, ap, ◌∙◌, subst}
use mathlib.Core.Logic.{◌≢◌, ◌⊎◌, inl, inr, ⊎_elim}
use mathlib.Core.Bool.{Bool, true, false, not}
use mathlib.Core.List.{List}
use lib.ListN.{length, get_or, set, length-set, replicate}
use lib.Seq.{get_or-set_same, get_or-set_other, set-get_or}
use Rattle.records.specs.declared.table.Table.{Table}
use Rattle.records.specs.declared.transaction.Transaction.{Transaction}
use Rattle.records.specs.declared.command.Kind.TheVariants.{Act, Ref}
use Rattle.rules.specs.declared.state.Bank.{Bank}
use Rattle.rules.specs.declared.state.State.{State}
use Rattle.rules.specs.State.{is_open, shut, bank_of, fresh, bank_after, note, idle}
use Rattle.rules.specs.Queues.{data_kind}
use Rattle.rules.proofs.laws.TestLaws.{true_false}
use Rattle.rules.proofs.laws.Ranges.{Ranges}
use Rattle.rules.proofs.laws.Numbers.{same?}
use Rattle.rules.proofs.queues.Queue.{act_bank, is_act_at}
use Rattle.rules.proofs.laws.DataKinds.{no_ref, not_in_acts, is_data_lem, open_after_lem, act_after}
use Rattle.rules.proofs.bound.Recent.{Upto, upto_up, ext, ext_same, ext_eq, ext_other, Recent, recent_up, recent_idle, recent_fresh, recent_act, recent_ref, recent_data}

-- number i went as an ACT at cycle x
abbrev pub Went : List Transaction → (ℕ → ℕ) → ℕ → ℕ → Type 0
Went l ta i x = (x ≡ ta i) × (is_act_at l i ≡ true)

went_on : (l : List Transaction) (ta : ℕ → ℕ) (a t i x : ℕ) → i < a → Went l ta i x → Went l (ext ta a t) i x
went_on l ta a t i x h k = (k.0 ∙ sym (ext_other ta a t i (λ e. omega arith)), k.1)

fresh_bank : (n b : ℕ) → get_or (replicate n shut) b shut ≡ shut
fresh_bank zero b = refl
fresh_bank (suc n) zero = refl
fresh_bank (suc n) (suc b) = fresh_bank n b

pub record Base (τ : Table) (l : List Transaction) (v : ℕ) (ta : ℕ → ℕ) (c : ℕ) (s : State) : Type 0 where
  pub size : τ.banks ≤ length s.banks
  pub le : v ≤ s.acts
  pub now : (i : ℕ) → i < s.acts → ta i ≤ c
  pub recent : Recent τ (Went l ta) s.acts c s
  -- those from number v on are ACTs that have data commands due: their banks are open, and differ
  pub all_acts : (i : ℕ) → v ≤ i → i < s.acts → is_act_at l i ≡ true
  pub opened : (i : ℕ) → v ≤ i → i < s.acts → is_open (bank_of s (act_bank τ l i)) ≡ true
  pub acted_at : (i : ℕ) → v ≤ i → i < s.acts → (bank_of s (act_bank τ l i)).act ≡ Some (ta i)
  pub apart : (i i' : ℕ) → v ≤ i → i < i' → i' < s.acts → act_bank τ l i ≢ act_bank τ l i'
  -- every other bank is closed, and its ACT is RCD back at least
  pub cold : (b : ℕ) → b < τ.banks
      → ((is_open (bank_of s b) ≡ false) × Upto τ.rcd c (bank_of s b).act) ⊎ ((i : ℕ) × (v ≤ i) × (i < s.acts) × (act_bank τ l i ≡ b))
  pub rd_bank : (b : ℕ) → b < τ.banks → Upto 0 c (bank_of s b).rd
  pub wr_bank : (b : ℕ) → b < τ.banks → Upto 0 c (bank_of s b).wr

module _ (τ : Table) (l : List Transaction) where
  pub base_up : (v : ℕ) (ta : ℕ → ℕ) (c c' : ℕ) (s : State) → c ≤ c' → Base τ l v ta c s → Base τ l v ta c' s
  base_up v ta c c' s h q =
      record {
        size = q.size;
        le = q.le;
        now = λ i k. omega (arith, q.now i k);
        recent = recent_up τ (Went l ta) s.acts c c' s h q.recent;
        all_acts = q.all_acts;
        opened = q.opened;
        acted_at = q.acted_at;
        apart = q.apart;
        cold = λ b k. ⊎_elim
            (λ z. inl (z.0, upto_up τ.rcd c c' (bank_of s b).act h z.1))
            (λ z. inr z) (q.cold b k);
        rd_bank = λ b k. upto_up 0 c c' (bank_of s b).rd h (q.rd_bank b k);
        wr_bank = λ b k. upto_up 0 c c' (bank_of s b).wr h (q.wr_bank b k);
      }

  pub base_idle : (v : ℕ) (ta : ℕ → ℕ) (c : ℕ) (s : State) → Base τ l v ta c s → Base τ l v ta c (idle s)
  base_idle v ta c s q =
      record {
        size = q.size;
        le = q.le;
        now = q.now;
        recent = recent_idle τ (Went l ta) s.acts c s q.recent;
        all_acts = q.all_acts;
        opened = q.opened;
        acted_at = q.acted_at;
        apart = q.apart;
        cold = q.cold;
        rd_bank = q.rd_bank;
        wr_bank = q.wr_bank;
      }

  pub base_fresh : Ranges τ → Base τ l 0 (λ i. 0) 0 (fresh τ)
  base_fresh rng =
      record {
        size = rng.banks.most;
        le = omega arith;
        now = λ i k. omega arith;
        recent = recent_fresh τ (Went l (λ i. 0));
        all_acts = λ i k k'. absurd (omega arith);
        opened = λ i k k'. absurd (omega arith);
        acted_at = λ i k k'. absurd (omega arith);
        apart = λ i i' k k' k'' e. omega arith;
        cold = λ b k. inl (rw (fresh_bank 16 b) refl, rw (fresh_bank 16 b) tt);
        rd_bank = λ b k. rw (fresh_bank 16 b) tt;
        wr_bank = λ b k. rw (fresh_bank 16 b) tt;
      }

-- an ACT goes
module _ (τ : Table) (l : List Transaction) (v : ℕ) (ta : ℕ → ℕ) (c : ℕ) (s : State) (q : Base τ l v ta c s) (t : ℕ) (ct : c ≤ t)
    (lt : act_bank τ l s.acts < τ.banks) (closed : is_open (bank_of s (act_bank τ l s.acts)) ≡ false) (act : is_act_at l s.acts ≡ true) where
  abbrev new_b : Bank
  new_b = bank_after Act t (bank_of s (act_bank τ l s.acts))

  apart_new : (i : ℕ) → v ≤ i → i < s.acts → act_bank τ l i ≢ act_bank τ l s.acts
  apart_new i k k' e = true_false (is_open (bank_of s (act_bank τ l i))) (q.opened i k k') (rw e closed)

  at_new : get_or (set s.banks (act_bank τ l s.acts) new_b) (act_bank τ l s.acts) shut ≡ new_b
  at_new = get_or-set_same s.banks (act_bank τ l s.acts) new_b shut (omega (arith, q.size))

  at_eq : (b : ℕ) → b ≡ act_bank τ l s.acts → get_or (set s.banks (act_bank τ l s.acts) new_b) b shut ≡ new_b
  at_eq b e = rw e at_new

  pub at_old : (b : ℕ) → b ≢ act_bank τ l s.acts → get_or (set s.banks (act_bank τ l s.acts) new_b) b shut ≡ bank_of s b
  at_old b h = get_or-set_other s.banks (act_bank τ l s.acts) b new_b shut h

  pub base_act : Base τ l v (ext ta s.acts t) t (note τ s t Act (act_bank τ l s.acts))
  base_act =
      record {
        size = rw length-set q.size;
        le = omega (arith, q.le);
        now = λ i k. ⊎_elim (λ e. rw (ext_eq ta s.acts t i e) (omega arith))
            (λ h. rw (ext_other ta s.acts t i h) (omega (arith, q.now i (omega (arith, h))))) (same? i s.acts);
        recent = recent_act τ (Went l ta) s.acts c s q.recent t ct (Went l (ext ta s.acts t)) (went_on l ta s.acts t) (act_bank τ l s.acts)
            (sym (ext_same ta s.acts t), act);
        all_acts = λ i k k'. ⊎_elim (λ e. rw e act) (λ h. q.all_acts i k (omega (arith, h))) (same? i s.acts);
        opened = λ i k k'. ⊎_elim (λ e. rw (at_eq (act_bank τ l i) (ap (act_bank τ l) e)) refl)
            (λ h. let k'' : i < s.acts = omega (arith, h) in rw (at_old (act_bank τ l i) (apart_new i k k'')) (q.opened i k k'')) (same? i s.acts);
        acted_at = λ i k k'. ⊎_elim (λ e. rw (at_eq (act_bank τ l i) (ap (act_bank τ l) e), ext_eq ta s.acts t i e) refl)
            (λ h. let k'' : i < s.acts = omega (arith, h) in
            rw (at_old (act_bank τ l i) (apart_new i k k''), ext_other ta s.acts t i h) (q.acted_at i k k'')) (same? i s.acts);
        apart = λ i i' k k' k''. ⊎_elim (λ e. rw e (apart_new i k (omega arith)))
            (λ h. q.apart i i' k k' (omega (arith, h))) (same? i' s.acts);
        cold = λ b k. ⊎_elim (λ e. inr (s.acts, q.le, omega arith, sym e))
            (λ h. rw (at_old b h)
            (⊎_elim (λ z. inl (z.0, upto_up τ.rcd c t (bank_of s b).act ct z.1))
            (λ z. inr (z.0, z.1, omega (arith, z.2), z.3)) (q.cold b k))) (same? b (act_bank τ l s.acts));
        rd_bank = λ b k. ⊎_elim (λ e. rw (at_eq b e) tt)
            (λ h. rw (at_old b h) (upto_up 0 c t (bank_of s b).rd ct (q.rd_bank b k))) (same? b (act_bank τ l s.acts));
        wr_bank = λ b k. ⊎_elim (λ e. rw (at_eq b e) tt)
            (λ h. rw (at_old b h) (upto_up 0 c t (bank_of s b).wr ct (q.wr_bank b k))) (same? b (act_bank τ l s.acts));
      }

-- a REF goes, with every command before it done with
module _ (τ : Table) (l : List Transaction) (v : ℕ) (ta : ℕ → ℕ) (c : ℕ) (s : State) (q : Base τ l v ta c s) (t : ℕ) (ct : c ≤ t) (all : s.acts ≡ v) where
  same_bank : (b : ℕ) → get_or (set s.banks 0 (bank_of s 0)) b shut ≡ bank_of s b
  same_bank b = rw (set-get_or s.banks 0 shut)

  pub base_ref : Base τ l (v + 1) (ext ta s.acts t) t (note τ s t Ref 0)
  base_ref =
      record {
        size = rw length-set q.size;
        le = omega (arith, all);
        now = λ i k. ⊎_elim (λ e. rw (ext_eq ta s.acts t i e) (omega arith))
            (λ h. rw (ext_other ta s.acts t i h) (omega (arith, q.now i (omega (arith, h))))) (same? i s.acts);
        recent = recent_ref τ (Went l ta) s.acts c s q.recent t ct (Went l (ext ta s.acts t)) (went_on l ta s.acts t) 0;
        all_acts = λ i k k'. absurd (omega (arith, all));
        opened = λ i k k'. absurd (omega (arith, all));
        acted_at = λ i k k'. absurd (omega (arith, all));
        apart = λ i i' k k' k'' e. omega (arith, all);
        cold = λ b k. rw (same_bank b) (⊎_elim
            (λ z. inl (z.0, upto_up τ.rcd c t (bank_of s b).act ct z.1))
            (λ z. absurd (omega (arith, all, z.1, z.2))) (q.cold b k));
        rd_bank = λ b k. rw (same_bank b) (upto_up 0 c t (bank_of s b).rd ct (q.rd_bank b k));
        wr_bank = λ b k. rw (same_bank b) (upto_up 0 c t (bank_of s b).wr ct (q.wr_bank b k));
      }

rd_after : (w z : Bool) (t : ℕ) (k : Bank) (d c : ℕ) → Upto d c k.rd → t + d ≤ c → Upto d c (bank_after (data_kind w z) t k).rd
rd_after true true t k d c q h = q
rd_after true false t k d c q h = q
rd_after false true t k d c q h = h
rd_after false false t k d c q h = h

wr_after : (w z : Bool) (t : ℕ) (k : Bank) (d c : ℕ) → Upto d c k.wr → t + d ≤ c → Upto d c (bank_after (data_kind w z) t k).wr
wr_after true true t k d c q h = h
wr_after true false t k d c q h = h
wr_after false true t k d c q h = q
wr_after false false t k d c q h = q

-- what a data command to bank b at cycle t does to the state
pub record DataNote (τ : Table) (s s' : State) (t b : ℕ) (z : Bool) : Type 1 where
  pub next_cycle : s'.cycle ≡ t + 1
  pub same_acts : s'.acts ≡ s.acts
  pub next_datas : s'.datas ≡ s.datas + 1
  pub same_refresh : s'.refresh ≡ s.refresh
  pub now_recent : (A : ℕ → ℕ → Type 0) (a c : ℕ) → Recent τ A a c s → c ≤ t → Recent τ A a t s'
  pub now_bank : Bank
  pub now_banks : s'.banks ≡ set s.banks b now_bank
  pub now_open : is_open now_bank ≡ not z
  pub now_act : now_bank.act ≡ (bank_of s b).act
  pub now_rd : (d c : ℕ) → Upto d c (bank_of s b).rd → t + d ≤ c → Upto d c now_bank.rd
  pub now_wr : (d c : ℕ) → Upto d c (bank_of s b).wr → t + d ≤ c → Upto d c now_bank.wr

pub data_note : (τ : Table) (s : State) (t b : ℕ) (w z : Bool) → DataNote τ s (note τ s t (data_kind w z) b) t b z
data_note τ s t b w z =
    record {
      next_cycle = refl;
      same_acts = rw (not_in_acts w z);
      next_datas = rw (is_data_lem w z);
      same_refresh = rw (no_ref w z);
      now_recent = λ A a c q h. recent_data τ A a c s q t h b w z;
      now_bank = bank_after (data_kind w z) t (bank_of s b);
      now_banks = refl;
      now_open = open_after_lem w z t (bank_of s b);
      now_act = act_after w z t (bank_of s b);
      now_rd = rd_after w z t (bank_of s b);
      now_wr = wr_after w z t (bank_of s b);
    }

-- the number of ACTs served after it
abbrev pub done_after : Bool → ℕ → ℕ
done_after true v = v + 1
done_after false v = v

done_ge : (z : Bool) (v : ℕ) → v ≤ done_after z v
done_ge true v = omega arith
done_ge false v = omega arith

done_le : (z : Bool) (v : ℕ) → done_after z v ≤ v + 1
done_le true v = omega arith
done_le false v = omega arith

-- a data command goes
module _ (τ : Table) (l : List Transaction) (v : ℕ) (ta : ℕ → ℕ) (c : ℕ) (s : State) (q : Base τ l v ta c s) (t : ℕ) (ct : c ≤ t)
    (lt : act_bank τ l v < τ.banks) (gone : v < s.acts) (r8 : ta v + τ.rcd ≤ t)
    (z : Bool) (s' : State) (n : DataNote τ s s' t (act_bank τ l v) z) where
  pub hit : (b : ℕ) → b ≡ act_bank τ l v → bank_of s' b ≡ n.now_bank
  hit b e = rw (n.now_banks, e) (get_or-set_same s.banks (act_bank τ l v) n.now_bank shut (omega (arith, q.size)))

  pub miss : (b : ℕ) → b ≢ act_bank τ l v → bank_of s' b ≡ bank_of s b
  miss b h = rw n.now_banks (get_or-set_other s.banks (act_bank τ l v) b n.now_bank shut h)

  act_v : n.now_bank.act ≡ Some (ta v)
  act_v = n.now_act ∙ q.acted_at v (omega arith) gone

  other : (i : ℕ) → v ≤ i → i < s.acts → i ≢ v → act_bank τ l i ≢ act_bank τ l v
  other i k k' h e = q.apart v i (omega arith) (omega (arith, h)) k' (sym e)

  pub base_data : Base τ l (done_after z v) ta t s'
  base_data =
      record {
        size = rw (n.now_banks, length-set) q.size;
        le = omega (arith, done_le z v, n.same_acts);
        now = λ i k. omega (arith, q.now i (omega (arith, n.same_acts)));
        recent = subst (λ (y : ℕ). Recent τ (Went l ta) y t s') (sym n.same_acts) (n.now_recent (Went l ta) s.acts c q.recent ct);
        all_acts = λ i k k'. q.all_acts i (omega (arith, done_ge z v)) (omega (arith, n.same_acts));
        opened = λ i k k'. ⊎_elim (λ e. rw (hit (act_bank τ l i) (ap (act_bank τ l) e)) (n.now_open ∙ still z i k e))
            (λ h. let g : i < s.acts = omega (arith, n.same_acts) in let g' : v ≤ i = omega (arith, done_ge z v) in
            rw (miss (act_bank τ l i) (other i g' g h)) (q.opened i g' g)) (same? i v);
        acted_at = λ i k k'. ⊎_elim (λ e. rw (hit (act_bank τ l i) (ap (act_bank τ l) e), e) act_v)
            (λ h. let g : i < s.acts = omega (arith, n.same_acts) in let g' : v ≤ i = omega (arith, done_ge z v) in
            rw (miss (act_bank τ l i) (other i g' g h)) (q.acted_at i g' g)) (same? i v);
        apart = λ i i' k k' k''. q.apart i i' (omega (arith, done_ge z v)) k' (omega (arith, n.same_acts));
        cold = λ b k. ⊎_elim (λ e. shut_now z refl b e)
            (λ h. rw (miss b h)
            (⊎_elim (λ y. inl (y.0, upto_up τ.rcd c t (bank_of s b).act ct y.1))
            (λ y. inr (y.0, above y.0 y.1 (λ e. h (sym y.3 ∙ ap (act_bank τ l) e)), omega (arith, y.2, n.same_acts), y.3)) (q.cold b k)))
            (same? b (act_bank τ l v));
        rd_bank = λ b k. ⊎_elim (λ e. rw (hit b e) (n.now_rd 0 t (upto_up 0 c t (bank_of s (act_bank τ l v)).rd ct (q.rd_bank (act_bank τ l v) lt)) (omega arith)))
            (λ h. rw (miss b h) (upto_up 0 c t (bank_of s b).rd ct (q.rd_bank b k))) (same? b (act_bank τ l v));
        wr_bank = λ b k. ⊎_elim (λ e. rw (hit b e) (n.now_wr 0 t (upto_up 0 c t (bank_of s (act_bank τ l v)).wr ct (q.wr_bank (act_bank τ l v) lt)) (omega arith)))
            (λ h. rw (miss b h) (upto_up 0 c t (bank_of s b).wr ct (q.wr_bank b k))) (same? b (act_bank τ l v));
      }
    where
      still : (z' : Bool) (i : ℕ) → done_after z' v ≤ i → i ≡ v → not z' ≡ true
      still true i k e = absurd (omega arith)
      still false i k e = refl

      above : (i : ℕ) → v ≤ i → (i ≡ v → ⊥) → done_after z v ≤ i
      above i k h = omega (arith, done_le z v, h)

      shut_now : (z' : Bool) → z' ≡ z → (b : ℕ) → b ≡ act_bank τ l v
          → ((is_open (bank_of s' b) ≡ false) × Upto τ.rcd t (bank_of s' b).act) ⊎ ((i : ℕ) × (done_after z v ≤ i) × (i < s'.acts) × (act_bank τ l i ≡ b))
      shut_now true p b e = inl (rw (hit b e) (n.now_open ∙ ap not (sym p)), rw (hit b e, act_v) r8)
      shut_now false p b e = inr (v, subst (λ (y : Bool). done_after y v ≤ v) p (omega arith), omega (arith, n.same_acts), sym e)
