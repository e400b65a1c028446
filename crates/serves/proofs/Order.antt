-- The data queue's order is that of the keys of records.
-- Assumes nothing.
use Prim.Native.Nat.{ℕ, zero, suc, ◌+◌, ◌*◌, ◌/◌, ◌≤◌, ◌<◌}
use native.Mathlib.Omega.{arith}
use mathlib.Core.Path.{◌≡◌, refl, sym, ap, ◌∙◌, subst}
use mathlib.Core.Logic.{◌⊎◌, inl, inr, ⊎_elim}
use mathlib.Core.Bool.{Bool, true, false, not, ◌&&◌, ◌||◌}
use mathlib.Core.Option.{some, map-eq-some_iff}
use mathlib.Core.List.{List}
use lib.Dec.{ltb, eqb}
use lib.ListN.{length, get_elem?}
use borrow.Author.Tests.{ltb-true, eqb-false, lt-ltb, ne_eqb, not-true}
use Rattle.records.specs.declared.table.Table.{Table}
use Rattle.records.specs.declared.transaction.Transaction.{Transaction}
use Rattle.records.specs.declared.command.Kind.{Kind}
use Rattle.records.specs.declared.command.Command.{Command}
use Rattle.records.specs.Tests.{pick}
use Rattle.records.specs.Transaction.{is_write}
use Rattle.rules.specs.Kinds.{is_data}
use Rattle.rules.specs.Queues.{Due, data_kind, act_queue, data_queue}
use Rattle.rules.proofs.laws.TestLaws.{true_false, and_fst, and_snd}
use Rattle.rules.proofs.laws.Numbers.{from?}
use Rattle.rules.proofs.queues.Queue.{Place, act_place, act_due, act_head}
use Rattle.rules.proofs.queues.Fit.{AllFit, bank_lt}
use Rattle.rules.proofs.laws.DataKinds.{is_data_lem, act_no_data}
use Rattle.serves.specs.Serves.{kind_code, is_the, dues_of, due_under, Placed, PlacesLater}
use Rattle.serves.specs.Check.{index_of, key_of, due_of, key_in, placed}
use Rattle.serves.proofs.Tests.{same_some}
use Rattle.serves.proofs.Alike.{Alike, alike_of, of_alike, Found, dues_found, found_dues}
use Rattle.serves.proofs.DueCount.{bank_index, due_count_lem}
use Rattle.serves.proofs.Entries.{fit_at, below_length, last_one, key_at, Entry, entry, entry_key, entries}

-- the last to its bank, by the number of its kind
closing : (w z : Bool) → (eqb (kind_code (data_kind w z)) 2 || eqb (kind_code (data_kind w z)) 4) ≡ z
closing true true = refl
closing true false = refl
closing false true = refl
closing false false = refl

module _ (τ : Table) (l : List Transaction) (v : AllFit τ l) (at : ℕ → Transaction) (at_is : (y : ℕ) → y < length l → get_elem? l y ≡ some (at y)) where
  module _ (r : Command) (m : ℕ) (d : Due) (e : Entry τ l v m d) (ek : r.kind ≡ d.kind) (eb : r.bank ≡ d.bank) (en : r.number ≡ d.number) where
    own_x : at r.number ≡ e.x
    own_x =
        let z : r.number ≡ e.y = en ∙ e.number in
        same_some (get_elem? l e.y) (at r.number) e.x
        (subst (λ (y : ℕ). get_elem? l y ≡ some (at r.number)) z (at_is r.number (omega (arith, z, below_length l e.y e.x e.listed)))) e.listed

    own_bank : r.bank < τ.banks
    own_bank = omega (arith, eb, e.bank, bank_lt τ e.x e.fit (e.o / e.x.bc) e.index)

    own_index : index_of τ.banks e.x.start r.bank ≡ e.o / e.x.bc
    own_index = sym (bank_index τ e.x e.fit r.bank own_bank (e.o / e.x.bc) e.index (sym (eb ∙ e.bank)))

    own_last : (eqb (kind_code r.kind) 2 || eqb (kind_code r.kind) 4) ≡ last_one e.x.bc e.o
    own_last = ap (λ (k : Kind). eqb (kind_code k) 2 || eqb (kind_code k) 4) (ek ∙ e.kind) ∙ closing (is_write e.x) (last_one e.x.bc e.o)

    pub key_entry : key_in τ.banks (length l) at r ≡ entry_key τ l v m d e
    key_entry =
        ap (λ (x : Transaction). key_of τ.banks x.start r.number (kind_code r.kind) r.bank) own_x
        ∙ (ap (λ (z : Bool). r.number * 32 + index_of τ.banks e.x.start r.bank * 2 + pick z 1 0) own_last
        ∙ (ap (λ (j : ℕ). r.number * 32 + j * 2 + pick (last_one e.x.bc e.o) 1 0) own_index
        ∙ ap (λ (y : ℕ). key_at y (e.o / e.x.bc) (last_one e.x.bc e.o)) (en ∙ e.number)))

    pub entry_inside : r.number < length l
    entry_inside = omega (arith, en ∙ e.number, below_length l e.y e.x e.listed)

  -- ---- due records

  pub due_of_lem : (r : Command) → r.number < length l → r.bank < τ.banks → due_under τ l r.number r.kind r.bank ≡ due_of τ.banks (length l) at r
  due_of_lem r h hb =
      due_count_lem τ l r.number (at r.number) (fit_at τ l v r.number (at r.number) (at_is r.number h)) (at_is r.number h) r.kind r.bank hb

  pub data_counted : (k : Kind) (b y : ℕ) → is_data k ≡ true → 1 ≤ due_under τ l y k b → 1 ≤ dues_of k b y (data_queue τ l)
  unfolding due_under
  data_counted k b y ed h =
      ⊎_elim (λ z. omega (arith, z, h)) (λ z. no_act (dues_found k b y (act_queue τ l) (omega (arith, z.1)))) (from? (dues_of k b y (act_queue τ l)) 1)
    where
      no_act : Found k b y (act_queue τ l) → 1 ≤ dues_of k b y (data_queue τ l)
      no_act f = on ((map-eq-some_iff (act_due τ) (act_place l f.place)).0 (sym (act_head τ l f.place) ∙ f.there))
        where
          on : ((p : Place) × (act_place l f.place ≡ some p) × (act_due τ p ≡ f.due)) → 1 ≤ dues_of k b y (data_queue τ l)
          on (p, q, r) =
              true_false (is_data k) ed
              (ap is_data (sym f.alike.kind ∙ ap (λ (z : Due). z.kind) (sym r)) ∙ act_no_data p.transaction)

  -- a record has its place exactly when it is placed
  pub placed_of : (r : Command) → Placed (data_queue τ l) r → placed τ.banks (length l) at r ≡ true
  unfolding due_under
  placed_of r p =
      let e = entry τ l v p.place p.due p.there in
      let hn = entry_inside r p.place p.due e p.kind p.bank p.number in
      let hb = own_bank r p.place p.due e p.kind p.bank p.number in
      let c = found_dues r.kind r.bank r.number (data_queue τ l) p.place p.due p.there (sym p.kind) (sym p.bank) (sym p.number) in
      let dt : is_data r.kind ≡ true = ap is_data (p.kind ∙ e.kind) ∙ is_data_lem (is_write e.x) (last_one e.x.bc e.o) in
      rw (lt-ltb r.number (length l) hn, dt, ne_eqb (due_of τ.banks (length l) at r) 0 (λ z. omega (arith, z, due_of_lem r hn hb, c)))

  pub of_placed : (r : Command) → r.bank < τ.banks → placed τ.banks (length l) at r ≡ true → Placed (data_queue τ l) r
  of_placed r hb e =
      let hn = ltb-true r.number (length l) (and_fst (ltb r.number (length l)) (is_data r.kind && not (eqb (due_of τ.banks (length l) at r) 0)) e) in
      let rest = and_snd (ltb r.number (length l)) (is_data r.kind && not (eqb (due_of τ.banks (length l) at r) 0)) e in
      let dt = and_fst (is_data r.kind) (not (eqb (due_of τ.banks (length l) at r) 0)) rest in
      let nz = eqb-false (due_of τ.banks (length l) at r) 0
      (not-true (eqb (due_of τ.banks (length l) at r) 0) (and_snd (is_data r.kind) (not (eqb (due_of τ.banks (length l) at r) 0)) rest)) in
      let f = dues_found r.kind r.bank r.number (data_queue τ l)
      (data_counted r.kind r.bank r.number dt (some_due (from? (due_under τ l r.number r.kind r.bank) 1) (λ z. nz (sym (due_of_lem r hn hb) ∙ z)))) in
      record { place = f.place; due = f.due; there = f.there; kind = sym f.alike.kind; bank = sym f.alike.bank; number = sym f.alike.number }
    where
      some_due : {m : ℕ} → (m < 1) ⊎ ((d : ℕ) × (m ≡ 1 + d)) → (m ≡ 0 → ⊥) → 1 ≤ m
      some_due (inl z) f = absurd (f (omega (arith, z)))
      some_due (inr z) f = omega (arith, z.1)

  -- the queue places w later exactly when its key is greater
  pub later_key : (r w : Command) → PlacesLater (data_queue τ l) r w → key_in τ.banks (length l) at r < key_in τ.banks (length l) at w
  later_key r w p =
      let a = p.first in
      let b = p.second in
      let ea = entry τ l v a.place a.due a.there in
      let eb = entry τ l v b.place b.due b.there in
      ⊎_elim
      (λ z. omega (arith, z, key_entry r a.place a.due ea a.kind a.bank a.number, key_entry w b.place b.due eb b.kind b.bank b.number))
      (λ k. true_false (is_the r.kind r.bank r.number w.kind w.bank w.number)
      (of_alike r.kind r.bank r.number w.kind w.bank w.number (a.kind ∙ (k.kind ∙ sym b.kind)) (a.bank ∙ (k.bank ∙ sym b.bank))
      (a.number ∙ (k.number ∙ sym b.number))) p.unlike)
      (entries τ l v a.place b.place a.due b.due ea eb p.later)

  pub alike_key : (r w : Command) → Alike r.kind r.bank r.number w.kind w.bank w.number
      → key_in τ.banks (length l) at r ≡ key_in τ.banks (length l) at w
  alike_key r w k =
      ap (λ (y : ℕ). key_of τ.banks (at y).start y (kind_code r.kind) r.bank) k.number
      ∙ (ap (λ (c : Kind). key_of τ.banks (at w.number).start w.number (kind_code c) r.bank) k.kind
      ∙ ap (λ (b : ℕ). key_of τ.banks (at w.number).start w.number (kind_code w.kind) b) k.bank)

  pub key_later : (r w : Command) → Placed (data_queue τ l) r → Placed (data_queue τ l) w → key_in τ.banks (length l) at r < key_in τ.banks (length l) at w
      → PlacesLater (data_queue τ l) r w
  key_later r w a b h =
      record {
        first =
            a;
        second = b;
        later = on (from? a.place b.place);
        unlike = by (is_the r.kind r.bank r.number w.kind w.bank w.number) refl;
      }
    where
      by : (z : Bool) → is_the r.kind r.bank r.number w.kind w.bank w.number ≡ z → z ≡ false
      by true e = absurd (omega (arith, h, alike_key r w (alike_of r.kind r.bank r.number w.kind w.bank w.number e)))
      by false e = refl

      same_due : a.place ≡ b.place → a.due ≡ b.due
      same_due e =
          same_some (get_elem? (data_queue τ l) b.place) a.due b.due (subst (λ (i : ℕ). get_elem? (data_queue τ l) i ≡ some a.due) e a.there) b.there

      on : (a.place < b.place) ⊎ ((d : ℕ) × (a.place ≡ b.place + d)) → a.place < b.place
      on (inl z) = z
      on (inr (zero, z)) =
          let e = same_due (omega (arith, z)) in
          absurd (omega (
            arith,
            h,
            alike_key r w (record {
              kind = a.kind ∙ (ap (λ (u : Due). u.kind) e ∙ sym b.kind);
              bank = a.bank
                  ∙ (ap (λ (u : Due). u.bank) e ∙ sym b.bank);
              number = a.number ∙ (ap (λ (u : Due). u.number) e ∙ sym b.number);
            }),
          ))
      on (inr (suc m, z)) =
          let ea = entry τ l v a.place a.due a.there in
          let eb = entry τ l v b.place b.due b.there in
          ⊎_elim
          (λ k. absurd (omega (
            arith,
            h,
            k,
            key_entry r a.place a.due ea a.kind a.bank a.number,
            key_entry w b.place b.due eb b.kind
                b.bank b.number,
          )))
          (λ k. absurd (omega (
            arith,
            h,
            alike_key w r
                (record { kind = b.kind ∙ (k.kind ∙ sym a.kind); bank = b.bank ∙ (k.bank ∙ sym a.bank); number = b.number ∙ (k.number ∙ sym a.number) }),
          )))
          (entries τ l v b.place a.place b.due a.due eb ea (omega (arith, z)))
