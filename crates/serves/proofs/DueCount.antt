-- How many commands of a kind, to a bank, are due under a number: the count in the queues, in closed form.
-- Assumes nothing.
use Prim.Native.Nat.{ℕ, zero, suc, ◌+◌, ◌-◌, ◌≤◌, ◌<◌}
use native.Mathlib.Omega.{arith}
use mathlib.Core.Path.{◌≡◌, refl, sym, ap, ◌∙◌, subst}
use mathlib.Core.Logic.{◌≢◌, ◌⊎◌, inl, inr, ⊎_elim}
use mathlib.Core.Bool.{Bool, true, false, ◌&&◌}
use mathlib.Core.Option.{some}
use mathlib.Core.List.{List}
use lib.Dec.{leb, ltb, eqb}
use lib.ListN.{get_elem?}
use borrow.Author.Tests.{ltb-true, ltb-false, leb-true, leb-false, eq-eqb, ne_eqb}
use Rattle.records.specs.declared.table.Table.{Table}
use Rattle.records.specs.declared.transaction.Transaction.{Transaction}
use Rattle.records.specs.declared.command.Kind.{Kind}
use Rattle.records.specs.Tests.{pick}
use Rattle.records.specs.Transaction.{is_write}
use Rattle.rules.specs.State.{add_if}
use Rattle.rules.specs.Queues.{Due, bank_at, data_kind, act_count, act_kind, act_bank_at, acts_of, bursts_of, datas_of, queue_from, act_queue, data_queue}
use Rattle.rules.proofs.laws.Numbers.{same?, from?, round}
use Rattle.rules.proofs.queues.Fit.{Fit, Refreshing, Fits, plain_count, bank_lt}
use Rattle.serves.specs.Serves.{kind_code, dues_of, due_under}
use Rattle.serves.specs.Check.{index_of, due_count}
use Rattle.serves.proofs.Tests.{and_false}
use Rattle.serves.proofs.Totals.{total, total_none, total_one, one, numbered_dues, joined_dues, one_bank, one_number, one_at, queue_own}
use Rattle.serves.proofs.PerBank.{per_data, bursts_are, per_bank_lem}

-- ---- the bank that comes at an index

module _ (τ : Table) (x : Transaction) (ok : Fit τ x) (b : ℕ) (hb : b < τ.banks) where
  pub bank_index : (m : ℕ) → m < x.bi → bank_at τ x m ≡ b → m ≡ index_of τ.banks x.start b
  bank_index m h e = on (leb x.start b) refl (round τ.banks (x.start + m) (omega (arith, ok.first, ok.room)))
    where
      on : (z : Bool) → leb x.start b ≡ z → ((x.start + m < τ.banks) × (bank_at τ x m ≡ x.start + m)) ⊎ (bank_at τ x m + τ.banks ≡ x.start + m)
          → m ≡ pick z (b - x.start) (b + τ.banks - x.start)
      on true q (inl y) = omega (arith, y.1, e)
      on true q (inr y) = absurd (omega (arith, y, e, leb-true x.start b q, ok.room))
      on false q (inl y) = absurd (omega (arith, y.1, e, leb-false x.start b q))
      on false q (inr y) = omega (arith, y, e, leb-false x.start b q, ok.first)

  pub index_bank : index_of τ.banks x.start b < x.bi → bank_at τ x (index_of τ.banks x.start b) ≡ b
  index_bank h = on (leb x.start b) refl h
    where
      on : (z : Bool) → leb x.start b ≡ z → pick z (b - x.start) (b + τ.banks - x.start) < x.bi
          → bank_at τ x (pick z (b - x.start) (b + τ.banks - x.start)) ≡ b
      on true q h = ⊎_elim (λ y. omega (arith, y.1, leb-true x.start b q)) (λ y. absurd (omega (arith, y, leb-true x.start b q, hb)))
          (round τ.banks (x.start + (b - x.start)) (omega (arith, ok.first, leb-true x.start b q)))
      on false q h = ⊎_elim (λ y. absurd (omega (arith, y.0, leb-false x.start b q, ok.first))) (λ y. omega (arith, y, leb-false x.start b q, ok.first))
          (round τ.banks (x.start + (b + τ.banks - x.start)) (omega (arith, ok.first, leb-false x.start b q, hb)))

-- ---- one transaction's commands

module _ (τ : Table) (k : Kind) (b : ℕ) where
  abbrev act_due_lem : Transaction → ℕ → ℕ → ℕ → Due
  act_due_lem x i a m = record { kind = act_kind x; bank = act_bank_at τ x m; number = i; act = a + m; arrival = x.arrival }

  abbrev data_due_lem : Transaction → ℕ → ℕ → ℕ → ℕ → Due
  data_due_lem x i a j m = record { kind = data_kind (is_write x) (eqb (m + 1) x.bc); bank = bank_at τ x j; number = i; act = a + j; arrival = x.arrival }

  acts_own : (x : Transaction) (i a y : ℕ) → (i ≡ y → ⊥) → dues_of k b y (acts_of τ x i a) ≡ 0
  acts_own x i a y f =
      numbered_dues k b y (act_due_lem x i a) (act_count x) 0
      ∙ total_none (λ m. one k b y (act_due_lem x i a m)) (act_count x) 0 (λ m p q. one_number k b y (act_due_lem x i a m) f)

  bursts_none : (x : Transaction) (i a y j : ℕ) → ((m : ℕ) → one k b y (data_due_lem x i a j m) ≡ 0) → dues_of k b y (bursts_of τ x i a j) ≡ 0
  bursts_none x i a y j f =
      numbered_dues k b y (data_due_lem x i a j) x.bc 0 ∙ total_none (λ m. one k b y (data_due_lem x i a j m)) x.bc 0 (λ m p q. f m)

  datas_own : (x : Transaction) (i a y : ℕ) → (i ≡ y → ⊥) → dues_of k b y (datas_of τ x i a) ≡ 0
  datas_own x i a y f =
      joined_dues k b y (bursts_of τ x i a) x.bi 0
      ∙ total_none (λ j. dues_of k b y (bursts_of τ x i a j)) x.bi 0 (λ j p q. bursts_none x i a y j (λ m. one_number k b y (data_due_lem x i a j m) f))

  dues_of_lem : (l : List Transaction) (y : ℕ) (x : Transaction) (c d : ℕ) → get_elem? l y ≡ some x → ((a : ℕ) → dues_of k b y (acts_of τ x y a) ≡ c)
      → ((a : ℕ) → dues_of k b y (datas_of τ x y a) ≡ d) → due_under τ l y k b ≡ c + d
  unfolding due_under act_queue data_queue
  dues_of_lem l y x c d e f g =
      let z : 0 + y ≡ y = omega arith in
      let p = queue_own k b (acts_of τ) acts_own l 0 0 y x c e (λ a. subst (λ (j : ℕ). dues_of k b j (acts_of τ x j a) ≡ c) (sym z) (f a)) in
      let q = queue_own k b (datas_of τ) datas_own l 0 0 y x d e (λ a. subst (λ (j : ℕ). dues_of k b j (datas_of τ x j a) ≡ d) (sym z) (g a)) in
      omega (
        arith,
        p,
        q,
        ap (λ (j : ℕ). dues_of k b j (queue_from (acts_of τ) l 0 0)) z,
        ap (λ (j : ℕ). dues_of k b j (queue_from (datas_of τ) l 0 0)) z,
      )

  -- a refresh
  module _ (x : Transaction) (w : Refreshing τ x) (y a : ℕ) where
    ref_acts : dues_of k b y (acts_of τ x y a) ≡ pick (eqb (kind_code k) 5 && eqb b 0) 1 0
    ref_acts = rw w.refresh (on (same? (kind_code k) 5) (same? b 0))
      where
        on : ((kind_code k ≡ 5) ⊎ (kind_code k ≢ 5)) → ((b ≡ 0) ⊎ (b ≢ 0))
            → add_if (eqb 5 (kind_code k) && (eqb 0 b && eqb y y)) 0 ≡ pick (eqb (kind_code k) 5 && eqb b 0) 1 0
        on (inl e) (inl e') = rw (eq-eqb 5 (kind_code k) (sym e), eq-eqb 0 b (sym e'), eq-eqb y y refl, eq-eqb (kind_code k) 5 e, eq-eqb b 0 e')
        on (inl e) (inr e') = rw (eq-eqb 5 (kind_code k) (sym e), ne_eqb 0 b (λ z. e' (sym z)), eq-eqb (kind_code k) 5 e, ne_eqb b 0 e')
        on (inr e) q = rw (ne_eqb 5 (kind_code k) (λ z. e (sym z)), ne_eqb (kind_code k) 5 e)

    ref_datas : dues_of k b y (datas_of τ x y a) ≡ 0
    ref_datas = joined_dues k b y (bursts_of τ x y a) x.bi 0 ∙ ap (λ (n : ℕ). total (λ j. dues_of k b y (bursts_of τ x y a j)) n 0) w.no_i

  -- a read or a write
  module _ (x : Transaction) (ok : Fit τ x) (y a : ℕ) where
    abbrev idx : ℕ
    idx = index_of τ.banks x.start b

    abbrev act_w : ℕ → ℕ
    act_w m = one k b y (act_due_lem x y a m)

    plain_bank : (m : ℕ) → (act_due_lem x y a m).bank ≡ bank_at τ x m
    plain_bank m = rw ok.plain

    acts_total : dues_of k b y (acts_of τ x y a) ≡ total act_w x.bi 0
    acts_total = numbered_dues k b y (act_due_lem x y a) (act_count x) 0 ∙ ap (λ (n : ℕ). total act_w n 0) (plain_count τ x ok)

    datas_total : dues_of k b y (datas_of τ x y a) ≡ total (λ j. dues_of k b y (bursts_of τ x y a j)) x.bi 0
    datas_total = joined_dues k b y (bursts_of τ x y a) x.bi 0

    -- no bank of its is b
    module _ (none_is : (m : ℕ) → m < x.bi → bank_at τ x m ≡ b → ⊥) where
      no_acts : dues_of k b y (acts_of τ x y a) ≡ 0
      no_acts = acts_total ∙ total_none act_w x.bi 0 (λ m p q. one_bank k b y (act_due_lem x y a m) (λ e. none_is m (omega (arith, q)) (sym (plain_bank m) ∙ e)))

      no_datas : dues_of k b y (datas_of τ x y a) ≡ 0
      no_datas =
          datas_total ∙ total_none (λ j. dues_of k b y (bursts_of τ x y a j)) x.bi 0
          (λ j p q. bursts_none x y a y j (λ m. one_bank k b y (data_due_lem x y a j m) (none_is j (omega (arith, q)))))

    -- the bank at an index is
    module _ (hb : b < τ.banks) (h : idx < x.bi) where
      own_acts : dues_of k b y (acts_of τ x y a) ≡ pick (eqb (kind_code k) 0) 1 0
      own_acts =
          acts_total
          ∙ (total_one act_w x.bi 0 idx (λ m p q f. one_bank k b y (act_due_lem x y a m)
          (λ e. f (bank_index τ x ok b hb m (omega (arith, q)) (sym (plain_bank m) ∙ e)))) (omega arith) (omega (arith, h))
          ∙ (one_at k b y (act_due_lem x y a idx) (plain_bank idx ∙ index_bank τ x ok b hb h) refl ∙ rw ok.plain (turn (same? (kind_code k) 0))))
        where
          turn : ((kind_code k ≡ 0) ⊎ (kind_code k ≢ 0)) → add_if (eqb 0 (kind_code k)) 0 ≡ pick (eqb (kind_code k) 0) 1 0
          turn (inl e) = rw (eq-eqb 0 (kind_code k) (sym e), eq-eqb (kind_code k) 0 e)
          turn (inr e) = rw (ne_eqb 0 (kind_code k) (λ z. e (sym z)), ne_eqb (kind_code k) 0 e)

      abbrev burst_w : ℕ → ℕ
      burst_w m = add_if (eqb (kind_code (data_kind (is_write x) (eqb (m + 1) x.bc))) (kind_code k)) 0

      own_bursts : dues_of k b y (bursts_of τ x y a idx) ≡ total burst_w x.bc 0
      own_bursts =
          numbered_dues k b y (data_due_lem x y a idx) x.bc 0
          ∙ same_total (λ m. one k b y (data_due_lem x y a idx m)) burst_w (λ m. one_at k b y (data_due_lem x y a idx m) (index_bank τ x ok b hb h) refl) x.bc 0
        where
          same_total : (U W : ℕ → ℕ) → ((m : ℕ) → U m ≡ W m) → (n i : ℕ) → total U n i ≡ total W n i
          same_total U W f zero i = refl
          same_total U W f (suc n) i = omega (arith, f i, same_total U W f n (suc i))

      own_datas : dues_of k b y (datas_of τ x y a) ≡ total burst_w x.bc 0
      own_datas =
          datas_total
          ∙ (total_one (λ j. dues_of k b y (bursts_of τ x y a j)) x.bi 0 idx
          (λ j p q f. bursts_none x y a y j (λ m. one_bank k b y (data_due_lem x y a j m) (λ e. f (bank_index τ x ok b hb j (omega (arith, q)) e)))) (omega arith)
          (omega (arith, h))
          ∙ own_bursts)

-- ---- the law

module _ (τ : Table) (l : List Transaction) (y : ℕ) (x : Transaction) (fit : Fits τ x) (e : get_elem? l y ≡ some x) where
  pub due_count_lem : (k : Kind) (b : ℕ) → b < τ.banks → due_under τ l y k b ≡ due_count τ.banks x (kind_code k) b
  due_count_lem k b hb = on fit
    where
      on : Fits τ x → due_under τ l y k b ≡ due_count τ.banks x (kind_code k) b
      on (inl w) =
          dues_of_lem τ k b l y x (pick (eqb (kind_code k) 5 && eqb b 0) 1 0) 0 e (ref_acts τ k b x w y) (ref_datas τ k b x w y)
          ∙ rw w.refresh (omega arith)
      on (inr ok) = by (ltb (idx τ k b x ok y 0) x.bi) refl
        where
          by : (z : Bool) → ltb (idx τ k b x ok y 0) x.bi ≡ z → due_under τ l y k b ≡ due_count τ.banks x (kind_code k) b
          by true z =
              let h = ltb-true (idx τ k b x ok y 0) x.bi z in
              dues_of_lem τ k b l y x (pick (eqb (kind_code k) 0) 1 0) (per_data (is_write x) x.bc (kind_code k)) e (λ a. own_acts τ k b x ok y a hb h)
              (λ a. own_datas τ k b x ok y a hb h ∙ bursts_are (is_write x) x.bc (kind_code k) ok.one)
              ∙ (per_bank_lem (is_write x) x.bc (kind_code k) ∙ rw (ok.plain, z))
          by false z =
              let h = ltb-false (idx τ k b x ok y 0) x.bi z in
              let n : (m : ℕ) → m < x.bi → bank_at τ x m ≡ b → ⊥ = λ m q u. absurd (omega (arith, bank_index τ x ok b hb m q u, q, h)) in
              dues_of_lem τ k b l y x 0 0 e (λ a. no_acts τ k b x ok y a n) (λ a. no_datas τ k b x ok y a n) ∙ rw (ok.plain, z)

  -- nothing is due past the table's banks
  pub due_within : (k : Kind) (b : ℕ) → 1 ≤ due_under τ l y k b → b < τ.banks
  due_within k b h = ⊎_elim (λ z. z) (λ z. absurd (omega (arith, h, on (omega (arith, z.1)) fit))) (from? b τ.banks)
    where
      on : τ.banks ≤ b → Fits τ x → due_under τ l y k b ≡ 0
      on q (inl w) =
          dues_of_lem τ k b l y x (pick (eqb (kind_code k) 5 && eqb b 0) 1 0) 0 e (ref_acts τ k b x w y) (ref_datas τ k b x w y)
          ∙ rw (ne_eqb b 0 (λ z. omega (arith, z, q, w.bank)), and_false (eqb (kind_code k) 5))
      on q (inr ok) =
          let n : (m : ℕ) → m < x.bi → bank_at τ x m ≡ b → ⊥ = λ m u v. absurd (omega (arith, bank_lt τ x ok m u, v, q)) in
          dues_of_lem τ k b l y x 0 0 e (λ a. no_acts τ k b x ok y a n) (λ a. no_datas τ k b x ok y a n)
