-- What the proofs of the readers and writers cite: a call refuses by the first check that fails, and else answers.
-- Assumes nothing.
use Rattle.std.specs.Prelude.{Ok, Err, Result}
use Prim.Native.Nat.{ℕ, ◌≤◌}
use mathlib.Core.Bool.{Bool, true, false, not, ◌&&◌, ◌||◌}
use mathlib.Core.Path.{◌≡◌, refl, sym, ap, ◌∙◌}
use native.Mathlib.Omega.{arith}
use mathlib.Core.List.{List, [], ◌∷◌}
use lib.Dec.{eqb, leb}
use lib.ListN.{length}
use borrow.Author.Tests.{eq-eqb, ne_eqb, eqb-true, leb-true, not-false}
use Rattle.records.specs.declared.refusal.Refusal.{Refusal}
use Rattle.records.specs.Tests.{pick}
use Rattle.records.specs.Told.{refusal, first_failed, checked, Wrote}
use Rattle.records.specs.declared.table.Table.{Table}
use Rattle.records.specs.declared.transaction.Transaction.{Transaction}
use Rattle.records.specs.Table.{table_refusal_by, table_size, table_refusal, in_range}
use Rattle.records.specs.Transaction.{refusal_by, transaction_refusal, later_refusal, fits_in, fits_by}

module _ {A : Type 0} (z y : ℕ) (e : z ≡ y) where
  -- z is not 0: the answer is f of it
  pub refuses : (a : A) (f : ℕ → A) → (z ≡ 0 → ⊥) → f z ≡ pick (eqb y 0) a (f y)
  refuses a f n = ap f e ∙ sym (ap (λ (b : Bool). pick b a (f y)) (ne_eqb y 0 (λ k. n (e ∙ k))))

  -- z is 0: the answer is a
  pub answers : (a b : A) → z ≡ 0 → a ≡ pick (eqb y 0) a b
  answers a b k = sym (ap (λ (t : Bool). pick t a b) (eq-eqb y 0 (sym e ∙ k)))

-- a call that writes: its answer, and the buffer, which a refusal leaves as it stood
module _ (z y : ℕ) (e : z ≡ y) (s : List ℕ) (w : Wrote) where
  abbrev wrote : Wrote
  wrote = pick (eqb y 0) w (record { answer = Err (refusal y 0 0); buffer = s })

  pub write_refuses : (q : Refusal) → q ≡ refusal z 0 0 → (z ≡ 0 → ⊥) → (Err q ≡ wrote.answer) × (s ≡ wrote.buffer)
  write_refuses q p n = (ap Err p ∙ ap (λ (v : Wrote). v.answer) left, ap (λ (v : Wrote). v.buffer) left)
    where
      left : record { answer = Err (refusal z 0 0); buffer = s } ≡ wrote
      left = refuses z y e w (λ n. record { answer = Err (refusal n 0 0); buffer = s }) n

  pub write_answers : (b : List ℕ) → b ≡ w.buffer → z ≡ 0 → (w.answer ≡ wrote.answer) × (b ≡ wrote.buffer)
  write_answers b p k = (ap (λ (v : Wrote). v.answer) left, p ∙ ap (λ (v : Wrote). v.buffer) left)
    where
      left : w ≡ wrote
      left = answers z y e w (record { answer = Err (refusal y 0 0); buffer = s }) k

-- a call that writes after a check by the number z: r is what the check finds
module _ (z : ℕ) (s : List ℕ) (w : Wrote) (r : Result Unit Refusal) (e : r ≡ checked z 0 0) where
  abbrev after : Bool → Wrote
  after b = pick b w (record { answer = Err (refusal z 0 0); buffer = s })

  abbrev found : Bool → Result Unit Refusal
  found b = pick b (Ok tt) (Err (refusal z 0 0))

  pub check_writes : (b : List ℕ) → r ≡ Ok tt → b ≡ w.buffer → (w.answer ≡ (after (eqb z 0)).answer) × (b ≡ (after (eqb z 0)).buffer)
  check_writes b k p = on (eqb z 0) (sym e ∙ k)
    where
      on : (t : Bool) → found t ≡ Ok tt → (w.answer ≡ (after t).answer) × (b ≡ (after t).buffer)
      on true h = (refl, p)
      on false h = let y : ◌≡◌ {A = ℕ} 0 1 = cc in absurd (omega arith)

  pub check_stops : (q : Result ℕ Refusal) (x : Refusal) → r ≡ Err x → q ≡ Err x → (q ≡ (after (eqb z 0)).answer) × (s ≡ (after (eqb z 0)).buffer)
  check_stops q x k p = on (eqb z 0) (sym e ∙ k)
    where
      on : (t : Bool) → found t ≡ Err x → (q ≡ (after t).answer) × (s ≡ (after t).buffer)
      on true h = let y : ◌≡◌ {A = ℕ} 0 1 = cc in absurd (omega arith)
      on false h = let y : refusal z 0 0 ≡ x = cc in (p ∙ ap Err (sym y), refl)

-- what a check by the number z tells
module _ (z p e : ℕ) where
  abbrev told_by : Bool → Result Unit Refusal
  told_by b = pick b (Ok tt) (Err (refusal z p e))

  pub check_lets : checked z p e ≡ Ok tt → z ≡ 0
  check_lets = on (eqb z 0) refl
    where
      on : (t : Bool) → eqb z 0 ≡ t → told_by t ≡ Ok tt → z ≡ 0
      on true q h = eqb-true z 0 q
      on false q h = let y : ◌≡◌ {A = ℕ} 0 1 = cc in absurd (omega arith)

  pub check_says : (x : Refusal) → checked z p e ≡ Err x → (z ≡ 0 → ⊥) × (x ≡ refusal z p e)
  check_says x = on (eqb z 0) refl
    where
      on : (t : Bool) → eqb z 0 ≡ t → told_by t ≡ Err x → (z ≡ 0 → ⊥) × (x ≡ refusal z p e)
      on true q h = let y : ◌≡◌ {A = ℕ} 0 1 = cc in absurd (omega arith)
      on false q h = let y : refusal z p e ≡ x = cc in (λ k. absurd (let b : true ≡ false = sym (eq-eqb z 0 k) ∙ q in let w : ◌≡◌ {A = ℕ} 0 1 = cc in omega arith), sym y)

-- no check fails: each passes
pub passes : (n : ℕ) (b : Bool) (l : List (ℕ × Bool)) → (n ≡ 0 → ⊥) → first_failed ((n, b) ∷ l) ≡ 0 → (b ≡ false) × (first_failed l ≡ 0)
passes n true l h e = absurd (h e)
passes n false l h e = (refl, e)

pub and_left : (a b : Bool) → (a && b) ≡ true → a ≡ true
and_left true b e = refl
and_left false b e = e

pub and_right : (a b : Bool) → (a && b) ≡ true → b ≡ true
and_right true b e = e
and_right false b e = let z : ◌≡◌ {A = ℕ} 0 1 = cc in absurd (omega arith)

-- the size of a record that is not refused
pub refusal_right : (right : Bool) (τ : Table) → table_refusal_by right τ ≡ 0 → right ≡ true
refusal_right right τ e = not-false right (passes 1 (not right) ((2, not (in_range τ)) ∷ []) (λ k. omega arith) e).0

pub wrong_size : (size : ℕ) (τ : Table) → table_size size ≡ false → table_refusal size τ ≡ 1
wrong_size size τ e = ap (λ (b : Bool). table_refusal_by b τ) e

pub refusal_size : (need size : ℕ) (τ : Table) → table_refusal_by (eqb size need) τ ≡ 0 → size ≡ need
refusal_size need size τ e = eqb-true size need (refusal_right (eqb size need) τ e)

pub size_room : (size : ℕ) → table_size size ≡ true → 32 ≤ size
size_room size e = on (eqb size 32) refl (eqb size 40) refl e
  where
    on : (a : Bool) → eqb size 32 ≡ a → (b : Bool) → eqb size 40 ≡ b → (a || b) ≡ true → 32 ≤ size
    on true p b q e = omega (arith, eqb-true size 32 p)
    on false p true q e = omega (arith, eqb-true size 40 q)
    on false p false q e = let z : ◌≡◌ {A = ℕ} 0 1 = cc in absurd (omega arith)

-- a table that is not refused has one of the two sizes
pub table_size_lem : (size : ℕ) (τ : Table) → table_refusal size τ ≡ 0 → table_size size ≡ true
table_size_lem size τ e = refusal_right (table_size size) τ e

-- a transaction that is not refused has its record's size, and an arrival that the record holds
pub need_size : (need latest size : ℕ) (x : Transaction) → refusal_by need latest size x ≡ 0 → size ≡ need
need_size need latest size x e =
    eqb-true size need (not-false _ (passes 3 (not (eqb size need)) ((4, not (fits_by latest 16 1 x)) ∷ []) (λ k. omega arith) e).0)

pub transaction_size : (size : ℕ) (x : Transaction) → transaction_refusal size x ≡ 0 → size ≡ 4
transaction_size size x e = need_size 4 0 size x e

pub later_size : (size : ℕ) (x : Transaction) → later_refusal size x ≡ 0 → size ≡ 8
later_size size x e = need_size 8 20000000 size x e

pub arrives_by : (need latest size : ℕ) (x : Transaction) → refusal_by need latest size x ≡ 0 → x.arrival ≤ latest
arrives_by need latest size x e =
    leb-true x.arrival latest (and_left (leb x.arrival latest) (fits_in 16 1 x) (not-false _ (passes 4 (not (fits_by latest 16 1 x)) [] (λ k. omega arith)
    (passes 3 (not (eqb size need)) ((4, not (fits_by latest 16 1 x)) ∷ []) (λ k. omega arith) e).1).0))

-- what a call answers tells whether it refused
pub answered : {A B : Type 0} (f : A → B) (z : ℕ) (a b : A) (c : B) → f (pick (eqb z 0) a b) ≡ c → (f b ≡ c → ⊥) → (z ≡ 0) × (f a ≡ c)
answered f z a b c e h = on (eqb z 0) refl e
  where
    on : (t : Bool) → eqb z 0 ≡ t → f (pick t a b) ≡ c → (z ≡ 0) × (f a ≡ c)
    on true p e = (eqb-true z 0 p, e)
    on false p e = absurd (h e)

-- a reader of one record: `at` takes it out of the bytes, `check` gives the refusal's number by their size
module _ {R A : Type 0} (check : ℕ → R → ℕ) (at : List ℕ → R) (is : R → A) (no : ℕ → A) where
  abbrev reads : List ℕ → A
  reads s = pick (eqb (check (length s) (at s)) 0) (is (at s)) (no (check (length s) (at s)))

  pub read_is : (s : List ℕ) (x : R) → at s ≡ x → check (length s) x ≡ 0 → reads s ≡ is x
  read_is s x e z =
      sym (answers 0 (check (length s) (at s)) (sym (ap (check (length s)) e ∙ z)) (is (at s)) (no (check (length s) (at s))) refl) ∙ ap is e

  pub read_was : (s : List ℕ) (x : R) → ((n : ℕ) → no n ≡ is x → ⊥) → reads s ≡ is x → (check (length s) (at s) ≡ 0) × (is (at s) ≡ is x)
  read_was s x h r = answered (λ a. a) (check (length s) (at s)) (is (at s)) (no (check (length s) (at s))) (is x) r (h (check (length s) (at s)))

-- a writer of one record that z refuses
module _ (z : ℕ) (w : Wrote) (s : List ℕ) where
  abbrev writes : Wrote
  writes = pick (eqb z 0) w (record { answer = Err (refusal z 0 0); buffer = s })

  pub write_is : z ≡ 0 → writes ≡ w
  write_is e = sym (answers 0 z (sym e) w (record { answer = Err (refusal z 0 0); buffer = s }) refl)

  pub write_was : (e : ℕ) → writes.answer ≡ Ok e → z ≡ 0
  write_was e d =
      (answered (λ (v : Wrote). v.answer) z w (record { answer = Err (refusal z 0 0); buffer = s }) (Ok e) d
      (λ k. let y : ◌≡◌ {A = ℕ} 0 1 = cc in absurd (omega arith))).0
