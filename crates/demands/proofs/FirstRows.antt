-- The first row of "What the caller is told" that applies: by the number of a refusal, by the table, and by the list.
-- Assumes nothing.
use Rattle.std.specs.Prelude.{Result, Ok, Err}
use Prim.Native.Nat.{ℕ, suc, ◌+◌}
use native.Mathlib.Omega.{arith}
use native.Mathlib.Nat.{zero-add}
use mathlib.Core.Bool.{Bool, true, false, not, ◌&&◌}
use mathlib.Core.Path.{◌≡◌, refl, sym, ap, ◌∙◌, subst}
use mathlib.Core.List.{List, [], ◌∷◌}
use lib.Dec.{eqb}
use lib.ListN.{length}
use borrow.Author.Tests.{eqb-true}
use Rattle.records.specs.declared.table.Table.{Table}
use Rattle.records.specs.declared.transaction.Transaction.{Transaction}
use Rattle.records.specs.declared.refusal.Refusal.{Refusal}
use Rattle.records.specs.Tests.{pick}
use Rattle.records.specs.Told.{refusal, first_failed}
use Rattle.records.specs.Table.{table_at, in_range, table_size, read_table}
use Rattle.records.specs.Transaction.{fits_after, fits_from}
use Rattle.lists.specs.Check.{range_from, check_sized}
use Rattle.promises.specs.Admit.{expecting, admitted}
use Rattle.promises.specs.Numbers.{Numbers, refusing}
use Rattle.demands.specs.Causes.{Row, row, FirstRow, table_rows, lowest_out, list_rows}

-- an answer tells a number and a position
abbrev pub Tells : Numbers → ℕ → ℕ → Type 0
Tells a n p = (a.refused ≡ n) × (a.position ≡ p)

-- ---- rows at position 0

pub one : (n : ℕ) (b : Bool) (a : Numbers) → Tells a (first_failed ((n, b) ∷ [])) 0 → FirstRow (row n 0 b ∷ []) a
one n true a t = t
one n false a t = t

pub two : (n m : ℕ) (b c : Bool) (a : Numbers) → Tells a (first_failed ((n, b) ∷ (m, c) ∷ [])) 0 → FirstRow (row n 0 b ∷ row m 0 c ∷ []) a
two n m true c a t = t
two n m false true a t = t
two n m false false a t = t

pub three : (n m k : ℕ) (b c d : Bool) (a : Numbers) → Tells a (first_failed ((n, b) ∷ (m, c) ∷ (k, d) ∷ [])) 0 → FirstRow (row n 0 b ∷ row m 0 c ∷ row k 0 d ∷ []) a
three n m k true c d a t = t
three n m k false c d a t = two m k c d a t

pub tells_same : (a b : Numbers) → a ≡ b → Tells a b.refused b.position
tells_same a b e = (ap (λ (n : Numbers). n.refused) e, ap (λ (n : Numbers). n.position) e)

-- an answer by a refusal's number z: f of x where it is 0, and else f of y
pub by_number : {A : Type 0} (f : A → Numbers) (z : ℕ) (x y : A) → Tells (f x) 0 0 → Tells (f y) z 0 → Tells (f (pick (eqb z 0) x y)) z 0
by_number f z x y p q = on (eqb z 0) refl
  where
    on : (b : Bool) → eqb z 0 ≡ b → Tells (f (pick b x y)) z 0
    on true e = (p.0 ∙ sym (eqb-true z 0 e), p.1)
    on false e = q

-- ---- by the table, and by the list: R says which answers the call may give

module _ (expected : ℕ) (table : List ℕ) (R : Result Table Refusal → Numbers → Type 0) (rest : List Row)
    (gives : (x : Refusal) (a : Numbers) → R (Err x) a → a ≡ refusing x) (goes_on : (a : Numbers) → R (Ok (table_at table)) a → FirstRow rest a) where
  pub by_table : (a : Numbers) → R (admitted expected table) a → FirstRow (table_rows expected table rest) a
  unfolding admitted read_table
  by_table a = on (not (table_size (length table))) (not (in_range (table_at table)))
    where
      t : Table
      t = table_at table

      by : Bool → Bool → ℕ
      by b c = first_failed ((1, b) ∷ (2, c) ∷ [])

      other : (b : Bool) → R (pick b (Ok t) (Err (refusal 10 t.edition t.edition))) a → FirstRow (row 10 t.edition (not b) ∷ rest) a
      other true r = goes_on a r
      other false r = tells_same a (refusing (refusal 10 t.edition t.edition)) (gives (refusal 10 t.edition t.edition) a r)

      on : (b c : Bool) → R (expecting expected (pick (eqb (by b c) 0) (Ok t) (Err (refusal (by b c) 0 0)))) a
          → FirstRow (row 1 0 b ∷ row 2 0 c ∷ row 10 t.edition (not (eqb t.edition expected)) ∷ rest) a
      on true c r = tells_same a (refusing (refusal 1 0 0)) (gives (refusal 1 0 0) a r)
      on false true r = tells_same a (refusing (refusal 2 0 0)) (gives (refusal 2 0 0) a r)
      on false false r = other (eqb t.edition expected) r

module _ (τ : Table) (R : Result Unit Refusal → Numbers → Type 0) (rest : List Row) (a : Numbers)
    (gives : (x : Refusal) → R (Err x) a → a ≡ refusing x) (goes_on : R (Ok tt) a → FirstRow rest a) where
  by_range : (t : ℕ) (l : List Transaction) (k p : ℕ) → p ≡ k + lowest_out τ t l → R (range_from τ t l k) a
      → FirstRow (row 4 p (not (fits_from t τ l)) ∷ rest) a
  unfolding range_from
  by_range t [] k p e r = goes_on r
  by_range t (x ∷ l) k p e r = on (fits_after t τ x) e r (by_range x.arrival l (k + 1) p)
    where
      on : (b : Bool) → p ≡ k + pick b (suc (lowest_out τ x.arrival l)) 0 → R (pick b (range_from τ x.arrival l (k + 1)) (Err (refusal 4 k τ.edition))) a
          → (p ≡ k + 1 + lowest_out τ x.arrival l → R (range_from τ x.arrival l (k + 1)) a → FirstRow (row 4 p (not (fits_from x.arrival τ l)) ∷ rest) a)
          → FirstRow (row 4 p (not (b && fits_from x.arrival τ l)) ∷ rest) a
      on true e r ih = ih (omega arith) r
      on false e r ih =
          let w = tells_same a (refusing (refusal 4 k τ.edition)) (gives (refusal 4 k τ.edition) r) in
          (w.0, omega (arith, w.1, e))

  pub by_list : (good : Bool) (l : List Transaction) (c : Result Unit Refusal) → c ≡ check_sized τ good l → R c a → FirstRow (list_rows τ good l rest) a
  by_list true l c e r = by_range 0 l 0 (lowest_out τ 0 l) (sym (zero-add (lowest_out τ 0 l))) (subst (λ (d : Result Unit Refusal). R d a) e r)
  by_list false l c e r =
      tells_same a (refusing (refusal 3 0 τ.edition)) (gives (refusal 3 0 τ.edition) (subst (λ (d : Result Unit Refusal). R d a) e r))
