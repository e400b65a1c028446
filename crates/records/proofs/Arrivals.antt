-- The arrivals of a list, "never less than the one before it".
-- Assumes nothing.
use Prim.Native.Nat.{ℕ, zero, suc, ◌+◌, ◌≤◌}
use native.Mathlib.Omega.{arith}
use mathlib.Core.Path.{◌≡◌, refl, ap}
use mathlib.Core.Bool.{Bool, true, ◌&&◌}
use mathlib.Core.Option.{some}
use mathlib.Core.List.{List, [], ◌∷◌, ◌++◌}
use lib.Dec.{leb}
use lib.ListN.{length, get_elem?}
use borrow.Author.Tests.{leb-true, le-leb}
use Rattle.records.specs.Tests.{every}
use Rattle.records.specs.declared.table.Table.{Table}
use Rattle.records.specs.declared.transaction.Transaction.{Transaction}
use Rattle.records.specs.Transaction.{transaction_at, transactions_from, fits, fits_after, fits_from, list_fits}
use Rattle.records.proofs.Laws.{and_left, and_right}

-- each arrives no earlier than the one before it
abbrev pub Ascending : List Transaction → Type 0
Ascending l = (k : ℕ) (x y : Transaction) → get_elem? l k ≡ some x → get_elem? l (suc k) ≡ some y → x.arrival ≤ y.arrival

module _ (τ : Table) where
  pub first_fits : (a : ℕ) (x : Transaction) (l : List Transaction) → fits_from a τ (x ∷ l) ≡ true → (a ≤ x.arrival) × (fits τ x ≡ true) × (fits_from x.arrival τ l ≡ true)
  first_fits a x l e =
      let f = and_left (fits_after a τ x) (fits_from x.arrival τ l) e in
      (leb-true a x.arrival (and_left (leb a x.arrival) (fits τ x) f), and_right (leb a x.arrival) (fits τ x) f, and_right (fits_after a τ x) (fits_from x.arrival τ l) e)

  -- a list that fits ascends, and each of it fits
  pub ascending : (l : List Transaction) (a : ℕ) → fits_from a τ l ≡ true → Ascending l
  ascending [] a e k x y p q = let z : ◌≡◌ {A = ℕ} 0 1 = cc p in absurd (omega arith)
  ascending (v ∷ []) a e k x y p q = let z : ◌≡◌ {A = ℕ} 0 1 = cc q in absurd (omega arith)
  ascending (v ∷ w ∷ l) a e zero x y p q =
      let h : v.arrival ≤ w.arrival = (first_fits v.arrival w l (first_fits a v (w ∷ l) e).2).0 in
      let i : v ≡ x = cc in
      let j : w ≡ y = cc in
      omega (arith, h, ap (λ (t : Transaction). t.arrival) i, ap (λ (t : Transaction). t.arrival) j)
  ascending (v ∷ w ∷ l) a e (suc k) x y p q = ascending (w ∷ l) v.arrival (first_fits a v (w ∷ l) e).2 k x y p q

  pub each_fits : (l : List Transaction) (a : ℕ) → fits_from a τ l ≡ true → every (fits τ) l ≡ true
  each_fits [] a e = refl
  each_fits (x ∷ l) a e = let f = first_fits a x l e in rw f.1 (each_fits l x.arrival f.2)

  -- and nothing else is asked
  pub fits_whole : (l : List Transaction) (a : ℕ) → ((x : Transaction) → get_elem? l 0 ≡ some x → a ≤ x.arrival) → Ascending l → every (fits τ) l ≡ true → fits_from a τ l ≡ true
  fits_whole [] a f g e = refl
  fits_whole (v ∷ l) a f g e =
      rw (le-leb a v.arrival (f v refl), and_left (fits τ v) (every (fits τ) l) e)
      (fits_whole l v.arrival (λ y q. g 0 v y refl q) (λ k x y p q. g (suc k) x y p q) (and_right (fits τ v) (every (fits τ) l) e))

  -- the first of a list
  pub fits_front : (p q : List Transaction) (a : ℕ) → fits_from a τ (p ++ q) ≡ true → fits_from a τ p ≡ true
  fits_front [] q a e = refl
  fits_front (x ∷ p) q a e =
      rw (and_left (fits_after a τ x) (fits_from x.arrival τ (p ++ q)) e) (fits_front p q x.arrival (and_right (fits_after a τ x) (fits_from x.arrival τ (p ++ q)) e))

  module _ (l : List Transaction) (fit : list_fits τ l ≡ true) where
    pub few_listed : length l ≤ 256
    few_listed = leb-true (length l) 256 (and_left (leb (length l) 256) (fits_from 0 τ l) fit)

    pub each_listed : every (fits τ) l ≡ true
    each_listed = each_fits l 0 (and_right (leb (length l) 256) (fits_from 0 τ l) fit)

    pub listed_ascends : Ascending l
    listed_ascends = ascending l 0 (and_right (leb (length l) 256) (fits_from 0 τ l) fit)

  -- "The 4-byte record is arrival 0": a list of such ascends
  pub plain_fits : (s : List ℕ) (n at : ℕ) → fits_from 0 τ (transactions_from s n at) ≡ every (fits τ) (transactions_from s n at)
  unfolding transactions_from
  plain_fits s zero at = refl
  plain_fits s (suc n) at = ap (λ (b : Bool). fits τ (transaction_at s at) && b) (plain_fits s n (at + 4))
