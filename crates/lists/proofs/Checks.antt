-- Laws of numbers 3 and 4.
-- Assumes nothing.
use Rattle.std.specs.Prelude.{Result, Ok, Err}
use Rattle.records.specs.declared.refusal.Refusal.{Refusal}
use Prim.Native.Nat.{ℕ, suc, ◌+◌, ◌*◌, ◌/◌, ◌%◌, ◌≤◌, ◌<◌}
use mathlib.Core.Bool.{Bool, true, false, ◌&&◌}
use mathlib.Core.Path.{◌≡◌, refl, sym, ap, ◌∙◌}
use mathlib.Core.List.{List, [], ◌∷◌}
use native.Mathlib.Omega.{arith}
use native.Mathlib.Numerals.{add-one}
use lib.Dec.{leb, eqb}
use lib.ListN.{length, drop, drop_of_length-le}
use lib.Seq.{drop-cons}
use borrow.Author.Tests.{leb-true, eqb-true, le-leb, lt-leb, eq-eqb}
use Rattle.records.specs.declared.table.Table.{Table}
use Rattle.records.specs.declared.transaction.Transaction.{Transaction}
use Rattle.records.specs.Tests.{pick}
use Rattle.records.specs.Told.{refusal}
use Rattle.records.specs.Transaction.{record_size, record_count, kth_of, list_of, fits_after, fits_from, list_fits}
use Rattle.records.proofs.Laws.{and_left, and_right}
use Rattle.records.proofs.Listed.{length_list, kth_list}
use Rattle.lists.specs.Check.{range_from, check_sized, check_list, check_bytes, check_into}
use Rattle.lists.specs.Packed.{no_transaction}

-- the bytes of the k-th record

pub later_room : (later : Bool) (size k : ℕ) → later ≡ true → k < record_count later size → 8 * k + 8 ≤ size
later_room later size k e h = let g : k < size / 8 = (rw e at h) in omega (arith, g)

pub plain_room : (later : Bool) (size k : ℕ) → later ≡ false → k < record_count later size → 4 * k + 4 ≤ size
plain_room later size k e h = let g : k < size / 4 = (rw e at h) in omega (arith, g)

-- ---- the loop: what is left from number k on, after one that arrived at a, gives the whole answer

range_none : (τ : Table) (a k : ℕ) → range_from τ a [] k ≡ Ok tt
unfolding range_from
range_none τ a k = refl

range_cons : (τ : Table) (a : ℕ) (x : Transaction) (l : List Transaction) (k : ℕ)
    → range_from τ a (x ∷ l) k ≡ pick (fits_after a τ x) (range_from τ x.arrival l (k + 1)) (Err (refusal 4 k τ.edition))
unfolding range_from
range_cons τ a x l k = refl

module _ (τ : Table) (later : Bool) (s : List ℕ) where
  abbrev pub left_from : ℕ → ℕ → Result Unit Refusal
  left_from a k = range_from τ a (drop k (list_of later s)) k

  module _ (a k : ℕ) (x : Transaction) (h : k < record_count later (length s)) (is : x ≡ kth_of later s k) where
    next : drop k (list_of later s) ≡ x ∷ drop (k + 1) (list_of later s)
    next =
        drop-cons (list_of later s) k no_transaction (omega (arith, h, length_list s later))
        ∙ ap (λ (y : Transaction). y ∷ drop (suc k) (list_of later s)) (kth_list s later k no_transaction h ∙ sym is)
        ∙ ap (λ (i : ℕ). x ∷ drop i (list_of later s)) (sym (add-one k))

    here : left_from a k ≡ pick (fits_after a τ x) (left_from x.arrival (k + 1)) (Err (refusal 4 k τ.edition))
    here = ap (λ (l : List Transaction). range_from τ a l k) next ∙ range_cons τ a x (drop (k + 1) (list_of later s)) k

    pub left_fits : fits_after a τ x ≡ true → left_from x.arrival (k + 1) ≡ left_from a k
    left_fits t = sym (here ∙ ap (λ (b : Bool). pick b (left_from x.arrival (k + 1)) (Err (refusal 4 k τ.edition))) t)

    pub left_out : fits_after a τ x ≡ false → Err (refusal 4 k τ.edition) ≡ left_from a k
    left_out t = sym (here ∙ ap (λ (b : Bool). pick b (left_from x.arrival (k + 1)) (Err (refusal 4 k τ.edition))) t)

  pub left_none : (a k : ℕ) → record_count later (length s) ≤ k → (Ok tt) ≡ left_from a k
  left_none a k h =
      sym (ap (λ (l : List Transaction). range_from τ a l k) (drop_of_length-le (list_of later s) {i = k} (omega (arith, h, length_list s later))) ∙ range_none τ a k)

-- ---- number 3

module _ (τ : Table) (l : List Transaction) (b : Bool) where
  pub sized : b ≡ true → range_from τ 0 l 0 ≡ check_sized τ b l
  sized e = sym (ap (λ (t : Bool). check_sized τ t l) e)

  pub not_sized : b ≡ false → Err (refusal 3 0 τ.edition) ≡ check_sized τ b l
  not_sized e = sym (ap (λ (t : Bool). check_sized τ t l) e)

  pub was_sized : check_sized τ b l ≡ Ok tt → b ≡ true
  was_sized e = on b e
    where
      on : (t : Bool) → check_sized τ t l ≡ Ok tt → t ≡ true
      on true e = refl
      on false e = let z : ◌≡◌ {A = ℕ} 0 1 = cc in absurd (omega arith)

-- a size that is not refused
pub record Sized (later : Bool) (size places : ℕ) : Type 0 where
  pub whole : size % record_size later ≡ 0
  pub few : record_count later size ≤ 256
  pub room : record_count later size ≤ places

abbrev sizes : Bool → ℕ → ℕ → Bool
sizes later size places = eqb (size % record_size later) 0 && (leb (record_count later size) 256 && leb (record_count later size) places)

pub size_is : (later : Bool) (size places : ℕ) → sizes later size places ≡ true → Sized later size places
size_is later size places e =
    let few : Bool = leb (record_count later size) 256 in
    let room : Bool = leb (record_count later size) places in
    let rest = and_right (eqb (size % record_size later) 0) (few && room) e in
    record {
      whole = eqb-true (size % record_size later) 0 (and_left (eqb (size % record_size later) 0) (few && room) e);
      few = leb-true (record_count later size) 256 (and_left few room rest);
      room = leb-true (record_count later size) places (and_right few room rest);
    }

module _ (later : Bool) (τ : Table) (s : List ℕ) where
  pub fine_sized : (places : ℕ) → check_into later τ s places ≡ Ok tt → Sized later (length s) places
  unfolding check_into
  fine_sized places e = size_is later (length s) places (was_sized τ (list_of later s) (sizes later (length s) places) e)

  -- ---- the three checks, one by another

  twice : (a b : Bool) → (a && (b && b)) ≡ (a && b)
  twice true true = refl
  twice true false = refl
  twice false b = refl

  pub into_256 : check_into later τ s 256 ≡ check_bytes later τ s
  unfolding check_into check_bytes
  into_256 = ap (λ (b : Bool). check_sized τ b (list_of later s)) (twice (eqb (length s % record_size later) 0) (leb (record_count later (length s)) 256))

  pub bytes_list : length s % record_size later ≡ 0 → check_bytes later τ s ≡ check_list τ (list_of later s)
  unfolding check_bytes check_list
  bytes_list h = rw (eq-eqb (length s % record_size later) 0 h, length_list s later)

  -- bytes that may be decoded hold a list with nothing to refuse
  pub into_list : (places : ℕ) → check_into later τ s places ≡ Ok tt → check_list τ (list_of later s) ≡ Ok tt
  unfolding check_into check_list
  into_list places e =
      let z = fine_sized places e in
      let good : Bool = sizes later (length s) places in
      sym (sized τ (list_of later s) (leb (length (list_of later s)) 256) (le-leb (length (list_of later s)) 256 (omega (arith, z.few, length_list s later))))
      ∙ sized τ (list_of later s) good (was_sized τ (list_of later s) good e) ∙ e

pub over_list : (τ : Table) (l : List Transaction) → 256 < length l → Err (refusal 3 0 τ.edition) ≡ check_list τ l
unfolding check_list
over_list τ l h = not_sized τ l (leb (length l) 256) (lt-leb (length l) 256 h)

-- ---- what the check of a list tells

range_fine : (τ : Table) (a : ℕ) (l : List Transaction) (k : ℕ) → range_from τ a l k ≡ Ok tt → fits_from a τ l ≡ true
unfolding range_from
range_fine τ a [] k h = refl
range_fine τ a (x ∷ l) k h = on (fits_after a τ x) (range_fine τ x.arrival l (k + 1)) h
  where
    on : (b : Bool) → (range_from τ x.arrival l (k + 1) ≡ Ok tt → fits_from x.arrival τ l ≡ true)
        → pick b (range_from τ x.arrival l (k + 1)) (Err (refusal 4 k τ.edition)) ≡ Ok tt → (b && fits_from x.arrival τ l) ≡ true
    on true r h = r h
    on false r h = let z : ◌≡◌ {A = ℕ} 0 1 = cc in absurd (omega arith)

fine_range : (τ : Table) (a : ℕ) (l : List Transaction) (k : ℕ) → fits_from a τ l ≡ true → range_from τ a l k ≡ Ok tt
unfolding range_from
fine_range τ a [] k h = refl
fine_range τ a (x ∷ l) k h =
    ap (λ (b : Bool). pick b (range_from τ x.arrival l (k + 1)) (Err (refusal 4 k τ.edition))) (and_left (fits_after a τ x) (fits_from x.arrival τ l) h)
    ∙ fine_range τ x.arrival l (k + 1) (and_right (fits_after a τ x) (fits_from x.arrival τ l) h)

-- it finds nothing to refuse exactly where the list fits
pub fine_fits : (τ : Table) (l : List Transaction) → check_list τ l ≡ Ok tt → list_fits τ l ≡ true
unfolding check_list
fine_fits τ l e = on (leb (length l) 256) e
  where
    on : (b : Bool) → check_sized τ b l ≡ Ok tt → (b && fits_from 0 τ l) ≡ true
    on true e = range_fine τ 0 l 0 e
    on false e = was_sized τ l false e

pub fits_fine : (τ : Table) (l : List Transaction) → list_fits τ l ≡ true → check_list τ l ≡ Ok tt
unfolding check_list
fits_fine τ l h =
    sym (sized τ l (leb (length l) 256) (and_left (leb (length l) 256) (fits_from 0 τ l) h))
    ∙ fine_range τ 0 l 0 (and_right (leb (length l) 256) (fits_from 0 τ l) h)
