-- What the definitions of this crate promise, in three short records.
use Rattle.std.specs.Prelude.{ℕ, zero, suc, ◌*◌, ◌<◌, ◌≤◌, Bool, true, false, ◌≡◌, ◌↔◌, ◌⊎◌, List, length, get_or, take, drop, Result, Ok, Err}
use Rattle.records.specs.declared.table.Table.{Table}
use Rattle.records.specs.declared.transaction.Transaction.{Transaction}
use Rattle.records.specs.declared.refusal.Refusal.{Refusal}
use Rattle.records.specs.Told.{refusal}
use Rattle.records.specs.Transaction.{later_in, list_of, fits_after, list_fits}
use Rattle.lists.specs.Check.{check_list}
use Rattle.lists.specs.Packed.{held, packed, no_transaction}
use Rattle.lists.specs.Decode.{decoding, Decodes}

abbrev pub kth_in : List Transaction → ℕ → Transaction
kth_in l k = get_or l k no_transaction

-- the arrival of the one before transaction k, which is a before the list's first
abbrev pub arrival_before : ℕ → List Transaction → ℕ → ℕ
arrival_before a l zero = a
arrival_before a l (suc k) = (kth_in l k).arrival

-- transaction k is out of range, or arrives earlier than the one before it, and none before it is or does
pub record Lowest (τ : Table) (a : ℕ) (l : List Transaction) (k : ℕ) : Type 0 where
  pub inside : k < length l
  pub out : fits_after (arrival_before a l k) τ (kth_in l k) ≡ false
  pub lower : (i : ℕ) → i < k → fits_after (arrival_before a l i) τ (kth_in l i) ≡ true

-- "each refusal has its exact cause"
pub record CheckKept (τ : Table) (l : List Transaction) : Type 0 where
  pub fine : (check_list τ l ≡ Ok tt) ↔ (list_fits τ l ≡ true)
  pub refused : (r : Refusal) → check_list τ l ≡ Err r
      → ((r ≡ refusal 3 0 τ.edition) × (256 < length l)) ⊎ ((k : ℕ) × (r ≡ refusal 4 k τ.edition) × Lowest τ 0 l k)

-- the first n of a lent run of records, gathered, are the list's own, and their bytes can be lent on
pub record GatherKept (l : List Transaction) (n : ℕ) : Type 0 where
  pub gathered : n ≤ length l → held n (packed n l) ≡ take n l
  pub lent : n ≤ length l → n ≤ 256 → later_in (take (8 * n) (packed n l)) ≡ take n l

pub record DecodeKept (later : Bool) (τ : Table) (s : List ℕ) (l : List Transaction) : Type 0 where
  -- "one possible result and one possible content of each buffer it was lent, refused or not"
  pub only : (x y : Result (ℕ × ℕ) Refusal) (b d : List Transaction) → Decodes (decoding later τ s l) x b → Decodes (decoding later τ s l) y d → (x ≡ y) × (b ≡ d)
  -- what was decoded, gathered again, is what the bytes hold; it fits the table, and all places beyond are as they stood
  pub done : (e n : ℕ) → (decoding later τ s l).answer ≡ Ok (e, n) → (e ≡ τ.edition) × (n ≡ length (list_of later s))
      × (held n (packed n (decoding later τ s l).list) ≡ list_of later s) × (list_fits τ (list_of later s) ≡ true) × (drop n (decoding later τ s l).list ≡ drop n l)
  pub refused : (r : Refusal) → (decoding later τ s l).answer ≡ Err r → (decoding later τ s l).list ≡ l
