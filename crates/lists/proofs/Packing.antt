-- Laws of packed bytes: what they hold, and that bytes put together one by one are the list packed.
-- Assumes nothing.
use Prim.Native.Nat.{ℕ, ◌+◌, ◌*◌, ◌≤◌, ◌<◌}
use mathlib.Core.Bool.{true, false}
use mathlib.Core.Path.{◌≡◌, refl, sym, ap, ◌∙◌}
use mathlib.Core.List.{List, [], ◌∷◌, ◌++◌}
use native.Mathlib.Omega.{arith}
use native.Mathlib.Numerals.{add-one, towards_suc}
use lib.ListN.{length, set, get_or, take, drop, replicate, length-take, length-replicate, length-set}
use lib.Seq.{take_all, take-suc, sets}
use Rattle.records.specs.declared.table.Table.{Table}
use Rattle.records.specs.declared.transaction.Transaction.{Transaction}
use Rattle.records.specs.Told.{over, put_at}
use Rattle.records.specs.Little.{bytes32, put32}
use Rattle.records.specs.Transaction.{arriving, transaction_at, transactions_in, later_bytes, later_from, later_in, record_count}
use Rattle.records.proofs.Bytes.{put_sets, over_more, length_over}
use Rattle.records.proofs.Listed.{length_list, kth_list, later_take, past_record, first_record}
use Rattle.lists.specs.Check.{check_list, check_bytes}
use Rattle.lists.specs.Packed.{records_of, packed, held, no_transaction}
use Rattle.lists.proofs.Checks.{bytes_list}

-- a record's bytes stored one after the other
pub put_eight : (s : List ℕ) (at a b c d x : ℕ) → at + 8 ≤ length s
    → put32 (set (set (set (set s at a) (at + 1) b) (at + 2) c) (at + 3) d) (at + 4) x ≡ put_at s at (a ∷ b ∷ c ∷ d ∷ bytes32 x)
put_eight s at a b c d x h = as_sets ∙ put_sets (a ∷ b ∷ c ∷ d ∷ bytes32 x) s at h
  where
    as_sets : put32 (set (set (set (set s at a) (at + 1) b) (at + 2) c) (at + 3) d) (at + 4) x ≡ sets s at (a ∷ b ∷ c ∷ d ∷ bytes32 x)
    as_sets = simp towards_suc

pub length_eight : (s w : List ℕ) (at a b c d x : ℕ) → w ≡ put32 (set (set (set (set s at a) (at + 1) b) (at + 2) c) (at + 3) d) (at + 4) x → length w ≡ length s
length_eight s w at a b c d x e =
    let same : length (put32 (set (set (set (set s at a) (at + 1) b) (at + 2) c) (at + 3) d) (at + 4) x) ≡ length s = simp length-set in
    ap length e ∙ same

-- ---- the records of a list

-- those that were written are read
from_records : (l : List Transaction) (r : List ℕ) → later_from (records_of true l ++ r) (length l) 0 ≡ l
unfolding later_from
from_records [] r = refl
from_records (x ∷ l) r =
    ap (λ (y : Transaction). y ∷ later_from (records_of true (x ∷ l) ++ r) (length l) 8) (first_record x)
    ∙ ap (λ (k : List Transaction). x ∷ k) (past_record _ _ _ _ _ _ _ _ (records_of true l ++ r) (length l) 0 ∙ from_records l r)

length_records : (l : List Transaction) → length (records_of true l) ≡ 8 * length l
length_records [] = refl
length_records (x ∷ l) = omega (arith, length_records l)

records_snoc : (l : List Transaction) (x : Transaction) → records_of true (l ++ (x ∷ [])) ≡ records_of true l ++ later_bytes x
records_snoc [] x = refl
records_snoc (y ∷ l) x = ap (λ (s : List ℕ). later_bytes y ++ s) (records_snoc l x)

-- ---- a list, packed one by one

abbrev zeros : List ℕ
zeros = replicate 2048 0

module _ (l : List Transaction) where
  pub packed_none : zeros ≡ packed 0 l
  unfolding packed
  packed_none = refl

  size_records : (n : ℕ) → n ≤ length l → length (records_of true (take n l)) ≡ 8 * n
  size_records n h = omega (arith, length_records (take n l), length-take n l)

  pub packed_more : (n : ℕ) → n < length l → put_at (packed n l) (8 * n) (later_bytes (get_or l n no_transaction)) ≡ packed (n + 1) l
  unfolding packed
  packed_more n h =
      ap (λ (at : ℕ). put_at (over (records_of true (take n l)) zeros) at (later_bytes x)) (sym (size_records n (omega arith)))
      ∙ over_more (records_of true (take n l)) (later_bytes x) zeros
      ∙ ap (λ (s : List ℕ). over s zeros) (sym (records_snoc (take n l) x))
      ∙ ap (λ (k : List Transaction). over (records_of true k) zeros) (sym (take-suc l n no_transaction h))
      ∙ ap (λ (m : ℕ). over (records_of true (take m l)) zeros) (sym (add-one n))
    where
      x : Transaction
      x = get_or l n no_transaction

  pub length_packed : (n : ℕ) → n ≤ 256 → length (packed n l) ≡ 2048
  unfolding packed
  length_packed n h =
      length_over (records_of true (take n l)) zeros (omega (arith, length_records (take n l), length-take n l, length-replicate {A = ℕ} 2048 0))
      ∙ length-replicate {A = ℕ} 2048 0

  -- the first n, packed, are held
  pub held_packed : (n : ℕ) → n ≤ length l → held n (packed n l) ≡ take n l
  unfolding held packed
  held_packed n h =
      let size : n ≡ length (take n l) = omega (arith, length-take n l) in
      ap (λ (m : ℕ). later_from (over (records_of true (take n l)) zeros) m 0) size
      ∙ from_records (take n l) (drop (length (records_of true (take n l))) zeros)

  pub held_whole : held (length l) (packed (length l) l) ≡ l
  held_whole = held_packed (length l) (omega arith) ∙ take_all (length l) l (omega arith)

-- ---- the bytes lent on: those of the n records

module _ (n : ℕ) (s : List ℕ) (within : 8 * n ≤ length s) where
  pub lent_held : later_in (take (8 * n) s) ≡ held n s
  unfolding held
  lent_held = later_take s n within

  pub lent_check : (τ : Table) → check_bytes true τ (take (8 * n) s) ≡ check_list τ (held n s)
  lent_check τ = bytes_list true τ (take (8 * n) s) (omega (arith, length-take (8 * n) s)) ∙ ap (check_list τ) lent_held

-- ---- records of 4 bytes, widened

module _ (s : List ℕ) where
  -- one more
  pub widened_more : (k : ℕ) (x : Transaction) → 4 * k + 4 ≤ length s → x ≡ transaction_at s (4 * k)
      → put_at (packed k (transactions_in s)) (8 * k) (later_bytes (arriving x 0)) ≡ packed (k + 1) (transactions_in s)
  widened_more k x h e =
      let here : k < record_count false (length s) = omega arith in
      ap (λ (y : Transaction). put_at (packed k (transactions_in s)) (8 * k) (later_bytes (arriving y 0))) e
      ∙ ap (λ (y : Transaction). put_at (packed k (transactions_in s)) (8 * k) (later_bytes y)) (sym (kth_list s false k no_transaction here))
      ∙ packed_more (transactions_in s) k (omega (arith, here, length_list s false))

  -- they hold the list of the 4-byte records
  pub widened : held (record_count false (length s)) (packed (record_count false (length s)) (transactions_in s)) ≡ transactions_in s
  widened = ap (λ (n : ℕ). held n (packed n (transactions_in s))) (sym (length_list s false)) ∙ held_whole (transactions_in s)
