-- The transactions that a run of records holds, of 4 bytes or of 8: how many they are, and which is the k-th.
-- Assumes nothing.
use Prim.Native.Nat.{ℕ, zero, suc, ◌+◌, ◌*◌, ◌/◌, ◌≤◌, ◌<◌}
use native.Mathlib.Omega.{arith}
use native.Mathlib.Numerals.{towards_suc}
use mathlib.Core.Path.{◌≡◌, refl, ap, ◌∙◌}
use mathlib.Core.Bool.{Bool, true, false}
use mathlib.Core.List.{List, [], ◌∷◌}
use lib.ListN.{length, get_or, take, length-take}
use lib.Seq.{get_or-take}
use Rattle.records.specs.declared.transaction.Transaction.{Transaction}
use Rattle.records.specs.Transaction.{transaction_at, transactions_from, later_at, later_bytes, later_from, later_in, arriving, record_count, kth_of, list_of}
use Rattle.records.proofs.Inverse.{le32_of}

-- a list of n that goes on by steps of d from a place, one at each
record Stepped (f : ℕ → ℕ → List Transaction) (g : ℕ → Transaction) (d : ℕ) : Type 0 where
  none : (at : ℕ) → f 0 at ≡ []
  more : (n at : ℕ) → f (suc n) at ≡ g at ∷ f n (at + d)

module _ (f : ℕ → ℕ → List Transaction) (g : ℕ → Transaction) (d : ℕ) (h : Stepped f g d) where
  length_stepped : (n at : ℕ) → length (f n at) ≡ n
  length_stepped zero at = ap length (h.none at)
  length_stepped (suc n) at = ap length (h.more n at) ∙ ap suc (length_stepped n (at + d))

  kth_stepped : (n at k : ℕ) (e : Transaction) → k < n → get_or (f n at) k e ≡ g (at + d * k)
  kth_stepped zero at k e p = absurd (omega arith)
  kth_stepped (suc n) at zero e p = ap (λ (l : List Transaction). get_or l 0 e) (h.more n at) ∙ ap g (omega arith)
  kth_stepped (suc n) at (suc k) e p =
      let past : at + d + d * k ≡ at + d * suc k = omega arith in
      ap (λ (l : List Transaction). get_or l (suc k) e) (h.more n at) ∙ kth_stepped n (at + d) k e (omega arith) ∙ ap g past

module _ (s : List ℕ) where
  transactions_step : Stepped (transactions_from s) (transaction_at s) 4
  unfolding transactions_from
  transactions_step = record { none = λ at. refl; more = λ n at. refl }

  later_step : Stepped (later_from s) (later_at s) 8
  unfolding later_from
  later_step = record { none = λ at. refl; more = λ n at. refl }

  pub length_list : (later : Bool) → length (list_of later s) ≡ record_count later (length s)
  length_list true = length_stepped (later_from s) (later_at s) 8 later_step (length s / 8) 0
  length_list false = length_stepped (transactions_from s) (transaction_at s) 4 transactions_step (length s / 4) 0

  pub kth_list : (later : Bool) (k : ℕ) (e : Transaction) → k < record_count later (length s) → get_or (list_of later s) k e ≡ kth_of later s k
  kth_list true k e p = kth_stepped (later_from s) (later_at s) 8 later_step (length s / 8) 0 k e p ∙ ap (later_at s) (omega arith)
  kth_list false k e p = kth_stepped (transactions_from s) (transaction_at s) 4 transactions_step (length s / 4) 0 k e p ∙ ap (transaction_at s) (omega arith)

-- bytes that are the same where they are read
pub later_same : (s r : List ℕ) (n at : ℕ) → ((i : ℕ) → i < at + 8 * n → get_or s i 0 ≡ get_or r i 0) → later_from s n at ≡ later_from r n at
unfolding later_from
later_same s r zero at h = refl
later_same s r (suc n) at h =
    rw (h at (omega arith), h (at + 1) (omega arith), h (at + 2) (omega arith), h (at + 3) (omega arith), h (at + 4) (omega arith), h (at + 4 + 1) (omega arith), h (at + 4 + 2) (omega arith), h (at + 4 + 3) (omega arith), later_same s r n (at + 8) (λ i l. h i (omega arith)))

-- the first n records, lent alone
pub later_take : (s : List ℕ) (n : ℕ) → 8 * n ≤ length s → later_in (take (8 * n) s) ≡ later_from s n 0
later_take s n h =
    let size : length (take (8 * n) s) / 8 ≡ n = omega (arith, length-take (8 * n) s) in
    ap (λ (m : ℕ). later_from (take (8 * n) s) m 0) size ∙ later_same (take (8 * n) s) s n 0 (λ i l. get_or-take (8 * n) s i 0 (omega arith))

-- eight bytes in front are passed over, or read
pub past_record : (a b c d p q r t : ℕ) (s : List ℕ) (n at : ℕ) → later_from (a ∷ b ∷ c ∷ d ∷ p ∷ q ∷ r ∷ t ∷ s) n (at + 8) ≡ later_from s n at
unfolding later_from
past_record a b c d p q r t s zero at = refl
past_record a b c d p q r t s (suc n) at = rw (past_record a b c d p q r t s n (at + 8)) (simp towards_suc)

pub first_record : (x : Transaction) → later_at (later_bytes x) 0 ≡ x
first_record x = ap (arriving x) (le32_of x.arrival)
