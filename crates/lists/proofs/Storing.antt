-- Laws of decoding: transactions stored one after the other, and that what is planned is what document 01 asks for.
-- Assumes nothing.
use Rattle.std.specs.Prelude.{Result, Ok, Err}
use Rattle.records.specs.declared.refusal.Refusal.{Refusal}
use Prim.Native.Nat.{ℕ, suc, ◌+◌, ◌≤◌, ◌<◌}
use mathlib.Core.Bool.{Bool}
use mathlib.Core.Path.{◌≡◌, refl, sym, ap, ◌∙◌}
use mathlib.Core.List.{List, ◌++◌}
use native.Mathlib.Omega.{arith}
use native.Mathlib.Numerals.{add-one}
use lib.ListN.{length, get_or, set, take, drop, length-append, length-drop, length-take}
use lib.Seq.{length-take-le, take-suc, drop-cons, set_at, append_snoc}
use Rattle.records.specs.declared.table.Table.{Table}
use Rattle.records.specs.declared.transaction.Transaction.{Transaction}
use Rattle.records.specs.Transaction.{record_count, kth_of, list_of}
use Rattle.records.proofs.Listed.{length_list, kth_list}
use Rattle.lists.specs.declared.decode.Plan.{Plan}
use Rattle.lists.specs.Check.{check_into}
use Rattle.lists.specs.Packed.{no_transaction}
use Rattle.lists.specs.Decode.{stored, decoded_by, decoding, plan_by, plan}
use Rattle.lists.proofs.Checks.{Sized, fine_sized}

module _ (xs l : List Transaction) where
  pub length_stored : (k : ℕ) → k ≤ length xs → k ≤ length l → length (stored xs k l) ≡ length l
  length_stored k p q = omega (arith, length-append (take k xs) (drop k l), length-take k xs, length-drop k l)

  pub stored_none : l ≡ stored xs 0 l
  stored_none = refl

  stored_next : (k : ℕ) → k < length xs → k < length l → set (stored xs k l) k (get_or xs k no_transaction) ≡ stored xs (k + 1) l
  stored_next k p q =
      ap (λ (r : List Transaction). set (take k xs ++ r) k x) (drop-cons l k no_transaction q)
      ∙ set_at (take k xs) (get_or l k no_transaction) (drop (suc k) l) x k (length-take-le k xs (omega arith))
      ∙ sym (append_snoc (take k xs) x (drop (suc k) l))
      ∙ ap (λ (r : List Transaction). r ++ drop (suc k) l) (sym (take-suc xs k no_transaction p))
      ∙ ap (λ (n : ℕ). stored xs n l) (sym (add-one k))
    where
      x : Transaction
      x = get_or xs k no_transaction

-- the k-th of the bytes is stored
pub stored_more : (later : Bool) (s : List ℕ) (l : List Transaction) (k : ℕ) → k < record_count later (length s) → k < length l
    → set (stored (list_of later s) k l) k (kth_of later s k) ≡ stored (list_of later s) (k + 1) l
stored_more later s l k p q =
    ap (set (stored (list_of later s) k l) k) (sym (kth_list s later k no_transaction p))
    ∙ stored_next (list_of later s) l k (omega (arith, p, length_list s later)) q

-- ---- what is planned

module _ (later : Bool) (τ : Table) (s : List ℕ) where
  -- there are bytes, and places, for what is stored
  pub plan_room : (places : ℕ) → ((plan later τ s places).n ≤ record_count later (length s)) × ((plan later τ s places).n ≤ places)
  unfolding plan
  plan_room places = on (check_into later τ s places) (fine_sized later τ s places)
    where
      on : (c : Result Unit Refusal) → (c ≡ Ok tt → Sized later (length s) places) → ((plan_by c later τ s).n ≤ record_count later (length s)) × ((plan_by c later τ s).n ≤ places)
      on (Ok _) z = (omega arith, (z refl).room)
      on (Err r) z = (omega arith, omega arith)

  -- the plan of bytes with nothing to refuse, which hold n
  pub plan_fine : (places n : ℕ) → n ≡ record_count later (length s) → check_into later τ s places ≡ Ok tt → record { n = n; answer = Ok (τ.edition, n) } ≡ plan later τ s places
  unfolding plan
  plan_fine places n e h = ap made e ∙ ap (λ (c : Result Unit Refusal). plan_by c later τ s) (sym h)
    where
      made : ℕ → Plan
      made m = record { n = m; answer = Ok (τ.edition, m) }

  pub plan_decodes : (l : List Transaction)
      → ((plan later τ s (length l)).answer ≡ (decoding later τ s l).answer) × (stored (list_of later s) (plan later τ s (length l)).n l ≡ (decoding later τ s l).list)
  unfolding plan decoding
  plan_decodes l = on (check_into later τ s (length l))
    where
      on : (c : Result Unit Refusal) → ((plan_by c later τ s).answer ≡ (decoded_by c later τ s l).answer) × (stored (list_of later s) (plan_by c later τ s).n l ≡ (decoded_by c later τ s l).list)
      on (Ok _) = (refl, refl)
      on (Err r) = (refl, refl)
