-- The check of a list names the table's edition where it refuses.
-- Assumes nothing.
use Rattle.std.specs.Prelude.{Result, Err}
use Prim.Native.Nat.{ℕ, ◌+◌}
use mathlib.Core.Bool.{Bool, true, false}
use mathlib.Core.Path.{◌≡◌, sym, ap}
use mathlib.Core.List.{List, [], ◌∷◌}
use native.Mathlib.Omega.{arith}
use lib.Dec.{leb}
use lib.ListN.{length}
use Rattle.records.specs.declared.table.Table.{Table}
use Rattle.records.specs.declared.transaction.Transaction.{Transaction}
use Rattle.records.specs.declared.refusal.Refusal.{Refusal}
use Rattle.records.specs.Tests.{pick}
use Rattle.records.specs.Told.{refusal}
use Rattle.records.specs.Transaction.{list_of, fits_after}
use Rattle.lists.specs.Check.{range_from, check_sized, check_list, check_bytes, check_into}
use Rattle.demands.specs.Causes.{few_bytes, few_into}

-- the check of the list names the table's edition where it refuses
abbrev pub NamesIts : (Table → Result Unit Refusal) → Type 0
NamesIts check = (τ : Table) (x : Refusal) → check τ ≡ Err x → x.edition ≡ τ.edition

module _ (τ : Table) (x : Refusal) where
  range_names : (a : ℕ) (l : List Transaction) (k : ℕ) → range_from τ a l k ≡ Err x → x.edition ≡ τ.edition
  unfolding range_from
  range_names a [] k e = let z : ◌≡◌ {A = ℕ} 0 1 = cc in absurd (omega arith)
  range_names a (t ∷ l) k e = on (fits_after a τ t) e (range_names t.arrival l (k + 1))
    where
      on : (b : Bool) → pick b (range_from τ t.arrival l (k + 1)) (Err (refusal 4 k τ.edition)) ≡ Err x
          → (range_from τ t.arrival l (k + 1) ≡ Err x → x.edition ≡ τ.edition) → x.edition ≡ τ.edition
      on true e ih = ih e
      on false e ih = let w : refusal 4 k τ.edition ≡ x = cc in ap (λ (y : Refusal). y.edition) (sym w)

  sized_names : (b : Bool) (l : List Transaction) → check_sized τ b l ≡ Err x → x.edition ≡ τ.edition
  sized_names true l e = range_names 0 l 0 e
  sized_names false l e = let w : refusal 3 0 τ.edition ≡ x = cc in ap (λ (y : Refusal). y.edition) (sym w)

  pub list_names : (l : List Transaction) → check_list τ l ≡ Err x → x.edition ≡ τ.edition
  unfolding check_list
  list_names l e = sized_names (leb (length l) 256) l e

  pub bytes_names : (later : Bool) (s : List ℕ) → check_bytes later τ s ≡ Err x → x.edition ≡ τ.edition
  unfolding check_bytes
  bytes_names later s e = sized_names (few_bytes later s) (list_of later s) e

  pub into_names : (later : Bool) (s : List ℕ) (places : ℕ) → check_into later τ s places ≡ Err x → x.edition ≡ τ.edition
  unfolding check_into
  into_names later s places e = sized_names (few_into later s places) (list_of later s) e
