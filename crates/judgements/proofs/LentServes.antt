-- Gathered, a lent run of records is served by a schedule just where the run itself is.
-- Assumes nothing.
use Rattle.std.specs.Prelude.{Result, Ok, Err}
use Rattle.records.specs.declared.refusal.Refusal.{Refusal}
use Rattle.serves.specs.declared.answer.Served.{Served}
use Prim.Native.Nat.{ℕ}
use mathlib.Core.Bool.{Bool, true, false}
use mathlib.Core.Path.{◌≡◌, refl, subst}
use mathlib.Core.List.{List}
use lib.Dec.{leb}
use lib.ListN.{length}
use Rattle.records.specs.declared.table.Table.{Table}
use Rattle.records.specs.declared.transaction.Transaction.{Transaction}
use Rattle.lists.specs.Check.{check_list}
use Rattle.lists.specs.Packed.{held, packed}
use Rattle.lists.proofs.Packing.{held_whole}
use Rattle.admission.specs.declared.admit.WayIn.{WayIn}
use Rattle.admission.specs.Admit.{way_in}
use Rattle.service.specs.Serving.{ServesChecked, Serving}
use Rattle.lending.proofs.Lent.{over, by}

module _ (l : List Transaction) (s : List ℕ) (r : Result (ℕ × Served) Refusal) where
  abbrev Told : WayIn → List ℕ → Type 0
  Told w p = Serving (λ τ. check_list τ (held w.n p)) w.table (held w.n p) s r

  served : (a : Result Table Refusal) → Told (way_in (length l) a) (packed (way_in (length l) a).n l) → Serving (λ τ. check_list τ l) a l s r
  unfolding Serving ServesChecked
  served (Ok τ) = on (leb (length l) 256) refl
    where
      on : (y : Bool) → leb (length l) 256 ≡ y → Told (by l y τ) (packed (by l y τ).n l) → ServesChecked (check_list τ l) τ l s r
      on true t h = subst (λ (m : List Transaction). ServesChecked (check_list τ m) τ m s r) (held_whole l) h
      on false t h = subst (λ (d : Result Unit Refusal). ServesChecked d τ l s r) (over l τ t) h
  served (Err x) = λ h. h

  pub serves_lent_lem : (a : Result Table Refusal) (w : WayIn) → w ≡ way_in (length l) a → (p : List ℕ) → p ≡ packed w.n l → Told w p → Serving (λ τ. check_list τ l) a l s r
  serves_lent_lem a w e p k h = served a (subst (λ (z : WayIn). Told z (packed z.n l)) e (subst (λ (z : List ℕ). Told w z) k h))
