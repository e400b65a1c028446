-- Whether a schedule serves a list, by what `admit` answered: a, of the expected edition w and the table's bytes s; and by what the checks find.
-- Assumes nothing.
use Rattle.std.specs.Prelude.{Result, Ok, Err}
use Rattle.serves.specs.declared.answer.Served.{Served}
use Prim.Native.Nat.{ℕ, ◌*◌, ◌≤◌}
use mathlib.Core.Bool.{Bool, true}
use mathlib.Core.Path.{◌≡◌, refl, sym, subst}
use mathlib.Core.List.{List}
use lib.ListN.{length, take}
use Rattle.records.specs.declared.table.Table.{Table}
use Rattle.records.specs.declared.transaction.Transaction.{Transaction}
use Rattle.records.specs.declared.refusal.Refusal.{Refusal}
use Rattle.records.specs.Transaction.{later_in}
use Rattle.lists.specs.Check.{check_list, check_bytes}
use Rattle.lists.specs.Packed.{held}
use Rattle.lists.proofs.Packing.{lent_held, lent_check}
use Rattle.serves.specs.Answer.{ServesAnswers}
use Rattle.admission.specs.Admit.{admitted}
use Rattle.admission.proofs.Laws.{by_admitted, by_checked}
use Rattle.service.specs.Serving.{ServesChecked, Serving}

-- two checks that find the same, of the same list
pub serving_same : (f g : Table → Result Unit Refusal) (a : Result Table Refusal) (l m : List Transaction) (s : List ℕ) (r : Result (ℕ × Served) Refusal) → ((τ : Table) → f τ ≡ g τ) → l ≡ m
    → Serving f a l s r → Serving g a m s r
unfolding Serving
serving_same f g (Ok τ) l m s r e k h =
    subst (λ (z : List Transaction). ServesChecked (g τ) τ z s r) k (subst (λ (d : Result Unit Refusal). ServesChecked d τ l s r) (e τ) h)
serving_same f g (Err x) l m s r e k h = h

module _ (w : ℕ) (s : List ℕ) (a : Result Table Refusal) (e : a ≡ admitted w s) where
  module _ (τ : Table) (t : a ≡ Ok τ) where
    pub serves_read : (check : Table → Result Unit Refusal) (l : List Transaction) (b : List ℕ) (r : Result (ℕ × Served) Refusal) → ServesChecked (check τ) τ l b r → Serving check (admitted w s) l b r
    unfolding Serving
    serves_read check l b r h = by_admitted (λ (z : Result Table Refusal). Serving check z l b r) w s a (Ok τ) e t h

  module _ (x : Refusal) (t : a ≡ Err x) where
    pub serves_refused : (check : Table → Result Unit Refusal) (l : List Transaction) (b : List ℕ) → Serving check (admitted w s) l b (Err x)
    unfolding Serving
    serves_refused check l b = by_admitted (λ (z : Result Table Refusal). Serving check z l b (Err x)) w s a (Err x) e t refl

-- by what `check_bytes` answered: d, of the list's bytes s
module _ (τ : Table) (later : Bool) (s : List ℕ) (d : Result Unit Refusal) (e : d ≡ check_bytes later τ s) where
  pub serves_fine : d ≡ Ok tt → (l : List Transaction) (b : List ℕ) (r : Result (ℕ × Served) Refusal) → ServesAnswers τ l b r → ServesChecked (check_bytes later τ s) τ l b r
  unfolding ServesChecked
  serves_fine t l b r h = by_checked (λ (z : Result Unit Refusal). ServesChecked z τ l b r) τ later s d (Ok tt) e t h

  pub serves_unfit : (x : Refusal) → d ≡ Err x → (l : List Transaction) (b : List ℕ) → ServesChecked (check_bytes later τ s) τ l b (Err x)
  unfolding ServesChecked
  serves_unfit x t l b = by_checked (λ (z : Result Unit Refusal). ServesChecked z τ l b (Err x)) τ later s d (Err x) e t refl

-- by what the way in found: a, of the n records that the bytes s hold, which are lent on
module _ (n : ℕ) (s : List ℕ) (inside : 8 * n ≤ length s) (a : Result Table Refusal) where
  module _ (τ : Table) (t : a ≡ Ok τ) where
    pub held_serves : (b : List ℕ) (r : Result (ℕ × Served) Refusal) → ServesChecked (check_bytes true τ (take (8 * n) s)) τ (later_in (take (8 * n) s)) b r
        → Serving (λ τ. check_list τ (held n s)) a (held n s) b r
    unfolding Serving
    held_serves b r h =
        serving_same (λ τ. check_bytes true τ (take (8 * n) s)) (λ τ. check_list τ (held n s)) a (later_in (take (8 * n) s)) (held n s) b r (lent_check n s inside) (lent_held n s inside)
        (subst (λ (z : Result Table Refusal). Serving (λ τ. check_bytes true τ (take (8 * n) s)) z (later_in (take (8 * n) s)) b r) (sym t) h)

-- and where it refused
module _ (check : Table → Result Unit Refusal) (a : Result Table Refusal) (x : Refusal) (t : a ≡ Err x) (l : List Transaction) where
  pub held_not_told : (b : List ℕ) → Serving check a l b (Err x)
  unfolding Serving
  held_not_told b = subst (λ (z : Result Table Refusal). Serving check z l b (Err x)) (sym t) refl
