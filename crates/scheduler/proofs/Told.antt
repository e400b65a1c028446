-- A schedule, by what `admit` answered: a, of the expected edition w and the table's bytes s; and by what the checks find.
-- Assumes nothing.
use Rattle.std.specs.Prelude.{Result, Ok, Err}
use Prim.Native.Nat.{ℕ, ◌*◌, ◌≤◌}
use mathlib.Core.Bool.{Bool, true}
use mathlib.Core.Path.{◌≡◌, refl, sym, subst}
use mathlib.Core.List.{List}
use lib.ListN.{length, take}
use Rattle.records.specs.declared.table.Table.{Table}
use Rattle.records.specs.declared.transaction.Transaction.{Transaction}
use Rattle.records.specs.declared.refusal.Refusal.{Refusal}
use Rattle.records.specs.Transaction.{later_in}
use Rattle.lists.specs.Check.{check_list, check_bytes}
use Rattle.lists.specs.Packed.{held}
use Rattle.lists.proofs.Packing.{lent_held, lent_check}
use Rattle.builder.specs.Build.{LeavesBuild}
use Rattle.admission.specs.Admit.{admitted}
use Rattle.admission.proofs.Laws.{by_admitted, by_checked}
use Rattle.scheduler.specs.Schedules.{BuildsChecked, Schedules}

-- two checks that find the same, of the same list
pub schedules_same : (f g : Table → Result Unit Refusal) (a : Result Table Refusal) (l m : List Transaction) (b₀ b f₀ f₁ : List ℕ) (r : Result (ℕ × ℕ) Refusal) → ((τ : Table) → f τ ≡ g τ) → l ≡ m
    → Schedules f a l b₀ b f₀ f₁ r → Schedules g a m b₀ b f₀ f₁ r
unfolding Schedules
schedules_same f g (Ok τ) l m b₀ b f₀ f₁ r e s h =
    subst (λ (k : List Transaction). BuildsChecked (g τ) τ k b₀ b f₀ f₁ r) s (subst (λ (d : Result Unit Refusal). BuildsChecked d τ l b₀ b f₀ f₁ r) (e τ) h)
schedules_same f g (Err x) l m b₀ b f₀ f₁ r e s h = h

module _ (w : ℕ) (s : List ℕ) (a : Result Table Refusal) (e : a ≡ admitted w s) where
  module _ (τ : Table) (t : a ≡ Ok τ) where
    pub schedule_read : (check : Table → Result Unit Refusal) (l : List Transaction) (b₀ b f₀ f : List ℕ) (r : Result (ℕ × ℕ) Refusal) → BuildsChecked (check τ) τ l b₀ b f₀ f r
        → Schedules check (admitted w s) l b₀ b f₀ f r
    unfolding Schedules
    schedule_read check l b₀ b f₀ f r h = by_admitted (λ (z : Result Table Refusal). Schedules check z l b₀ b f₀ f r) w s a (Ok τ) e t h

  module _ (x : Refusal) (t : a ≡ Err x) where
    pub schedule_refused : (check : Table → Result Unit Refusal) (l : List Transaction) (b f : List ℕ) → Schedules check (admitted w s) l b b f f (Err x)
    unfolding Schedules
    schedule_refused check l b f = by_admitted (λ (z : Result Table Refusal). Schedules check z l b b f f (Err x)) w s a (Err x) e t (refl, refl, refl)

-- by what `check_bytes` answered: d, of the list's bytes s
module _ (τ : Table) (later : Bool) (s : List ℕ) (d : Result Unit Refusal) (e : d ≡ check_bytes later τ s) where
  pub build_fine : d ≡ Ok tt → (l : List Transaction) (b₀ b f₀ f : List ℕ) (r : Result (ℕ × ℕ) Refusal) → LeavesBuild τ l b₀ b f₀ f r → BuildsChecked (check_bytes later τ s) τ l b₀ b f₀ f r
  unfolding BuildsChecked
  build_fine t l b₀ b f₀ f r h = by_checked (λ (z : Result Unit Refusal). BuildsChecked z τ l b₀ b f₀ f r) τ later s d (Ok tt) e t h

  pub build_refused : (x : Refusal) → d ≡ Err x → (l : List Transaction) (b f : List ℕ) → BuildsChecked (check_bytes later τ s) τ l b b f f (Err x)
  unfolding BuildsChecked
  build_refused x t l b f = by_checked (λ (z : Result Unit Refusal). BuildsChecked z τ l b b f f (Err x)) τ later s d (Err x) e t (refl, refl, refl)

-- by what the way in found: a, of the n records that the bytes s hold, which are lent on
module _ (n : ℕ) (s : List ℕ) (inside : 8 * n ≤ length s) (a : Result Table Refusal) where
  module _ (τ : Table) (t : a ≡ Ok τ) where
    pub held_built : (b₀ b f₀ f : List ℕ) (r : Result (ℕ × ℕ) Refusal) → BuildsChecked (check_bytes true τ (take (8 * n) s)) τ (later_in (take (8 * n) s)) b₀ b f₀ f r
        → Schedules (λ τ. check_list τ (held n s)) a (held n s) b₀ b f₀ f r
    unfolding Schedules
    held_built b₀ b f₀ f r h =
        schedules_same (λ τ. check_bytes true τ (take (8 * n) s)) (λ τ. check_list τ (held n s)) a (later_in (take (8 * n) s)) (held n s) b₀ b f₀ f r (lent_check n s inside) (lent_held n s inside)
        (subst (λ (z : Result Table Refusal). Schedules (λ τ. check_bytes true τ (take (8 * n) s)) z (later_in (take (8 * n) s)) b₀ b f₀ f r) (sym t) h)

-- and where it refused
module _ (check : Table → Result Unit Refusal) (a : Result Table Refusal) (x : Refusal) (t : a ≡ Err x) (l : List Transaction) where
  pub held_not_built : (b f : List ℕ) → Schedules check a l b b f f (Err x)
  unfolding Schedules
  held_not_built b f = subst (λ (z : Result Table Refusal). Schedules check z l b b f f (Err x)) (sym t) (refl, refl, refl)
