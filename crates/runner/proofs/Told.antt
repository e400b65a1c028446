-- A run, by what `admit` answered: a, of the expected edition w and the table's bytes s; and by what the checks find.
-- Assumes nothing.
use Rattle.std.specs.Prelude.{Result, Ok, Err}
use Prim.Native.Nat.{ℕ, ◌*◌, ◌≤◌}
use mathlib.Core.Bool.{Bool, true}
use mathlib.Core.Path.{◌≡◌, refl, sym, ap, ◌∙◌, subst}
use mathlib.Core.List.{List}
use lib.ListN.{length, take}
use Rattle.records.specs.declared.table.Table.{Table}
use Rattle.records.specs.declared.transaction.Transaction.{Transaction}
use Rattle.records.specs.declared.refusal.Refusal.{Refusal}
use Rattle.records.specs.Transaction.{later_in}
use Rattle.lists.specs.Check.{check_list, check_bytes}
use Rattle.lists.specs.Packed.{held}
use Rattle.lists.proofs.Packing.{lent_held, lent_check}
use Rattle.controller.specs.declared.controller.Controller.{Controller}
use Rattle.controller.specs.declared.run.RunTold.{RunTold}
use Rattle.controller.specs.Run.{RunLeft, run_controller, LeavesRun}
use Rattle.admission.specs.Admit.{admitted}
use Rattle.admission.proofs.Laws.{by_admitted, by_checked}
use Rattle.runner.specs.Running.{runs_checked, running}

-- two checks that find the same, of the same list
pub running_same : (f g : Table → Result Unit Refusal) (a : Result Table Refusal) (c : Controller) (l m : List Transaction) (count : ℕ) (b : List ℕ) → ((τ : Table) → f τ ≡ g τ) → l ≡ m
    → running f a c l count b ≡ running g a c m count b
unfolding running
running_same f g (Ok τ) c l m count b e s =
    ap (λ (d : Result Unit Refusal). runs_checked d c τ l count b) (e τ) ∙ ap (λ (k : List Transaction). runs_checked (g τ) c τ k count b) s
running_same f g (Err x) c l m count b e s = refl

module _ (w : ℕ) (s : List ℕ) (a : Result Table Refusal) (e : a ≡ admitted w s) where
  module _ (τ : Table) (t : a ≡ Ok τ) where
    pub run_read : (check : Table → Result Unit Refusal) (c : Controller) (l : List Transaction) (count : ℕ) (b₀ b : List ℕ) (r : RunTold)
        → LeavesRun (runs_checked (check τ) c τ l count b₀) r b → LeavesRun (running check (admitted w s) c l count b₀) r b
    unfolding running
    run_read check c l count b₀ b r h = by_admitted (λ (z : Result Table Refusal). LeavesRun (running check z c l count b₀) r b) w s a (Ok τ) e t h

  module _ (x : Refusal) (t : a ≡ Err x) where
    pub run_refused : (check : Table → Result Unit Refusal) (c : Controller) (l : List Transaction) (count : ℕ) (b : List ℕ)
        → LeavesRun (running check (admitted w s) c l count b) (record { controller = c; answer = Err x }) b
    unfolding running
    run_refused check c l count b =
        by_admitted (λ (z : Result Table Refusal). LeavesRun (running check z c l count b) (record { controller = c; answer = Err x }) b) w s a (Err x) e t (refl, refl)

-- two names of one list
pub same_ran : (c : Controller) (τ : Table) (l m : List Transaction) → l ≡ m → (count : ℕ) (b₀ b : List ℕ) (r : RunTold)
    → LeavesRun (run_controller c τ l count b₀) r b → LeavesRun (run_controller c τ m count b₀) r b
same_ran c τ l m e count b₀ b r h = subst (λ (k : List Transaction). LeavesRun (run_controller c τ k count b₀) r b) e h

-- by what `check_bytes` answered: d, of the list's bytes s
module _ (τ : Table) (later : Bool) (s : List ℕ) (d : Result Unit Refusal) (e : d ≡ check_bytes later τ s) where
  pub ran_fine : d ≡ Ok tt → (c : Controller) (l : List Transaction) (count : ℕ) (b₀ b : List ℕ) (r : RunTold)
      → LeavesRun (run_controller c τ l count b₀) r b → LeavesRun (runs_checked (check_bytes later τ s) c τ l count b₀) r b
  unfolding runs_checked
  ran_fine t c l count b₀ b r h = by_checked (λ (z : Result Unit Refusal). LeavesRun (runs_checked z c τ l count b₀) r b) τ later s d (Ok tt) e t h

  pub ran_refused : (x : Refusal) → d ≡ Err x → (c : Controller) (l : List Transaction) (count : ℕ) (b : List ℕ)
      → LeavesRun (runs_checked (check_bytes later τ s) c τ l count b) (record { controller = c; answer = Err x }) b
  unfolding runs_checked
  ran_refused x t c l count b =
      by_checked (λ (z : Result Unit Refusal). LeavesRun (runs_checked z c τ l count b) (record { controller = c; answer = Err x }) b) τ later s d (Err x) e t (refl, refl)

-- by what the way in found: a, of the n records that the bytes s hold, which are lent on
module _ (n : ℕ) (s : List ℕ) (inside : 8 * n ≤ length s) (a : Result Table Refusal) where
  module _ (τ : Table) (t : a ≡ Ok τ) where
    pub held_ran : (c : Controller) (count : ℕ) (b₀ b : List ℕ) (r : RunTold) → LeavesRun (runs_checked (check_bytes true τ (take (8 * n) s)) c τ (later_in (take (8 * n) s)) count b₀) r b
        → LeavesRun (running (λ τ. check_list τ (held n s)) a c (held n s) count b₀) r b
    unfolding running
    held_ran c count b₀ b r h =
        subst (λ (w : RunLeft). LeavesRun w r b)
        (running_same (λ τ. check_bytes true τ (take (8 * n) s)) (λ τ. check_list τ (held n s)) a c (later_in (take (8 * n) s)) (held n s) count b₀ (lent_check n s inside) (lent_held n s inside))
        (subst (λ (z : Result Table Refusal). LeavesRun (running (λ τ. check_bytes true τ (take (8 * n) s)) z c (later_in (take (8 * n) s)) count b₀) r b) (sym t) h)

-- and where it refused
module _ (check : Table → Result Unit Refusal) (a : Result Table Refusal) (x : Refusal) (t : a ≡ Err x) (l : List Transaction) where
  pub held_not_run : (c : Controller) (count : ℕ) (b : List ℕ) → LeavesRun (running check a c l count b) (record { controller = c; answer = Err x }) b
  unfolding running
  held_not_run c count b = subst (λ (z : Result Table Refusal). LeavesRun (running check z c l count b) (record { controller = c; answer = Err x }) b) (sym t) (refl, refl)
