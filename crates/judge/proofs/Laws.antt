-- What the proofs of the judges cite.
-- Assumes nothing.
use Prim.Native.Nat.{ℕ, ◌/◌, ◌%◌, ◌≤◌}
use native.Mathlib.Omega.{arith}
use mathlib.Core.Path.{◌≡◌, refl}
use mathlib.Core.Bool.{Bool, true, false, not, ◌||◌}
use mathlib.Core.List.{List, ◌∷◌}
use lib.Dec.{ltb, eqb}
use borrow.Author.Tests.{ltb-false}
use Rattle.records.specs.Told.{first_failed}
use Rattle.records.proofs.Laws.{passes}
use Rattle.rules.proofs.laws.TestLaws.{true_false}
use Rattle.judge.specs.Answer.{not_a_schedule}

-- a schedule that is not refused has few records
pub few : (size : ℕ) (l : List (ℕ × Bool)) → first_failed ((7, not_a_schedule size) ∷ l) ≡ 0 → size / 8 ≤ 69632
few size l e =
    ltb-false 69632 (size / 8)
    (on (not (eqb (size % 8) 0)) (passes 7 (not_a_schedule size) l (λ k. omega arith) e).0)
  where
    on : (b : Bool) → (b || ltb 69632 (size / 8)) ≡ false → ltb 69632 (size / 8) ≡ false
    on true e = true_false true refl e
    on false e = e
