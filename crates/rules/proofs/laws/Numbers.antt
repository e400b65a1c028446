-- How two numbers stand to each other.
-- Assumes nothing.
use Prim.Native.Nat.{ℕ, ◌+◌, ◌-◌, ◌%◌, ◌≤◌, ◌<◌}
use native.Mathlib.Nat.{mod-eq_of_lt, add-mod_left}
use native.Mathlib.Omega.{arith}
use mathlib.Core.Path.{◌≡◌, refl, ap, ◌∙◌}
use mathlib.Core.Logic.{◌≢◌, ◌⊎◌, inl, inr, ⊎_elim}
use mathlib.Core.Bool.{Bool, true, false}
use lib.Dec.{ltb, eqb}
use borrow.Author.Tests.{ltb-true, ltb-false, eqb-true, eqb-false}

pub same? : (i n : ℕ) → (i ≡ n) ⊎ (i ≢ n)
same? i n = on (eqb i n) refl
  where
    on : (e : Bool) → eqb i n ≡ e → (i ≡ n) ⊎ (i ≢ n)
    on true e = inl (eqb-true i n e)
    on false e = inr (eqb-false i n e)

-- a number is below another, or so much past it
pub from? : (i n : ℕ) → (i < n) ⊎ ((d : ℕ) × (i ≡ n + d))
from? i n = on (ltb i n) refl
  where
    on : (e : Bool) → ltb i n ≡ e → (i < n) ⊎ ((d : ℕ) × (i ≡ n + d))
    on true e = inl (ltb-true i n e)
    on false e = let h : n ≤ i = ltb-false i n e in inr (i - n, omega arith)

-- a number below twice n goes round n once at most
pub round : (n a : ℕ) → a < n + n → ((a < n) × (a % n ≡ a)) ⊎ (a % n + n ≡ a)
round n a h =
    ⊎_elim (λ l. inl (l, mod-eq_of_lt l))
    (λ (d, e). let l : d < n = omega arith in
    inr (let z : a % n ≡ d = ap (λ (y : ℕ). y % n) e ∙ add-mod_left n d ∙ mod-eq_of_lt l in omega arith))
    (from? a n)
