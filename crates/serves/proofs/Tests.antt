-- Laws of tests, and of options.
-- Assumes nothing.
use Prim.Native.Nat.{ℕ, zero, suc, ◌<◌}
use native.Mathlib.Omega.{arith}
use mathlib.Core.Path.{◌≡◌, refl, sym, ap, ◌∙◌}
use mathlib.Core.Logic.{◌⊎◌, inl, inr}
use mathlib.Core.Bool.{Bool, true, false, ◌&&◌, ◌||◌}
use mathlib.Core.Option.{Option, none, some}
use Rattle.records.specs.Tests.{every_below}
use Rattle.rules.proofs.laws.TestLaws.{true_false}

pub and_true : (c : Bool) → (c && true) ≡ c
and_true true = refl
and_true false = refl

pub and_false : (c : Bool) → (c && false) ≡ false
and_false true = refl
and_false false = refl

pub or_left : (a b : Bool) → a ≡ true → (a || b) ≡ true
or_left true b e = refl
or_left false b e = true_false false e refl

pub or_right : (a b : Bool) → b ≡ true → (a || b) ≡ true
or_right true b e = refl
or_right false b e = e

pub or_of : (a b : Bool) → (a || b) ≡ true → (a ≡ true) ⊎ (b ≡ true)
or_of true b e = inl refl
or_of false b e = inr e

-- a test on all numbers below n that fails, fails at one
pub record FailsAt (f : ℕ → Bool) (n : ℕ) : Type 0 where
  pub at : ℕ
  pub below : at < n
  pub fails : f at ≡ false

pub below_fails : (n : ℕ) (f : ℕ → Bool) → every_below n f ≡ false → FailsAt f n
below_fails zero f e = true_false true refl e
below_fails (suc n) f e = on (f n) refl e (below_fails n f)
  where
    on : (b : Bool) → f n ≡ b → (b && every_below n f) ≡ false → (every_below n f ≡ false → FailsAt f n) → FailsAt f (suc n)
    on true p e ih = let q = ih e in record { at = q.at; below = omega (arith, q.below); fails = q.fails }
    on false p e ih = record { at = n; below = omega arith; fails = p }

-- one option holds one value
pub same_some : {A : Type 0} (o : Option A) (x w : A) → o ≡ some x → o ≡ some w → x ≡ w
same_some {A} o x w p q = ap or_x (sym p ∙ q)
  where
    or_x : Option A → A
    or_x none = x
    or_x (some z) = z

pub none_some : {A B : Type 0} (x : A) → none ≡ some x → B
none_some x e = let z : ◌≡◌ {A = ℕ} 0 1 = cc in absurd (omega arith)
