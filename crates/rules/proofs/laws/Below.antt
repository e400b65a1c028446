-- What holds of each number below another.
-- Assumes nothing.
use Prim.Native.Nat.{ℕ, zero, suc, ◌≤◌, ◌<◌}
use native.Mathlib.Omega.{arith}
use mathlib.Core.Path.{◌≡◌, refl, sym, ap, ◌∙◌}
use mathlib.Core.Logic.{◌≢◌, ◌⊎◌, inl, inr}
use mathlib.Core.Bool.{Bool, true, false, not, ◌&&◌, ◌||◌, and-false}
use lib.Dec.{eqb}
use borrow.Author.Tests.{eqb-true, eqb-false, ne_eqb}
use Rattle.records.specs.Tests.{every_below}
use Rattle.rules.proofs.laws.TestLaws.{true_false, and_both, and_fst, and_snd}
use Rattle.rules.proofs.laws.Numbers.{same?}

pub below_all : (n : ℕ) (f : ℕ → Bool) → ((b : ℕ) → b < n → f b ≡ true) → every_below n f ≡ true
below_all zero f h = refl
below_all (suc n) f h = and_both (f n) (every_below n f) (h n (omega arith)) (below_all n f (λ b l. h b (omega arith)))

pub below_each : (n : ℕ) (f : ℕ → Bool) → every_below n f ≡ true → (b : ℕ) → b < n → f b ≡ true
below_each zero f e b l = absurd (omega arith)
below_each (suc n) f e b l = on (same? b n) (λ k. below_each n f (and_snd (f n) (every_below n f) e) b k)
  where
    on : (b ≡ n) ⊎ (b ≢ n) → (b < n → f b ≡ true) → f b ≡ true
    on (inl p) ih = rw p (and_fst (f n) (every_below n f) e)
    on (inr p) ih = ih (omega (arith, p))

-- one that fails is enough
pub below_not : (n : ℕ) (f : ℕ → Bool) (b : ℕ) → b < n → f b ≡ false → false ≡ every_below n f
below_not n f b l e = on (every_below n f) refl
  where
    on : (x : Bool) → every_below n f ≡ x → false ≡ every_below n f
    on true p = true_false (f b) (below_each n f p b l) e
    on false p = sym p

pub below_same : (n : ℕ) (f g : ℕ → Bool) → ((b : ℕ) → b < n → f b ≡ g b) → every_below n f ≡ every_below n g
below_same zero f g h = refl
below_same (suc n) f g h = rw (h n (omega arith), below_same n f g (λ b l. h b (omega arith)))

pub and_four : (a b c d : Bool) → ((a && b) && (c && d)) ≡ ((a && c) && (b && d))
and_four true true c d = refl
and_four true false true d = refl
and_four true false false d = refl
and_four false b c d = refl

pub below_and : (n : ℕ) (f g : ℕ → Bool) → (every_below n f && every_below n g) ≡ every_below n (λ i. f i && g i)
below_and zero f g = refl
below_and (suc n) f g = and_four (f n) (every_below n f) (g n) (every_below n g) ∙ ap (λ (y : Bool). (f n && g n) && y) (below_and n f g)

-- of all numbers below n one is c
none_is : (a : Bool) (x : ℕ → Bool) (c n : ℕ) → n ≤ c → every_below n (λ g. not (a && eqb c g) || x g) ≡ true
none_is a x c zero h = refl
none_is a x c (suc n) h = rw (ne_eqb c n (λ e. omega arith), and-false a) (none_is a x c n (omega arith))

pub one_is : (a : Bool) (x : ℕ → Bool) (c n : ℕ) → c < n → every_below n (λ g. not (a && eqb c g) || x g) ≡ (not a || x c)
one_is a x c zero h = absurd (omega arith)
one_is a x c (suc n) h = on (eqb c n) refl (λ l. one_is a x c n l)
  where
    fin : (a y : Bool) → ((not (a && true) || y) && true) ≡ (not a || y)
    fin true true = refl
    fin true false = refl
    fin false y = refl

    on : (e : Bool) → eqb c n ≡ e → (c < n → every_below n (λ g. not (a && eqb c g) || x g) ≡ (not a || x c))
        → ((not (a && e) || x n) && every_below n (λ g. not (a && eqb c g) || x g)) ≡ (not a || x c)
    on true e ih = rw (eqb-true c n e, none_is a x n n (omega arith)) (fin a (x n))
    on false e ih = rw (and-false a) (ih (omega (arith, eqb-false c n e)))
