-- A table's size, by its test.
-- Assumes nothing.
use Prim.Native.Nat.{ℕ}
use native.Mathlib.Omega.{arith}
use mathlib.Core.Bool.{Bool, true, false, ◌||◌}
use mathlib.Core.Path.{◌≡◌, refl}
use mathlib.Core.Logic.{inl, inr, ⊎_elim}
use mathlib.Core.List.{List}
use lib.Dec.{eqb}
use lib.ListN.{length}
use borrow.Author.Tests.{eqb-true, eqb-false}
use Rattle.records.specs.Table.{table_size}
use Rattle.demands.specs.Demands.{EitherSize}

module _ (s : List ℕ) where
  pub either_size : table_size (length s) ≡ true → EitherSize s
  either_size = on (eqb (length s) 32) refl (eqb (length s) 40) refl
    where
      on : (a : Bool) → eqb (length s) 32 ≡ a → (b : Bool) → eqb (length s) 40 ≡ b → (a || b) ≡ true → EitherSize s
      on true p b q e = inl (eqb-true (length s) 32 p)
      on false p true q e = inr (eqb-true (length s) 40 q)
      on false p false q e = let z : ◌≡◌ {A = ℕ} 0 1 = cc in absurd (omega arith)

  pub neither_size : table_size (length s) ≡ false → EitherSize s → ⊥
  neither_size = on (eqb (length s) 32) refl (eqb (length s) 40) refl
    where
      on : (a : Bool) → eqb (length s) 32 ≡ a → (b : Bool) → eqb (length s) 40 ≡ b → (a || b) ≡ false → EitherSize s → ⊥
      on true p b q e h = let z : ◌≡◌ {A = ℕ} 0 1 = cc in omega arith
      on false p true q e h = let z : ◌≡◌ {A = ℕ} 0 1 = cc in omega arith
      on false p false q e h = ⊎_elim (eqb-false (length s) 32 p) (eqb-false (length s) 40 q) h
