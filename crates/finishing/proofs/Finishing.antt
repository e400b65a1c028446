-- The pass over the transactions: what it leaves at each number.
-- Assumes nothing.
use Prim.Native.Nat.{ℕ, ◌+◌, ◌*◌, ◌<◌}
use native.Mathlib.Omega.{arith}
use mathlib.Core.Path.{◌≡◌, refl, sym, ap, ◌∙◌}
use mathlib.Core.Logic.{⊎_elim}
use mathlib.Core.List.{List}
use lib.ListN.{length, get_or, set, length-set}
use lib.Seq.{get_or-set_same, get_or-set_other}
use Rattle.records.specs.declared.table.Table.{Table}
use Rattle.records.specs.declared.transaction.Transaction.{Transaction}
use Rattle.records.specs.Transaction.{later_at}
use Rattle.rules.specs.Finish.{finish_of}
use Rattle.rules.proofs.laws.Numbers.{same?}
use Rattle.finishing.specs.Finish.{Finished}

pub not_yet : (τ : Table) (s f : List ℕ) → Finished τ s 0 f f
not_yet τ s f = record { size = refl; each = λ k h. absurd (omega arith); beyond = λ k h. refl }

-- a turn of the pass, at transaction k
module _ (τ : Table) (s : List ℕ) (k : ℕ) (f₀ f : List ℕ) (m : Finished τ s k f₀ f) (p : k < length f) where
  pub as_marked : get_or f k 0 ≡ get_or f₀ k 0
  as_marked = m.beyond k (omega arith)

  pub one_finished : (x : Transaction) → x ≡ later_at s (8 * k) → (r : ℕ) → r ≡ finish_of τ x (get_or f k 0) → Finished τ s (k + 1) f₀ (set f k r)
  one_finished x e r q =
      record {
        size = length-set f k r ∙ m.size;
        each = λ j h. ⊎_elim (here j) (there j h) (same? j k);
        beyond = λ j h. get_or-set_other f k j r 0 (λ z. omega arith) ∙ m.beyond j (omega arith);
      }
    where
      now_at : get_or (set f k r) k 0 ≡ finish_of τ (later_at s (8 * k)) (get_or f₀ k 0)
      now_at =
          get_or-set_same f k r 0 p
          ∙ (q ∙ (ap (λ (y : Transaction). finish_of τ y (get_or f k 0)) e ∙ ap (finish_of τ (later_at s (8 * k))) (m.beyond k (omega arith))))

      here : (j : ℕ) → j ≡ k → get_or (set f k r) j 0 ≡ finish_of τ (later_at s (8 * j)) (get_or f₀ j 0)
      here j z =
          ap (λ (i : ℕ). get_or (set f k r) i 0) z ∙ (now_at ∙ ap (λ (i : ℕ). finish_of τ (later_at s (8 * i)) (get_or f₀ i 0)) (sym z))

      there : (j : ℕ) → j < k + 1 → (j ≡ k → ⊥) → get_or (set f k r) j 0 ≡ finish_of τ (later_at s (8 * j)) (get_or f₀ j 0)
      there j h z = get_or-set_other f k j r 0 z ∙ m.each j (omega (arith, z))
