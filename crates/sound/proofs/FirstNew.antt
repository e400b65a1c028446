-- Number 12, by the transaction that the code reads: the first that was not lent before.
-- Assumes nothing.
use Prim.Native.Nat.{ℕ, zero, suc, ◌+◌, ◌-◌, ◌*◌, ◌≤◌, ◌<◌}
use native.Mathlib.Omega.{arith}
use mathlib.Core.Bool.{false}
use mathlib.Core.Path.{◌≡◌, refl, sym, ap, ◌∙◌}
use mathlib.Core.Option.{Option, none, some}
use mathlib.Core.List.{List, [], ◌∷◌, ◌++◌}
use lib.Dec.{ltb}
use lib.ListN.{length, get_elem?}
use Rattle.records.specs.declared.transaction.Transaction.{Transaction}
use Rattle.records.specs.Transaction.{later_at, later_from}
use Rattle.rules.specs.Pieces.{first_below}
use Rattle.heads.proofs.Laws.{length_from, whole}

at_seam : (p : List Transaction) (x : Transaction) (q : List Transaction) (k : ℕ) → length p ≡ k → get_elem? (p ++ x ∷ q) k ≡ some x
at_seam [] x q k e = ap (get_elem? (x ∷ q)) (sym e)
at_seam (y ∷ p) x q k e = ap (get_elem? (y ∷ p ++ x ∷ q)) (sym e) ∙ at_seam p x q (length p) refl

past_end : (l : List Transaction) (k : ℕ) → length l ≤ k → get_elem? l k ≡ none
past_end [] k h = refl
past_end (x ∷ l) zero h = absurd (omega arith)
past_end (x ∷ l) (suc k) h = past_end l k (omega arith)

module _ (s : List ℕ) (n k c : ℕ) where
  pub late_by : (x : Transaction) → k < n → x ≡ later_at s (8 * k) → ltb x.arrival c ≡ first_below (get_elem? (later_from s n 0) k) c
  late_by x h e =
      ap (λ (y : Transaction). ltb y.arrival c) e
      ∙ sym (ap (λ (o : Option Transaction). first_below o c)
      (ap (λ (l : List Transaction). get_elem? l k) (whole s n k h) ∙ at_seam (later_from s k 0) (later_at s (8 * k)) (later_from s (n - (k + 1)) (8 * k + 8)) k (length_from s k 0)))

  pub none_late : n ≤ k → false ≡ first_below (get_elem? (later_from s n 0) k) c
  none_late h = sym (ap (λ (o : Option Transaction). first_below o c) (past_end (later_from s n 0) k (omega (arith, h, length_from s n 0))))
