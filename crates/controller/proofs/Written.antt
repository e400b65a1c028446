-- The bytes that a run writes.
-- Assumes nothing.
use Prim.Native.Nat.{ℕ, ◌+◌, ◌*◌}
use native.Mathlib.Omega.{arith}
use mathlib.Core.Path.{◌≡◌, refl, sym, ap, ◌∙◌}
use mathlib.Core.List.{List, [], ◌∷◌, ◌++◌, append_assoc}
use lib.ListN.{length, take, drop}
use lib.Seq.{take_at}
use Rattle.records.specs.Told.{over}
use Rattle.records.specs.Command.{bytes_of, bytes_of_all}
use Rattle.records.specs.declared.command.Command.{Command}
use Rattle.rules.specs.Pattern.{onto}
use Rattle.rules.proofs.runs.HowMany.{length_turn}
use Rattle.controller.specs.Run.{written}

onto_append : (g h k : List Command) → onto (g ++ h) k ≡ onto h (onto g k)
onto_append [] h k = refl
onto_append (r ∷ g) h k = onto_append g h (r ∷ k)

bytes_onto : (h k : List Command) → bytes_of_all (onto h k) ≡ written h ++ bytes_of_all k
bytes_onto [] k = refl
bytes_onto (r ∷ h) k =
    bytes_onto h (r ∷ k) ∙ (sym (append_assoc (written h) (bytes_of r) (bytes_of_all k))
    ∙ ap (λ (b : List ℕ). b ++ bytes_of_all k) (sym (bytes_onto h (r ∷ []) ∙ ap (λ (b : List ℕ). written h ++ b) refl)))

-- a later run's commands come after an earlier one's
pub written_append : (g h : List Command) → written (g ++ h) ≡ written h ++ written g
written_append g h = ap bytes_of_all (onto_append g h []) ∙ bytes_onto h (onto g [])

bytes_length : (l : List Command) → length (bytes_of_all l) ≡ 8 * length l
bytes_length [] = refl
bytes_length (c ∷ l) = omega (arith, bytes_length l)

pub written_length : (h : List Command) → length (written h) ≡ 8 * length h
written_length h = bytes_length (onto h []) ∙ ap (λ (n : ℕ). 8 * n) (length_turn h)

-- what stands at the start of the buffer
pub written_at : (h : List Command) (b : List ℕ) → take (8 * length h) (over (written h) b) ≡ written h
written_at h b = take_at (written h) (drop (length (written h)) b) (8 * length h) (written_length h)
