-- A state's groups, one of which is set.
-- Assumes nothing.
use Prim.Native.Nat.{ℕ, zero, suc}
use native.Mathlib.Omega.{arith}
use mathlib.Core.Path.{◌≡◌}
use mathlib.Core.List.{List, [], ◌∷◌}
use lib.ListN.{length, get_or, set, replicate}
use Rattle.rules.specs.declared.state.Group.{Group}
use Rattle.rules.specs.State.{quiet}

pub all_quiet : (P : Group → Type 0) → P quiet → (n g : ℕ) → P (get_or (replicate n quiet) g quiet)
all_quiet P p zero g = p
all_quiet P p (suc n) zero = p
all_quiet P p (suc n) (suc g) = all_quiet P p n g

-- what holds of each group, and of the new one at its place
pub set_each : (P : ℕ → Group → Type 0) (l : List Group) (i : ℕ) (x : Group) → ((g : ℕ) → P g (get_or l g quiet)) → P i x
    → (g : ℕ) → P g (get_or (set l i x) g quiet)
set_each P [] i x f p g = f g
set_each P (y ∷ l) zero x f p zero = p
set_each P (y ∷ l) zero x f p (suc g) = f (suc g)
set_each P (y ∷ l) (suc i) x f p zero = f zero
set_each P (y ∷ l) (suc i) x f p (suc g) = set_each (λ n. P (suc n)) l i x (λ n. f (suc n)) p g

pub set_all : (P : Group → Type 0) (l : List Group) (i : ℕ) (x : Group) → ((g : ℕ) → P (get_or l g quiet)) → P x → (g : ℕ) → P (get_or (set l i x) g quiet)
set_all P l i x f p g = set_each (λ n. P) l i x f p g

-- the same of two states, at one place of which groups are set that are so related
pub set_pair : (R : Group → Group → Type 0) (l m : List Group) (i : ℕ) (x y : Group) → length l ≡ length m
    → ((g : ℕ) → R (get_or l g quiet) (get_or m g quiet)) → R x y → (g : ℕ) → R (get_or (set l i x) g quiet) (get_or (set m i y) g quiet)
set_pair R [] [] i x y e f p g = f g
set_pair R [] (b ∷ m) i x y e f p g = absurd (omega arith)
set_pair R (a ∷ l) [] i x y e f p g = absurd (omega arith)
set_pair R (a ∷ l) (b ∷ m) zero x y e f p zero = p
set_pair R (a ∷ l) (b ∷ m) zero x y e f p (suc g) = f (suc g)
set_pair R (a ∷ l) (b ∷ m) (suc i) x y e f p zero = f zero
set_pair R (a ∷ l) (b ∷ m) (suc i) x y e f p (suc g) = set_pair R l m i x y (omega arith) (λ n. f (suc n)) p g
