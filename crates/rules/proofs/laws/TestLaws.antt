-- Laws of tests: a true conjunction and its parts, a choice of two, equal tests, and what holds of whatever an option holds.
-- Assumes nothing.
use Prim.Native.Nat.{ℕ, zero, suc}
use native.Mathlib.Omega.{arith}
use mathlib.Core.Path.{◌≡◌, refl, sym, subst}
use mathlib.Core.Bool.{Bool, true, false, ◌&&◌, ◌||◌}
use mathlib.Core.Logic.{◌⊎◌, inl, inr}
use mathlib.Core.Option.{Option, none, some}
use mathlib.Core.List.{List, [], ◌∷◌}
use lib.Dec.{T}
use lib.ListN.{get_or, get_elem?}
use Rattle.records.specs.Tests.{pick, every}

pub true_false : {A : Type 0} (b : Bool) → b ≡ true → b ≡ false → A
true_false b p q = let z : ◌≡◌ {A = ℕ} 0 1 = cc in absurd (omega arith)

pub is_true : (b : Bool) → T b → b ≡ true
is_true true t = refl
is_true false t = absurd t

pub to_T : (b : Bool) → b ≡ true → T b
to_T b e = subst T (sym e) tt

pub and_both : (x y : Bool) → x ≡ true → y ≡ true → (x && y) ≡ true
and_both x y p q = rw (p, q)

pub and_fst : (x y : Bool) → (x && y) ≡ true → x ≡ true
and_fst true y e = refl
and_fst false y e = e

pub and_snd : (x y : Bool) → (x && y) ≡ true → y ≡ true
and_snd true y e = e
and_snd false y e = true_false false e refl

pub either : (x y : Bool) → (x || y) ≡ true → (x ≡ true) ⊎ (y ≡ true)
either true y e = inl refl
either false y e = inr e

pub neither : (x y : Bool) → (x || y) ≡ false → (x ≡ false) × (y ≡ false)
neither true y e = true_false true refl e
neither false y e = (refl, e)

-- what the first test implies need not be tested
pub and_left : (x y : Bool) → (x ≡ true → y ≡ true) → (x && y) ≡ x
and_left true y f = f refl
and_left false y f = refl

pub bool_eq : (x y : Bool) → (x ≡ true → y ≡ true) → (y ≡ true → x ≡ true) → x ≡ y
bool_eq true y f g = sym (f refl)
bool_eq false true f g = g refl
bool_eq false false f g = refl

-- the tests of a list, and one more
abbrev pub and_all : List Bool → Bool → Bool
and_all [] z = z
and_all (x ∷ l) z = x && and_all l z

-- one test out of a conjunction that holds
pub and_at : (l : List Bool) (z : Bool) (i : ℕ) → and_all l z ≡ true → get_or l i z ≡ true
and_at [] z i e = e
and_at (x ∷ l) z zero e = and_fst x (and_all l z) e
and_at (x ∷ l) z (suc i) e = and_at l z i (and_snd x (and_all l z) e)

-- what holds of whatever comes out
abbrev pub OnSome {ℓ} : {A : Type ℓ} → (A → Type 0) → Option A → Type 0
OnSome P none = Unit {0}
OnSome P (some x) = P x

pub on_pick_lem : {A : Type 0} (P : A → Type 0) (b : Bool) (x : A) (y : Option A) → (b ≡ true → P x) → (b ≡ false → OnSome P y) → OnSome P (pick b (some x) y)
on_pick_lem P true x y f g = f refl
on_pick_lem P false x y f g = g refl

pub on_map : {A : Type 0} {P Q : A → Type 0} (o : Option A) → ((x : A) → P x → Q x) → OnSome P o → OnSome Q o
on_map none f p = tt
on_map (some x) f p = f x p

-- one element out of a list of which each passes f
pub every_at : {A : Type 0} (f : A → Bool) (l : List A) (i : ℕ) → every f l ≡ true → OnSome (λ x. f x ≡ true) (get_elem? l i)
every_at f [] i e = tt
every_at f (x ∷ l) zero e = and_fst (f x) (every f l) e
every_at f (x ∷ l) (suc i) e = every_at f l i (and_snd (f x) (every f l) e)
