-- What the proofs of the functions cite: an array filled from another, and a test of each of its first places.
-- Assumes nothing.
use Prim.Native.Nat.{ℕ, zero, suc, ◌+◌, ◌≤◌, ◌<◌}
use mathlib.Core.Bool.{Bool, ◌&&◌}
use mathlib.Core.Path.{◌≡◌, refl, sym, ap, ◌∙◌}
use mathlib.Core.List.{List, [], ◌∷◌, map}
use native.Mathlib.Omega.{arith}
use lib.ListN.{length, get_or, set, take, length-set, length-map, get_or-map}
use lib.Seq.{ext_get_or, get_or-set_same, get_or-set_other}
use borrow.Author.Count.{below_more}
use Rattle.std.specs.List.{list_all}
use Rattle.records.specs.Tests.{every}

-- the first k places of an array of N hold f of the source's
pub record Filled {A B : Type 0} (N : ℕ) (f : A → B) (x : A) (src : List A) (dst : List B) (k : ℕ) : Type 0 where
  pub within : k ≤ N
  pub size : length dst ≡ N
  pub done : (j : ℕ) → j < k → get_or dst j (f x) ≡ f (get_or src j x)

module _ {A B : Type 0} (N : ℕ) (f : A → B) (x : A) (src : List A) where
  pub fill_start : (dst : List B) → length dst ≡ N → Filled N f x src dst 0
  fill_start dst e = record { within = omega arith; size = e; done = λ j p. absurd (omega arith) }

  pub fill_turn : (dst : List B) (k : ℕ) (v : B) → Filled N f x src dst k → k < N → v ≡ f (get_or src k x) → Filled N f x src (set dst k v) (k + 1)
  fill_turn dst k v h p e =
      record {
        within = omega arith;
        size = length-set dst k v ∙ h.size;
        done = below_more (λ j. get_or (set dst k v) j (f x) ≡ f (get_or src j x)) k
            (λ j q. get_or-set_other dst k j v (f x) (λ z. omega arith) ∙ h.done j q)
            (get_or-set_same dst k v (f x) (omega (arith, h.size)) ∙ e);
      }

  pub fill_end : (dst : List B) (k : ℕ) → Filled N f x src dst k → N ≤ k → length src ≡ N → dst ≡ map f src
  fill_end dst k h p e =
      ext_get_or (f x) dst (map f src) (h.size ∙ sym (length-map src f ∙ e))
      (λ i q. h.done i (omega (arith, h.size)) ∙ sym (get_or-map f src i x))

-- a test of the first n of what is told of each
pub every_told : {A B : Type 0} (f : B → Bool) (g : A → B) (n : ℕ) (l : List A) → list_all (λ x. f (g x)) (take n l) ≡ every f (take n (map g l))
every_told f g zero l = refl
every_told f g (suc n) [] = refl
every_told f g (suc n) (x ∷ l) = ap (λ (b : Bool). f (g x) && b) (every_told f g n l)
