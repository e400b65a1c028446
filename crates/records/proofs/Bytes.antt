-- Bytes written from a place on: stores one after the other leave the new bytes there and all else as it stood.
-- Assumes nothing.
use Prim.Native.Nat.{ℕ, ◌+◌, ◌*◌, ◌/◌, ◌%◌, ◌≤◌, ◌<◌}
use mathlib.Core.Path.{◌≡◌, refl, sym, ap, ◌∙◌}
use mathlib.Core.List.{List, [], ◌∷◌, ◌++◌}
use native.Mathlib.Omega.{arith}
use native.Mathlib.Numerals.{add-one, towards_suc}
use lib.ListN.{length, get_or, set, take, drop, length-append, length-drop, length-take, length-set}
use lib.Seq.{sets, sets-eq, take-suc, take-append_seam, drop-append-add, drop-drop}
use Rattle.records.specs.Told.{over, put_at}
use Rattle.records.specs.Little.{bytes16, bytes32, put16, put32}

-- stores at places that follow each other
pub put_sets : (new s : List ℕ) (at : ℕ) → at + length new ≤ length s → sets s at new ≡ put_at s at new
put_sets new s at h = sets-eq new s at h

-- a command's eight: a number of 32 bits, two bytes, a number of 16 bits
pub put_8 : (s : List ℕ) (at x k b n : ℕ) → at + 8 ≤ length s
    → put16 (set (set (put32 s at x) (at + 4) k) (at + 5) b) (at + 6) n ≡ put_at s at (bytes32 x ++ (k ∷ b ∷ bytes16 (n ∷ [])))
put_8 s at x k b n h = as_sets ∙ put_sets (bytes32 x ++ (k ∷ b ∷ bytes16 (n ∷ []))) s at h
  where
    as_sets : put16 (set (set (put32 s at x) (at + 4) k) (at + 5) b) (at + 6) n ≡ sets s at (bytes32 x ++ (k ∷ b ∷ bytes16 (n ∷ [])))
    as_sets = simp towards_suc

-- v is s with the first number, w what is left in the end
pub length_8 : (s v w : List ℕ) (at x k b n : ℕ) → v ≡ put32 s at x → w ≡ put16 (set (set v (at + 4) k) (at + 5) b) (at + 6) n → length w ≡ length s
length_8 s v w at x k b n p q =
    let first : length (put32 s at x) ≡ length s = simp length-set in
    let rest : length (put16 (set (set v (at + 4) k) (at + 5) b) (at + 6) n) ≡ length v = simp length-set in
    ap length q ∙ (rest ∙ (ap length p ∙ first))

pub length_over : (new s : List ℕ) → length new ≤ length s → length (over new s) ≡ length s
length_over new s h = simp (length-append, length-drop) (omega arith)

-- writing on where the last bytes ended
pub over_more : (new more s : List ℕ) → put_at (over new s) (length new) more ≡ over (new ++ more) s
over_more new more s =
    rw (take-append_seam new (drop (length new) s), drop-append-add new (drop (length new) s) (length more), drop-drop (length more) (length new) s, length-append new more)

-- a number of 32 bits after what was written
pub put_32 : (s : List ℕ) (at x : ℕ) → at + 4 ≤ length s → put32 s at x ≡ put_at s at (bytes32 x)
put_32 s at x h = as_sets ∙ put_sets (bytes32 x) s at h
  where
    as_sets : put32 s at x ≡ sets s at (bytes32 x)
    as_sets = simp towards_suc

pub over_32 : (new s : List ℕ) (x : ℕ) → length new + 4 ≤ length s → put32 (over new s) (length new) x ≡ over (new ++ bytes32 x) s
over_32 new s x h = put_32 (over new s) (length new) x (omega (arith, length_over new s (omega arith))) ∙ over_more new (bytes32 x) s

pub length_16 : (l : List ℕ) → length (bytes16 l) ≡ 2 * length l
length_16 [] = refl
length_16 (x ∷ l) = omega (arith, length_16 l)

bytes_snoc : (l : List ℕ) (x : ℕ) → bytes16 (l ++ (x ∷ [])) ≡ bytes16 l ++ bytes16 (x ∷ [])
bytes_snoc [] x = refl
bytes_snoc (y ∷ l) x = ap (λ (k : List ℕ). (y % 256) ∷ (y / 256) ∷ k) (bytes_snoc l x)

-- one number more
module _ (l s : List ℕ) (i : ℕ) (h : i < length l) (room : 2 * length l ≤ length s) where
  size_at : length (bytes16 (take i l)) ≡ 2 * i
  size_at = length_16 (take i l) ∙ omega (arith, length-take i l)

  pub number_room : 2 * i + 2 ≤ length (over (bytes16 (take i l)) s)
  number_room = omega (arith, length_over (bytes16 (take i l)) s (omega (arith, size_at)))

  pub number_more : put16 (over (bytes16 (take i l)) s) (2 * i) (get_or l i 0) ≡ over (bytes16 (take (i + 1) l)) s
  number_more =
      put_two
      ∙ ap (λ (n : ℕ). put_at (over (bytes16 (take i l)) s) n (bytes16 (get_or l i 0 ∷ []))) (sym size_at)
      ∙ over_more (bytes16 (take i l)) (bytes16 (get_or l i 0 ∷ [])) s
      ∙ ap (λ (b : List ℕ). over b s) (sym (bytes_snoc (take i l) (get_or l i 0)))
      ∙ ap (λ (k : List ℕ). over (bytes16 k) s) (sym one_more_lem)
    where
      one_more_lem : take (i + 1) l ≡ take i l ++ (get_or l i 0 ∷ [])
      one_more_lem = rw add-one (take-suc l i 0 h)

      put_two : put16 (over (bytes16 (take i l)) s) (2 * i) (get_or l i 0) ≡ put_at (over (bytes16 (take i l)) s) (2 * i) (bytes16 (get_or l i 0 ∷ []))
      put_two =
          ap (λ (n : ℕ). set (set (over (bytes16 (take i l)) s) (2 * i) (get_or l i 0 % 256)) n (get_or l i 0 / 256)) (add-one (2 * i))
          ∙ put_sets (bytes16 (get_or l i 0 ∷ [])) (over (bytes16 (take i l)) s) (2 * i) number_room
