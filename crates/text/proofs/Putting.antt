-- Texts put one behind the other.
-- Assumes nothing.
use Prim.Native.Nat.{ℕ, ◌+◌, ◌/◌, ◌%◌, ◌≤◌, ◌<◌}
use mathlib.Core.Path.{◌≡◌, refl, sym, ap, ◌∙◌, subst}
use mathlib.Core.List.{List, [], ◌∷◌, ◌++◌, append_assoc, append-nil}
use native.Mathlib.Omega.{arith}
use native.Mathlib.Nat.{add-zero, zero-add}
use native.Mathlib.Numerals.{add-one}
use lib.ListN.{length, get_or, set, take, drop, length-append, length-set, length-take, length-drop, take-append-drop}
use lib.Seq.{set_split, take_at, drop-append-add, drop-drop, take-length, paste, paste-suc}
use Rattle.records.specs.Told.{put_at}
use Rattle.text.specs.Decimal.{decimal}
use Rattle.text.specs.Puts.{Puts, Writes}
use Rattle.text.proofs.Digits.{one_digit, last_digit}

pub length_put_at : (s text : List ℕ) (at : ℕ) → at + length text ≤ length s → length (put_at s at text) ≡ length s
length_put_at s text at h = simp (length-append, length-take, length-drop) (omega arith)

pub puts : (text s : List ℕ) (at : ℕ) → at + length text ≤ length s → Puts text at (at + length text) s (put_at s at text)
puts text s at h = record { place = refl; left = refl; room = h; size = length_put_at s text at h }

pub puts_byte : (x at : ℕ) (s : List ℕ) → at < length s → Puts (x ∷ []) at (at + 1) s (set s at x)
puts_byte x at s h =
    record {
      place = refl;
      left = set_split s at x h ∙ ap (λ (n : ℕ). take at s ++ x ∷ drop n s) (sym (add-one at)) ∙ sym (append_assoc (take at s) (x ∷ []) (drop (at + 1) s));
      room = omega arith;
      size = length-set s at x;
    }

pub puts_nothing : (at : ℕ) (s : List ℕ) → at ≤ length s → Puts [] at at s s
puts_nothing at s h =
    record {
      place = omega arith;
      left = sym (ap (λ (l : List ℕ). l ++ drop (at + 0) s) (append-nil (take at s)) ∙ ap (λ (n : ℕ). take at s ++ drop n s) (add-zero at) ∙ take-append-drop at s);
      room = omega arith;
      size = refl;
    }

-- b behind a
module _ {a b : List ℕ} {at p q : ℕ} {s t u : List ℕ} (x : Puts a at p s t) (y : Puts b p q t u) where
  whole : length (a ++ b) ≡ length a + length b
  whole = length-append a b

  before : length (take at s ++ a) ≡ p
  before = length-append (take at s) a ∙ omega (arith, length-take at s, x.place, x.room)

  joined : u ≡ put_at s at (a ++ b)
  joined =
      y.left ∙ ap (λ (l : List ℕ). put_at l p b) x.left
      ∙ ap (λ (l : List ℕ). l ++ b ++ drop (p + length b) (put_at s at a)) (take_at (take at s ++ a) (drop (at + length a) s) p before)
      ∙ ap (λ (l : List ℕ). (take at s ++ a) ++ b ++ l) behind
      ∙ ap (λ (l : List ℕ). l ++ drop (at + length (a ++ b)) s) (append_assoc (take at s) a b)
    where
      sum : at + length a + length b ≡ at + length (a ++ b)
      sum = omega (arith, whole)

      behind : drop (p + length b) (put_at s at a) ≡ drop (at + length (a ++ b)) s
      behind =
          ap (λ (n : ℕ). drop (n + length b) (put_at s at a)) (sym before)
          ∙ drop-append-add (take at s ++ a) (drop (at + length a) s) (length b)
          ∙ drop-drop (length b) (at + length a) s
          ∙ ap (λ (n : ℕ). drop n s) sum

  pub puts_then : Puts (a ++ b) at q s u
  puts_then =
      record {
        place = omega (arith, x.place, y.place, whole);
        left = joined;
        room = omega (arith, x.place, x.size, y.room, whole);
        size = y.size ∙ x.size;
      }

-- ---- the turn of a number: x is the byte of its last digit

pub number_one : (n x at r : ℕ) (s l : List ℕ) → n < 10 → x ≡ 48 + n → Puts (x ∷ []) at r s l → Puts (decimal n) at r s l
number_one n x at r s l h e p = subst (λ (text : List ℕ). Puts text at r s l) (ap (λ (y : ℕ). y ∷ []) e ∙ sym (one_digit n h)) p

pub number_more : (n x at p q : ℕ) (s t u : List ℕ) → 10 ≤ n → x ≡ 48 + n % 10 → Puts (decimal (n / 10)) at p s t → Puts (x ∷ []) p q t u → Puts (decimal n) at q s u
number_more n x at p q s t u h e y z =
    subst (λ (text : List ℕ). Puts text at q s u) (ap (λ (d : ℕ). decimal (n / 10) ++ (d ∷ [])) e ∙ sym (last_digit n h)) (puts_then y z)

-- ---- a word: a turn of its copy, and the end

pub copies : (word s l : List ℕ) (at i : ℕ) → at + length word ≤ length s → i < length word → l ≡ paste s at word i
    → set l (at + i) (get_or word i 0) ≡ paste s at word (i + 1)
copies word s l at i h n e =
    ap (λ (z : List ℕ). set z (at + i) (get_or word i 0)) e ∙ paste-suc s at word i 0 (omega arith) n ∙ ap (λ (k : ℕ). paste s at word k) (sym (add-one i))

pub copied : (word s l : List ℕ) (at i : ℕ) → at + length word ≤ length s → i ≡ length word → l ≡ paste s at word i → Puts word at (at + i) s l
copied word s l at i h n e =
    subst (λ (k : ℕ). Puts word at (at + k) s l) (sym n)
    (subst (λ (z : List ℕ). Puts word at (at + length word) s z) (sym same) (puts word s at h))
  where
    same : l ≡ put_at s at word
    same = e ∙ ap (λ (k : ℕ). paste s at word k) n ∙ ap (λ (w : List ℕ). take at s ++ w ++ drop (at + length word) s) (take-length word)

-- ---- a whole text

pub writes : (is : List ℕ → Type 0) (text : List ℕ) (r : ℕ) (s l : List ℕ) → is text → Puts text 0 r s l → Writes is r s l
writes is text r s l h p = (text, h, p.place ∙ zero-add (length text), p.left ∙ ap (λ (n : ℕ). text ++ drop n s) (zero-add (length text)))

-- what is written lies within the buffer
pub within : (is : List ℕ → Type 0) (n : ℕ) (s l : List ℕ) → Writes is n s l → n ≤ length l
within is n s l w = omega (arith, w.2, ap length w.3, length-append w.0 (drop (length w.0) s))
