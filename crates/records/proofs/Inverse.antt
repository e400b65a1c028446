-- The bytes of numbers: what was written is read, and what was read is written.
-- Assumes nothing.
use Prim.Native.Nat.{ℕ, zero, suc, ◌+◌, ◌*◌, ◌/◌, ◌%◌, ◌≤◌, ◌<◌}
use mathlib.Core.Path.{◌≡◌, refl, ap, ◌∙◌}
use mathlib.Core.List.{List, [], ◌∷◌, ◌++◌}
use native.Mathlib.Omega.{arith}
use native.Mathlib.Numerals.{add-one, towards_suc}
use lib.ListN.{length, get_or, take, drop}
use lib.Seq.{drop-cons}
use Rattle.records.specs.Little.{le16, le32, num, bytes16, bytes32}
use mathlib.Core.Bool.{Bool, true, false}
use lib.Dec.{eqb}
use borrow.Author.Tests.{eqb-true}
use Rattle.records.specs.declared.command.Kind.{Kind}
use Rattle.records.specs.declared.command.Kind.TheVariants.{Act, Rd, Rda, Wr, Wra, Ref, Other}
use Rattle.records.specs.Tests.{pick}
use Rattle.records.specs.Table.{table_of, group_table_of, plain_table_at, group_table_at, table_at}
use Rattle.records.specs.Command.{kind_of, kind_number}

-- every element is a byte
abbrev pub Bytes : List ℕ → Type 0
Bytes s = (i : ℕ) → get_or s i 0 < 256

pub le16_of : (x : ℕ) → le16 (x % 256) (x / 256) ≡ x
le16_of x = omega arith

pub le32_of : (x : ℕ) → le32 (x % 256) (x / 256 % 256) (x / 65536 % 256) (x / 16777216) ≡ x
le32_of x = omega arith

pub of_le16 : (a b : ℕ) → a < 256 → b < 256 → bytes16 (le16 a b ∷ []) ≡ a ∷ b ∷ []
of_le16 a b h k =
    let x : le16 a b % 256 ≡ a = omega arith in
    let y : le16 a b / 256 ≡ b = omega arith in
    rw (x, y)

pub of_le32 : (a b c d : ℕ) → a < 256 → b < 256 → c < 256 → d < 256 → bytes32 (le32 a b c d) ≡ a ∷ b ∷ c ∷ d ∷ []
of_le32 a b c d ha hb hc hd =
    let x : le32 a b c d % 256 ≡ a = omega arith in
    let p : le32 a b c d / 256 ≡ b + c * 256 + d * 65536 = omega arith in
    let q : le32 a b c d / 65536 ≡ c + d * 256 = omega arith in
    let y : le32 a b c d / 256 % 256 ≡ b = rw p (omega arith) in
    let z : le32 a b c d / 65536 % 256 ≡ c = rw q (omega arith) in
    let w : le32 a b c d / 16777216 ≡ d = omega arith in
    rw (x, y, z, w)

num_past : (a b : ℕ) (s : List ℕ) (at : ℕ) → num (a ∷ b ∷ s) (suc (suc at)) ≡ num s at
num_past a b s at = simp add-one

twice : (n : ℕ) → 2 * suc n ≡ suc (suc (2 * n))
twice n = omega arith

-- the numbers that were written are read
pub num_16 : (l r : List ℕ) (i : ℕ) → i < length l → num (bytes16 l ++ r) (2 * i) ≡ get_or l i 0
num_16 [] r i h = absurd (omega arith)
num_16 (x ∷ l) r zero h = le16_of x
num_16 (x ∷ l) r (suc i) h =
    ap (num (bytes16 (x ∷ l) ++ r)) (twice i) ∙ num_past (x % 256) (x / 256) (bytes16 l ++ r) (2 * i) ∙ num_16 l r i (omega arith)

pub plain_16 : (l r : List ℕ) → length l ≡ 16 → plain_table_at (bytes16 l ++ r) ≡ table_of l
plain_16 l r e =
    rw (n 0 (omega arith), n 1 (omega arith), n 2 (omega arith), n 3 (omega arith), n 4 (omega arith), n 5 (omega arith), n 6 (omega arith), n 7 (omega arith), n 8 (omega arith), n 9 (omega arith), n 10 (omega arith), n 11 (omega arith), n 12 (omega arith), n 13 (omega arith), n 14 (omega arith), n 15 (omega arith))
  where
    n : (i : ℕ) → i < 16 → num (bytes16 l ++ r) (2 * i) ≡ get_or l i 0
    n i h = num_16 l r i (omega arith)

pub group_20 : (l r : List ℕ) → length l ≡ 20 → group_table_at (bytes16 l ++ r) ≡ group_table_of l
group_20 l r e =
    rw (n 0 (omega arith), n 1 (omega arith), n 2 (omega arith), n 3 (omega arith), n 4 (omega arith), n 5 (omega arith), n 6 (omega arith), n 7 (omega arith), n 8 (omega arith), n 9 (omega arith), n 10 (omega arith), n 11 (omega arith), n 12 (omega arith), n 13 (omega arith), n 14 (omega arith), n 15 (omega arith), n 16 (omega arith), n 17 (omega arith), n 18 (omega arith), n 19 (omega arith))
  where
    n : (i : ℕ) → i < 20 → num (bytes16 l ++ r) (2 * i) ≡ get_or l i 0
    n i h = num_16 l r i (omega arith)

-- the size tells which of the two it is
pub plain_at : (s : List ℕ) → length s ≡ 32 → table_at s ≡ plain_table_at s
plain_at s e = ap (λ (n : ℕ). pick (eqb n 40) (group_table_at s) (plain_table_at s)) e

pub group_at_lem : (s : List ℕ) → length s ≡ 40 → table_at s ≡ group_table_at s
group_at_lem s e = ap (λ (n : ℕ). pick (eqb n 40) (group_table_at s) (plain_table_at s)) e

-- n numbers from a place on
abbrev pub numbers_from : ℕ → ℕ → List ℕ → List ℕ
numbers_from zero at s = []
numbers_from (suc n) at s = num s at ∷ numbers_from n (at + 2) s

two_more : (s : List ℕ) (at : ℕ) → at + 2 ≤ length s → drop at s ≡ get_or s at 0 ∷ get_or s (at + 1) 0 ∷ drop (at + 2) s
two_more s at h = drop-cons s at 0 (omega arith) ∙ ap (λ (l : List ℕ). get_or s at 0 ∷ l) next
  where
    next : drop (suc at) s ≡ get_or s (at + 1) 0 ∷ drop (at + 2) s
    next = simp towards_suc (drop-cons s (suc at) 0 (omega arith))

-- the bytes that were read are written
pub bytes_from : (n at : ℕ) (s : List ℕ) → Bytes s → at + 2 * n ≤ length s → bytes16 (numbers_from n at s) ≡ take (2 * n) (drop at s)
bytes_from zero at s b h = refl
bytes_from (suc n) at s b h =
    let x : le16 (get_or s at 0) (get_or s (at + 1) 0) % 256 ≡ get_or s at 0 = omega (arith, b at, b (at + 1)) in
    let y : le16 (get_or s at 0) (get_or s (at + 1) 0) / 256 ≡ get_or s (at + 1) 0 = omega (arith, b at, b (at + 1)) in
    rw (x, y, bytes_from n (at + 2) s b (omega arith), twice n, two_more s at (omega arith))

-- n elements from a place on
abbrev pub elements : ℕ → ℕ → List ℕ → List ℕ
elements zero at s = []
elements (suc n) at s = get_or s at 0 ∷ elements n (at + 1) s

pub elements_from : (n at : ℕ) (s : List ℕ) → at + n ≤ length s → elements n at s ≡ take n (drop at s)
elements_from zero at s h = refl
elements_from (suc n) at s h = rw (elements_from n (at + 1) s (omega arith), add-one at, drop-cons s at 0 (omega arith))

-- a kind's number tells the kind
pub kind_number_lem : (n : ℕ) → kind_number (kind_of n) ≡ n
kind_number_lem n = one 0 Act _ refl (one 1 Rd _ refl (one 2 Rda _ refl (one 3 Wr _ refl (one 4 Wra _ refl (one 5 Ref (Other n) refl refl)))))
  where
    one : (m : ℕ) (k rest : Kind) → kind_number k ≡ m → kind_number rest ≡ n → kind_number (pick (eqb n m) k rest) ≡ n
    one m k rest p q = on (eqb n m) refl
      where
        on : (t : Bool) → eqb n m ≡ t → kind_number (pick t k rest) ≡ n
        on true e = cc (eqb-true n m e)
        on false e = q
