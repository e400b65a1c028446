-- The decimal digits of a number: how they go on, how many they are, and that they say the number.
-- Assumes nothing.
use Prim.Native.Nat.{ℕ, zero, suc, ◌+◌, ◌*◌, ◌-◌, ◌/◌, ◌%◌, ◌^◌, ◌≤◌, ◌<◌}
use mathlib.Core.Bool.{Bool, true, false}
use mathlib.Core.Path.{◌≡◌, refl, sym, ap, ◌∙◌}
use mathlib.Core.List.{List, [], ◌∷◌, ◌++◌}
use native.Mathlib.Omega.{arith}
use native.Mathlib.Nat.{pow-suc}
use lib.Dec.{ltb}
use lib.ListN.{length, length-append}
use borrow.Author.Tests.{lt-ltb, le-ltb, ltb-true, ltb-false}
use Rattle.text.specs.Decimal.{digits_in, decimal, said_after, said}

-- by whether n is below 10
on : ℕ → ℕ → Bool → List ℕ
on k n b = elim b [ true ↦ (48 + n) ∷ [] | false ↦ digits_in k (n / 10) ++ ((48 + n % 10) ∷ []) ]

few : (k n : ℕ) → n < 10 → digits_in (suc k) n ≡ (48 + n) ∷ []
unfolding digits_in on
few k n h = ap (on k n) (lt-ltb n 10 h)

many : (k n : ℕ) → 10 ≤ n → digits_in (suc k) n ≡ digits_in k (n / 10) ++ ((48 + n % 10) ∷ [])
unfolding digits_in on
many k n h = ap (on k n) (le-ltb n 10 h)

-- where n + 1 digits are allowed, more change nothing
enough : (k m n : ℕ) → n < k → n < m → digits_in k n ≡ digits_in m n
enough zero m n h i = absurd (omega arith)
enough (suc k) zero n h i = absurd (omega arith)
enough (suc k) (suc m) n h i = by (ltb n 10) refl (λ t. enough k m (n / 10) (omega arith) (omega arith))
  where
    by : (b : Bool) → ltb n 10 ≡ b → (10 ≤ n → digits_in k (n / 10) ≡ digits_in m (n / 10)) → digits_in (suc k) n ≡ digits_in (suc m) n
    by true e f = few k n (ltb-true n 10 e) ∙ sym (few m n (ltb-true n 10 e))
    by false e f =
        let t : 10 ≤ n = ltb-false n 10 e in
        many k n t ∙ ap (λ (l : List ℕ). l ++ ((48 + n % 10) ∷ [])) (f t) ∙ sym (many m n t)

pub one_digit : (n : ℕ) → n < 10 → decimal n ≡ (48 + n) ∷ []
unfolding decimal
one_digit n h = few n n h

pub last_digit : (n : ℕ) → 10 ≤ n → decimal n ≡ decimal (n / 10) ++ ((48 + n % 10) ∷ [])
unfolding decimal
last_digit n h =
    many n n h ∙ ap (λ (l : List ℕ). l ++ ((48 + n % 10) ∷ [])) (enough n (suc (n / 10)) (n / 10) (omega arith) (omega arith))

-- what holds of one digit, and of n if of its tenth part, holds of every number
by_digits : (P : ℕ → Type 0) → ((n : ℕ) → n < 10 → P n) → ((n : ℕ) → 10 ≤ n → P (n / 10) → P n) → (k n : ℕ) → n < k → P n
by_digits P one more zero n h = absurd (omega arith)
by_digits P one more (suc k) n h = by (ltb n 10) refl (λ t. by_digits P one more k (n / 10) (omega arith))
  where
    by : (b : Bool) → ltb n 10 ≡ b → (10 ≤ n → P (n / 10)) → P n
    by true e f = one n (ltb-true n 10 e)
    by false e f = more n (ltb-false n 10 e) (f (ltb-false n 10 e))

-- ---- how many

pub one_long : (n : ℕ) → n < 10 → length (decimal n) ≡ 1
one_long n h = ap length (one_digit n h)

pub one_more_lem : (n : ℕ) → 10 ≤ n → length (decimal n) ≡ length (decimal (n / 10)) + 1
one_more_lem n h = ap length (last_digit n h) ∙ length-append (decimal (n / 10)) ((48 + n % 10) ∷ [])

-- a number and the byte that ends it
pub then_long : (n x : ℕ) → length (decimal n ++ (x ∷ [])) ≡ length (decimal n) + 1
then_long n x = length-append (decimal n) (x ∷ [])

-- at most k, for a number below the k-th power of 10
pub at_most : (k n : ℕ) → n < 10 ^ suc k → length (decimal n) ≤ suc k
at_most zero n h = omega (arith, one_long n h)
at_most (suc k) n h = by (ltb n 10) refl (λ t. at_most k (n / 10) (omega (arith, pow-suc 10 (suc k))))
  where
    by : (b : Bool) → ltb n 10 ≡ b → (10 ≤ n → length (decimal (n / 10)) ≤ suc k) → length (decimal n) ≤ suc (suc k)
    by true e f = omega (arith, one_long n (ltb-true n 10 e))
    by false e f = omega (arith, one_more_lem n (ltb-false n 10 e), f (ltb-false n 10 e))

-- ---- what they say

said_last : (m : ℕ) (l : List ℕ) (x : ℕ) → said_after m (l ++ (x ∷ [])) ≡ said_after m l * 10 + (x - 48)
unfolding said_after
said_last m [] x = refl
said_last m (y ∷ l) x = said_last (m * 10 + (y - 48)) l x

-- reading the digits gives the number
pub says : (n : ℕ) → said (decimal n) ≡ n
unfolding said_after
says n = by_digits (λ n. said (decimal n) ≡ n) one more (suc n) n (omega arith)
  where
    one : (n : ℕ) → n < 10 → said (decimal n) ≡ n
    one n h = ap said (one_digit n h) ∙ omega arith

    more : (n : ℕ) → 10 ≤ n → said (decimal (n / 10)) ≡ n / 10 → said (decimal n) ≡ n
    more n h e = ap said (last_digit n h) ∙ said_last 0 (decimal (n / 10)) (48 + n % 10) ∙ omega (arith, e)

-- so two numbers never share a text
pub one_number : (m n : ℕ) → decimal m ≡ decimal n → m ≡ n
one_number m n e = sym (says m) ∙ ap said e ∙ says n
