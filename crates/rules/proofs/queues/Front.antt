-- The queues of a list with more transactions at its end.
-- Assumes nothing.
use Prim.Native.Nat.{ℕ, suc, ◌+◌, ◌-◌, ◌*◌, ◌/◌, ◌≤◌, ◌<◌}
use native.Mathlib.Omega.{arith}
use native.Mathlib.Nat.{div-lt_iff_lt-mul}
use mathlib.Core.Path.{◌≡◌, refl, sym, ◌∙◌}
use mathlib.Core.Bool.{Bool, true, false}
use mathlib.Core.Option.{some}
use mathlib.Core.List.{List, [], ◌∷◌, ◌++◌}
use lib.Dec.{ltb}
use lib.ListN.{length}
use borrow.Author.Tests.{ltb-true, ltb-false, lt-ltb, le-ltb}
use Rattle.records.specs.declared.table.Table.{Table}
use Rattle.records.specs.declared.transaction.Transaction.{Transaction}
use Rattle.records.specs.Tests.{pick}
use Rattle.rules.proofs.laws.TestLaws.{OnSome, on_pick_lem, on_map}
use Rattle.rules.proofs.queues.Queue.{Place, data_count, place_of, find, data_due, bank_of_place, act_bank, sum, act_sum, data_sum}
use Rattle.rules.proofs.queues.Fit.{Fit, AllFit, data_fit, plain_count}
use Rattle.rules.specs.Queues.{act_count}

module _ (f : Transaction → ℕ) where
  -- a place's transaction has a number from i on, and at least a commands before it in the ACT queue
  abbrev From : ℕ → ℕ → Place → Type 0
  From i a p = (i ≤ p.number) × (a ≤ p.before)

  find_from : (l : List Transaction) (i a n : ℕ) → OnSome (From i a) (find f l i a n)
  find_from [] i a n = tt
  find_from (x ∷ xs) i a n =
      on_pick_lem (From i a) (ltb n (f x)) (place_of x i a n) (find f xs (suc i) (a + act_count x) (n - f x)) (λ e. (omega arith, omega arith))
      (λ e. on_map {P = From (suc i) (a + act_count x)} {Q = From i a} (find f xs (suc i) (a + act_count x) (n - f x)) (λ p h. (omega (arith, h.0), omega (arith, h.1)))
      (find_from xs (suc i) (a + act_count x) (n - f x)))

  -- and a number of the list's
  pub find_number : (l : List Transaction) (i a n : ℕ) → OnSome (λ p. p.number < i + length l) (find f l i a n)
  find_number [] i a n = tt
  find_number (x ∷ xs) i a n =
      on_pick_lem (λ p. p.number < i + suc (length xs)) (ltb n (f x)) (place_of x i a n) (find f xs (suc i) (a + act_count x) (n - f x)) (λ e. omega arith)
      (λ e. on_map {P = λ p. p.number < suc i + length xs} {Q = λ p. p.number < i + suc (length xs)} (find f xs (suc i) (a + act_count x) (n - f x)) (λ p h. omega arith)
      (find_number xs (suc i) (a + act_count x) (n - f x)))

  module _ (ys : List Transaction) where
    -- as long as the earlier transactions' commands last, they are the head
    pub find_front : (xs : List Transaction) (i a n : ℕ) → n < sum f xs → find f (xs ++ ys) i a n ≡ find f xs i a n
    find_front [] i a n h = absurd (omega arith)
    find_front (x ∷ xs) i a n h = on (ltb n (f x)) refl (find_front xs (suc i) (a + act_count x) (n - f x))
      where
        on : (e : Bool) → ltb n (f x) ≡ e
            → (n - f x < sum f xs → find f (xs ++ ys) (suc i) (a + act_count x) (n - f x) ≡ find f xs (suc i) (a + act_count x) (n - f x))
            → pick e (some (place_of x i a n)) (find f (xs ++ ys) (suc i) (a + act_count x) (n - f x))
            ≡ pick e (some (place_of x i a n)) (find f xs (suc i) (a + act_count x) (n - f x))
        on true e ih = refl
        on false e ih = ih (omega (arith, ltb-false n (f x) e))

    -- past them, what stands at the head is a later one's
    pub find_back : (xs : List Transaction) (i a n : ℕ) → sum f xs ≤ n
        → OnSome (λ p. (i + length xs ≤ p.number) × (a + act_sum xs ≤ p.before)) (find f (xs ++ ys) i a n)
    find_back [] i a n h =
        on_map {P = From i a} {Q = λ p. (i + 0 ≤ p.number) × (a + 0 ≤ p.before)} (find f ys i a n) (λ p k. (omega (arith, k.0), omega (arith, k.1))) (find_from ys i a n)
    find_back (x ∷ xs) i a n h =
        rw (le-ltb n (f x) (omega arith))
        (on_map {P = λ p. (suc i + length xs ≤ p.number) × (a + act_count x + act_sum xs ≤ p.before)}
        {Q = λ p. (i + suc (length xs) ≤ p.number) × (a + (act_count x + act_sum xs) ≤ p.before)}
        (find f (xs ++ ys) (suc i) (a + act_count x) (n - f x)) (λ p k. (omega (arith, k.0), omega (arith, k.1)))
        (find_back xs (suc i) (a + act_count x) (n - f x) (omega arith)))

-- the number, in the ACT queue, of the n-th data command's ACT
abbrev pub act_of : List Transaction → ℕ → ℕ
act_of [] n = 0
act_of (x ∷ xs) n = pick (ltb n (data_count x)) (n / x.bc) (act_count x + act_of xs (n - data_count x))

div_in : (τ : Table) (x : Transaction) (n : ℕ) → Fit τ x → n < data_count x → n / x.bc < act_count x
div_in τ x n w k = let d : n / x.bc < x.bi = (div-lt_iff_lt-mul {k = x.bc} {x = n} {y = x.bi} w.one).1 k in omega (arith, plain_count τ x w)

-- the bank of a place is no matter of the numbers that the list begins with
bank_any : (τ : Table) (l : List Transaction) (i a i' a' n : ℕ) → bank_of_place τ (find act_count l i a n) ≡ bank_of_place τ (find act_count l i' a' n)
bank_any τ [] i a i' a' n = refl
bank_any τ (x ∷ l) i a i' a' n = on (ltb n (act_count x)) (bank_any τ l (suc i) (a + act_count x) (suc i') (a' + act_count x) (n - act_count x))
  where
    on : (e : Bool) → bank_of_place τ (find act_count l (suc i) (a + act_count x) (n - act_count x)) ≡ bank_of_place τ (find act_count l (suc i') (a' + act_count x) (n - act_count x))
        → bank_of_place τ (pick e (some (place_of x i a n)) (find act_count l (suc i) (a + act_count x) (n - act_count x)))
        ≡ bank_of_place τ (pick e (some (place_of x i' a' n)) (find act_count l (suc i') (a' + act_count x) (n - act_count x)))
    on true ih = refl
    on false ih = ih

-- a data command waits for that ACT, and goes to its bank
abbrev pub Own : Table → List Transaction → ℕ → ℕ → Place → Type 0
Own τ l a n p = ((data_due τ p).act ≡ a + act_of l n) × ((data_due τ p).bank ≡ act_bank τ l (act_of l n)) × (act_of l n < act_sum l)

pub data_own : (τ : Table) (l : List Transaction) → AllFit τ l → (i a n : ℕ) → OnSome (Own τ l a n) (find data_count l i a n)
data_own τ [] v i a n = tt
data_own τ (x ∷ xs) v i a n = on (ltb n (data_count x)) refl (data_own τ xs v.1 (suc i) (a + act_count x) (n - data_count x))
  where
    Here : ℕ → Place → Type 0
    Here m p = ((data_due τ p).act ≡ a + m) × ((data_due τ p).bank ≡ act_bank τ (x ∷ xs) m) × (m < act_count x + act_sum xs)

    skip : (k : ℕ) → act_bank τ (x ∷ xs) (act_count x + k) ≡ act_bank τ xs k
    skip k =
        let z : act_count x + k - act_count x ≡ k = omega arith in
        rw (le-ltb (act_count x + k) (act_count x) (omega arith), z) (bank_any τ xs 1 (0 + act_count x) 0 0 k)

    on : (e : Bool) → ltb n (data_count x) ≡ e → OnSome (Own τ xs (a + act_count x) (n - data_count x)) (find data_count xs (suc i) (a + act_count x) (n - data_count x))
        → OnSome (Here (pick e (n / x.bc) (act_count x + act_of xs (n - data_count x))))
        (pick e (some (place_of x i a n)) (find data_count xs (suc i) (a + act_count x) (n - data_count x)))
    on true e ih =
        let h : n < data_count x = ltb-true n (data_count x) e in
        let w = data_fit τ x v.0 n h in
        let d : n / x.bc < act_count x = div_in τ x n w h in
        (refl, rw (lt-ltb (n / x.bc) (act_count x) d, w.plain) refl, omega arith)
    on false e ih =
        on_map {P = Own τ xs (a + act_count x) (n - data_count x)} {Q = Here (act_count x + act_of xs (n - data_count x))}
        (find data_count xs (suc i) (a + act_count x) (n - data_count x))
        (λ p k. (omega (arith, k.0), k.1 ∙ sym (skip (act_of xs (n - data_count x))), omega (arith, k.2))) ih

pub act_of_lt : (τ : Table) (l : List Transaction) → AllFit τ l → (n : ℕ) → n < data_sum l → act_of l n < act_sum l
act_of_lt τ [] v n h = absurd (omega arith)
act_of_lt τ (x ∷ xs) v n h = on (ltb n (data_count x)) refl (act_of_lt τ xs v.1 (n - data_count x))
  where
    on : (e : Bool) → ltb n (data_count x) ≡ e → (n - data_count x < data_sum xs → act_of xs (n - data_count x) < act_sum xs)
        → pick e (n / x.bc) (act_count x + act_of xs (n - data_count x)) < act_count x + act_sum xs
    on true e ih =
        let h : n < data_count x = ltb-true n (data_count x) e in
        let d : n / x.bc < act_count x = div_in τ x n (data_fit τ x v.0 n h) h in
        omega arith
    on false e ih = let d : data_count x ≤ n = ltb-false n (data_count x) e in omega (arith, ih (omega arith))

-- the data commands past those of p have their ACTs past those of p
pub act_of_past : (p q : List Transaction) (n : ℕ) → data_sum p ≤ n → act_sum p ≤ act_of (p ++ q) n
act_of_past [] q n h = omega arith
act_of_past (x ∷ p) q n h = rw (le-ltb n (data_count x) (omega arith)) (omega (arith, act_of_past p q (n - data_count x) (omega arith)))

div_up : (c n k : ℕ) → 1 ≤ c → n ≤ k → n / c ≤ k / c
div_up c n k h le =
    let a : k < (k / c + 1) * c = (div-lt_iff_lt-mul {k = c} {x = k} {y = k / c + 1} h).0 (omega arith) in
    let b : n / c < k / c + 1 = (div-lt_iff_lt-mul {k = c} {x = n} {y = k / c + 1} h).1 (omega arith) in
    omega arith

pub act_of_up : (τ : Table) (l : List Transaction) → AllFit τ l → (n k : ℕ) → n ≤ k → k < data_sum l → act_of l n ≤ act_of l k
act_of_up τ [] v n k le h = omega arith
act_of_up τ (x ∷ xs) v n k le h =
    on (ltb n (data_count x)) (ltb k (data_count x)) refl refl (act_of_up τ xs v.1 (n - data_count x) (k - data_count x))
  where
    on : (e e' : Bool) → ltb n (data_count x) ≡ e → ltb k (data_count x) ≡ e'
        → (n - data_count x ≤ k - data_count x → k - data_count x < data_sum xs → act_of xs (n - data_count x) ≤ act_of xs (k - data_count x))
        → pick e (n / x.bc) (act_count x + act_of xs (n - data_count x)) ≤ pick e' (k / x.bc) (act_count x + act_of xs (k - data_count x))
    on true true p q ih = div_up x.bc n k (data_fit τ x v.0 n (ltb-true n (data_count x) p)).one le
    on true false p q ih =
        let h : n < data_count x = ltb-true n (data_count x) p in
        let d : n / x.bc < act_count x = div_in τ x n (data_fit τ x v.0 n h) h in
        omega arith
    on false true p q ih = absurd (omega (arith, ltb-false n (data_count x) p, ltb-true k (data_count x) q))
    on false false p q ih =
        let d : data_count x ≤ n = ltb-false n (data_count x) p in
        omega (arith, ih (omega arith) (omega arith))
