-- The greatest and the least of records, newest first, and the places of last records and first REFs.
-- Assumes nothing.
use Prim.Native.Nat.{ℕ, zero, suc, ◌+◌, ◌≤◌, ◌<◌, min, max}
use native.Mathlib.Omega.{arith}
use mathlib.Core.Path.{◌≡◌, refl, ap, subst}
use mathlib.Core.Logic.{◌⊎◌, inl, inr, ⊎_elim}
use mathlib.Core.Bool.{Bool, true, false, not, ◌&&◌, ◌||◌}
use mathlib.Core.List.{List, [], ◌∷◌}
use lib.Dec.{ltb, eqb}
use lib.ListN.{length}
use borrow.Author.Tests.{ltb-true, ltb-false, eqb-true, lt-ltb, eq-eqb}
use Rattle.records.specs.declared.command.Command.{Command}
use Rattle.records.specs.Tests.{pick}
use Rattle.rules.specs.Kinds.{is_ref}
use Rattle.rules.proofs.laws.TestLaws.{true_false, and_fst, and_snd}
use Rattle.rules.proofs.laws.Numbers.{from?}
use Rattle.serves.specs.Check.{most_of, last_of, ref_of, most_below, any_outside, least_by}
use Rattle.serves.proofs.Records.{Somewhere, Has}

-- ---- the greatest

pub most_has : (t : Command → Bool) (g : Command → ℕ) (k : ℕ) (h : List Command) → k < most_of t g h → Has (λ w. (t w ≡ true) × (k < g w)) h
most_has t g k [] p = absurd (omega arith)
most_has t g k (r ∷ h) p = on (t r) refl p (most_has t g k h)
  where
    on : (b : Bool) → t r ≡ b → k < pick b (max (g r) (most_of t g h)) (most_of t g h) → (k < most_of t g h → Has (λ w. (t w ≡ true) × (k < g w)) h)
        → Has (λ w. (t w ≡ true) × (k < g w)) (r ∷ h)
    on true e p ih = ⊎_elim (λ z. inr (ih z)) (λ z. inl (e, omega (arith, p, z.1))) (from? k (most_of t g h))
    on false e p ih = inr (ih p)

pub has_most : (t : Command → Bool) (g : Command → ℕ) (k : ℕ) (h : List Command) → Has (λ w. (t w ≡ true) × (k < g w)) h → k < most_of t g h
has_most t g k [] w = absurd w
has_most t g k (r ∷ h) (inl (e, p)) = rw e (omega (arith, p))
has_most t g k (r ∷ h) (inr w) = on (t r) (has_most t g k h w)
  where
    on : (b : Bool) → k < most_of t g h → k < pick b (max (g r) (most_of t g h)) (most_of t g h)
    on true p = omega (arith, p)
    on false p = p

-- of a number below x
pub below_most : (f : ℕ → ℕ) (x y : ℕ) → y < x → f y ≤ most_below f x
below_most f zero y h = absurd (omega arith)
below_most f (suc x) y h = ⊎_elim (λ z. omega (arith, below_most f x y z)) (λ z. let e : y ≡ x = omega (arith, z.1, h) in omega (arith, ap f e)) (from? y x)

pub record Below (f : ℕ → ℕ) (x k : ℕ) : Type 0 where
  pub at : ℕ
  pub below : at < x
  pub over : k < f at

pub most_below_lem : (f : ℕ → ℕ) (x k : ℕ) → k < most_below f x → Below f x k
most_below_lem f zero k h = absurd (omega arith)
most_below_lem f (suc x) k h = on (from? k (most_below f x)) (most_below_lem f x k)
  where
    on : (k < most_below f x) ⊎ ((d : ℕ) × (k ≡ most_below f x + d)) → (k < most_below f x → Below f x k) → Below f (suc x) k
    on (inl z) ih = let q = ih z in record { at = q.at; below = omega (arith, q.below); over = q.over }
    on (inr z) ih = record { at = x; below = omega arith; over = omega (arith, z.1, h) }

-- ---- the lowest number of a record that fails

-- a record of number x fails a test
abbrev pub Fails : (Command → List Command → Bool) → ℕ → Command → List Command → Type 0
Fails bad x r t = (r.number ≡ x) × (bad r t ≡ true)

module _ (n : ℕ) (bad : Command → List Command → Bool) where
  pub least_le : (l : List Command) → least_by n bad l ≤ n
  least_le [] = omega arith
  least_le (r ∷ t) = on (ltb r.number n && bad r t) (least_le t)
    where
      on : (b : Bool) → least_by n bad t ≤ n → pick b (min r.number (least_by n bad t)) (least_by n bad t) ≤ n
      on true h = omega (arith, h)
      on false h = h

  pub least_under : (l : List Command) (x : ℕ) → x < n → Somewhere (Fails bad x) l → least_by n bad l ≤ x
  least_under [] x h w = absurd w
  least_under (r ∷ t) x h (inl (e, p)) = rw (lt-ltb r.number n (omega (arith, e)), p) (omega (arith, e))
  least_under (r ∷ t) x h (inr w) = on (ltb r.number n && bad r t) (least_under t x h w)
    where
      on : (b : Bool) → least_by n bad t ≤ x → pick b (min r.number (least_by n bad t)) (least_by n bad t) ≤ x
      on true h = omega (arith, h)
      on false h = h

  pub least_some : (l : List Command) → least_by n bad l < n → Somewhere (Fails bad (least_by n bad l)) l
  least_some [] h = absurd (omega arith)
  least_some (r ∷ t) h = on (ltb r.number n && bad r t) refl h (least_some t)
    where
      L : ℕ
      L = least_by n bad t

      lower : (b : Bool) → ltb r.number L ≡ b → bad r t ≡ true → min r.number L < n → (L < n → Somewhere (Fails bad L) t)
          → Somewhere (Fails bad (min r.number L)) (r ∷ t)
      lower true e p h ih = let z : r.number ≡ min r.number L = omega (arith, ltb-true r.number L e) in inl (z, p)
      lower false e p h ih =
          let z : L ≡ min r.number L = omega (arith, ltb-false r.number L e) in
          inr (subst (λ (y : ℕ). Somewhere (Fails bad y) t) z (ih (omega (arith, z, h))))

      on : (b : Bool) → (ltb r.number n && bad r t) ≡ b → pick b (min r.number L) L < n → (L < n → Somewhere (Fails bad L) t)
          → Somewhere (Fails bad (pick b (min r.number L) L)) (r ∷ t)
      on true e h ih = lower (ltb r.number L) refl (and_snd (ltb r.number n) (bad r t) e) h ih
      on false e h ih = inr (ih h)

-- ---- the place of a transaction's last record, and of its first REF

-- a record of number y at place j
abbrev pub NumberedAt : ℕ → ℕ → Command → List Command → Type 0
NumberedAt y j r t = (r.number ≡ y) × (length t ≡ j)

abbrev pub RefAt : ℕ → ℕ → Command → List Command → Type 0
RefAt x i r t = (r.number ≡ x) × (is_ref r.kind ≡ true) × (length t ≡ i)

shorter : (y j : ℕ) (h : List Command) → Somewhere (NumberedAt y j) h → j < length h
shorter y j [] w = absurd w
shorter y j (r ∷ h) (inl p) = omega (arith, p.1)
shorter y j (r ∷ h) (inr w) = omega (arith, shorter y j h w)

pub last_over : (y j : ℕ) (h : List Command) → Somewhere (NumberedAt y j) h → j ≤ last_of y h
last_over y j [] w = absurd w
last_over y j (r ∷ h) (inl p) = rw (eq-eqb r.number y p.0) (omega (arith, p.1))
last_over y j (r ∷ h) (inr w) = on (eqb r.number y) (last_over y j h w)
  where
    on : (b : Bool) → j ≤ last_of y h → j ≤ pick b (length h) (last_of y h)
    on true q = omega (arith, shorter y j h w)
    on false q = q

pub last_some : (y k : ℕ) (h : List Command) → k < last_of y h → Somewhere (NumberedAt y (last_of y h)) h
last_some y k [] p = absurd (omega arith)
last_some y k (r ∷ h) p = on (eqb r.number y) refl p (last_some y k h)
  where
    on : (b : Bool) → eqb r.number y ≡ b → k < pick b (length h) (last_of y h) → (k < last_of y h → Somewhere (NumberedAt y (last_of y h)) h)
        → Somewhere (NumberedAt y (pick b (length h) (last_of y h))) (r ∷ h)
    on true e p ih = inl (eqb-true r.number y e, refl)
    on false e p ih = inr (ih p)

pub ref_under : (x i : ℕ) (h : List Command) → Somewhere (RefAt x i) h → ref_of x h ≤ i
ref_under x i [] w = absurd w
ref_under x i (r ∷ h) (inl p) = rw (eq-eqb r.number x p.0, p.1) (omega (arith, p.2))
ref_under x i (r ∷ h) (inr w) = on (eqb r.number x && is_ref r.kind) (ref_under x i h w)
  where
    on : (b : Bool) → ref_of x h ≤ i → pick b (min (length h) (ref_of x h)) (ref_of x h) ≤ i
    on true q = omega (arith, q)
    on false q = q

pub ref_some : (x : ℕ) (h : List Command) → ref_of x h < 69632 → Somewhere (RefAt x (ref_of x h)) h
ref_some x [] p = absurd (omega arith)
ref_some x (r ∷ h) p = on (eqb r.number x && is_ref r.kind) refl p (ref_some x h)
  where
    M : ℕ
    M = ref_of x h

    first : (b : Bool) → ltb M (length h) ≡ b → (eqb r.number x && is_ref r.kind) ≡ true → (M < 69632 → Somewhere (RefAt x M) h) → min (length h) M < 69632
        → Somewhere (RefAt x (min (length h) M)) (r ∷ h)
    first true e p ih q =
        let z : M ≡ min (length h) M = omega (arith, ltb-true M (length h) e) in
        inr (subst (λ (i : ℕ). Somewhere (RefAt x i) h) z (ih (omega (arith, z, q))))
    first false e p ih q =
        inl (
          eqb-true r.number x (and_fst (eqb r.number x) (is_ref r.kind) p),
          and_snd (eqb r.number x) (is_ref r.kind) p,
          omega
              (arith, ltb-false M (length h) e),
        )

    on : (b : Bool) → (eqb r.number x && is_ref r.kind) ≡ b → pick b (min (length h) M) M < 69632 → (M < 69632 → Somewhere (RefAt x M) h)
        → Somewhere (RefAt x (pick b (min (length h) M) M)) (r ∷ h)
    on true e q ih = first (ltb M (length h)) refl e ih q
    on false e q ih = inr (ih q)

-- ---- a record outside the list

module _ (n : ℕ) where
  pub out_some : (h : List Command) → any_outside n h ≡ true → Has (λ r. n ≤ r.number) h
  out_some [] e = true_false false e refl
  out_some (r ∷ h) e = on (ltb r.number n) refl e (out_some h)
    where
      on : (b : Bool) → ltb r.number n ≡ b → (not b || any_outside n h) ≡ true → (any_outside n h ≡ true → Has (λ r. n ≤ r.number) h)
          → Has (λ r. n ≤ r.number) (r ∷ h)
      on true q e ih = inr (ih e)
      on false q e ih = inl (ltb-false r.number n q)

  pub some_out : (h : List Command) → any_outside n h ≡ false → Has (λ r. n ≤ r.number) h → ⊥
  some_out [] e w = w
  some_out (r ∷ h) e w = on (ltb r.number n) refl e (some_out h) w
    where
      on : (b : Bool) → ltb r.number n ≡ b → (not b || any_outside n h) ≡ false → (any_outside n h ≡ false → Has (λ r. n ≤ r.number) h → ⊥)
          → Has (λ r. n ≤ r.number) (r ∷ h) → ⊥
      on true q e ih (inl z) = absurd (omega (arith, z, ltb-true r.number n q))
      on true q e ih (inr z) = ih e z
      on false q e ih z = true_false true refl e
