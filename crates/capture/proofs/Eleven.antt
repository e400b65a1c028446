-- The record that number 11 names is the lowest such record.
-- Assumes nothing.
use Prim.Native.Nat.{ℕ, zero, suc, ◌+◌, ◌<◌}
use native.Mathlib.Omega.{arith}
use mathlib.Core.Path.{◌≡◌, refl, sym, ap, ◌∙◌, subst}
use mathlib.Core.Logic.{◌⊎◌, inl, inr, ⊎_elim}
use mathlib.Core.Bool.{Bool, true, false}
use mathlib.Core.Option.{some-injective}
use mathlib.Core.List.{List, [], ◌∷◌}
use lib.Dec.{eqb}
use lib.ListN.{length}
use borrow.Author.Tests.{ltb-true, ltb-false, eqb-true, eqb-false}
use Rattle.records.specs.Tests.{pick}
use Rattle.rules.proofs.laws.TestLaws.{either, neither}
use Rattle.stamps.specs.Capture.{Timed, too_late, bad_after, lowest_after, lowest}
use Rattle.capture.specs.Eleven.{Such, Lowest}

-- numbers from i on are those from 0 on, i later
later_by : (i p : ℕ) (l : List Timed) → lowest_after i p l ≡ i + lowest_after 0 p l
later_by i p [] = omega arith
later_by i p (x ∷ l) = on (bad_after p x) (later_by (suc i) x.seen.stamp l) (later_by 1 x.seen.stamp l)
  where
    on : (b : Bool) → lowest_after (suc i) x.seen.stamp l ≡ suc i + lowest_after 0 x.seen.stamp l
        → lowest_after 1 x.seen.stamp l ≡ 1 + lowest_after 0 x.seen.stamp l
        → pick b i (lowest_after (suc i) x.seen.stamp l) ≡ i + pick b 0 (lowest_after 1 x.seen.stamp l)
    on true e f = omega arith
    on false e f = omega arith

is_such : (y x : Timed) → bad_after y.seen.stamp x ≡ true → (x.seen.stamp ≡ y.seen.stamp) ⊎ (4294967295 < x.cycle)
is_such y x e =
    ⊎_elim (λ a. inl (eqb-true x.seen.stamp y.seen.stamp a)) (λ a. inr (ltb-true 4294967295 x.cycle a))
    (either (eqb x.seen.stamp y.seen.stamp) (too_late x.cycle) e)

not_such : (y x : Timed) → bad_after y.seen.stamp x ≡ false → (x.seen.stamp ≡ y.seen.stamp) ⊎ (4294967295 < x.cycle) → ⊥
not_such y x e =
    let n = neither (eqb x.seen.stamp y.seen.stamp) (too_late x.cycle) e in
    ⊎_elim (eqb-false x.seen.stamp y.seen.stamp n.0) (λ a. omega (arith, ltb-false 4294967295 x.cycle n.1, a))

-- of the second record of a list
not_second : (y x : Timed) (l : List Timed) → bad_after y.seen.stamp x ≡ false → Such (y ∷ x ∷ l) 1 → ⊥
not_second y x l e s =
    let p : y ≡ s.0 = some-injective y s.0 s.2 in
    let q : x ≡ s.1 = some-injective x s.1 s.3 in
    not_such y x e
    (subst (λ (a : Timed). (x.seen.stamp ≡ a.seen.stamp) ⊎ (4294967295 < x.cycle)) (sym p)
    (subst (λ (a : Timed). (a.seen.stamp ≡ s.0.seen.stamp) ⊎ (4294967295 < a.cycle)) (sym q) s.4))

-- of the records after y
abbrev Named : Timed → List Timed → ℕ → Type 0
Named y l n = (n < length l → Such (y ∷ l) (suc n)) × ((k : ℕ) → k < n → Such (y ∷ l) (suc k) → ⊥)

after : (y : Timed) (l : List Timed) → Named y l (lowest_after 0 y.seen.stamp l)
after y [] = (λ h. absurd (omega arith), λ k h s. omega arith)
after y (x ∷ l) = on (bad_after y.seen.stamp x) refl (after x l)
  where
    further : (n : ℕ) → bad_after y.seen.stamp x ≡ false → Named x l n → Named y (x ∷ l) (suc n)
    further n e ih = (λ h. ih.0 (omega arith), λ k. below k)
      where
        below : (k : ℕ) → k < suc n → Such (y ∷ x ∷ l) (suc k) → ⊥
        below zero h s = not_second y x l e s
        below (suc k) h s = ih.1 k (omega arith) s

    on : (b : Bool) → bad_after y.seen.stamp x ≡ b → Named x l (lowest_after 0 x.seen.stamp l)
        → Named y (x ∷ l) (pick b 0 (lowest_after 1 x.seen.stamp l))
    on true e ih = (λ h. (y, x, refl, refl, is_such y x e), λ k h s. omega arith)
    on false e ih =
        subst (Named y (x ∷ l)) (sym (later_by 1 x.seen.stamp l ∙ omega arith)) (further (lowest_after 0 x.seen.stamp l) e ih)

-- the first record has none before it
abbrev Told : List Timed → ℕ → Type 0
Told l n = (n < length l → Such l n) × ((k : ℕ) → k < n → Such l k → ⊥)

told : (l : List Timed) → Told l (lowest l)
unfolding lowest
told [] = (λ h. absurd (omega arith), λ k h s. omega arith)
told (x ∷ l) = on (too_late x.cycle) refl (after x l)
  where
    further : (n : ℕ) → too_late x.cycle ≡ false → Named x l n → Told (x ∷ l) (suc n)
    further n e ih = (λ h. ih.0 (omega arith), λ k. below k)
      where
        below : (k : ℕ) → k < suc n → Such (x ∷ l) k → ⊥
        below zero h s =
            let q : x.cycle ≡ s.0.cycle = ap (λ (a : Timed). a.cycle) (some-injective x s.0 s.1) in
            omega (arith, q, s.2, ltb-false 4294967295 x.cycle e)
        below (suc k) h s = ih.1 k (omega arith) s

    on : (b : Bool) → too_late x.cycle ≡ b → Named x l (lowest_after 0 x.seen.stamp l) → Told (x ∷ l) (pick b 0 (lowest_after 1 x.seen.stamp l))
    on true e ih = (λ h. (x, refl, ltb-true 4294967295 x.cycle e), λ k h s. omega arith)
    on false e ih = subst (Told (x ∷ l)) (sym (later_by 1 x.seen.stamp l ∙ omega arith)) (further (lowest_after 0 x.seen.stamp l) e ih)

pub names_lowest : (l : List Timed) → Lowest l
names_lowest l = let t = told l in record { such = t.0; before = t.1 }
