-- Records by their places in a schedule, and records newest first.
-- Assumes nothing.
use Prim.Native.Nat.{ℕ, zero, suc, ◌+◌, ◌<◌}
use native.Mathlib.Omega.{arith}
use mathlib.Core.Path.{◌≡◌, refl, sym, ◌∙◌, subst}
use mathlib.Core.Logic.{◌⊎◌, inl, inr}
use mathlib.Core.Option.{some}
use mathlib.Core.List.{List, [], ◌∷◌}
use lib.ListN.{length, take}
use lib.Seq.{length-take-le}
use Rattle.records.specs.declared.command.Command.{Command}
use Rattle.rules.specs.Pattern.{onto}
use Rattle.serves.specs.Serves.{Stands}
use Rattle.serves.proofs.Tests.{same_some, none_some}

-- some record of a list has P, with the records behind it
abbrev pub Somewhere : (Command → List Command → Type 0) → List Command → Type 0
Somewhere P [] = ⊥
Somewhere P (r ∷ t) = P r t ⊎ Somewhere P t

-- ---- newest first: the records before it

pub record Before (P : Command → List Command → Type 0) (rs h : List Command) : Type 0 where
  pub place : ℕ
  pub one : Command
  pub stands : Stands rs place one
  pub has : P one (onto (take place rs) h)

pub before_of : (P : Command → List Command → Type 0) (rs h : List Command) → Somewhere P (onto rs h) → Before P rs h ⊎ Somewhere P h
before_of P [] h w = inr w
before_of P (r ∷ t) h w = on (before_of P t (r ∷ h) w)
  where
    on : Before P t (r ∷ h) ⊎ Somewhere P (r ∷ h) → Before P (r ∷ t) h ⊎ Somewhere P h
    on (inl q) = inl (record { place = suc q.place; one = q.one; stands = q.stands; has = q.has })
    on (inr (inl p)) = inl (record { place = 0; one = r; stands = refl; has = p })
    on (inr (inr w)) = inr w

-- of all records
pub stands_of : (P : Command → List Command → Type 0) (rs : List Command) → Somewhere P (onto rs []) → Before P rs []
stands_of P rs w = on (before_of P rs [] w)
  where
    on : Before P rs [] ⊎ Somewhere P [] → Before P rs []
    on (inl q) = q
    on (inr q) = absurd q

onto_keeps : (P : Command → List Command → Type 0) (rs h : List Command) → Somewhere P h → Somewhere P (onto rs h)
onto_keeps P [] h w = w
onto_keeps P (r ∷ t) h w = onto_keeps P t (r ∷ h) (inr w)

pub before_at : (P : Command → List Command → Type 0) (rs h : List Command) (i : ℕ) (r : Command) → Stands rs i r → P r (onto (take i rs) h)
    → Somewhere P (onto rs h)
before_at P [] h i r s p = none_some r s
before_at P (w ∷ t) h zero r s p = onto_keeps P t (w ∷ h) (inl (subst (λ (y : Command). P y h) (sym (same_some (some w) w r refl s)) p))
before_at P (w ∷ t) h (suc i) r s p = before_at P t (w ∷ h) i r s p

-- ---- a record of those before number i

-- one of them is P
abbrev pub Has : (Command → Type 0) → List Command → Type 0
Has P l = Somewhere (λ r t. P r) l

-- a record among others
abbrev pub In : Command → List Command → Type 0
In w h = Has (λ v. v ≡ w) h

pub record Earlier (P : Command → Type 0) (rs : List Command) (i : ℕ) : Type 0 where
  pub place : ℕ
  pub one : Command
  pub stands : Stands rs place one
  pub earlier : place < i
  pub has : P one

take_stands : (rs : List Command) (i j : ℕ) (r : Command) → Stands (take i rs) j r → (j < i) × Stands rs j r
take_stands rs zero j r s = none_some r s
take_stands [] (suc i) j r s = none_some r s
take_stands (w ∷ t) (suc i) zero r s = (omega arith, s)
take_stands (w ∷ t) (suc i) (suc j) r s = let q = take_stands t i j r s in (omega (arith, q.0), q.1)

stands_take : (rs : List Command) (i j : ℕ) (r : Command) → j < i → Stands rs j r → Stands (take i rs) j r
stands_take rs zero j r h s = absurd (omega arith)
stands_take [] (suc i) j r h s = none_some r s
stands_take (w ∷ t) (suc i) zero r h s = s
stands_take (w ∷ t) (suc i) (suc j) r h s = stands_take t i j r (omega arith) s

pub earlier_of : (P : Command → Type 0) (rs : List Command) (i : ℕ) → Has P (onto (take i rs) []) → Earlier P rs i
earlier_of P rs i w =
    let q = stands_of (λ r t. P r) (take i rs) w in
    let z = take_stands rs i q.place q.one q.stands in
    record { place = q.place; one = q.one; stands = z.1; earlier = z.0; has = q.has }

pub earlier_at : (P : Command → Type 0) (rs : List Command) (i j : ℕ) (r : Command) → j < i → Stands rs j r → P r → Has P (onto (take i rs) [])
earlier_at P rs i j r h s p = before_at (λ r t. P r) (take i rs) [] j r (stands_take rs i j r h s) p

-- ---- a record's place is the number of records before it

pub stands_below : (rs : List Command) (i : ℕ) (r : Command) → Stands rs i r → i < length rs
stands_below [] i r s = none_some r s
stands_below (w ∷ t) zero r s = omega arith
stands_below (w ∷ t) (suc i) r s = omega (arith, stands_below t i r s)

onto_length : (rs h : List Command) → length (onto rs h) ≡ length rs + length h
onto_length [] h = omega arith
onto_length (r ∷ t) h = onto_length t (r ∷ h) ∙ omega arith

pub before_length : (rs : List Command) (i : ℕ) (r : Command) → Stands rs i r → length (onto (take i rs) []) ≡ i
before_length rs i r s = onto_length (take i rs) [] ∙ omega (arith, length-take-le i rs (omega (arith, stands_below rs i r s)))
