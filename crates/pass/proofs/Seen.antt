-- The records of bytes, newest first, and the transactions of bytes.
-- Assumes nothing.
use Prim.Native.Nat.{ℕ, zero, suc, ◌+◌, ◌*◌, ◌/◌, ◌≤◌, ◌<◌}
use native.Mathlib.Omega.{arith}
use mathlib.Core.Path.{◌≡◌, refl, sym, ap, ◌∙◌, subst}
use mathlib.Core.Logic.{◌⊎◌, inl, inr, ⊎_elim}
use mathlib.Core.Option.{some}
use mathlib.Core.List.{List, [], ◌∷◌, ◌++◌}
use lib.ListN.{length, get_elem?}
use borrow.Author.Tests.{ne_eqb}
use Rattle.records.specs.declared.table.Table.{Table}
use Rattle.records.specs.declared.command.Kind.TheVariants.{Other}
use Rattle.records.specs.declared.command.Command.{Command}
use Rattle.records.specs.Transaction.{later_at, later_from}
use Rattle.records.specs.Command.{kind_of, command_at, commands_from, commands_in}
use Rattle.rules.specs.Pattern.{onto}
use Rattle.rules.specs.Verdict.{Legal}
use Rattle.rules.proofs.laws.Numbers.{from?}
use Rattle.rules.proofs.history.Judged.{LegalHistory}
use Rattle.serves.specs.Serves.{kind_code}
use Rattle.serves.specs.Check.{seen}
use Rattle.serves.proofs.Opened.{Lawful, lawful}

-- ---- a byte that is a known kind is its number

other_kind : (b : ℕ) → 6 ≤ b → kind_of b ≡ Other b
other_kind b h =
    rw (
      ne_eqb b 0 (λ e. omega (arith, e, h)),
      ne_eqb b 1 (λ e. omega (arith, e, h)),
      ne_eqb b 2 (λ e. omega (arith, e, h)),
      ne_eqb b 3 (λ e. omega (arith, e, h)),
      ne_eqb b 4 (λ e. omega (arith, e, h)),
      ne_eqb b 5 (λ e. omega (arith, e, h)),
    )

six : (b : ℕ) → b < 6 → b ≡ kind_code (kind_of b)
six zero h = refl
six (suc zero) h = refl
six (suc (suc zero)) h = refl
six (suc (suc (suc zero))) h = refl
six (suc (suc (suc (suc zero)))) h = refl
six (suc (suc (suc (suc (suc zero))))) h = refl
six (suc (suc (suc (suc (suc (suc b)))))) h = absurd (omega arith)

pub byte_code : (b : ℕ) → kind_code (kind_of b) < 6 → b ≡ kind_code (kind_of b)
byte_code b h = ⊎_elim (λ z. six b z) (λ z. absurd (omega (arith, h, ap kind_code (other_kind b (omega (arith, z.1)))))) (from? b 6)

-- ---- the records

pub seen_none : (s : List ℕ) → seen s 0 ≡ []
unfolding seen
seen_none s = refl

pub seen_more : (s : List ℕ) (j : ℕ) → seen s (j + 1) ≡ command_at s (8 * j) ∷ seen s j
unfolding seen
seen_more s j = let e : j + 1 ≡ suc j = omega arith in ap (seen s) e

pub seen_length : (s : List ℕ) (j : ℕ) → length (seen s j) ≡ j
unfolding seen
seen_length s zero = refl
seen_length s (suc j) = ap suc (seen_length s j)

onto_last : (cs : List Command) (c : Command) (h : List Command) → onto (cs ++ (c ∷ [])) h ≡ c ∷ onto cs h
onto_last [] c h = refl
onto_last (r ∷ cs) c h = onto_last cs c (r ∷ h)

from_more : (s : List ℕ) (j at : ℕ) → commands_from s (suc j) at ≡ commands_from s j at ++ (command_at s (at + 8 * j) ∷ [])
unfolding commands_from
from_more s zero at = let e : at + 8 * 0 ≡ at = omega arith in rw e
from_more s (suc j) at =
    let e : at + 8 + 8 * j ≡ at + 8 * suc j = omega arith in
    ap (λ (l : List Command). command_at s at ∷ l) (from_more s j (at + 8) ∙ ap (λ (i : ℕ). commands_from s j (at + 8) ++ (command_at s i ∷ [])) e)

pub seen_onto : (s : List ℕ) (m : ℕ) → seen s m ≡ onto (commands_from s m 0) []
unfolding seen commands_from
seen_onto s zero = refl
seen_onto s (suc m) =
    let z : 0 + 8 * m ≡ 8 * m = omega arith in
    ap (λ (h : List Command). command_at s (8 * m) ∷ h) (seen_onto s m)
    ∙ (ap (λ (i : ℕ). command_at s i ∷ onto (commands_from s m 0) []) (sym z)
    ∙ (sym (onto_last (commands_from s m 0) (command_at s (0 + 8 * m)) []) ∙ ap (λ (l : List Command). onto l []) (sym (from_more s m 0))))

pub from_length : (s : List ℕ) (m at : ℕ) → length (commands_from s m at) ≡ m
unfolding commands_from
from_length s zero at = refl
from_length s (suc m) at = ap suc (from_length s m (at + 8))

-- each is lawful, where the judge accepts them all
older : (τ : Table) (s : List ℕ) (j d : ℕ) → LegalHistory τ (seen s (d + j)) → LegalHistory τ (seen s j)
older τ s j zero k = let e : 0 + j ≡ j = omega arith in subst (λ (i : ℕ). LegalHistory τ (seen s i)) e k
older τ s j (suc d) k =
    let e : suc d + j ≡ d + j + 1 = omega arith in
    older τ s j d (subst (LegalHistory τ) (ap (seen s) e ∙ seen_more s (d + j)) k).1

pub lawful_at : (τ : Table) (s : List ℕ) → Legal τ (commands_in s) → (j : ℕ) → j < length s / 8 → Lawful τ (command_at s (8 * j)) (seen s j)
lawful_at τ s k j l =
    let all : LegalHistory τ (seen s (length s / 8)) = subst (LegalHistory τ) (sym (seen_onto s (length s / 8))) (lawful τ (commands_in s) k) in
    at (from? (length s / 8) (j + 1)) all
  where
    at : (length s / 8 < j + 1) ⊎ ((d : ℕ) × (length s / 8 ≡ j + 1 + d)) → LegalHistory τ (seen s (length s / 8)) → Lawful τ (command_at s (8 * j)) (seen s j)
    at (inl z) all = absurd (omega (arith, z, l))
    at (inr (d, z)) all =
        let e : length s / 8 ≡ d + (j + 1) = omega (arith, z) in
        let q = subst (LegalHistory τ) (seen_more s j) (older τ s (j + 1) d (subst (λ (i : ℕ). LegalHistory τ (seen s i)) e all)) in
        record { fine = q.0; before = q.1 }

-- ---- the transactions

pub nth_later : (bs : List ℕ) (n at y : ℕ) → y < n → get_elem? (later_from bs n at) y ≡ some (later_at bs (at + 8 * y))
unfolding later_from
nth_later bs zero at y h = absurd (omega arith)
nth_later bs (suc n) at zero h = let e : at + 8 * 0 ≡ at = omega arith in ap (λ (i : ℕ). some (later_at bs i)) (sym e)
nth_later bs (suc n) at (suc y) h =
    let e : at + 8 + 8 * y ≡ at + 8 * suc y = omega arith in
    nth_later bs n (at + 8) y (omega arith) ∙ ap (λ (i : ℕ). some (later_at bs i)) e
