-- Turns of the scan.
-- Assumes nothing.
use Prim.Native.Nat.{ℕ, suc, ◌+◌, ◌≤◌, ◌<◌, max}
use native.Mathlib.Omega.{arith}
use mathlib.Core.Path.{◌≡◌, refl, sym, ap, ◌∙◌}
use mathlib.Core.Logic.{⊎_elim}
use mathlib.Core.Bool.{Bool, true, false, not, ◌&&◌, ◌||◌}
use lib.Dec.{ltb}
use Rattle.records.specs.declared.transaction.Transaction.{Transaction}
use Rattle.records.specs.Tests.{every_below}
use Rattle.rules.proofs.laws.Numbers.{from?}
use Rattle.serves.specs.Check.{agrees, most_below, wrong_by, FirstAt}

-- a bank more
pub agrees_more : (f : ℕ → Bool) (b : ℕ) (all now both : Bool) → all ≡ every_below b f → now ≡ f b → both ≡ (now && all) → both ≡ every_below (b + 1) f
agrees_more f b all now both e e' e'' =
    let z : b + 1 ≡ suc b = omega arith in
    e'' ∙ (ap (λ (k : Bool). k && all) e' ∙ (ap (λ (k : Bool). f b && k) e ∙ ap (λ (k : ℕ). every_below k f) (sym z)))

module _ (banks : ℕ) (at : ℕ → Transaction) (ref last count : ℕ → ℕ) where
  -- none before k is wrong, and `most` is the greatest place of their last records
  pub record Scanned (m k most : ℕ) : Type 0 where
    pub within : k ≤ m
    pub none : (j : ℕ) → j < k → wrong_by banks at ref last count j ≡ false
    pub greatest : most ≡ most_below last k

  pub scan_start : (m : ℕ) → Scanned m 0 0
  scan_start m = record { within = omega arith; none = λ j h. absurd (omega arith); greatest = refl }

  module _ (m k most : ℕ) (q : Scanned m k most) where
    pub wrong_now : (x : Transaction) → x ≡ at k → (a : Bool) → a ≡ agrees banks x k count → (b : Bool) → b ≡ (ltb (ref k) most || not a)
        → b ≡ wrong_by banks at ref last count k
    wrong_now x ex a ea b eb =
        eb ∙ (ap (λ (z : Bool). ltb (ref k) most || not z) ea
        ∙ (ap (λ (z : Transaction). ltb (ref k) most || not (agrees banks z k count)) ex
        ∙ ap (λ (z : ℕ). ltb (ref k) z || not (agrees banks (at k) k count)) q.greatest))

    pub scan_found : k < m → wrong_by banks at ref last count k ≡ true → FirstAt (wrong_by banks at ref last count) m k
    scan_found h e = record { within = q.within; none_before = q.none; there = λ z. e }

    pub scan_more : k < m → wrong_by banks at ref last count k ≡ false → (new : ℕ) → new ≡ max (last k) most → Scanned m (k + 1) new
    scan_more h e new en =
        record {
          within = omega (arith, h);
          none = λ j l. ⊎_elim (q.none j) (λ z. let i : j ≡ k = omega (arith, z.1, l) in ap (wrong_by banks at ref last count) i ∙ e) (from? j k);
          greatest = let z : k + 1 ≡ suc k = omega arith in en ∙ (ap (max (last k)) q.greatest ∙ ap (most_below last) (sym z));
        }

    pub scan_end : m ≤ k → FirstAt (wrong_by banks at ref last count) m m
    scan_end h =
        let e : k ≡ m = omega (arith, h, q.within) in
        record { within = omega arith; none_before = λ j l. q.none j (omega (arith, l, e)); there = λ z. absurd (omega arith) }
