-- The commands to one bank of a read or a write: an ACT, and BC data commands, the last with auto precharge.
-- Assumes nothing.
use Prim.Native.Nat.{ℕ, zero, suc, ◌+◌, ◌-◌, ◌≤◌, ◌<◌}
use native.Mathlib.Omega.{arith}
use mathlib.Core.Path.{◌≡◌, refl, sym, ◌∙◌}
use mathlib.Core.Logic.{◌≢◌, ◌⊎◌, inl, inr}
use mathlib.Core.Bool.{Bool, true, false}
use lib.Dec.{eqb}
use borrow.Author.Tests.{eq-eqb, ne_eqb}
use Rattle.records.specs.Tests.{pick}
use Rattle.rules.specs.State.{add_if}
use Rattle.rules.specs.Queues.{data_kind}
use Rattle.rules.proofs.laws.Numbers.{same?}
use Rattle.serves.specs.Serves.{kind_code}
use Rattle.serves.specs.Check.{per_bank}
use Rattle.serves.proofs.Totals.{total, total_none, total_all, total_last}

abbrev pub per_data : Bool → ℕ → ℕ → ℕ
per_data w bc c = pick (eqb c (pick w 3 1)) (bc - 1) (pick (eqb c (pick w 4 2)) 1 0)

last_code : (w : Bool) → kind_code (data_kind w true) ≡ pick w 4 2
last_code true = refl
last_code false = refl

plain_code : (w : Bool) → kind_code (data_kind w false) ≡ pick w 3 1
plain_code true = refl
plain_code false = refl

codes_apart : (w : Bool) → ◌≡◌ {A = ℕ} (pick w 3 1) (pick w 4 2) → ⊥
codes_apart true e = absurd (omega (arith, e))
codes_apart false e = absurd (omega (arith, e))

burst_total : (w : Bool) (n c : ℕ) → total (λ m. add_if (eqb (kind_code (data_kind w (eqb (m + 1) (suc n)))) c) 0) (suc n) 0 ≡ per_data w (suc n) c
burst_total w n c = total_last W n 0 ∙ on (same? c (pick w 3 1)) (same? c (pick w 4 2))
  where
    W : ℕ → ℕ
    W m = add_if (eqb (kind_code (data_kind w (eqb (m + 1) (suc n)))) c) 0

    -- before the last, and the last
    plain_at : (m : ℕ) → m < n → W m ≡ add_if (eqb (pick w 3 1) c) 0
    plain_at m h = rw (ne_eqb (m + 1) (suc n) (λ e. omega (arith, e, h)), plain_code w)

    last_at : W (0 + n) ≡ add_if (eqb (pick w 4 2) c) 0
    last_at = let z : 0 + n + 1 ≡ suc n = omega arith in rw (eq-eqb (0 + n + 1) (suc n) z, last_code w)

    on : ((c ≡ pick w 3 1) ⊎ (c ≢ pick w 3 1)) → ((c ≡ pick w 4 2) ⊎ (c ≢ pick w 4 2)) → total W n 0 + W (0 + n) ≡ per_data w (suc n) c
    on (inl e) (inl e') = absurd (codes_apart w (sym e ∙ e'))
    on (inl e) (inr e') =
        let p : add_if (eqb (pick w 3 1) c) 0 ≡ 1 = rw (eq-eqb (pick w 3 1) c (sym e)) in
        let q : add_if (eqb (pick w 4 2) c) 0 ≡ 0 = rw (ne_eqb (pick w 4 2) c (λ z. e' (sym z))) in
        let r : per_data w (suc n) c ≡ suc n - 1 = rw (eq-eqb c (pick w 3 1) e) in
        omega (arith, r, total_all W n 0 (λ m g h. plain_at m (omega (arith, h)) ∙ p), last_at, q)
    on (inr e) (inl e') =
        let p : add_if (eqb (pick w 3 1) c) 0 ≡ 0 = rw (ne_eqb (pick w 3 1) c (λ z. e (sym z))) in
        let q : add_if (eqb (pick w 4 2) c) 0 ≡ 1 = rw (eq-eqb (pick w 4 2) c (sym e')) in
        let r : per_data w (suc n) c ≡ 1 = rw (ne_eqb c (pick w 3 1) e, eq-eqb c (pick w 4 2) e') in
        omega (arith, r, total_none W n 0 (λ m g h. plain_at m (omega (arith, h)) ∙ p), last_at, q)
    on (inr e) (inr e') =
        let p : add_if (eqb (pick w 3 1) c) 0 ≡ 0 = rw (ne_eqb (pick w 3 1) c (λ z. e (sym z))) in
        let q : add_if (eqb (pick w 4 2) c) 0 ≡ 0 = rw (ne_eqb (pick w 4 2) c (λ z. e' (sym z))) in
        let r : per_data w (suc n) c ≡ 0 = rw (ne_eqb c (pick w 3 1) e, ne_eqb c (pick w 4 2) e') in
        omega (arith, r, total_none W n 0 (λ m g h. plain_at m (omega (arith, h)) ∙ p), last_at, q)

pub bursts_are : (w : Bool) (bc c : ℕ) → 1 ≤ bc → total (λ m. add_if (eqb (kind_code (data_kind w (eqb (m + 1) bc))) c) 0) bc 0 ≡ per_data w bc c
bursts_are w zero c h = absurd (omega arith)
bursts_are w (suc n) c h = burst_total w n c

-- an ACT is no data command
pub per_bank_lem : (w : Bool) (bc c : ℕ) → pick (eqb c 0) 1 0 + per_data w bc c ≡ per_bank w bc c
per_bank_lem w bc c = on (same? c 0)
  where
    on : ((c ≡ 0) ⊎ (c ≢ 0)) → pick (eqb c 0) 1 0 + per_data w bc c ≡ per_bank w bc c
    on (inl e) =
        rw (eq-eqb c 0 e, ne_eqb c (pick w 3 1) (λ z. three w (sym z ∙ e)), ne_eqb c (pick w 4 2) (λ z. four w (sym z ∙ e)))
      where
        three : (w : Bool) → ◌≡◌ {A = ℕ} (pick w 3 1) 0 → ⊥
        three true z = absurd (omega (arith, z))
        three false z = absurd (omega (arith, z))

        four : (w : Bool) → ◌≡◌ {A = ℕ} (pick w 4 2) 0 → ⊥
        four true z = absurd (omega (arith, z))
        four false z = absurd (omega (arith, z))
    on (inr e) = rw (ne_eqb c 0 e) (omega arith)
