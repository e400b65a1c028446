-- No list that is accepted takes as long as 100,000,000 cycles.
-- Assumes nothing.
use Prim.Native.Nat.{ℕ, zero, suc, ◌+◌, ◌-◌, ◌*◌, ◌≤◌, ◌<◌, max}
use native.Mathlib.Omega.{arith}
use native.Mathlib.Nat.{mul-le-mul_right, max-le}
use mathlib.Core.Logic.{inl, inr}
use mathlib.Core.Path.{◌≡◌}
use mathlib.Core.Bool.{Bool, true, false}
use mathlib.Core.List.{List, [], ◌∷◌}
use lib.ListN.{length}
use Rattle.records.specs.declared.table.Table.{Table}
use Rattle.records.specs.declared.transaction.Transaction.{Transaction}
use Rattle.records.specs.Tests.{pick, every}
use Rattle.records.specs.Transaction.{is_refresh, fits}
use Rattle.rules.specs.Bound.{most_ccd, bound_s, bound_d, bound_x, bound, start_at}
use Rattle.rules.proofs.laws.TestLaws.{and_fst, and_snd}
use Rattle.rules.proofs.laws.Ranges.{Ranges}
use Rattle.rules.proofs.queues.Fit.{Fits, AllFit, arrives}
use Rattle.rules.proofs.bound.Finishes.{nth}
use Rattle.rules.proofs.bound.Served.{full, total}

module _ (τ : Table) (rng : Ranges τ) where
  S-max : bound_s τ ≤ 4092
  unfolding bound_s
  S-max =
      max-le (omega arith) (max-le (omega arith) (max-le (omega arith) (max-le (omega arith)
      (max-le (omega arith) (max-le (omega arith) (max-le (omega arith) (omega arith)))))))

  D-max : bound_d τ ≤ 1023
  unfolding bound_d
  D-max = omega arith

  X-max : bound_x τ ≤ 3069
  unfolding bound_x
  X-max = max-le (omega arith) (max-le (omega arith) (max-le (omega arith) (omega arith)))

  bound_max : (i c : ℕ) → i ≤ 16 → c ≤ 16 → bound τ i c ≤ 265980
  unfolding bound
  bound_max i c hi hc =
      let n : i * c ≤ 16 * c = mul-le-mul_right c hi in
      let a : (i * c - 1) * most_ccd τ ≤ 255 * most_ccd τ = mul-le-mul_right (most_ccd τ) (omega arith) in
      let b : (i - 1) * (bound_d τ + 1) ≤ 15 * (bound_d τ + 1) = mul-le-mul_right (bound_d τ + 1) (omega arith) in
      let d : (c - 1) * most_ccd τ ≤ 15 * most_ccd τ = mul-le-mul_right (most_ccd τ) (omega arith) in
      go ((i * c - 1) * most_ccd τ) ((i - 1) * (bound_d τ + 1)) ((c - 1) * most_ccd τ) (omega arith) (omega (arith, D-max)) (omega arith)
    where
      go : (x y z : ℕ) → x ≤ 260865 → y ≤ 15360 → z ≤ 15345 → max (bound_x τ + x) (bound_s τ + τ.rcd + max x (y + z)) ≤ 265980
      go x y z p q r = omega (arith, X-max, S-max, rng.rcd.most)

  small_at : (l : List Transaction) → AllFit τ l → (k : ℕ) → ((nth l k).bi ≤ 16) × ((nth l k).bc ≤ 16)
  small_at [] v k = (omega arith, omega arith)
  small_at (x ∷ l) v zero = by v.0
    where
      by : Fits τ x → (x.bi ≤ 16) × (x.bc ≤ 16)
      by (inl w) = (omega (arith, w.no_i), omega (arith, w.no_c))
      by (inr w) = (w.max_i, w.max_c)
  small_at (x ∷ l) v (suc k) = small_at l v.1 k

  full_max : (x : Transaction) → x.bi ≤ 16 → x.bc ≤ 16 → full τ x ≤ 265980
  full_max x hi hc = on (is_refresh x)
    where
      on : (z : Bool) → pick z (pick z (bound_s τ) (bound τ x.bi x.bc) + τ.rfc) (pick z (bound_s τ) (bound τ x.bi x.bc)) ≤ 265980
      on true = omega (arith, S-max, rng.rfc)
      on false = bound_max x.bi x.bc hi hc

  start_max : (x : Transaction) (F m : ℕ) → F ≤ m → x.arrival ≤ m → start_at x F ≤ m
  unfolding start_at
  start_max x F m h g = omega arith

  arrives_at : (l : List Transaction) → every (fits τ) l ≡ true → (k : ℕ) → (nth l k).arrival ≤ 20000000
  arrives_at [] e k = omega arith
  arrives_at (x ∷ l) e zero = arrives τ x (and_fst (fits τ x) (every (fits τ) l) e)
  arrives_at (x ∷ l) e (suc k) = arrives_at l (and_snd (fits τ x) (every (fits τ) l) e) k

  total_max : (l : List Transaction) → AllFit τ l → every (fits τ) l ≡ true → (k : ℕ) → total τ l k ≤ 20000000 + k * 265980
  total_max l v e zero = omega arith
  total_max l v e (suc k) =
      let x = nth l k in
      let small = small_at l v k in
      omega (
        arith,
        full_max x small.0 small.1,
        start_max x (total τ l k) (20000000 + k * 265980) (total_max l v e k) (omega (arith, arrives_at l e k)),
      )

  pub never_long : (l : List Transaction) → AllFit τ l → every (fits τ) l ≡ true → length l ≤ 256 → total τ l (length l) < 100000000
  never_long l v e h = omega (arith, total_max l v e (length l))
