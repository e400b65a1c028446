-- The arithmetic of the bound: when a data command is due at the latest.
-- Assumes nothing.
use Prim.Native.Nat.{ℕ, zero, suc, ◌+◌, ◌-◌, ◌*◌, ◌≤◌, ◌<◌, max}
use native.Mathlib.Omega.{arith}
use native.Mathlib.Decide.{dec_le}
use native.Mathlib.Nat.{mul-le-mul_left, mul-le-mul_right, le-max_left, le-max_right, le_trans, not-suc-le-zero, le_of_suc-le-suc}
use mathlib.Core.Path.{◌≡◌, ap}
use mathlib.Core.Bool.{Bool, true, false}
use mathlib.Core.List.{List, [], ◌∷◌}
use lib.Dec.{lit<}
use lib.ListN.{length, get_or}
use Rattle.records.specs.declared.table.Table.{Table}
use Rattle.records.specs.declared.transaction.Transaction.{Transaction}
use Rattle.records.specs.Tests.{pick}
use Rattle.records.specs.Transaction.{is_refresh}
use Rattle.rules.specs.Square.{ccd_of, rrd_of, from_rd, from_wr, write_tail}
use Rattle.rules.specs.Bound.{greatest, most_ccd, most_rrd, most_from_rd, most_from_wr, parts_s, bound_s, bound_d, parts_x, bound_x, bound, span, start_at}
use Rattle.rules.specs.Finish.{count_from}
use Rattle.rules.proofs.laws.Ranges.{Ranges}

part : (l : List ℕ) (i : ℕ) → i < length l → get_or l i 0 ≤ greatest l
part [] i h = absurd (not-suc-le-zero h)
part (x ∷ l) zero h = le-max_left x (greatest l)
part (x ∷ l) (suc i) h = le_trans (part l i (le_of_suc-le-suc h)) (le-max_right x (greatest l))

-- a difference below 0 counts as 0
less : (a b p z : ℕ) → a - b + p ≤ z → a + p ≤ b + z
less a b p z h = omega arith

less0 : (a b z : ℕ) → a - b ≤ z → a ≤ b + z
less0 a b z h = omega arith

module _ (τ : Table) (rng : Ranges τ) where
  pub rrd_one : 1 ≤ most_rrd τ
  rrd_one = omega (arith, rng.rrd.least, rng.rrdl.least)

  pub ccd_two : 2 ≤ most_ccd τ
  ccd_two = omega (arith, rng.two, rng.ccdl.least)

  -- no two commands ask for more than the long numbers, nor for less than the short ones
  pub rrd_long : (near : Bool) → rrd_of τ near ≤ most_rrd τ
  rrd_long true = omega arith
  rrd_long false = rng.rrdl.least

  pub ccd_short : (near : Bool) → τ.ccd ≤ ccd_of τ near
  ccd_short true = rng.ccdl.least
  ccd_short false = omega arith

  pub rd_long : (near w : Bool) → from_rd τ near w ≤ most_from_rd τ w
  rd_long true w = omega arith
  rd_long false true = omega (arith, rng.ccdl.least)
  rd_long false false = rng.ccdl.least

  pub wr_long : (near w : Bool) → from_wr τ near w ≤ most_from_wr τ w
  wr_long true w = omega arith
  wr_long false true = rng.ccdl.least
  wr_long false false = omega (arith, rng.ccdl.least, rng.wtrl.least)

module _ (τ : Table) where
  pub S-one : 1 ≤ bound_s τ
  unfolding bound_s
  S-one = part (parts_s τ) 0 (lit< tt)

  pub S-ras : τ.ras + τ.rp ≤ τ.rcd + bound_s τ
  unfolding bound_s
  S-ras = less τ.ras τ.rcd τ.rp (bound_s τ) (part (parts_s τ) 1 (lit< tt))

  pub S-rc : τ.rc ≤ τ.rcd + bound_s τ
  unfolding bound_s
  S-rc = less0 τ.rc τ.rcd (bound_s τ) (part (parts_s τ) 2 (lit< tt))

  pub S-rd : τ.rtp + τ.rp ≤ bound_s τ
  unfolding bound_s
  S-rd = part (parts_s τ) 3 (lit< tt)

  pub S-wr : write_tail τ + τ.rp ≤ bound_s τ
  unfolding bound_s
  S-wr = part (parts_s τ) 4 (lit< tt)

  pub S-rrd : most_rrd τ ≤ τ.rcd + bound_s τ
  unfolding bound_s
  S-rrd = less0 (most_rrd τ) τ.rcd (bound_s τ) (part (parts_s τ) 5 (lit< tt))

  pub S-faw : τ.faw ≤ τ.rcd + bound_s τ
  unfolding bound_s
  S-faw = less0 τ.faw τ.rcd (bound_s τ) (part (parts_s τ) 6 (lit< tt))

  pub D-rrd : most_rrd τ ≤ bound_d τ
  unfolding bound_d
  D-rrd = omega arith

  pub D-faw : τ.faw ≤ 4 * bound_d τ
  unfolding bound_d
  D-faw = omega arith

  pub X-rd : (w : Bool) → most_from_rd τ w ≤ bound_x τ
  unfolding bound_x
  X-rd true = part (parts_x τ) 1 (lit< tt)
  X-rd false = part (parts_x τ) 0 (lit< tt)

  pub X-wr : (w : Bool) → most_from_wr τ w ≤ bound_x τ
  unfolding bound_x
  X-wr true = part (parts_x τ) 0 (lit< tt)
  X-wr false = part (parts_x τ) 2 (lit< tt)

-- the cycle, after the predecessor's finish, by which the data command r of bank j leaves; C is the commands to a bank
unfoldable pub due_by : Table → ℕ → ℕ → ℕ → ℕ
due_by τ C j r =
    max (bound_x τ + (j * C + r) * most_ccd τ)
    (bound_s τ + τ.rcd + max ((j * C + r) * most_ccd τ) (j * (bound_d τ + 1) + r * most_ccd τ))

module _ (τ : Table) (C : ℕ) where
  pub due_X : (j r : ℕ) → bound_x τ ≤ due_by τ C j r
  unfolding due_by
  due_X j r = omega arith

  pub due_act : (j r : ℕ) → bound_s τ + j * (bound_d τ + 1) + τ.rcd ≤ due_by τ C j r
  unfolding due_by
  due_act j r = omega arith

  pub due_next : (j r : ℕ) → due_by τ C j r + most_ccd τ ≤ due_by τ C j (r + 1)
  unfolding due_by
  due_next j r = omega arith

  pub due_turn : (j r : ℕ) → r + 1 ≡ C → due_by τ C j r + most_ccd τ ≤ due_by τ C (j + 1) 0
  unfolding due_by
  due_turn j r e = on (dec_le (bound_d τ + 1) (C * most_ccd τ))
    where
      e' : (r + 1) * most_ccd τ ≡ C * most_ccd τ
      e' = ap (λ (n : ℕ). n * most_ccd τ) e

      on : Dec (bound_d τ + 1 ≤ C * most_ccd τ) → due_by τ C j r + most_ccd τ ≤ due_by τ C (j + 1) 0
      on (yes h) = omega (arith, e', mul-le-mul_left j h)
      on (no h) = omega (arith, e', h)

-- every data command of a transaction is due within its bound, which is the span of a read or a write
due_bound : (τ : Table) (x : Transaction) (j r : ℕ) → j < x.bi → r < x.bc → due_by τ x.bc j r ≤ bound τ x.bi x.bc
unfolding due_by bound
due_bound τ x j r hj hr =
    let n = x.bi * x.bc - 1 in
    let a : (j + 1) * x.bc ≤ x.bi * x.bc = mul-le-mul_right x.bc (omega arith) in
    let b : (j * x.bc + r) * most_ccd τ ≤ n * most_ccd τ = mul-le-mul_right (most_ccd τ) (omega arith) in
    let c : j * (bound_d τ + 1) ≤ (x.bi - 1) * (bound_d τ + 1) = mul-le-mul_right (bound_d τ + 1) (omega arith) in
    let d : r * most_ccd τ ≤ (x.bc - 1) * most_ccd τ = mul-le-mul_right (most_ccd τ) (omega arith) in
    go ((j * x.bc + r) * most_ccd τ) (n * most_ccd τ) (j * (bound_d τ + 1)) ((x.bi - 1) * (bound_d τ + 1)) (r * most_ccd τ) ((x.bc - 1) * most_ccd τ) b c d
  where
    go : (x x' y y' z z' : ℕ) → x ≤ x' → y ≤ y' → z ≤ z' → max (bound_x τ + x) (bound_s τ + τ.rcd + max x (y + z)) ≤ max (bound_x τ + x') (bound_s τ + τ.rcd + max x' (y' + z'))
    go x x' y y' z z' p q u = omega arith

pub due_span : (τ : Table) (x : Transaction) (j r : ℕ) → is_refresh x ≡ false → j < x.bi → r < x.bc → due_by τ x.bc j r ≤ span τ x
due_span τ x j r e hj hr = rw e (due_bound τ x j r hj hr)

-- the laws of where a count starts
pub start_ge : (x : Transaction) (F : ℕ) → F ≤ start_at x F
unfolding start_at
start_ge x F = omega arith

pub start_mono : (x : Transaction) (F F' : ℕ) → F ≤ F' → start_at x F ≤ start_at x F'
unfolding start_at
start_mono x F F' h = omega arith

pub start_arrival : (x : Transaction) (F : ℕ) → x.arrival ≤ start_at x F
unfolding start_at
start_arrival x F = omega arith

-- the next count starts no earlier than at the last command, and no later than the span allows
pub count_ge : (τ : Table) (x : Transaction) (c : ℕ) → c ≤ count_from τ x c
count_ge τ x c = on (is_refresh x)
  where
    on : (b : Bool) → c ≤ pick b (c + τ.rfc) c
    on true = omega arith
    on false = omega arith

pub count_le : (τ : Table) (x : Transaction) (c F : ℕ) → c ≤ F + span τ x → count_from τ x c ≤ F + count_from τ x (span τ x)
count_le τ x c F h = on (is_refresh x) (span τ x) h
  where
    on : (b : Bool) (n : ℕ) → c ≤ F + n → pick b (c + τ.rfc) c ≤ F + pick b (n + τ.rfc) n
    on true n h = omega arith
    on false n h = h
