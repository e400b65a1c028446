-- No number of the bound is large.
-- Assumes nothing.
use Prim.Native.Nat.{◌≤◌}
use native.Mathlib.Omega.{arith}
use native.Mathlib.Nat.{max-le}
use Rattle.records.specs.declared.table.Table.{Table}
use Rattle.rules.specs.Bound.{bound_s, bound_d, bound_x}

-- the numbers of a table are of 16 bits
pub record Words (τ : Table) : Type 0 where
  pub b : τ.b ≤ 65535
  pub ccdl : τ.ccdl ≤ 65535
  pub rp : τ.rp ≤ 65535
  pub ras : τ.ras ≤ 65535
  pub rc : τ.rc ≤ 65535
  pub rrdl : τ.rrdl ≤ 65535
  pub faw : τ.faw ≤ 65535
  pub rl : τ.rl ≤ 65535
  pub wl : τ.wl ≤ 65535
  pub rtp : τ.rtp ≤ 65535
  pub wr : τ.wr ≤ 65535
  pub wtrl : τ.wtrl ≤ 65535

module _ (τ : Table) (w : Words τ) where
  pub s_small : bound_s τ ≤ 262140
  unfolding bound_s
  s_small =
      max-le (omega arith) (max-le (omega arith) (max-le (omega arith) (max-le (omega arith)
      (max-le (omega arith) (max-le (omega arith) (max-le (omega arith) (omega arith)))))))

  pub d_small : bound_d τ ≤ 65535
  unfolding bound_d
  d_small = omega arith

  pub x_small : bound_x τ ≤ 196605
  unfolding bound_x
  x_small = max-le (omega arith) (max-le (omega arith) (max-le (omega arith) (omega arith)))
