-- Document 01, "Timing rules": the distances between data commands. "A difference below 0 counts as 0": ℕ's minus.
-- Document 02, request 7: "Rules 6 and 9 take the long number within a group and the short across".
use Rattle.std.specs.Prelude.{ℕ, ◌+◌, ◌-◌, ◌%◌, max, Bool, true, false, List, [], ◌∷◌, get_or}
use Rattle.records.specs.declared.table.Table.{Table}
use Rattle.records.specs.Tests.{pick}

-- "a bank's group is its number modulo the number of groups"
abbrev pub group_of : Table → ℕ → ℕ
group_of τ b = b % τ.groups

-- CCD, RRD and WTR: the long ones for two commands of one group, which are near, the short ones otherwise
abbrev pub ccd_of : Table → Bool → ℕ
ccd_of τ near = pick near τ.ccdl τ.ccd

abbrev pub rrd_of : Table → Bool → ℕ
rrd_of τ near = pick near τ.rrdl τ.rrd

abbrev pub wtr_of : Table → Bool → ℕ
wtr_of τ near = pick near τ.wtrl τ.wtr

-- "RD to WR: the greater of CCD and RL + CCD + 2 − WL"
abbrev pub rd_to_wr : Table → Bool → ℕ
rd_to_wr τ near = max (ccd_of τ near) (τ.rl + ccd_of τ near + 2 - τ.wl)

-- "WR to RD: the greater of CCD and WL + B + WTR"
abbrev pub wr_to_rd : Table → Bool → ℕ
wr_to_rd τ near = max (ccd_of τ near) (τ.wl + τ.b + wtr_of τ near)

-- "The distances are held as a square, one row for each earlier kind": RD, then WR. One square within a group, one across.
abbrev pub square : Table → Bool → List (List ℕ)
square τ near = (ccd_of τ near ∷ rd_to_wr τ near ∷ []) ∷ (wr_to_rd τ near ∷ ccd_of τ near ∷ []) ∷ []

-- the row and the column of a kind: 1 for a write
abbrev pub side : Bool → ℕ
side false = 0
side true = 1

abbrev pub cell : List (List ℕ) → ℕ → ℕ → ℕ
cell q earlier later = get_or (get_or q earlier []) later 0

-- the distance from an earlier RD, and from an earlier WR, to a data command that is a write or not
abbrev pub from_rd : Table → Bool → Bool → ℕ
from_rd τ near w = cell (square τ near) 0 (side w)

abbrev pub from_wr : Table → Bool → Bool → ℕ
from_wr τ near w = cell (square τ near) 1 (side w)

-- from a WR to where the precharge of its bank may start: WL + B + WR
abbrev pub write_tail : Table → ℕ
write_tail τ = τ.wl + τ.b + τ.wr
