-- "The bound for (BI, BC), n = BI × BC."
use Rattle.std.specs.Prelude.{ℕ, ◌+◌, ◌-◌, ◌*◌, ◌/◌, max, Bool, true, false, List, [], ◌∷◌}
use Rattle.records.specs.declared.table.Table.{Table}
use Rattle.records.specs.declared.transaction.Transaction.{Transaction}
use Rattle.records.specs.Tests.{pick}
use Rattle.records.specs.Transaction.{is_refresh}
use Rattle.rules.specs.Square.{ccd_of, rrd_of, from_rd, from_wr, write_tail}

abbrev pub greatest : List ℕ → ℕ
greatest [] = 0
greatest (x ∷ l) = max x (greatest l)

-- the greatest CCD, RRD, and distances from a RD and from a WR that any two commands ask for: "In the bound CCD, RRD and WTR are the long ones."
abbrev pub most_ccd : Table → ℕ
most_ccd τ = ccd_of τ true

abbrev pub most_rrd : Table → ℕ
most_rrd τ = rrd_of τ true

abbrev pub most_from_rd : Table → Bool → ℕ
most_from_rd τ w = from_rd τ true w

abbrev pub most_from_wr : Table → Bool → ℕ
most_from_wr τ w = from_wr τ true w

-- "S is the greatest of 1, RAS − RCD + RP, RC − RCD, RTP + RP, WL + B + WR + RP, RRD − RCD, FAW − RCD."
abbrev pub parts_s : Table → List ℕ
parts_s τ =
    1 ∷ (τ.ras - τ.rcd + τ.rp) ∷ (τ.rc - τ.rcd) ∷ (τ.rtp + τ.rp) ∷ (write_tail τ + τ.rp) ∷ (most_rrd τ - τ.rcd)
    ∷ (τ.faw - τ.rcd) ∷ []

unfoldable pub bound_s : Table → ℕ
bound_s τ = greatest (parts_s τ)

-- "D is the greater of RRD and FAW / 4 rounded up."
unfoldable pub bound_d : Table → ℕ
bound_d τ = max (most_rrd τ) ((τ.faw + 3) / 4)

-- "X is the greatest of the three data distances."
abbrev pub parts_x : Table → List ℕ
parts_x τ = most_ccd τ ∷ most_from_rd τ true ∷ most_from_wr τ false ∷ []

unfoldable pub bound_x : Table → ℕ
bound_x τ = greatest (parts_x τ)

-- "The bound is the greater of X + (n − 1) × CCD and S + RCD + the greater of (n − 1) × CCD and (BI − 1) × (D + 1) + (BC − 1) × CCD"
unfoldable pub bound : Table → ℕ → ℕ → ℕ
bound τ bi bc =
    max (bound_x τ + (bi * bc - 1) * most_ccd τ)
    (bound_s τ + τ.rcd + max ((bi * bc - 1) * most_ccd τ) ((bi - 1) * (bound_d τ + 1) + (bc - 1) * most_ccd τ))

-- what a transaction may take, from where its count starts to its last command: the bound of its BI and BC, but "A REF itself comes within S of where
-- its count starts" (document 02, request 5)
abbrev pub span : Table → Transaction → ℕ
span τ x = pick (is_refresh x) (bound_s τ) (bound τ x.bi x.bc)

-- where a transaction's count starts, if the one before it lets it start at F: "The bound counts from the later of the arrival and the predecessor's
-- last command (its finish, where the predecessor is a refresh)" (document 02, request 9)
unfoldable pub start_at : Transaction → ℕ → ℕ
start_at x F = max F x.arrival
