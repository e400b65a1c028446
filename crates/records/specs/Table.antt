-- "Table, 32 bytes, sixteen 16-bit numbers": edition, banks, B, CCD, RCD, RP, RAS, RC, RRD, FAW, RL, WL, RTP, WR, WTR, and a last.
-- Document 02, request 5: "The table's last number becomes RFC, 0 to 1,023, 0 meaning that the table has no refresh". Request 7: "A second table
-- record of 40 bytes has the first sixteen numbers, then the group count .., long CCD, long RRD and long WTR".
use Rattle.std.specs.Prelude.{ℕ, Bool, true, not, ◌&&◌, ◌||◌, ◌≡◌, List, [], ◌∷◌, ◌++◌, leb, eqb, length, get_or, Result, Ok, Err}
use Rattle.records.specs.declared.refusal.Refusal.{Refusal}
use Rattle.records.specs.declared.table.Table.{Table}
use Rattle.records.specs.Tests.{pick, every, within}
use Rattle.records.specs.Told.{refusal, first_failed, over, Wrote}
use Rattle.records.specs.Little.{num, bytes16}

-- the table of sixteen numbers: "A 32-byte table counts as one group, each long number equal to its short one."
abbrev pub table_of : List ℕ → Table
table_of l =
    record {
      edition = get_or l 0 0;
      banks = get_or l 1 0;
      b = get_or l 2 0;
      ccd = get_or l 3 0;
      rcd = get_or l 4 0;
      rp = get_or l 5 0;
      ras = get_or l 6 0;
      rc = get_or l 7 0;
      rrd = get_or l 8 0;
      faw = get_or l 9 0;
      rl = get_or l 10 0;
      wl = get_or l 11 0;
      rtp = get_or l 12 0;
      wr = get_or l 13 0;
      wtr = get_or l 14 0;
      rfc = get_or l 15 0;
      groups = 1;
      ccdl = get_or l 3 0;
      rrdl = get_or l 8 0;
      wtrl = get_or l 14 0;
    }

-- a table with its group count and its long numbers
abbrev pub with_groups : Table → ℕ → ℕ → ℕ → ℕ → Table
with_groups τ n c r w =
    record {
      edition = τ.edition;
      banks = τ.banks;
      b = τ.b;
      ccd = τ.ccd;
      rcd = τ.rcd;
      rp = τ.rp;
      ras = τ.ras;
      rc = τ.rc;
      rrd = τ.rrd;
      faw = τ.faw;
      rl = τ.rl;
      wl = τ.wl;
      rtp = τ.rtp;
      wr = τ.wr;
      wtr = τ.wtr;
      rfc = τ.rfc;
      groups = n;
      ccdl = c;
      rrdl = r;
      wtrl = w;
    }

-- the table of twenty numbers
abbrev pub group_table_of : List ℕ → Table
group_table_of l = with_groups (table_of l) (get_or l 16 0) (get_or l 17 0) (get_or l 18 0) (get_or l 19 0)

-- the table of 32 bytes
abbrev pub plain_table_at : List ℕ → Table
plain_table_at s =
    record {
      edition = num s 0;
      banks = num s 2;
      b = num s 4;
      ccd = num s 6;
      rcd = num s 8;
      rp = num s 10;
      ras = num s 12;
      rc = num s 14;
      rrd = num s 16;
      faw = num s 18;
      rl = num s 20;
      wl = num s 22;
      rtp = num s 24;
      wr = num s 26;
      wtr = num s 28;
      rfc = num s 30;
      groups = 1;
      ccdl = num s 6;
      rrdl = num s 16;
      wtrl = num s 28;
    }

-- the table of 40 bytes
abbrev pub group_table_at : List ℕ → Table
group_table_at s = with_groups (plain_table_at s) (num s 32) (num s 34) (num s 36) (num s 38)

-- the table of so many bytes as there are
abbrev pub table_at : List ℕ → Table
table_at s = pick (eqb (length s) 40) (group_table_at s) (plain_table_at s)

-- the timing numbers: all but the edition, the banks, RFC and the four of the groups
abbrev pub timings : Table → List ℕ
timings τ =
    τ.b ∷ τ.ccd ∷ τ.rcd ∷ τ.rp ∷ τ.ras ∷ τ.rc ∷ τ.rrd ∷ τ.faw ∷ τ.rl ∷ τ.wl ∷ τ.rtp ∷ τ.wr ∷ τ.wtr ∷ []

-- the sixteen numbers of a table, and its twenty
abbrev pub numbers_of : Table → List ℕ
numbers_of τ = τ.edition ∷ τ.banks ∷ (timings τ ++ (τ.rfc ∷ []))

abbrev pub group_numbers_of : Table → List ℕ
group_numbers_of τ = τ.edition ∷ τ.banks ∷ (timings τ ++ (τ.rfc ∷ τ.groups ∷ τ.ccdl ∷ τ.rrdl ∷ τ.wtrl ∷ []))

-- "the group count (1 to 8, at most banks), long CCD, long RRD and long WTR, each at most 1,023; a long number below the short one is refused"
abbrev pub groups_in_range : Table → Bool
groups_in_range τ =
    within 1 8 τ.groups && (leb τ.groups τ.banks
    && (within τ.ccd 1023 τ.ccdl && (within τ.rrd 1023 τ.rrdl && within τ.wtr 1023 τ.wtrl)))

-- "Edition is 1 to 65,535, banks 1 to 16"; "CCD is at least 2 and at least B." "The ceiling of 255 for the timing numbers goes to 1,023", and RFC
-- is "0 to 1,023" (document 02, request 5).
abbrev pub in_range : Table → Bool
in_range τ =
    within 1 65535 τ.edition && (within 1 16 τ.banks
    && (leb 2 τ.ccd && (leb τ.b τ.ccd
    && (leb τ.rfc 1023 && (groups_in_range τ && every (within 1 1023) (timings τ))))))

-- an accepted table: its numbers are in range
abbrev pub accepted : Table → Bool
accepted τ = in_range τ

abbrev pub Accepted : Table → Type 0
Accepted τ = accepted τ ≡ true

-- number 1 where the size is not right; number 2: "a table number out of range, CCD below 2 or below B"
abbrev pub table_refusal_by : Bool → Table → ℕ
table_refusal_by right τ = first_failed ((1, not right) ∷ (2, not (in_range τ)) ∷ [])

-- "Number 1 now refuses any size but 32 and 40"
abbrev pub table_size : ℕ → Bool
table_size size = eqb size 32 || eqb size 40

abbrev pub table_refusal : ℕ → Table → ℕ
table_refusal size τ = table_refusal_by (table_size size) τ

-- "Refusals 1 and 2 name edition 0."
unfoldable pub read_table : List ℕ → Result Table Refusal
read_table s = let z = table_refusal (length s) (table_at s) in pick (eqb z 0) (Ok (table_at s)) (Err (refusal z 0 0))

-- writing checks the values as a reader would, and the room: sixteen numbers into 32 bytes, twenty into 40
unfoldable pub write_table : List ℕ → List ℕ → Wrote
write_table l s =
    let z = table_refusal_by (eqb (length s) 32) (table_of l) in
    pick (eqb z 0)
    (record { answer = Ok (table_of l).edition; buffer = over (bytes16 l) s })
    (record { answer = Err (refusal z 0 0); buffer = s })

unfoldable pub write_group_table : List ℕ → List ℕ → Wrote
write_group_table l s =
    let z = table_refusal_by (eqb (length s) 40) (group_table_of l) in
    pick (eqb z 0)
    (record { answer = Ok (group_table_of l).edition; buffer = over (bytes16 l) s })
    (record { answer = Err (refusal z 0 0); buffer = s })
