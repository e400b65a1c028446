-- Document 01, "What the caller is told": numbers 3 and 4, in that order. A refusal names the table's edition. Bytes are records of 8 where `later`,
-- else of 4.
use Rattle.std.specs.Prelude.{ℕ, ◌+◌, ◌%◌, Bool, ◌&&◌, List, [], ◌∷◌, leb, eqb, length, Result, Ok, Err}
use Rattle.records.specs.declared.refusal.Refusal.{Refusal}
use Rattle.records.specs.declared.table.Table.{Table}
use Rattle.records.specs.declared.transaction.Transaction.{Transaction}
use Rattle.records.specs.Tests.{pick}
use Rattle.records.specs.Told.{refusal}
use Rattle.records.specs.Transaction.{record_size, record_count, list_of, fits_after}

-- number 4: "a transaction out of range", or with an arrival less than "the one before it" (document 02, request 9), which is a; position: "its
-- number, the lowest". The list's first has the number k
unfoldable pub range_from : Table → ℕ → List Transaction → ℕ → Result Unit Refusal
range_from τ a [] k = Ok tt
range_from τ a (x ∷ l) k = pick (fits_after a τ x) (range_from τ x.arrival l (k + 1)) (Err (refusal 4 k τ.edition))

-- number 3, position 0, where the size is refused; then number 4
abbrev pub check_sized : Table → Bool → List Transaction → Result Unit Refusal
check_sized τ good l = pick good (range_from τ 0 l 0) (Err (refusal 3 0 τ.edition))

-- number 3: "over 256 records, .. decoded"
unfoldable pub check_list : Table → List Transaction → Result Unit Refusal
check_list τ l = check_sized τ (leb (length l) 256) l

-- number 3: "transaction bytes not a multiple of 4, or over 256 records, as bytes"; "for the new one number 3 wants a multiple of 8"
unfoldable pub check_bytes : Bool → Table → List ℕ → Result Unit Refusal
check_bytes later τ s =
    check_sized τ (eqb (length s % record_size later) 0 && leb (record_count later (length s)) 256) (list_of later s)

-- number 3: "or too few places to decode into"
unfoldable pub check_into : Bool → Table → List ℕ → ℕ → Result Unit Refusal
check_into later τ s places =
    check_sized τ
    (eqb (length s % record_size later) 0 && (leb (record_count later (length s)) 256 && leb (record_count later (length s)) places))
    (list_of later s)
