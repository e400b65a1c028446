-- "Transaction, 4 bytes: type (0 read, 1 write), start bank, BI, BC." Document 02, request 5: "A transaction of type 2, with the other three bytes
-- 0, is a refresh". Request 9: "A transaction record of 8 bytes adds a 32-bit arrival"; "The 4-byte record is arrival 0".
use Rattle.std.specs.Prelude.{ℕ, zero, suc, ◌+◌, ◌*◌, ◌/◌, Bool, true, not, ◌&&◌, ◌||◌, List, [], ◌∷◌, ◌++◌, ltb, leb, eqb, length, get_or, Result, Ok, Err}
use Rattle.records.specs.declared.refusal.Refusal.{Refusal}
use Rattle.records.specs.declared.table.Table.{Table}
use Rattle.records.specs.declared.transaction.Transaction.{Transaction}
use Rattle.records.specs.Tests.{pick, within}
use Rattle.records.specs.Little.{num32, bytes32}
use Rattle.records.specs.Told.{refusal, first_failed, over, Wrote}

-- one of arrival 0
abbrev pub transaction : ℕ → ℕ → ℕ → ℕ → Transaction
transaction k b i c = record { kind = k; start = b; bi = i; bc = c; arrival = 0 }

-- the same, but that it arrives at cycle t
abbrev pub arriving : Transaction → ℕ → Transaction
arriving x t = record { kind = x.kind; start = x.start; bi = x.bi; bc = x.bc; arrival = t }

-- the transaction of the four bytes from a place on
abbrev pub transaction_at : List ℕ → ℕ → Transaction
transaction_at s at = transaction (get_or s at 0) (get_or s (at + 1) 0) (get_or s (at + 2) 0) (get_or s (at + 3) 0)

abbrev pub bytes_of : Transaction → List ℕ
bytes_of x = x.kind ∷ x.start ∷ x.bi ∷ x.bc ∷ []

-- n transactions from a place on; those of a run of records
unfoldable pub transactions_from : List ℕ → ℕ → ℕ → List Transaction
transactions_from s zero at = []
transactions_from s (suc n) at = transaction_at s at ∷ transactions_from s n (at + 4)

abbrev pub transactions_in : List ℕ → List Transaction
transactions_in s = transactions_from s (length s / 4) 0

-- the transaction of the eight bytes from a place on
abbrev pub later_at : List ℕ → ℕ → Transaction
later_at s at = arriving (transaction_at s at) (num32 s (at + 4))

abbrev pub later_bytes : Transaction → List ℕ
later_bytes x = bytes_of x ++ bytes32 x.arrival

-- n transactions of eight bytes from a place on; those of a run of records
unfoldable pub later_from : List ℕ → ℕ → ℕ → List Transaction
later_from s zero at = []
later_from s (suc n) at = later_at s at ∷ later_from s n (at + 8)

abbrev pub later_in : List ℕ → List Transaction
later_in s = later_from s (length s / 8) 0

-- Of a run of records, of 8 bytes each where `later`, else of 4: a record's size, how many so many bytes hold, the k-th transaction, and all of them
abbrev pub record_size : Bool → ℕ
record_size later = pick later 8 4

abbrev pub record_count : Bool → ℕ → ℕ
record_count later size = size / record_size later

abbrev pub kth_of : Bool → List ℕ → ℕ → Transaction
kth_of later s k = pick later (later_at s (8 * k)) (transaction_at s (4 * k))

abbrev pub list_of : Bool → List ℕ → List Transaction
list_of later s = pick later (later_in s) (transactions_in s)

abbrev pub is_write : Transaction → Bool
is_write x = eqb x.kind 1

abbrev pub is_refresh : Transaction → Bool
is_refresh x = eqb x.kind 2

-- a read or a write: "BI and BC are 1 to 16"; "Start must be below banks and BI at most banks" (document 02, request 2)
abbrev pub moves_data : ℕ → Transaction → Bool
moves_data banks x =
    leb x.kind 1 && (within 1 16 x.bi && (within 1 16 x.bc && (ltb x.start banks && leb x.bi banks)))

-- a refresh, "with the other three bytes 0", and "refused by number 4 when RFC is 0"
abbrev pub refreshes : ℕ → Transaction → Bool
refreshes rfc x = is_refresh x && (not (eqb rfc 0) && (eqb x.start 0 && (eqb x.bi 0 && eqb x.bc 0)))

-- a transaction that a table of so many banks and this RFC accepts
abbrev pub fits_in : ℕ → ℕ → Transaction → Bool
fits_in banks rfc x = refreshes rfc x || moves_data banks x

-- the same, of one that arrives at the latest cycle or before
abbrev pub fits_by : ℕ → ℕ → ℕ → Transaction → Bool
fits_by latest banks rfc x = leb x.arrival latest && fits_in banks rfc x

-- a transaction that a table accepts: its arrival is "at most 20,000,000"
abbrev pub fits : Table → Transaction → Bool
fits τ x = fits_by 20000000 τ.banks τ.rfc x

-- and "never less than the one before it", which is a
abbrev pub fits_after : ℕ → Table → Transaction → Bool
fits_after a τ x = leb a x.arrival && fits τ x

-- each of a list, after one that arrived at a
abbrev pub fits_from : ℕ → Table → List Transaction → Bool
fits_from a τ [] = true
fits_from a τ (x ∷ l) = fits_after a τ x && fits_from x.arrival τ l

-- "At most 256 transactions; none is fine."
abbrev pub list_fits : Table → List Transaction → Bool
list_fits τ l = leb (length l) 256 && fits_from 0 τ l

-- number 3: any size but the record's own; number 4: "a transaction out of range", or an arrival above the latest that its record may have.
-- "Where no table is given, banks counts as 16", and a refresh is "accepted where no table is given": RFC counts as not 0
abbrev pub refusal_by : ℕ → ℕ → ℕ → Transaction → ℕ
refusal_by need latest size x = first_failed ((3, not (eqb size need)) ∷ (4, not (fits_by latest 16 1 x)) ∷ [])

-- of the record of 4 bytes, which "is arrival 0"
abbrev pub transaction_refusal : ℕ → Transaction → ℕ
transaction_refusal size x = refusal_by 4 0 size x

-- of the record of 8 bytes
abbrev pub later_refusal : ℕ → Transaction → ℕ
later_refusal size x = refusal_by 8 20000000 size x

unfoldable pub read_transaction : List ℕ → Result Transaction Refusal
read_transaction s =
    let z = transaction_refusal (length s) (transaction_at s 0) in
    pick (eqb z 0) (Ok (transaction_at s 0)) (Err (refusal z 0 0))

unfoldable pub write_transaction : Transaction → List ℕ → Wrote
write_transaction x s =
    let z = transaction_refusal (length s) x in
    pick (eqb z 0)
    (record { answer = Ok 0; buffer = over (bytes_of x) s })
    (record { answer = Err (refusal z 0 0); buffer = s })

unfoldable pub read_later : List ℕ → Result Transaction Refusal
read_later s =
    let z = later_refusal (length s) (later_at s 0) in
    pick (eqb z 0) (Ok (later_at s 0)) (Err (refusal z 0 0))

unfoldable pub write_later : Transaction → List ℕ → Wrote
write_later x s =
    let z = later_refusal (length s) x in
    pick (eqb z 0)
    (record { answer = Ok 0; buffer = over (later_bytes x) s })
    (record { answer = Err (refusal z 0 0); buffer = s })
