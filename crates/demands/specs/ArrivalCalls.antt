-- Document 02, request 9: the public calls with arrivals and in pieces, as a single list, which is part of the single claim of `Calls`.
use Rattle.std.specs.Prelude.{ℕ, true, false, ◌≡◌, List, [], ◌∷◌, ◌++◌, length, set, replicate}
use Rattle.records.specs.declared.transaction.Transaction.{Transaction}
use Rattle.records.specs.Transaction.{arriving, read_later, write_transaction, write_later}
use Rattle.records.specs.Command.{bytes_of_all}
use Rattle.rules.specs.Worked.{refresh, then_ref, All}
use Rattle.rules.specs.WorkedArrivals.{read_at, arrivals, arrived_schedule}
use Rattle.lists.specs.Packed.{records_of}
use Rattle.controller.specs.declared.controller.Controller.{Controller}
use Rattle.controller.specs.Pieces.{Lot, AllRan, all_written}
use Rattle.promises.specs.Admit.{admitted}
use Rattle.promises.specs.Transactions.{reading}
use Rattle.promises.specs.Numbers.{telling, transaction_numbers}
use Rattle.demands.specs.Pieces.{ran_over, ran_over_bytes}
use Rattle.demands.specs.Handed.{A, R, fine, out, never, gone, lent_before, told, reads, Builds, BuildsBytes, runs, runs_bytes, Writes}

-- ---- the record of 8 bytes

abbrev pub later_records : List (Type 0)
later_records =
    -- an arrival of 20,000,000, a refresh's too, and one more; the greatest of 32 bits
    (transaction_numbers (read_later (0 ∷ 7 ∷ 2 ∷ 1 ∷ 0 ∷ 45 ∷ 49 ∷ 1 ∷ [])) ≡ telling 0 (0 ∷ 7 ∷ 2 ∷ 1 ∷ 20000000 ∷ []))
    ∷ (transaction_numbers (read_later (2 ∷ 0 ∷ 0 ∷ 0 ∷ 0 ∷ 45 ∷ 49 ∷ 1 ∷ [])) ≡ telling 0 (2 ∷ 0 ∷ 0 ∷ 0 ∷ 20000000 ∷ []))
    ∷ (transaction_numbers (read_later (0 ∷ 7 ∷ 2 ∷ 1 ∷ 1 ∷ 45 ∷ 49 ∷ 1 ∷ [])) ≡ told 4 0 0)
    ∷ (transaction_numbers (read_later (0 ∷ 7 ∷ 2 ∷ 1 ∷ 255 ∷ 255 ∷ 255 ∷ 255 ∷ [])) ≡ told 4 0 0)
    -- number 3: any size but 8; 3 before 4
    ∷ (transaction_numbers (read_later (1 ∷ 15 ∷ 16 ∷ 16 ∷ [])) ≡ told 3 0 0)
    ∷ (transaction_numbers (read_later (1 ∷ 16 ∷ 1 ∷ 1 ∷ 0 ∷ 0 ∷ 0 ∷ 0 ∷ [])) ≡ told 4 0 0)
    ∷ (transaction_numbers (read_later (1 ∷ 16 ∷ 1 ∷ 1 ∷ 0 ∷ 0 ∷ 0 ∷ 0 ∷ 0 ∷ [])) ≡ told 3 0 0)
    ∷ Writes (write_later (read_at 300 0) (replicate 8 9)) (telling 0 []) (0 ∷ 0 ∷ 1 ∷ 1 ∷ 44 ∷ 1 ∷ 0 ∷ 0 ∷ [])
    ∷ Writes (write_later (read_at 20000001 0) (replicate 8 9)) (told 4 0 0) (replicate 8 9)
    ∷ Writes (write_later (read_at 20000001 0) (replicate 9 9)) (told 3 0 0) (replicate 9 9)
    ∷ Writes (write_later (read_at 300 0) (replicate 4 9)) (told 3 0 0) (replicate 4 9)
    -- "The 4-byte record is arrival 0": it holds no other
    ∷ Writes (write_transaction (read_at 1 0) (replicate 4 9)) (told 4 0 0) (replicate 4 9)
    ∷ []

-- ---- lists

abbrev pub arrival_lists : List (Type 0)
arrival_lists =
    -- 10 before 3, 3 before 4; "for the new one number 3 wants a multiple of 8"
    (reads true 8 A (0 ∷ []) [] ≡ told 10 7 7)
    ∷ (reads true 7 A (records_of true (out ∷ []) ++ (0 ∷ [])) (out ∷ out ∷ []) ≡ told 3 0 7)
    ∷ (reads true 7 A (records_of false (fine ∷ [])) (out ∷ []) ≡ told 3 0 7)
    ∷ (reads true 7 A (records_of false (fine ∷ fine ∷ fine ∷ [])) (out ∷ out ∷ []) ≡ told 3 0 7)
    ∷ (reads true 7 A (records_of true (fine ∷ out ∷ [])) (out ∷ []) ≡ told 3 0 7)
    -- 4: above 20,000,000, and below the one before, "the later of the two is named"; equal arrivals; the lowest
    ∷ (reads true 7 A (records_of true (read_at 20000000 0 ∷ [])) (out ∷ []) ≡ telling 7 (1 ∷ []))
    ∷ (reads true 7 A (records_of true (read_at 20000001 0 ∷ [])) (out ∷ []) ≡ told 4 0 7)
    ∷ (reads true 7 A (records_of true (read_at 5 0 ∷ read_at 5 1 ∷ [])) (out ∷ out ∷ []) ≡ telling 7 (2 ∷ []))
    ∷ (reads true 7 A (records_of true (read_at 5 0 ∷ read_at 4 1 ∷ [])) (out ∷ out ∷ []) ≡ told 4 1 7)
    ∷ (reads true 7 A (records_of true (read_at 5 0 ∷ read_at 20000001 1 ∷ read_at 6 0 ∷ [])) (out ∷ out ∷ out ∷ []) ≡ told 4 1 7)
    ∷ (reads true 7 A (records_of true (read_at 5 0 ∷ read_at 5 8 ∷ read_at 4 0 ∷ [])) (out ∷ out ∷ out ∷ []) ≡ told 4 1 7)
    -- what is stored: the arrivals too, and where the bytes are of 4, arrival 0
    ∷ ((reading true (admitted 7 A) (records_of true arrivals) (out ∷ out ∷ out ∷ out ∷ [])).list ≡ arrivals ++ (out ∷ []))
    ∷ ((reading false (admitted 7 A) (records_of false (read_at 5 0 ∷ [])) (out ∷ [])).list ≡ fine ∷ [])
    -- 256 transactions as bytes, and one more, with places enough
    ∷ ((s : List ℕ) (l : List Transaction) → length s ≡ 2048 → length l ≡ 256 → (reads true 7 A s l).refused ≡ 3 → ⊥)
    ∷ ((s : List ℕ) (l : List Transaction) → length s ≡ 2056 → length l ≡ 257 → reads true 7 A s l ≡ told 3 0 7)
    ∷ []

-- ---- schedules

abbrev pub arrival_schedules : List (Type 0)
arrival_schedules =
    -- of records: an arrival of 20,000,000 is no fault, one more is; below the one before
    Builds 7 A (read_at 20000000 0 ∷ []) (9 ∷ []) (8 ∷ []) (told 5 0 7) (9 ∷ []) (8 ∷ [])
    ∷ Builds 7 A (read_at 20000001 0 ∷ []) (9 ∷ []) (8 ∷ []) (told 4 0 7) (9 ∷ []) (8 ∷ [])
    ∷ Builds 7 A (read_at 5 0 ∷ read_at 4 1 ∷ []) (9 ∷ []) (8 ∷ []) (told 4 1 7) (9 ∷ []) (8 ∷ [])
    -- the second arrives while the first is at work, the third when both have finished
    ∷ Builds 7 A arrivals (replicate 48 9) (8 ∷ 8 ∷ 8 ∷ []) (telling 7 (6 ∷ [])) (bytes_of_all arrived_schedule) (24 ∷ 32 ∷ 64 ∷ [])
    -- a refresh that arrives
    ∷ Builds 7 R (fine ∷ arriving refresh 60 ∷ []) (replicate 24 9) (8 ∷ 8 ∷ []) (telling 7 (3 ∷ [])) (bytes_of_all (then_ref 60 0)) (24 ∷ 110 ∷ [])
    -- of bytes: 10 before 3, 3 before 4, 4 before 5, 5 before 6, 6
    ∷ BuildsBytes true 8 A (0 ∷ []) [] [] (told 10 7 7) [] []
    ∷ BuildsBytes true 7 A (records_of true (out ∷ []) ++ (0 ∷ [])) (9 ∷ []) (8 ∷ []) (told 3 0 7) (9 ∷ []) (8 ∷ [])
    ∷ BuildsBytes true 7 A (records_of true (read_at 5 0 ∷ read_at 4 1 ∷ [])) (9 ∷ []) (8 ∷ []) (told 4 1 7) (9 ∷ []) (8 ∷ [])
    ∷ BuildsBytes true 7 A (records_of true arrivals) (replicate 47 9) [] (told 5 0 7) (replicate 47 9) []
    ∷ BuildsBytes true 7 A (records_of true arrivals) (replicate 48 9) (8 ∷ 8 ∷ []) (told 6 0 7) (replicate 48 9) (8 ∷ 8 ∷ [])
    ∷ BuildsBytes true 7 A (records_of true arrivals) (replicate 49 9) (8 ∷ 8 ∷ 8 ∷ []) (telling 7 (6 ∷ [])) (bytes_of_all arrived_schedule ++ (9 ∷ [])) (24 ∷ 32 ∷ 64 ∷ [])
    ∷ ((s b f : List ℕ) → length s ≡ 2056 → BuildsBytes true 7 A s b f (told 3 0 7) b f)
    ∷ []

-- ---- the running controller

-- the controller that a run of n cycles leaves that was lent `fine` alone
abbrev pub lent_fine : ℕ → Controller
lent_fine n = (ran_over 7 A (gone 7 0 0 0) (fine ∷ []) n (replicate 16 9)).told.controller

-- at cycle t, 1 to 10, it is this: `fine`'s ACT went at cycle 0
abbrev pub at_work : ℕ → Controller
at_work t =
    record {
      edition = 7;
      cycle = t;
      acts = 1;
      datas = 0;
      banks = set (gone 7 0 0 0).banks 0 (record { opened = 1; act = 0; rd = never; wr = never });
      last = 0 ∷ never ∷ never ∷ never ∷ [];
      groups = set (gone 7 0 0 0).groups 0 (record { act = 0; rd = never; wr = never });
      refresh = never;
      lent = 1;
    }

-- and then another is lent, which arrives at cycle 8
abbrev pub then_at8 : List Transaction
then_at8 = fine ∷ read_at 8 1 ∷ []

abbrev pub arrival_runs : List (Type 0)
arrival_runs =
    -- a run of count 0 leaves what was lent, and nothing else
    (lent_fine 0 ≡ lent_before 1 (gone 7 0 0 0))
    ∷ (lent_fine 8 ≡ at_work 8)
    ∷ (lent_fine 9 ≡ at_work 9)
    -- "an equal arrival is in time", one cycle later the piece is late, and nothing is written; "an empty piece never late"
    ∷ (runs 7 A (at_work 8) then_at8 99 24 ≡ telling 7 (3 ∷ 11 ∷ []))
    ∷ (runs 7 A (at_work 9) then_at8 99 24 ≡ told 12 0 7)
    ∷ ((ran_over 7 A (at_work 9) then_at8 99 (replicate 24 9)).told.controller ≡ at_work 9)
    ∷ ((ran_over 7 A (at_work 9) then_at8 99 (replicate 24 9)).buffer ≡ replicate 24 9)
    ∷ (runs 7 A (at_work 9) (fine ∷ []) 99 8 ≡ telling 7 (1 ∷ 2 ∷ []))
    -- the first new arrival decides, not that of a transaction lent before, nor a later one
    ∷ (runs 7 A (lent_before 1 (gone 7 9 0 0)) then_at8 0 0 ≡ told 12 0 7)
    ∷ (runs 7 A (lent_before 2 (gone 7 9 0 0)) then_at8 0 0 ≡ telling 7 (0 ∷ 0 ∷ []))
    ∷ (runs 7 A (gone 7 1 0 0) (fine ∷ read_at 20000000 0 ∷ []) 0 0 ≡ told 12 0 7)
    ∷ (runs 7 A (gone 7 0 0 0) (fine ∷ read_at 20000000 0 ∷ []) 0 0 ≡ telling 7 (0 ∷ 0 ∷ []))
    -- more lent before than the list has: number 9; 9 before 12, 5 before both, 4 before 5
    ∷ (runs 7 A (lent_before 1 (gone 7 0 0 0)) (fine ∷ []) 0 0 ≡ telling 7 (0 ∷ 0 ∷ []))
    ∷ (runs 7 A (lent_before 2 (gone 7 0 0 0)) (fine ∷ []) 0 0 ≡ told 9 0 7)
    ∷ (runs 7 A (lent_before 1 (gone 8 9 0 0)) then_at8 0 0 ≡ told 9 0 7)
    ∷ (runs 7 A (lent_before 1 (gone 7 9 0 0)) then_at8 1 7 ≡ told 5 0 7)
    ∷ (runs 7 A (lent_before 1 (gone 7 9 0 0)) (fine ∷ read_at 8 1 ∷ read_at 7 1 ∷ []) 1 7 ≡ told 4 2 7)
    -- "Numbers 3 and 4 are read over the whole list", what was lent before too
    ∷ (runs 7 A (lent_before 2 (gone 7 0 0 0)) (fine ∷ out ∷ fine ∷ []) 0 0 ≡ told 4 1 7)
    ∷ (runs 7 A (lent_before 256 (gone 7 0 0 0)) (replicate 257 fine) 0 0 ≡ told 3 0 7)
    -- commands left, and "served", speak of the whole list, arrived or not
    ∷ (runs 7 A (gone 7 0 0 0) (fine ∷ read_at 40 0 ∷ []) 9 31 ≡ told 5 0 7)
    ∷ (runs 7 A (gone 7 0 0 0) (fine ∷ read_at 40 0 ∷ []) 9 32 ≡ telling 7 (1 ∷ 9 ∷ []))
    ∷ (runs 7 A (gone 7 0 0 0) (fine ∷ read_at 40 0 ∷ []) 99 32 ≡ telling 7 (4 ∷ 51 ∷ []))
    -- the 4-byte record is arrival 0: new ones are in time at cycle 0 alone
    ∷ (runs_bytes false 7 A (lent_before 1 (gone 7 0 0 0)) (records_of false (fine ∷ fine ∷ [])) 0 0 ≡ telling 7 (0 ∷ 0 ∷ []))
    ∷ (runs_bytes false 7 A (at_work 1) (records_of false (fine ∷ fine ∷ [])) 0 0 ≡ told 12 0 7)
    ∷ (runs_bytes false 7 A (at_work 1) (records_of false (fine ∷ [])) 99 8 ≡ telling 7 (1 ∷ 10 ∷ []))
    -- the same of the bytes of records of 8: 10, 3, 4, 5, 9, 12
    ∷ (runs_bytes true 8 A (at_work 9) (0 ∷ []) 99 0 ≡ told 10 7 7)
    ∷ (runs_bytes true 7 A (at_work 9) (records_of false (out ∷ [])) 99 0 ≡ told 3 0 7)
    ∷ (runs_bytes true 7 A (at_work 9) (records_of true (fine ∷ read_at 8 1 ∷ read_at 7 1 ∷ [])) 99 0 ≡ told 4 2 7)
    ∷ (runs_bytes true 7 A (lent_before 1 (gone 8 9 0 0)) (records_of true then_at8) 99 0 ≡ told 5 0 7)
    ∷ (runs_bytes true 7 A (lent_before 1 (gone 8 9 0 0)) (records_of true then_at8) 0 0 ≡ told 9 0 7)
    ∷ (runs_bytes true 7 A (at_work 9) (records_of true then_at8) 99 24 ≡ told 12 0 7)
    ∷ (runs_bytes true 7 A (at_work 8) (records_of true then_at8) 99 24 ≡ telling 7 (3 ∷ 11 ∷ []))
    ∷ ((c : Controller) (s : List ℕ) (n room : ℕ) → length s ≡ 2056 → runs_bytes true 7 A c s n room ≡ told 3 0 7)
    ∷ []

-- ---- in pieces: the first two for 4 cycles, then nothing new to their end, then the last

abbrev pub lot : List Transaction → ℕ → ℕ → ℕ → ℕ → Lot
lot more count room commands cycles =
    record { more = more; count = count; buffer = replicate room 9; report = record { edition = 7; commands = commands; cycles = cycles } }

abbrev pub lots : List Lot
lots = lot (read_at 0 0 ∷ read_at 8 1 ∷ []) 4 32 1 4 ∷ lot [] 99 24 3 15 ∷ lot (read_at 40 0 ∷ []) 99 17 2 32 ∷ []

abbrev pub piece_calls : List (Type 0)
piece_calls =
    AllRan (ran_over 7 A) lots [] (gone 7 0 0 0)
    ∷ (all_written (ran_over 7 A) lots [] (gone 7 0 0 0) ≡ bytes_of_all arrived_schedule)
    ∷ AllRan (ran_over_bytes 7 A) lots [] (gone 7 0 0 0)
    ∷ (all_written (ran_over_bytes 7 A) lots [] (gone 7 0 0 0) ≡ bytes_of_all arrived_schedule)
    ∷ []

abbrev pub arrival_calls : List (Type 0)
arrival_calls = All later_records ∷ All arrival_lists ∷ All arrival_schedules ∷ All arrival_runs ∷ All piece_calls ∷ []
