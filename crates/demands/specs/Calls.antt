-- The public calls on given bytes, as a single list under a single claim: each case of each answer with its numbers, for each two neighbouring
-- checks of a call an input that fails both, and each limit and one beyond it.
use Rattle.std.specs.Prelude.{ℕ, false, ◌≡◌, List, [], ◌∷◌, ◌++◌, length, replicate, Ok, Err}
use Rattle.records.specs.declared.transaction.Transaction.{Transaction}
use Rattle.records.specs.declared.command.Kind.TheVariants.{Act, Rd, Rda, Wr, Wra, Ref, Other}
use Rattle.records.specs.declared.refusal.Refusal.{Refusal}
use Rattle.records.specs.Little.{bytes16}
use Rattle.records.specs.Table.{read_table, write_table}
use Rattle.records.specs.Transaction.{read_transaction, write_transaction}
use Rattle.records.specs.Command.{command, bytes_of_all, read_command, write_command}
use Rattle.records.specs.House.{house, numbers_a}
use Rattle.rules.specs.Worked.{read, refresh, one, eleven, then_ref, All}
use Rattle.stamps.specs.Record.{capture_record, read_capture_record, write_capture_record}
use Rattle.lists.specs.Check.{check_list}
use Rattle.lists.specs.Packed.{records_of}
use Rattle.controller.specs.declared.controller.Controller.{Controller}
use Rattle.promises.specs.Admit.{admitted}
use Rattle.promises.specs.Tracing.{capturing}
use Rattle.promises.specs.Transactions.{reading}
use Rattle.promises.specs.Running.{starting, running}
use Rattle.demands.specs.Runs.{NeverRuns}
use Rattle.promises.specs.Numbers.{telling, table_numbers, transaction_numbers, command_numbers, capture_record_numbers, capture_numbers, start_numbers}
use Rattle.demands.specs.GroupCalls.{group_calls}
use Rattle.demands.specs.ArrivalCalls.{arrival_calls}
use Rattle.demands.specs.ServesCalls.{serves_calls}
use Rattle.demands.specs.PatternCalls.{pattern_calls}
use Rattle.demands.specs.Handed.{A, B, C, A50, ccd1, cut, with_rfc, R, R200, alone, fine, out, trace, tick, seen, refreshed, gone, lent_before, told, judges, judges_bytes, Patterns, Traces, bounds, reads, Builds, BuildsBytes, runs, runs_bytes, Writes}

-- ---- the calls on one record

abbrev pub record_calls : List (Type 0)
record_calls =
    -- a table: read; of 31 bytes, which are out of range too; out of range; RFC and a timing number at 1,023, and one beyond
    (table_numbers (read_table A) ≡ telling 7 (alone numbers_a))
    ∷ (table_numbers (read_table cut) ≡ told 1 0 0)
    ∷ (table_numbers (read_table ccd1) ≡ told 2 0 0)
    ∷ (table_numbers (read_table (with_rfc 1023)) ≡ telling 7 (alone (house 32 6 1023)))
    ∷ (table_numbers (read_table (with_rfc 1024)) ≡ told 2 0 0)
    ∷ (table_numbers (read_table (bytes16 (house 1023 6 0))) ≡ telling 7 (alone (house 1023 6 0)))
    ∷ (table_numbers (read_table (bytes16 (house 1024 6 0))) ≡ told 2 0 0)
    ∷ Writes (write_table numbers_a (replicate 32 9)) (telling 7 []) A
    ∷ Writes (write_table numbers_a (replicate 33 9)) (told 1 0 0) (replicate 33 9)
    ∷ Writes (write_table (house 32 6 1024) (replicate 33 9)) (told 1 0 0) (replicate 33 9)
    ∷ Writes (write_table (house 32 6 1024) (replicate 32 9)) (told 2 0 0) (replicate 32 9)
    -- a transaction: banks counts as 16; 3 before 4
    ∷ (transaction_numbers (read_transaction (1 ∷ 15 ∷ 16 ∷ 16 ∷ [])) ≡ telling 0 (1 ∷ 15 ∷ 16 ∷ 16 ∷ 0 ∷ []))
    ∷ (transaction_numbers (read_transaction (1 ∷ 16 ∷ 1 ∷ 1 ∷ [])) ≡ told 4 0 0)
    ∷ (transaction_numbers (read_transaction (1 ∷ 16 ∷ 1 ∷ 1 ∷ 0 ∷ [])) ≡ told 3 0 0)
    ∷ Writes (write_transaction fine (replicate 4 9)) (telling 0 []) (0 ∷ 0 ∷ 1 ∷ 1 ∷ [])
    ∷ Writes (write_transaction (read 16 1 1) (replicate 4 9)) (told 4 0 0) (replicate 4 9)
    ∷ Writes (write_transaction (read 16 1 1) (replicate 5 9)) (told 3 0 0) (replicate 5 9)
    -- a refresh, "accepted where no table is given"; with BI 1; a type above 2
    ∷ (transaction_numbers (read_transaction (2 ∷ 0 ∷ 0 ∷ 0 ∷ [])) ≡ telling 0 (2 ∷ 0 ∷ 0 ∷ 0 ∷ 0 ∷ []))
    ∷ (transaction_numbers (read_transaction (2 ∷ 0 ∷ 1 ∷ 0 ∷ [])) ≡ told 4 0 0)
    ∷ (transaction_numbers (read_transaction (3 ∷ 0 ∷ 1 ∷ 1 ∷ [])) ≡ told 4 0 0)
    ∷ Writes (write_transaction refresh (replicate 4 9)) (telling 0 []) (2 ∷ 0 ∷ 0 ∷ 0 ∷ [])
    -- a command: the kinds by their numbers, and any other byte
    ∷ (command_numbers (read_command (1 ∷ 2 ∷ 3 ∷ 4 ∷ 0 ∷ 6 ∷ 7 ∷ 8 ∷ [])) ≡ telling 0 (67305985 ∷ 0 ∷ 6 ∷ 2055 ∷ []))
    ∷ (read_command (0 ∷ 0 ∷ 0 ∷ 0 ∷ 0 ∷ 0 ∷ 0 ∷ 0 ∷ []) ≡ Ok (command 0 Act 0 0))
    ∷ (read_command (0 ∷ 0 ∷ 0 ∷ 0 ∷ 1 ∷ 0 ∷ 0 ∷ 0 ∷ []) ≡ Ok (command 0 Rd 0 0))
    ∷ (read_command (0 ∷ 0 ∷ 0 ∷ 0 ∷ 2 ∷ 0 ∷ 0 ∷ 0 ∷ []) ≡ Ok (command 0 Rda 0 0))
    ∷ (read_command (0 ∷ 0 ∷ 0 ∷ 0 ∷ 3 ∷ 0 ∷ 0 ∷ 0 ∷ []) ≡ Ok (command 0 Wr 0 0))
    ∷ (read_command (0 ∷ 0 ∷ 0 ∷ 0 ∷ 4 ∷ 0 ∷ 0 ∷ 0 ∷ []) ≡ Ok (command 0 Wra 0 0))
    ∷ (read_command (0 ∷ 0 ∷ 0 ∷ 0 ∷ 5 ∷ 0 ∷ 0 ∷ 0 ∷ []) ≡ Ok (command 0 Ref 0 0))
    ∷ (read_command (0 ∷ 0 ∷ 0 ∷ 0 ∷ 6 ∷ 0 ∷ 0 ∷ 0 ∷ []) ≡ Ok (command 0 (Other 6) 0 0))
    ∷ (command_numbers (read_command (replicate 9 0)) ≡ told 7 0 0)
    ∷ Writes (write_command (command 10 Rda 3 1) (replicate 9 9)) (telling 0 []) (10 ∷ 0 ∷ 0 ∷ 0 ∷ 2 ∷ 3 ∷ 1 ∷ 0 ∷ 9 ∷ [])
    ∷ Writes (write_command (command 10 Rda 3 1) (replicate 7 9)) (told 5 0 0) (replicate 7 9)
    -- a record of a capture: any 4 bytes; 7 for any other size, 5 for a buffer under 4
    ∷ (capture_record_numbers (read_capture_record (1 ∷ 2 ∷ 3 ∷ 4 ∷ [])) ≡ telling 0 (513 ∷ 3 ∷ 4 ∷ []))
    ∷ (capture_record_numbers (read_capture_record (255 ∷ 255 ∷ 255 ∷ 0 ∷ [])) ≡ telling 0 (65535 ∷ 255 ∷ 0 ∷ []))
    ∷ (capture_record_numbers (read_capture_record (replicate 3 0)) ≡ told 7 0 0)
    ∷ (capture_record_numbers (read_capture_record (replicate 5 0)) ≡ told 7 0 0)
    ∷ Writes (write_capture_record (capture_record 513 3 4) (replicate 5 9)) (telling 0 []) (1 ∷ 2 ∷ 3 ∷ 4 ∷ 9 ∷ [])
    ∷ Writes (write_capture_record (capture_record 513 3 4) (replicate 3 9)) (told 5 0 0) (replicate 3 9)
    ∷ []

-- ---- the judges

abbrev pub judge_calls : List (Type 0)
judge_calls =
    -- 1 before 2, 2 before 10, 10 before 7, 7
    (judges_bytes 8 cut (0 ∷ []) ≡ told 1 0 0)
    ∷ (judges_bytes 8 ccd1 (0 ∷ []) ≡ told 2 0 0)
    ∷ (judges_bytes 8 A (0 ∷ []) ≡ told 10 7 7)
    ∷ (judges_bytes 0 A (0 ∷ []) ≡ told 10 7 7)
    ∷ (judges_bytes 7 A (0 ∷ []) ≡ told 7 0 7)
    -- 69,632 records, and one more
    ∷ ((s : List ℕ) → length s ≡ 557056 → (judges_bytes 7 A s).refused ≡ 0)
    ∷ ((s : List ℕ) → length s ≡ 557064 → judges_bytes 7 A s ≡ told 7 0 7)
    -- accepted: nothing, and example 1; then each rule by its number, with the record, and no copy
    ∷ (judges 7 A [] ≡ telling 7 [])
    ∷ (judges 7 A one ≡ telling 7 [])
    ∷ (judges 7 A (command 0 (Other 6) 0 0 ∷ []) ≡ telling 7 (1 ∷ 0 ∷ []))
    ∷ (judges 7 A (command 0 Act 8 0 ∷ []) ≡ telling 7 (1 ∷ 0 ∷ []))
    ∷ (judges 7 A (command 6 Act 0 0 ∷ command 6 Act 1 0 ∷ []) ≡ telling 7 (2 ∷ 1 ∷ []))
    ∷ (judges 7 A (command 0 Act 0 0 ∷ command 9 Act 0 0 ∷ []) ≡ telling 7 (3 ∷ 1 ∷ []))
    ∷ (judges 7 A (command 0 Rd 0 0 ∷ []) ≡ telling 7 (3 ∷ 0 ∷ []))
    ∷ (judges 7 C (eleven 43) ≡ telling 7 (4 ∷ 3 ∷ []))
    ∷ (judges 7 A50 (one ++ (command 40 Act 0 0 ∷ [])) ≡ telling 7 (5 ∷ 2 ∷ []))
    ∷ (judges 7 A (command 0 Act 0 0 ∷ command 5 Act 1 0 ∷ []) ≡ telling 7 (6 ∷ 1 ∷ []))
    ∷ (judges 7 A (command 0 Act 0 0 ∷ command 6 Act 1 0 ∷ command 12 Act 2 0 ∷ command 18 Act 3 0 ∷ command 31 Act 4 0 ∷ []) ≡ telling 7 (7 ∷ 4 ∷ []))
    ∷ (judges 7 A (command 0 Act 0 0 ∷ command 9 Rda 0 0 ∷ []) ≡ telling 7 (8 ∷ 1 ∷ []))
    ∷ (judges 7 A (command 0 Act 0 0 ∷ command 6 Act 1 0 ∷ command 16 Rda 0 0 ∷ command 19 Rda 1 0 ∷ []) ≡ telling 7 (9 ∷ 3 ∷ []))
    ∷ (judges 7 A (command 0 Act 0 0 ∷ []) ≡ telling 7 (10 ∷ 1 ∷ []))
    -- a REF: its bank is 0; under RFC 0; 11 with a bank open, and before its precharge start + RP; 12 of a REF, and of an ACT; 6 before 12
    ∷ (judges 7 R (command 0 Ref 1 0 ∷ []) ≡ telling 7 (1 ∷ 0 ∷ []))
    ∷ (judges 7 A (command 0 Ref 0 0 ∷ command 1 Ref 0 0 ∷ []) ≡ telling 7 [])
    ∷ (judges 7 R (command 0 Act 5 0 ∷ command 1 Ref 0 0 ∷ []) ≡ telling 7 (11 ∷ 1 ∷ []))
    ∷ (judges 7 R (then_ref 37 0) ≡ telling 7 (11 ∷ 2 ∷ []))
    ∷ (judges 7 R (then_ref 38 0) ≡ telling 7 [])
    ∷ (judges 7 R (command 0 Ref 0 0 ∷ command 49 Ref 0 0 ∷ []) ≡ telling 7 (12 ∷ 1 ∷ []))
    ∷ (judges 7 R (command 0 Ref 0 0 ∷ command 49 Act 0 0 ∷ []) ≡ telling 7 (12 ∷ 1 ∷ []))
    ∷ (judges 7 R200 (then_ref 38 0 ++ (command 50 Act 1 0 ∷ [])) ≡ telling 7 (6 ∷ 3 ∷ []))
    -- a pattern: 10 before 7, 7 before 8, 8; accepted; refused, with the copy; in a single copy too
    ∷ Patterns 8 A (0 ∷ []) 0 (told 10 7 7)
    ∷ Patterns 7 A (0 ∷ []) 0 (told 7 0 7)
    ∷ Patterns 7 A [] 0 (told 8 0 7)
    ∷ Patterns 7 A (bytes_of_all one) 38 (telling 7 [])
    ∷ Patterns 7 A (bytes_of_all one) 37 (telling 7 (4 ∷ 2 ∷ 0 ∷ []))
    ∷ Patterns 7 A (bytes_of_all (command 0 Act 0 0 ∷ [])) 1 (telling 7 (10 ∷ 1 ∷ 1 ∷ []))
    ∷ Patterns 7 B (bytes_of_all one) 38 (telling 7 (7 ∷ 5 ∷ 0 ∷ []))
    ∷ Patterns 7 R (bytes_of_all (command 0 Ref 0 0 ∷ [])) 50 (telling 7 [])
    ∷ Patterns 7 R (bytes_of_all (command 0 Ref 0 0 ∷ [])) 49 (telling 7 (12 ∷ 2 ∷ 0 ∷ []))
    ∷ []

-- ---- captures

abbrev pub capture_calls : List (Type 0)
capture_calls =
    -- 1 before 2, 2 before 10, 10 before 7, 7 before 11, 11 before 5, 5: nothing is written
    Traces 8 cut (0 ∷ []) (9 ∷ []) (told 1 0 0) (9 ∷ [])
    ∷ Traces 8 ccd1 (0 ∷ []) (9 ∷ []) (told 2 0 0) (9 ∷ [])
    ∷ Traces 8 A (0 ∷ []) (9 ∷ []) (told 10 7 7) (9 ∷ [])
    ∷ Traces 0 A (0 ∷ []) (9 ∷ []) (told 10 7 7) (9 ∷ [])
    ∷ Traces 7 A (trace (tick 5 ∷ tick 5 ∷ []) ++ (0 ∷ [])) (9 ∷ []) (told 7 0 7) (9 ∷ [])
    ∷ Traces 7 A (trace (seen 5 0 ∷ tick 5 ∷ [])) (9 ∷ []) (told 11 1 7) (9 ∷ [])
    ∷ Traces 7 A (trace (seen 5 0 ∷ tick 6 ∷ [])) (replicate 7 9) (told 5 0 7) (replicate 7 9)
    -- 69,632 records, and one more
    ∷ ((s b : List ℕ) → length s ≡ 278528 → (capture_numbers (capturing (admitted 7 A) s b).answer).refused ≡ 7 → ⊥)
    ∷ ((s b : List ℕ) → length s ≡ 278532 → Traces 7 A s b (told 7 0 7) b)
    -- 11 at the lowest such record, ticks counted; the first record has none before it; a gap of 65,535
    ∷ Traces 7 A (trace (tick 5 ∷ tick 6 ∷ seen 6 0 ∷ seen 6 2 ∷ [])) (replicate 16 9) (told 11 2 7) (replicate 16 9)
    ∷ Traces 7 A (trace (tick 0 ∷ tick 65535 ∷ tick 65534 ∷ [])) [] (telling 7 (0 ∷ [])) []
    ∷ Traces 7 A [] [] (telling 7 (0 ∷ [])) []
    -- accepted: ACT at 65,530 and, round the wrap, RDA at 65,540; ticks are not written, and what is beyond the commands stands
    ∷ Traces 7 A (trace (tick 100 ∷ seen 65530 0 ∷ tick 65535 ∷ tick 3 ∷ seen 4 2 ∷ tick 34464 ∷ [])) (replicate 17 9) (telling 7 (2 ∷ []))
    (bytes_of_all (command 65530 Act 0 0 ∷ command 65540 Rda 0 0 ∷ []) ++ (9 ∷ []))
    -- a verdict against it leaves the commands written: a rule and a record, rule 10 and how many there are
    ∷ Traces 7 A (trace (tick 4 ∷ seen 5 0 ∷ tick 10 ∷ seen 14 2 ∷ [])) (replicate 17 9) (telling 7 (2 ∷ 8 ∷ 1 ∷ []))
    (bytes_of_all (command 5 Act 0 0 ∷ command 14 Rda 0 0 ∷ []) ++ (9 ∷ []))
    ∷ Traces 7 A (trace (tick 4 ∷ seen 5 0 ∷ [])) (replicate 9 9) (telling 7 (1 ∷ 10 ∷ 1 ∷ [])) (bytes_of_all (command 5 Act 0 0 ∷ []) ++ (9 ∷ []))
    -- kind 255 with another bank than 0 is a command, and so is any other kind; a REF
    ∷ Traces 7 A (trace (tick 4 ∷ capture_record 5 255 1 ∷ [])) (replicate 8 9) (telling 7 (1 ∷ 1 ∷ 0 ∷ [])) (bytes_of_all (command 5 (Other 255) 1 0 ∷ []))
    ∷ Traces 7 A (trace (seen 5 6 ∷ [])) (replicate 8 9) (telling 7 (1 ∷ 1 ∷ 0 ∷ [])) (bytes_of_all (command 5 (Other 6) 0 0 ∷ []))
    ∷ Traces 7 R (trace (seen 65500 5 ∷ seen 14 5 ∷ [])) (replicate 16 9) (telling 7 (2 ∷ [])) (bytes_of_all (command 65500 Ref 0 0 ∷ command 65550 Ref 0 0 ∷ []))
    ∷ Traces 7 R (trace (seen 65500 5 ∷ seen 13 5 ∷ [])) (replicate 16 9) (telling 7 (2 ∷ 12 ∷ 1 ∷ []))
    (bytes_of_all (command 65500 Ref 0 0 ∷ command 65549 Ref 0 0 ∷ []))
    ∷ []

-- ---- the bound, and lists

abbrev pub list_calls : List (Type 0)
list_calls =
    -- the bound: 10 before 4; each limit and one beyond it
    (bounds 8 A 0 1 ≡ told 10 7 7)
    ∷ (bounds 7 A 0 1 ≡ told 4 0 7)
    ∷ (bounds 7 A 1 1 ≡ telling 7 (44 ∷ []))
    ∷ ((bounds 7 A 8 16).refused ≡ 0)
    ∷ (bounds 7 A 9 1 ≡ told 4 0 7)
    ∷ (bounds 7 A 1 17 ≡ told 4 0 7)
    ∷ (bounds 7 A 1 0 ≡ told 4 0 7)
    -- transactions read: 10 before 3, 3 before 4; exactly as many places, one more, and one fewer
    ∷ (reads false 8 A (0 ∷ []) [] ≡ told 10 7 7)
    ∷ (reads false 7 A (records_of false (out ∷ []) ++ (0 ∷ [])) (out ∷ out ∷ []) ≡ told 3 0 7)
    ∷ (reads false 7 A (records_of false (fine ∷ out ∷ [])) (out ∷ []) ≡ told 3 0 7)
    ∷ (reads false 7 A (records_of false (fine ∷ out ∷ [])) (out ∷ out ∷ []) ≡ told 4 1 7)
    ∷ (reads false 7 A (records_of false (fine ∷ fine ∷ [])) (out ∷ out ∷ []) ≡ telling 7 (2 ∷ []))
    ∷ ((reading false (admitted 7 A) (records_of false (fine ∷ fine ∷ [])) (out ∷ out ∷ [])).list ≡ fine ∷ fine ∷ [])
    ∷ ((reading false (admitted 7 A) (records_of false (fine ∷ [])) (out ∷ out ∷ [])).list ≡ fine ∷ out ∷ [])
    ∷ (reads false 7 A [] [] ≡ telling 7 (0 ∷ []))
    -- a refresh, and where RFC is 0
    ∷ (reads false 7 R (records_of false (fine ∷ refresh ∷ [])) (out ∷ out ∷ []) ≡ telling 7 (2 ∷ []))
    ∷ (reads false 7 A (records_of false (fine ∷ refresh ∷ [])) (out ∷ out ∷ []) ≡ told 4 1 7)
    -- 256 transactions as bytes, and one more, with places enough
    ∷ ((s : List ℕ) (l : List Transaction) → length s ≡ 1024 → length l ≡ 256 → (reads false 7 A s l).refused ≡ 3 → ⊥)
    ∷ ((s : List ℕ) (l : List Transaction) → length s ≡ 1028 → length l ≡ 257 → reads false 7 A s l ≡ told 3 0 7)
    ∷ []

-- ---- schedules

abbrev pub schedule_calls : List (Type 0)
schedule_calls =
    -- 10 before 3, 3 before 4, 4 before 5, 5 before 6, 6: nothing is written
    Builds 8 A (replicate 257 out) (9 ∷ []) (8 ∷ []) (told 10 7 7) (9 ∷ []) (8 ∷ [])
    ∷ Builds 7 A (replicate 257 out) (9 ∷ []) (8 ∷ []) (told 3 0 7) (9 ∷ []) (8 ∷ [])
    ∷ Builds 7 A (fine ∷ out ∷ out ∷ []) (9 ∷ []) (8 ∷ []) (told 4 1 7) (9 ∷ []) (8 ∷ [])
    ∷ Builds 7 A (fine ∷ []) (replicate 15 9) [] (told 5 0 7) (replicate 15 9) []
    ∷ Builds 7 A (fine ∷ []) (replicate 16 9) [] (told 6 0 7) (replicate 16 9) []
    ∷ Builds 7 A (fine ∷ []) (replicate 15 9) (8 ∷ []) (told 5 0 7) (replicate 15 9) (8 ∷ [])
    -- room and finishing places exactly enough, and more
    ∷ Builds 7 A (fine ∷ []) (replicate 16 9) (8 ∷ []) (telling 7 (2 ∷ [])) (bytes_of_all one) (24 ∷ [])
    ∷ Builds 7 A (fine ∷ []) (replicate 17 9) (8 ∷ 8 ∷ []) (telling 7 (2 ∷ [])) (bytes_of_all one ++ (9 ∷ [])) (24 ∷ 8 ∷ [])
    ∷ Builds 7 A [] [] [] (telling 7 (0 ∷ [])) [] []
    -- a refresh is one command due, and finishes at its cycle + RFC; where RFC is 0
    ∷ Builds 7 R (refresh ∷ []) (replicate 7 9) [] (told 5 0 7) (replicate 7 9) []
    ∷ Builds 7 R (refresh ∷ []) (replicate 9 9) (8 ∷ []) (telling 7 (1 ∷ [])) (bytes_of_all (command 0 Ref 0 0 ∷ []) ++ (9 ∷ [])) (50 ∷ [])
    ∷ Builds 7 A (fine ∷ refresh ∷ []) [] [] (told 4 1 7) [] []
    -- 256 decoded transactions are not too many
    ∷ Builds 7 A (replicate 256 fine) [] [] (told 5 0 7) [] []
    -- the same of a list's bytes
    ∷ BuildsBytes false 8 A (0 ∷ []) [] [] (told 10 7 7) [] []
    ∷ BuildsBytes false 7 A (records_of false (out ∷ []) ++ (0 ∷ [])) (9 ∷ []) (8 ∷ []) (told 3 0 7) (9 ∷ []) (8 ∷ [])
    ∷ BuildsBytes false 7 A (records_of false (fine ∷ out ∷ out ∷ [])) (9 ∷ []) (8 ∷ []) (told 4 1 7) (9 ∷ []) (8 ∷ [])
    ∷ BuildsBytes false 7 A (records_of false (fine ∷ [])) (replicate 15 9) [] (told 5 0 7) (replicate 15 9) []
    ∷ BuildsBytes false 7 A (records_of false (fine ∷ [])) (replicate 16 9) [] (told 6 0 7) (replicate 16 9) []
    ∷ BuildsBytes false 7 A (records_of false (fine ∷ [])) (replicate 17 9) (8 ∷ []) (telling 7 (2 ∷ [])) (bytes_of_all one ++ (9 ∷ [])) (24 ∷ [])
    ∷ BuildsBytes false 7 R (records_of false (refresh ∷ [])) (replicate 8 9) (8 ∷ []) (telling 7 (1 ∷ [])) (bytes_of_all (command 0 Ref 0 0 ∷ [])) (50 ∷ [])
    ∷ BuildsBytes false 7 A (records_of false (fine ∷ refresh ∷ [])) [] [] (told 4 1 7) [] []
    ∷ ((s b f : List ℕ) → length s ≡ 1028 → BuildsBytes false 7 A s b f (told 3 0 7) b f)
    ∷ []

-- ---- the running controller

abbrev pub run_calls : List (Type 0)
run_calls =
    -- a start, and refused ones; what they hand out
    (start_numbers (starting (admitted 7 A)).answer ≡ telling 7 [])
    ∷ ((starting (admitted 7 A)).controller ≡ gone 7 0 0 0)
    ∷ (start_numbers (starting (admitted 8 A)).answer ≡ told 10 7 7)
    ∷ (start_numbers (starting (admitted 8 ccd1)).answer ≡ told 2 0 0)
    ∷ (start_numbers (starting (admitted 8 cut)).answer ≡ told 1 0 0)
    ∷ ((starting (admitted 8 A)).controller ≡ gone 0 0 0 0)
    -- whatever table refuses it, no run takes what a refused start hands out
    ∷ ((e : ℕ) (t : List ℕ) (x : Refusal) → (starting (admitted e t)).answer ≡ Err x → NeverRuns (starting (admitted e t)).controller)
    -- a run: 10 before 3, 3 before 4, 4 before 5, 5 before 9, 9
    ∷ (runs 8 A (gone 7 0 0 0) (replicate 257 out) 1 0 ≡ told 10 7 7)
    ∷ (runs 7 A (gone 7 0 0 0) (replicate 257 out) 1 0 ≡ told 3 0 7)
    ∷ (runs 7 A (gone 7 0 0 0) (fine ∷ out ∷ []) 1 0 ≡ told 4 1 7)
    ∷ (runs 7 A (gone 8 0 0 0) (fine ∷ []) 1 7 ≡ told 5 0 7)
    ∷ (runs 7 A (gone 8 0 0 0) (fine ∷ []) 1 8 ≡ told 9 0 7)
    ∷ (runs 7 A (lent_before 1 (gone 7 99999999 0 0)) (fine ∷ []) 0 0 ≡ telling 7 (0 ∷ 0 ∷ []))
    ∷ (runs 7 A (lent_before 1 (gone 7 100000000 0 0)) (fine ∷ []) 0 0 ≡ told 9 0 7)
    ∷ (runs 7 A (gone 7 0 2 0) (fine ∷ []) 0 0 ≡ told 9 0 7)
    ∷ (runs 7 A (gone 7 0 1 2) (fine ∷ []) 0 0 ≡ told 9 0 7)
    ∷ (runs 7 A (gone 7 0 0 1) (fine ∷ []) 0 0 ≡ told 9 0 7)
    -- commands left, "counted queue by queue": where more have gone from one queue than it holds, the other still counts whole
    ∷ (runs 7 A (gone 7 0 0 5) (fine ∷ []) 9 7 ≡ told 5 0 7)
    ∷ (runs 7 A (gone 7 0 0 5) (fine ∷ []) 9 8 ≡ told 9 0 7)
    ∷ (runs 7 A (gone 7 0 5 0) (fine ∷ []) 9 7 ≡ told 5 0 7)
    ∷ (runs 7 A (gone 7 0 5 0) (fine ∷ []) 9 8 ≡ told 9 0 7)
    -- room for the lesser of count and commands left; the commands written, and the cycles run
    ∷ (runs 7 A (gone 7 0 0 0) (fine ∷ []) 0 0 ≡ telling 7 (0 ∷ 0 ∷ []))
    ∷ (runs 7 A (gone 7 0 0 0) (fine ∷ []) 1 8 ≡ telling 7 (1 ∷ 1 ∷ []))
    ∷ (runs 7 A (gone 7 0 0 0) (fine ∷ []) 99 15 ≡ told 5 0 7)
    ∷ (runs 7 A (gone 7 0 0 0) (fine ∷ []) 99 16 ≡ telling 7 (2 ∷ 11 ∷ []))
    ∷ ((running (λ τ. check_list τ (fine ∷ [])) (admitted 7 A) (gone 7 0 0 0) (fine ∷ []) 99 (replicate 17 9)).buffer ≡ bytes_of_all one ++ (9 ∷ []))
    ∷ (runs 7 A (gone 7 0 0 0) [] 99 0 ≡ telling 7 (0 ∷ 0 ∷ []))
    -- with a refresh: where RFC is 0; its REF is a command left, and a place of the ACT queue; the last REF's cycle is before the state's own
    ∷ (runs 7 A (gone 7 0 0 0) (fine ∷ refresh ∷ []) 1 0 ≡ told 4 1 7)
    ∷ (runs 7 R (gone 7 0 0 0) (refresh ∷ fine ∷ []) 99 23 ≡ told 5 0 7)
    ∷ (runs 7 R (gone 7 0 0 0) (refresh ∷ fine ∷ []) 99 24 ≡ telling 7 (3 ∷ 61 ∷ []))
    ∷ (runs 7 R (gone 7 0 1 0) (refresh ∷ fine ∷ []) 99 15 ≡ told 5 0 7)
    ∷ (runs 7 R (gone 7 0 1 0) (refresh ∷ fine ∷ []) 99 16 ≡ telling 7 (2 ∷ 11 ∷ []))
    ∷ (runs 7 R (gone 7 0 1 1) (refresh ∷ fine ∷ []) 0 0 ≡ told 9 0 7)
    ∷ (runs 7 R (gone 7 0 2 1) (refresh ∷ fine ∷ []) 0 0 ≡ telling 7 (0 ∷ 0 ∷ []))
    ∷ (runs 7 R (lent_before 2 (refreshed 7 5 1 0 5)) (refresh ∷ fine ∷ []) 0 0 ≡ told 9 0 7)
    ∷ (runs 7 R (lent_before 2 (refreshed 7 6 1 0 5)) (refresh ∷ fine ∷ []) 99 16 ≡ telling 7 (2 ∷ 60 ∷ []))
    -- the same of a list's bytes
    ∷ (runs_bytes false 8 A (gone 7 0 0 0) (0 ∷ []) 1 0 ≡ told 10 7 7)
    ∷ (runs_bytes false 7 A (gone 7 0 0 0) (records_of false (out ∷ []) ++ (0 ∷ [])) 1 0 ≡ told 3 0 7)
    ∷ (runs_bytes false 7 A (gone 7 0 0 0) (records_of false (fine ∷ out ∷ [])) 1 0 ≡ told 4 1 7)
    ∷ (runs_bytes false 7 A (gone 8 0 0 0) (records_of false (fine ∷ [])) 1 7 ≡ told 5 0 7)
    ∷ (runs_bytes false 7 A (gone 8 0 0 0) (records_of false (fine ∷ [])) 1 8 ≡ told 9 0 7)
    ∷ (runs_bytes false 7 A (gone 7 0 0 0) (records_of false (fine ∷ [])) 99 16 ≡ telling 7 (2 ∷ 11 ∷ []))
    ∷ ((c : Controller) (s : List ℕ) (n room : ℕ) → length s ≡ 1028 → runs_bytes false 7 A c s n room ≡ told 3 0 7)
    ∷ []

abbrev pub calls : List (Type 0)
calls =
    All record_calls ∷ All judge_calls ∷ All capture_calls ∷ All list_calls ∷ All schedule_calls ∷ All run_calls ∷ All group_calls ∷ All arrival_calls ∷ All serves_calls ∷ All pattern_calls ∷ []
