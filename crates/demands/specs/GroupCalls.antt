-- Document 02, request 7: the public calls on tables of 40 bytes, as a single list, which is part of the single claim of `Calls`. Table D has 8
-- banks in four groups: bank 4 is in the group of bank 0.
use Rattle.std.specs.Prelude.{ℕ, false, ◌≡◌, List, [], ◌∷◌, ◌++◌, take, drop, set, replicate}
use Rattle.records.specs.declared.command.Kind.TheVariants.{Act, Rda}
use Rattle.records.specs.declared.command.Command.{Command}
use Rattle.records.specs.Little.{bytes16}
use Rattle.records.specs.Table.{read_table, write_table, write_group_table}
use Rattle.records.specs.Command.{command, bytes_of_all}
use Rattle.records.specs.House.{numbers_a, numbers_d}
use Rattle.rules.specs.Worked.{read, All}
use Rattle.rules.specs.WorkedGroups.{hidden_act, hidden_write, hidden_read, one_group}
use Rattle.stamps.specs.Record.{capture_record}
use Rattle.lists.specs.Check.{check_list}
use Rattle.lists.specs.Packed.{records_of}
use Rattle.promises.specs.Admit.{admitted}
use Rattle.promises.specs.Running.{starting, running}
use Rattle.promises.specs.Numbers.{telling, table_numbers, start_numbers}
use Rattle.demands.specs.Handed.{A, D, in_groups, alone, fine, trace, never, gone, reached, lent_before, told, judges, judges_bytes, Patterns, Traces, bounds, reads, Builds, BuildsBytes, runs, runs_bytes, Writes}

-- table D but for its banks and groups
abbrev pub banked : ℕ → ℕ → List ℕ
banked banks groups = 7 ∷ banks ∷ drop 2 (in_groups groups 9 20 13)

-- two reads of one word each, of banks 0 and 4, and of banks 0 and 1
abbrev pub within : List Command
within = command 0 Act 0 0 ∷ command 10 Rda 0 0 ∷ command 20 Act 4 1 ∷ command 30 Rda 4 1 ∷ []

abbrev pub across : List Command
across = command 0 Act 0 0 ∷ command 6 Act 1 1 ∷ command 10 Rda 0 0 ∷ command 16 Rda 1 1 ∷ []

-- ---- the record of 40 bytes

abbrev pub group_records : List (Type 0)
group_records =
    (table_numbers (read_table D) ≡ telling 7 numbers_d)
    -- number 1: any size but 32 and 40. The first 32 bytes of D are table A
    ∷ (table_numbers (read_table (take 39 D)) ≡ told 1 0 0)
    ∷ (table_numbers (read_table (D ++ (0 ∷ []))) ≡ told 1 0 0)
    ∷ (table_numbers (read_table (take 36 D)) ≡ told 1 0 0)
    ∷ (table_numbers (read_table (take 32 D)) ≡ telling 7 (alone numbers_a))
    -- number 2: "the group count (1 to 8, at most banks)", each limit and one beyond it
    ∷ (table_numbers (read_table (bytes16 (in_groups 0 9 20 13))) ≡ told 2 0 0)
    ∷ (table_numbers (read_table (bytes16 (in_groups 1 9 20 13))) ≡ telling 7 (in_groups 1 9 20 13))
    ∷ (table_numbers (read_table (bytes16 (in_groups 8 9 20 13))) ≡ telling 7 (in_groups 8 9 20 13))
    ∷ (table_numbers (read_table (bytes16 (banked 16 9))) ≡ told 2 0 0)
    ∷ (table_numbers (read_table (bytes16 (banked 16 8))) ≡ telling 7 (banked 16 8))
    ∷ (table_numbers (read_table (bytes16 (banked 3 3))) ≡ telling 7 (banked 3 3))
    ∷ (table_numbers (read_table (bytes16 (banked 3 4))) ≡ told 2 0 0)
    -- "long CCD, long RRD and long WTR, each at most 1,023; a long number below the short one"
    ∷ (table_numbers (read_table (bytes16 (in_groups 4 4 6 6))) ≡ telling 7 (in_groups 4 4 6 6))
    ∷ (table_numbers (read_table (bytes16 (in_groups 4 3 6 6))) ≡ told 2 0 0)
    ∷ (table_numbers (read_table (bytes16 (in_groups 4 4 5 6))) ≡ told 2 0 0)
    ∷ (table_numbers (read_table (bytes16 (in_groups 4 4 6 5))) ≡ told 2 0 0)
    ∷ (table_numbers (read_table (bytes16 (in_groups 4 1023 1023 1023))) ≡ telling 7 (in_groups 4 1023 1023 1023))
    ∷ (table_numbers (read_table (bytes16 (in_groups 4 1024 6 6))) ≡ told 2 0 0)
    ∷ (table_numbers (read_table (bytes16 (in_groups 4 4 1024 6))) ≡ told 2 0 0)
    ∷ (table_numbers (read_table (bytes16 (in_groups 4 4 6 1024))) ≡ told 2 0 0)
    -- each record has its writer; 1 before 2
    ∷ Writes (write_group_table numbers_d (replicate 40 9)) (telling 7 []) D
    ∷ Writes (write_group_table numbers_d (replicate 32 9)) (told 1 0 0) (replicate 32 9)
    ∷ Writes (write_group_table numbers_d (replicate 41 9)) (told 1 0 0) (replicate 41 9)
    ∷ Writes (write_group_table (in_groups 4 3 6 6) (replicate 39 9)) (told 1 0 0) (replicate 39 9)
    ∷ Writes (write_group_table (in_groups 4 3 6 6) (replicate 40 9)) (told 2 0 0) (replicate 40 9)
    ∷ Writes (write_table numbers_a (replicate 40 9)) (told 1 0 0) (replicate 40 9)
    ∷ []

-- ---- the judges, by a long number and by a short one

abbrev pub group_verdicts : List (Type 0)
group_verdicts =
    (judges_bytes 8 D (0 ∷ []) ≡ told 10 7 7)
    ∷ (judges_bytes 7 D (0 ∷ []) ≡ told 7 0 7)
    -- across groups RRD 6, within one 20, "over all earlier commands, since a neighbour in another group hides an older one"
    ∷ (judges 7 D (command 0 Act 0 0 ∷ command 5 Act 1 0 ∷ []) ≡ telling 7 (6 ∷ 1 ∷ []))
    ∷ (judges 7 D (command 0 Act 0 0 ∷ command 6 Act 1 0 ∷ []) ≡ telling 7 (10 ∷ 2 ∷ []))
    ∷ (judges 7 D (command 0 Act 0 0 ∷ command 19 Act 4 0 ∷ []) ≡ telling 7 (6 ∷ 1 ∷ []))
    ∷ (judges 7 D (hidden_act 19) ≡ telling 7 (6 ∷ 4 ∷ []))
    ∷ (judges 7 D (hidden_act 20) ≡ telling 7 [])
    -- the same of the distances between data commands
    ∷ (judges 7 D (hidden_write 34) ≡ telling 7 (9 ∷ 5 ∷ []))
    ∷ (judges 7 D (hidden_write 35) ≡ telling 7 [])
    ∷ (judges 7 D (hidden_read 38) ≡ telling 7 (9 ∷ 5 ∷ []))
    ∷ (judges 7 D (hidden_read 39) ≡ telling 7 [])
    -- by table A, which has one group, each is accepted
    ∷ (judges 7 A (hidden_act 19) ≡ telling 7 [])
    ∷ (judges 7 A (hidden_write 34) ≡ telling 7 [])
    ∷ (judges 7 A (hidden_read 38) ≡ telling 7 [])
    -- a pattern, in which bank 4's ACT and the next copy's of bank 0 are of one group
    ∷ Patterns 7 D [] 0 (told 8 0 7)
    ∷ Patterns 7 D (bytes_of_all one_group) 40 (telling 7 [])
    ∷ Patterns 7 D (bytes_of_all one_group) 39 (telling 7 (6 ∷ 2 ∷ 0 ∷ []))
    -- a capture, which stays written
    ∷ Traces 7 D (trace (capture_record 0 0 0 ∷ capture_record 10 2 0 ∷ capture_record 19 0 4 ∷ [])) (replicate 25 9) (telling 7 (3 ∷ 6 ∷ 2 ∷ []))
    (bytes_of_all (command 0 Act 0 0 ∷ command 10 Rda 0 0 ∷ command 19 Act 4 0 ∷ []) ++ (9 ∷ []))
    ∷ []

-- ---- the bound, lists, schedules

abbrev pub group_schedules : List (Type 0)
group_schedules =
    -- "In the bound CCD, RRD and WTR are the long ones."
    (bounds 8 D 1 1 ≡ told 10 7 7)
    ∷ (bounds 7 D 9 1 ≡ told 4 0 7)
    ∷ (bounds 7 D 1 1 ≡ telling 7 (44 ∷ []))
    ∷ (bounds 7 D 2 1 ≡ telling 7 (65 ∷ []))
    ∷ (bounds 7 D 1 4 ≡ telling 7 (71 ∷ []))
    ∷ (reads false 7 D (records_of false (fine ∷ [])) (read 8 1 1 ∷ []) ≡ telling 7 (1 ∷ []))
    -- a bank of the same group, of records and of bytes; one of another
    ∷ Builds 7 D (read 0 1 1 ∷ read 4 1 1 ∷ []) (replicate 32 9) (8 ∷ 8 ∷ []) (telling 7 (4 ∷ [])) (bytes_of_all within) (24 ∷ 44 ∷ [])
    ∷ BuildsBytes false 7 D (records_of false (read 0 1 1 ∷ read 4 1 1 ∷ [])) (replicate 33 9) (8 ∷ 8 ∷ []) (telling 7 (4 ∷ [])) (bytes_of_all within ++ (9 ∷ [])) (24 ∷ 44 ∷ [])
    ∷ Builds 7 D (read 0 1 1 ∷ read 1 1 1 ∷ []) (replicate 32 9) (8 ∷ 8 ∷ []) (telling 7 (4 ∷ [])) (bytes_of_all across) (24 ∷ 30 ∷ [])
    ∷ Builds 7 D (read 0 1 1 ∷ []) (replicate 15 9) [] (told 5 0 7) (replicate 15 9) []
    ∷ []

-- ---- the running controller

abbrev pub group_runs : List (Type 0)
group_runs =
    (start_numbers (starting (admitted 7 D)).answer ≡ telling 7 [])
    ∷ ((starting (admitted 7 D)).controller ≡ gone 7 0 0 0)
    -- an ACT waits for its group's latest by long RRD, for another group's by RRD. The list was lent before: at arrival 0 it would be late
    ∷ (runs 7 D (reached (lent_before 1 (gone 7 6 0 0)) 0 5 never never) (fine ∷ []) 99 16 ≡ telling 7 (2 ∷ 30 ∷ []))
    ∷ (runs 7 D (reached (lent_before 1 (gone 7 6 0 0)) 1 5 never never) (fine ∷ []) 99 16 ≡ telling 7 (2 ∷ 16 ∷ []))
    -- and a read for a group's latest read and write: by long CCD and CCD, by long WTR and WTR
    ∷ (runs 7 D (reached (lent_before 1 (gone 7 20 0 0)) 0 never 19 never) (fine ∷ []) 99 16 ≡ telling 7 (2 ∷ 11 ∷ []))
    ∷ (runs 7 D (reached (lent_before 1 (gone 7 20 0 0)) 0 never never 19) (fine ∷ []) 99 16 ≡ telling 7 (2 ∷ 25 ∷ []))
    ∷ (runs 7 D (reached (lent_before 1 (gone 7 20 0 0)) 3 never never 19) (fine ∷ []) 99 16 ≡ telling 7 (2 ∷ 18 ∷ []))
    -- number 9: each stored cycle of the table's groups, and none past them
    ∷ (runs 7 D (reached (lent_before 1 (gone 7 5 0 0)) 3 5 never never) (fine ∷ []) 0 0 ≡ told 9 0 7)
    ∷ (runs 7 D (reached (lent_before 1 (gone 7 5 0 0)) 3 never 5 never) (fine ∷ []) 0 0 ≡ told 9 0 7)
    ∷ (runs 7 D (reached (lent_before 1 (gone 7 5 0 0)) 3 never never 5) (fine ∷ []) 0 0 ≡ told 9 0 7)
    ∷ (runs 7 D (reached (lent_before 1 (gone 7 5 0 0)) 4 5 5 5) (fine ∷ []) 0 0 ≡ telling 7 (0 ∷ 0 ∷ []))
    ∷ (runs 7 A (reached (lent_before 1 (gone 7 5 0 0)) 1 5 5 5) (fine ∷ []) 99 16 ≡ telling 7 (2 ∷ 11 ∷ []))
    ∷ (runs 7 A (reached (lent_before 1 (gone 7 5 0 0)) 0 5 never never) (fine ∷ []) 0 0 ≡ told 9 0 7)
    -- "nothing kept past the table's groups is read or changed"
    ∷ ((running (λ τ. check_list τ (fine ∷ [])) (admitted 7 D) (reached (lent_before 1 (gone 7 5 0 0)) 4 1 2 3) (fine ∷ []) 99 (replicate 16 9)).told.controller.groups
    ≡ set (set (gone 7 0 0 0).groups 0 (record { act = 5; rd = 15; wr = never })) 4 (record { act = 1; rd = 2; wr = 3 }))
    ∷ (runs_bytes false 7 D (gone 7 0 0 0) (records_of false (fine ∷ [])) 99 16 ≡ telling 7 (2 ∷ 11 ∷ []))
    ∷ []

abbrev pub group_calls : List (Type 0)
group_calls = All group_records ∷ All group_verdicts ∷ All group_schedules ∷ All group_runs ∷ []
