-- Each case of each answer as the struct of plain numbers that crosses to the host, as a single list under a single claim.
use Rattle.std.specs.Prelude.{ℕ, ◌≡◌, List, [], ◌∷◌, ◌++◌, replicate, Ok, Err}
use Rattle.records.specs.declared.refusal.Refusal.{Refusal}
use Rattle.records.specs.declared.command.Kind.TheVariants.{Wra, Ref}
use Rattle.records.specs.Told.{refusal}
use Rattle.records.specs.Transaction.{transaction, arriving}
use Rattle.records.specs.Command.{command}
use Rattle.records.specs.House.{numbers_a, numbers_d, table_a, table_d}
use Rattle.rules.specs.declared.verdict.Rule.TheVariants.{Rc, Rrd, Refresh, Rfc}
use Rattle.rules.specs.declared.verdict.Verdict.TheVariants.{Accepted, Refused}
use Rattle.rules.specs.declared.verdict.PatternVerdict.TheVariants.{Accepted as AllAccepted, Refused as RefusedAt}
use Rattle.stamps.specs.Record.{capture_record}
use Rattle.serves.specs.declared.answer.Served.TheVariants.{Serves, Refused as Against, AtFault}
use Rattle.controller.specs.declared.controller.Controller.{Controller}
use Rattle.answers.specs.declared.answer.Answer.{Answer}
use Rattle.answers.specs.declared.reader.TransactionAnswer.{TransactionAnswer}
use Rattle.verdict_answers.specs.declared.verdict.VerdictAnswer.{VerdictAnswer}
use Rattle.verdict_answers.specs.declared.verdict.CaptureAnswer.{CaptureAnswer}
use Rattle.verdict_answers.specs.declared.verdict.ServesAnswer.{ServesAnswer}
use Rattle.answers.specs.declared.patterns.PatternAnswer.{PatternAnswer}
use Rattle.answers.specs.Answers.{of_written, of_table, of_transaction, of_command, of_capture_record, of_read, of_build, of_bound, shortest_of, of_start, of_run, run_of}
use Rattle.verdict_answers.specs.Verdicts.{verdict_of, pattern_of, capture_of, serves_of}

-- number, position, edition, count, cycles
abbrev pub plain : ℕ → ℕ → ℕ → ℕ → ℕ → Answer
plain n p e c m = record { refused = n; position = p; edition = e; count = c; cycles = m }

-- number, position, edition, rule, copy, record
abbrev pub verdict : ℕ → ℕ → ℕ → ℕ → ℕ → ℕ → VerdictAnswer
verdict n p e rule copy i = record { refused = n; position = p; edition = e; rule = rule; copy = copy; «record» = i }

-- number, position, edition, count, rule, record
abbrev pub traced : ℕ → ℕ → ℕ → ℕ → ℕ → ℕ → CaptureAnswer
traced n p e c rule i = record { refused = n; position = p; edition = e; count = c; rule = rule; «record» = i }

-- number, position, edition, whether it serves, rule, record, transaction
abbrev pub served : ℕ → ℕ → ℕ → ℕ → ℕ → ℕ → ℕ → ServesAnswer
served n p e serves rule i x = record { refused = n; position = p; edition = e; serves = serves; rule = rule; «record» = i; transaction = x }

-- number, position, edition, length, count
abbrev pub found : ℕ → ℕ → ℕ → ℕ → ℕ → PatternAnswer
found n p e L c = record { refused = n; position = p; edition = e; length = L; count = c }

-- number, position, edition, type, start, BI, BC, arrival
abbrev pub transaction_told : ℕ → ℕ → ℕ → ℕ → ℕ → ℕ → ℕ → ℕ → TransactionAnswer
transaction_told n p e kind start bi bc arrival =
    record { refused = n; position = p; edition = e; kind = kind; start = start; bi = bi; bc = bc; arrival = arrival }

-- a controller that was lent so many transactions before
abbrev pub lent_of : ℕ → Controller
lent_of n =
    record { edition = 7; cycle = 9; acts = 0; datas = 0; banks = []; last = []; groups = []; refresh = 0; lent = n }

-- a refusal with three different numbers
abbrev pub no3 : Refusal
no3 = refusal 3 5 7

abbrev pub cases : List (Type 0)
cases =
    (of_written (Ok 7) ≡ plain 0 0 7 0 0)
    ∷ (of_written (Err no3) ≡ plain 3 5 7 0 0)
    -- of a table of sixteen numbers the last four are one group and the short numbers again
    ∷ (of_table (Ok table_a) ≡ record { refused = 0; position = 0; edition = 7; numbers = numbers_a ++ (1 ∷ 4 ∷ 6 ∷ 6 ∷ []) })
    ∷ (of_table (Ok table_d) ≡ record { refused = 0; position = 0; edition = 7; numbers = numbers_d })
    ∷ (of_table (Err no3) ≡ record { refused = 3; position = 5; edition = 7; numbers = replicate 20 0 })
    -- a transaction of 4 bytes arrives at 0
    ∷ (of_transaction (Ok (transaction 1 2 3 4)) ≡ transaction_told 0 0 0 1 2 3 4 0)
    ∷ (of_transaction (Ok (arriving (transaction 1 2 3 4) 20000000)) ≡ transaction_told 0 0 0 1 2 3 4 20000000)
    ∷ (of_transaction (Err no3) ≡ transaction_told 3 5 7 0 0 0 0 0)
    ∷ (of_command (Ok (command 10 Wra 2 3)) ≡ record { refused = 0; position = 0; edition = 0; cycle = 10; kind = 4; bank = 2; number = 3 })
    ∷ (of_command (Ok (command 10 Ref 0 3)) ≡ record { refused = 0; position = 0; edition = 0; cycle = 10; kind = 5; bank = 0; number = 3 })
    ∷ (of_command (Err no3) ≡ record { refused = 3; position = 5; edition = 7; cycle = 0; kind = 0; bank = 0; number = 0 })
    ∷ (of_capture_record (Ok (capture_record 10 4 2)) ≡ record { refused = 0; position = 0; edition = 0; stamp = 10; kind = 4; bank = 2 })
    ∷ (of_capture_record (Err no3) ≡ record { refused = 3; position = 5; edition = 7; stamp = 0; kind = 0; bank = 0 })
    ∷ (of_read (Ok (7, 2)) ≡ plain 0 0 7 2 0)
    ∷ (of_read (Err no3) ≡ plain 3 5 7 0 0)
    ∷ (of_build (Ok (7, 2)) ≡ plain 0 0 7 2 0)
    ∷ (of_build (Err no3) ≡ plain 3 5 7 0 0)
    ∷ (of_bound (Ok (7, 44)) ≡ plain 0 0 7 44 0)
    ∷ (of_bound (Err no3) ≡ plain 3 5 7 0 0)
    ∷ (of_start (Ok 7) ≡ plain 0 0 7 0 0)
    ∷ (of_start (Err no3) ≡ plain 3 5 7 0 0)
    ∷ (of_run (Ok (record { edition = 7; commands = 2; cycles = 11 })) ≡ plain 0 0 7 2 11)
    ∷ (of_run (Err no3) ≡ plain 3 5 7 0 0)
    -- a late piece
    ∷ (of_run (Err (refusal 12 0 7)) ≡ plain 12 0 7 0 0)
    -- a controller is handed back with how many were lent before
    ∷ ((run_of (record { controller = lent_of 5; answer = Ok (record { edition = 7; commands = 2; cycles = 11 }) })).controller.lent ≡ 5)
    ∷ ((run_of (record { controller = lent_of 5; answer = Err (refusal 12 0 7) })).controller.lent ≡ 5)
    -- a verdict on a schedule names no copy
    ∷ (verdict_of (Ok (7, Accepted)) ≡ verdict 0 0 7 0 0 0)
    ∷ (verdict_of (Ok (7, Refused Rc 3)) ≡ verdict 0 0 7 5 0 3)
    ∷ (verdict_of (Ok (7, Refused Refresh 3)) ≡ verdict 0 0 7 11 0 3)
    ∷ (verdict_of (Err no3) ≡ verdict 3 5 7 0 0 0)
    ∷ (pattern_of (Ok (7, AllAccepted)) ≡ verdict 0 0 7 0 0 0)
    ∷ (pattern_of (Ok (7, RefusedAt Rrd 2 3)) ≡ verdict 0 0 7 6 2 3)
    ∷ (pattern_of (Ok (7, RefusedAt Rfc 2 3)) ≡ verdict 0 0 7 12 2 3)
    ∷ (pattern_of (Err no3) ≡ verdict 3 5 7 0 0 0)
    -- a verdict against a capture leaves its commands written
    ∷ (capture_of (Ok (7, 4, Accepted)) ≡ traced 0 0 7 4 0 0)
    ∷ (capture_of (Ok (7, 4, Refused Rc 3)) ≡ traced 0 0 7 4 5 3)
    ∷ (capture_of (Err no3) ≡ traced 3 5 7 0 0 0)
    -- a schedule that serves the list, one that the judge refuses, and one that leaves transaction 3 at fault; transaction 0, and an empty list's length
    ∷ (serves_of (Ok (7, Serves)) ≡ served 0 0 7 1 0 0 0)
    ∷ (serves_of (Ok (7, Against Rfc 4)) ≡ served 0 0 7 0 12 4 0)
    ∷ (serves_of (Ok (7, AtFault 3)) ≡ served 0 0 7 0 0 0 3)
    ∷ (serves_of (Ok (7, AtFault 0)) ≡ served 0 0 7 0 0 0 0)
    ∷ (serves_of (Err no3) ≡ served 3 5 7 0 0 0 0)
    -- the length before the number of records
    ∷ (shortest_of (Ok (7, 48, 6)) ≡ found 0 0 7 48 6)
    ∷ (shortest_of (Err no3) ≡ found 3 5 7 0 0)
    ∷ []
