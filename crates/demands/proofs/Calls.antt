-- The public calls on given bytes answer as the list says.
-- Assumes nothing.
use Rattle.std.specs.Prelude.{Ok, Err}
use mathlib.Core.Bool.{false}
use mathlib.Core.Path.{refl}
use mathlib.Core.List.{[], ◌∷◌, ◌++◌}
use lib.ListN.{replicate}
use Rattle.records.specs.Told.{refusal}
use Rattle.records.specs.declared.command.Kind.TheVariants.{Act, Ref}
use Rattle.records.specs.Table.{read_table, write_table}
use Rattle.records.specs.Transaction.{transactions_from, read_transaction, write_transaction}
use Rattle.records.specs.Command.{command, commands_from, bytes_of_all, read_command, write_command}
use Rattle.records.specs.House.{table_a}
use Rattle.rules.specs.declared.verdict.Rule.TheVariants.{Precharge, Faw, End, Rfc}
use Rattle.rules.specs.declared.verdict.PatternVerdict.TheVariants.{Accepted as AllPassed, Refused as BrokenAt}
use Rattle.rules.specs.Queues.{act_queue, data_queue}
use Rattle.rules.specs.Bound.{bound, bound_s, bound_d, bound_x}
use Rattle.rules.specs.Worked.{refresh, table_r, one, All}
use Rattle.rules.proofs.patterns.FiveDecide.{five_legal}
use Rattle.judge.specs.Answer.{judged}
use Rattle.stamps.specs.Record.{read_capture_record, write_capture_record}
use Rattle.stamps.specs.Capture.{records_from, gap, timed_in, lowest, commands_of}
use Rattle.capture.specs.Answer.{commands_seen, capture_refusal, captured}
use Rattle.builder.specs.Bound.{bound_told}
use Rattle.lists.specs.Check.{range_from, check_list, check_bytes, check_into}
use Rattle.lists.specs.Decode.{decoding}
use Rattle.lists.specs.Packed.{records_of}
use Rattle.sound.specs.Refused.{sound, run_refusal}
use Rattle.controller.specs.Controller.{tells, kept}
use Rattle.controller.specs.Run.{run_controller}
use Rattle.promises.specs.Admit.{admitted}
use Rattle.promises.specs.Judging.{judging, PatternTold}
use Rattle.promises.specs.Tracing.{capturing}
use Rattle.promises.specs.Bounds.{bounding}
use Rattle.promises.specs.Transactions.{reading}
use Rattle.promises.specs.Schedules.{BuildsChecked, Schedules}
use Rattle.promises.specs.Running.{starting, runs_checked, running}
use Rattle.demands.specs.Handed.{A, B, R, fine, out}
use Rattle.demands.specs.Calls.{record_calls, judge_calls, capture_calls, list_calls, schedule_calls, run_calls, calls}
use Rattle.demands.proofs.NeverRuns.{refused_start}
use Rattle.demands.proofs.GroupCalls.{of_groups}
use Rattle.demands.proofs.ArrivalCalls.{of_arrivals}
use Rattle.demands.proofs.ServesCalls.{of_serves}
use Rattle.demands.proofs.PatternCalls.{of_patterns}
use Rattle.demands.proofs.CallLaws.{◌⨾◌, pattern_tells, build_tells, bytes_tell, some, few_records, many_records, few_captured, many_captured, few_transactions, many_transactions, many_built, many_run, refused_37, left_open_lem, refused_38, refused_49}

of_records : All record_calls
unfolding read_table write_table read_transaction write_transaction read_command write_command read_capture_record write_capture_record
of_records =
    refl
    ⨾ refl
    ⨾ refl
    ⨾ refl
    ⨾ refl
    ⨾ refl
    ⨾ refl
    ⨾ (refl, refl)
    ⨾ (refl, refl)
    ⨾ (refl, refl)
    ⨾ (refl, refl)
    ⨾ refl
    ⨾ refl
    ⨾ refl
    ⨾ (refl, refl)
    ⨾ (refl, refl)
    ⨾ (refl, refl)
    ⨾ refl
    ⨾ refl
    ⨾ refl
    ⨾ (refl, refl)
    ⨾ refl
    ⨾ refl
    ⨾ refl
    ⨾ refl
    ⨾ refl
    ⨾ refl
    ⨾ refl
    ⨾ refl
    ⨾ refl
    ⨾ (refl, refl)
    ⨾ (refl, refl)
    ⨾ refl
    ⨾ refl
    ⨾ refl
    ⨾ refl
    ⨾ (refl, refl)
    ⨾ (refl, refl)
    ⨾ tt

of_judges : All judge_calls
unfolding admitted read_table judging judged commands_from PatternTold
of_judges =
    refl
    ⨾ refl
    ⨾ refl
    ⨾ refl
    ⨾ refl
    ⨾ few_records
    ⨾ many_records
    ⨾ refl
    ⨾ refl
    ⨾ refl
    ⨾ refl
    ⨾ refl
    ⨾ refl
    ⨾ refl
    ⨾ refl
    ⨾ refl
    ⨾ refl
    ⨾ refl
    ⨾ refl
    ⨾ refl
    ⨾ refl
    ⨾ refl
    ⨾ refl
    ⨾ refl
    ⨾ refl
    ⨾ refl
    ⨾ refl
    ⨾ refl
    ⨾ refl
    ⨾ pattern_tells 8 A (0 ∷ []) 0 (Err (refusal 10 7 7)) refl
    ⨾ pattern_tells 7 A (0 ∷ []) 0 (Err (refusal 7 0 7)) (some 6, refl)
    ⨾ pattern_tells 7 A [] 0 (Err (refusal 8 0 7)) (some 7, refl)
    ⨾ pattern_tells 7 A (bytes_of_all one) 38 (Ok (7, AllPassed)) (refl, refl, (five_legal table_a 38 one).0 refl)
    ⨾ pattern_tells 7 A (bytes_of_all one) 37 (Ok (7, BrokenAt Precharge 2 0)) (refl, refl, refused_37)
    ⨾ pattern_tells 7 A (bytes_of_all (command 0 Act 0 0 ∷ [])) 1 (Ok (7, BrokenAt End 1 1)) (refl, refl, left_open_lem)
    ⨾ pattern_tells 7 B (bytes_of_all one) 38 (Ok (7, BrokenAt Faw 5 0)) (refl, refl, refused_38)
    ⨾ pattern_tells 7 R (bytes_of_all (command 0 Ref 0 0 ∷ [])) 50 (Ok (7, AllPassed)) (refl, refl, (five_legal table_r 50 (command 0 Ref 0 0 ∷ [])).0 refl)
    ⨾ pattern_tells 7 R (bytes_of_all (command 0 Ref 0 0 ∷ [])) 49 (Ok (7, BrokenAt Rfc 2 0)) (refl, refl, refused_49)
    ⨾ tt

of_captures : All capture_calls
unfolding admitted read_table capturing captured capture_refusal commands_seen commands_of lowest timed_in gap records_from
of_captures =
    (refl, refl)
    ⨾ (refl, refl)
    ⨾ (refl, refl)
    ⨾ (refl, refl)
    ⨾ (refl, refl)
    ⨾ (refl, refl)
    ⨾ (refl, refl)
    ⨾ few_captured
    ⨾ many_captured
    ⨾ (refl, refl)
    ⨾ (refl, refl)
    ⨾ (refl, refl)
    ⨾ (refl, refl)
    ⨾ (refl, refl)
    ⨾ (refl, refl)
    ⨾ (refl, refl)
    ⨾ (refl, refl)
    ⨾ (refl, refl)
    ⨾ (refl, refl)
    ⨾ tt

of_lists : All list_calls
unfolding admitted read_table bounding bound_told bound bound_s bound_d bound_x reading decoding check_into range_from transactions_from
of_lists =
    refl
    ⨾ refl
    ⨾ refl
    ⨾ refl
    ⨾ refl
    ⨾ refl
    ⨾ refl
    ⨾ refl
    ⨾ refl
    ⨾ refl
    ⨾ refl
    ⨾ refl
    ⨾ refl
    ⨾ refl
    ⨾ refl
    ⨾ refl
    ⨾ refl
    ⨾ few_transactions false
    ⨾ many_transactions false
    ⨾ tt

of_schedules : All schedule_calls
unfolding admitted read_table Schedules BuildsChecked check_list check_bytes range_from transactions_from act_queue data_queue
of_schedules =
    build_tells 8 A (9 ∷ []) (8 ∷ []) (9 ∷ []) (8 ∷ []) (Err (refusal 10 7 7)) (replicate 257 out) (refl, refl, refl)
    ⨾ build_tells 7 A (9 ∷ []) (8 ∷ []) (9 ∷ []) (8 ∷ []) (Err (refusal 3 0 7)) (replicate 257 out) (refl, refl, refl)
    ⨾ build_tells 7 A (9 ∷ []) (8 ∷ []) (9 ∷ []) (8 ∷ []) (Err (refusal 4 1 7)) (fine ∷ out ∷ out ∷ []) (refl, refl, refl)
    ⨾ build_tells 7 A (replicate 15 9) [] (replicate 15 9) [] (Err (refusal 5 0 7)) (fine ∷ []) (some 4, refl, refl, refl)
    ⨾ build_tells 7 A (replicate 16 9) [] (replicate 16 9) [] (Err (refusal 6 0 7)) (fine ∷ []) (some 5, refl, refl, refl)
    ⨾ build_tells 7 A (replicate 15 9) (8 ∷ []) (replicate 15 9) (8 ∷ []) (Err (refusal 5 0 7)) (fine ∷ []) (some 4, refl, refl, refl)
    ⨾ build_tells 7 A (replicate 16 9) (8 ∷ []) (bytes_of_all one) (24 ∷ []) (Ok (7, 2)) (fine ∷ []) (refl, refl, record { schedule = one; built = record { cycles = 11; schedule = refl; acts = refl; datas = refl }; count = refl; buffer = refl; finishes = refl })
    ⨾ build_tells 7 A (replicate 17 9) (8 ∷ 8 ∷ []) (bytes_of_all one ++ (9 ∷ [])) (24 ∷ 8 ∷ []) (Ok (7, 2)) (fine ∷ []) (refl, refl, record { schedule = one; built = record { cycles = 11; schedule = refl; acts = refl; datas = refl }; count = refl; buffer = refl; finishes = refl })
    ⨾ build_tells 7 A [] [] [] [] (Ok (7, 0)) [] (refl, refl, record { schedule = []; built = record { cycles = 0; schedule = refl; acts = refl; datas = refl }; count = refl; buffer = refl; finishes = refl })
    ⨾ build_tells 7 R (replicate 7 9) [] (replicate 7 9) [] (Err (refusal 5 0 7)) (refresh ∷ []) (some 4, refl, refl, refl)
    ⨾ build_tells 7 R (replicate 9 9) (8 ∷ []) (bytes_of_all (command 0 Ref 0 0 ∷ []) ++ (9 ∷ [])) (50 ∷ []) (Ok (7, 1)) (refresh ∷ []) (refl, refl, record { schedule = command 0 Ref 0 0 ∷ []; built = record { cycles = 1; schedule = refl; acts = refl; datas = refl }; count = refl; buffer = refl; finishes = refl })
    ⨾ build_tells 7 A [] [] [] [] (Err (refusal 4 1 7)) (fine ∷ refresh ∷ []) (refl, refl, refl)
    ⨾ build_tells 7 A [] [] [] [] (Err (refusal 5 0 7)) (replicate 256 fine) (some 4, refl, refl, refl)
    ⨾ bytes_tell 8 A [] [] [] [] (Err (refusal 10 7 7)) false (0 ∷ []) (refl, refl, refl)
    ⨾ bytes_tell 7 A (9 ∷ []) (8 ∷ []) (9 ∷ []) (8 ∷ []) (Err (refusal 3 0 7)) false (records_of false (out ∷ []) ++ (0 ∷ [])) (refl, refl, refl)
    ⨾ bytes_tell 7 A (9 ∷ []) (8 ∷ []) (9 ∷ []) (8 ∷ []) (Err (refusal 4 1 7)) false (records_of false (fine ∷ out ∷ out ∷ [])) (refl, refl, refl)
    ⨾ bytes_tell 7 A (replicate 15 9) [] (replicate 15 9) [] (Err (refusal 5 0 7)) false (records_of false (fine ∷ [])) (some 4, refl, refl, refl)
    ⨾ bytes_tell 7 A (replicate 16 9) [] (replicate 16 9) [] (Err (refusal 6 0 7)) false (records_of false (fine ∷ [])) (some 5, refl, refl, refl)
    ⨾ bytes_tell 7 A (replicate 17 9) (8 ∷ []) (bytes_of_all one ++ (9 ∷ [])) (24 ∷ []) (Ok (7, 2)) false (records_of false (fine ∷ [])) (refl, refl, record { schedule = one; built = record { cycles = 11; schedule = refl; acts = refl; datas = refl }; count = refl; buffer = refl; finishes = refl })
    ⨾ bytes_tell 7 R (replicate 8 9) (8 ∷ []) (bytes_of_all (command 0 Ref 0 0 ∷ [])) (50 ∷ []) (Ok (7, 1)) false (records_of false (refresh ∷ [])) (refl, refl, record { schedule = command 0 Ref 0 0 ∷ []; built = record { cycles = 1; schedule = refl; acts = refl; datas = refl }; count = refl; buffer = refl; finishes = refl })
    ⨾ bytes_tell 7 A [] [] [] [] (Err (refusal 4 1 7)) false (records_of false (fine ∷ refresh ∷ [])) (refl, refl, refl)
    ⨾ many_built false
    ⨾ tt

of_runs : All run_calls
unfolding admitted read_table starting running runs_checked check_list check_bytes range_from transactions_from run_controller run_refusal sound tells kept act_queue data_queue
of_runs =
    refl
    ⨾ refl
    ⨾ refl
    ⨾ refl
    ⨾ refl
    ⨾ refl
    ⨾ refused_start
    ⨾ refl
    ⨾ refl
    ⨾ refl
    ⨾ refl
    ⨾ refl
    ⨾ refl
    ⨾ refl
    ⨾ refl
    ⨾ refl
    ⨾ refl
    ⨾ refl
    ⨾ refl
    ⨾ refl
    ⨾ refl
    ⨾ refl
    ⨾ refl
    ⨾ refl
    ⨾ refl
    ⨾ refl
    ⨾ refl
    ⨾ refl
    ⨾ refl
    ⨾ refl
    ⨾ refl
    ⨾ refl
    ⨾ refl
    ⨾ refl
    ⨾ refl
    ⨾ refl
    ⨾ refl
    ⨾ refl
    ⨾ refl
    ⨾ refl
    ⨾ refl
    ⨾ refl
    ⨾ many_run false
    ⨾ tt

pub called : All calls
called = of_records ⨾ of_judges ⨾ of_captures ⨾ of_lists ⨾ of_schedules ⨾ of_runs ⨾ of_groups ⨾ of_arrivals ⨾ of_serves ⨾ of_patterns ⨾ tt
