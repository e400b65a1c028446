-- The public calls on tables of 40 bytes answer as the list says.
-- Assumes nothing.
use Rattle.std.specs.Prelude.{Ok, Err}
use mathlib.Core.Bool.{false}
use mathlib.Core.Path.{refl}
use mathlib.Core.List.{[], ◌∷◌, ◌++◌}
use lib.ListN.{replicate}
use Rattle.records.specs.Told.{refusal}
use Rattle.records.specs.Table.{read_table, write_table, write_group_table}
use Rattle.records.specs.Transaction.{transactions_from}
use Rattle.records.specs.Command.{commands_from, bytes_of_all}
use Rattle.records.specs.House.{table_d}
use Rattle.rules.specs.declared.verdict.Rule.TheVariants.{Rrd}
use Rattle.rules.specs.declared.verdict.PatternVerdict.TheVariants.{Accepted as AllPassed, Refused as BrokenAt}
use Rattle.rules.specs.Queues.{act_queue, data_queue}
use Rattle.rules.specs.Bound.{bound, bound_s, bound_d, bound_x}
use Rattle.rules.specs.Worked.{read, All}
use Rattle.rules.specs.WorkedGroups.{one_group}
use Rattle.rules.proofs.patterns.FiveDecide.{five_legal}
use Rattle.judge.specs.Answer.{judged}
use Rattle.stamps.specs.Capture.{records_from, gap, timed_in, lowest, commands_of}
use Rattle.capture.specs.Answer.{commands_seen, capture_refusal, captured}
use Rattle.builder.specs.Bound.{bound_told}
use Rattle.lists.specs.Check.{range_from, check_list, check_bytes, check_into}
use Rattle.lists.specs.Decode.{decoding}
use Rattle.lists.specs.Packed.{records_of}
use Rattle.sound.specs.Refused.{sound, run_refusal}
use Rattle.controller.specs.Controller.{tells, kept}
use Rattle.controller.specs.Run.{run_controller}
use Rattle.promises.specs.Admit.{admitted}
use Rattle.promises.specs.Judging.{judging, PatternTold}
use Rattle.promises.specs.Tracing.{capturing}
use Rattle.promises.specs.Bounds.{bounding}
use Rattle.promises.specs.Transactions.{reading}
use Rattle.promises.specs.Schedules.{BuildsChecked, Schedules}
use Rattle.promises.specs.Running.{starting, runs_checked, running}
use Rattle.demands.specs.Handed.{D}
use Rattle.demands.specs.GroupCalls.{within, across, group_records, group_verdicts, group_schedules, group_runs, group_calls}
use Rattle.demands.proofs.CallLaws.{◌⨾◌, pattern_tells, build_tells, bytes_tell, some, refused_39}

of_records : All group_records
unfolding read_table write_table write_group_table
of_records =
    refl
    ⨾ refl
    ⨾ refl
    ⨾ refl
    ⨾ refl
    ⨾ refl
    ⨾ refl
    ⨾ refl
    ⨾ refl
    ⨾ refl
    ⨾ refl
    ⨾ refl
    ⨾ refl
    ⨾ refl
    ⨾ refl
    ⨾ refl
    ⨾ refl
    ⨾ refl
    ⨾ refl
    ⨾ refl
    ⨾ (refl, refl)
    ⨾ (refl, refl)
    ⨾ (refl, refl)
    ⨾ (refl, refl)
    ⨾ (refl, refl)
    ⨾ (refl, refl)
    ⨾ tt

of_verdicts : All group_verdicts
unfolding admitted read_table judging judged commands_from PatternTold capturing captured capture_refusal commands_seen commands_of lowest timed_in gap records_from
of_verdicts =
    refl
    ⨾ refl
    ⨾ refl
    ⨾ refl
    ⨾ refl
    ⨾ refl
    ⨾ refl
    ⨾ refl
    ⨾ refl
    ⨾ refl
    ⨾ refl
    ⨾ refl
    ⨾ refl
    ⨾ refl
    ⨾ pattern_tells 7 D [] 0 (Err (refusal 8 0 7)) (some 7, refl)
    ⨾ pattern_tells 7 D (bytes_of_all one_group) 40 (Ok (7, AllPassed)) (refl, refl, (five_legal table_d 40 one_group).0 refl)
    ⨾ pattern_tells 7 D (bytes_of_all one_group) 39 (Ok (7, BrokenAt Rrd 2 0)) (refl, refl, refused_39)
    ⨾ (refl, refl)
    ⨾ tt

of_schedules : All group_schedules
unfolding admitted read_table bounding bound_told bound bound_s bound_d bound_x reading decoding check_into range_from transactions_from Schedules BuildsChecked check_list check_bytes act_queue data_queue
of_schedules =
    refl
    ⨾ refl
    ⨾ refl
    ⨾ refl
    ⨾ refl
    ⨾ refl
    ⨾ build_tells 7 D (replicate 32 9) (8 ∷ 8 ∷ []) (bytes_of_all within) (24 ∷ 44 ∷ []) (Ok (7, 4)) (read 0 1 1 ∷ read 4 1 1 ∷ []) (refl, refl, record { schedule = within; built = record { cycles = 31; schedule = refl; acts = refl; datas = refl }; count = refl; buffer = refl; finishes = refl })
    ⨾ bytes_tell 7 D (replicate 33 9) (8 ∷ 8 ∷ []) (bytes_of_all within ++ (9 ∷ [])) (24 ∷ 44 ∷ []) (Ok (7, 4)) false (records_of false (read 0 1 1 ∷ read 4 1 1 ∷ [])) (refl, refl, record { schedule = within; built = record { cycles = 31; schedule = refl; acts = refl; datas = refl }; count = refl; buffer = refl; finishes = refl })
    ⨾ build_tells 7 D (replicate 32 9) (8 ∷ 8 ∷ []) (bytes_of_all across) (24 ∷ 30 ∷ []) (Ok (7, 4)) (read 0 1 1 ∷ read 1 1 1 ∷ []) (refl, refl, record { schedule = across; built = record { cycles = 17; schedule = refl; acts = refl; datas = refl }; count = refl; buffer = refl; finishes = refl })
    ⨾ build_tells 7 D (replicate 15 9) [] (replicate 15 9) [] (Err (refusal 5 0 7)) (read 0 1 1 ∷ []) (some 4, refl, refl, refl)
    ⨾ tt

of_runs : All group_runs
unfolding admitted read_table starting running runs_checked check_list check_bytes range_from transactions_from run_controller run_refusal sound tells kept act_queue data_queue
of_runs =
    refl
    ⨾ refl
    ⨾ refl
    ⨾ refl
    ⨾ refl
    ⨾ refl
    ⨾ refl
    ⨾ refl
    ⨾ refl
    ⨾ refl
    ⨾ refl
    ⨾ refl
    ⨾ refl
    ⨾ refl
    ⨾ refl
    ⨾ tt

pub of_groups : All group_calls
of_groups = of_records ⨾ of_verdicts ⨾ of_schedules ⨾ of_runs ⨾ tt
