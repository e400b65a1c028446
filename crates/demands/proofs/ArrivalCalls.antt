-- The public calls with arrivals and in pieces answer as the list says.
-- Assumes nothing.
use Rattle.std.specs.Prelude.{Ok, Err}
use mathlib.Core.Bool.{true}
use mathlib.Core.Path.{refl}
use mathlib.Core.List.{[], ◌∷◌, ◌++◌}
use lib.ListN.{replicate}
use Rattle.records.specs.Told.{refusal}
use Rattle.records.specs.Table.{read_table}
use Rattle.records.specs.Transaction.{arriving, transactions_from, later_from, read_later, write_transaction, write_later}
use Rattle.records.specs.Command.{bytes_of_all}
use Rattle.rules.specs.Queues.{act_queue, data_queue}
use Rattle.rules.specs.Worked.{refresh, then_ref, All}
use Rattle.rules.specs.WorkedArrivals.{read_at, arrivals, arrived_schedule}
use Rattle.lists.specs.Check.{range_from, check_list, check_bytes, check_into}
use Rattle.lists.specs.Decode.{decoding}
use Rattle.lists.specs.Packed.{records_of}
use Rattle.sound.specs.Refused.{sound, run_refusal}
use Rattle.controller.specs.Controller.{tells, kept}
use Rattle.controller.specs.Run.{run_controller}
use Rattle.promises.specs.Admit.{admitted}
use Rattle.promises.specs.Transactions.{reading}
use Rattle.promises.specs.Schedules.{BuildsChecked, Schedules}
use Rattle.promises.specs.Running.{runs_checked, running}
use Rattle.demands.specs.Handed.{A, R, fine, out}
use Rattle.demands.specs.ArrivalCalls.{later_records, arrival_lists, arrival_schedules, arrival_runs, piece_calls, arrival_calls}
use Rattle.demands.proofs.CallLaws.{◌⨾◌, build_tells, bytes_tell, some, few_transactions, many_transactions, many_built, many_run}

of_records : All later_records
unfolding read_later write_transaction write_later
of_records =
    refl
    ⨾ refl
    ⨾ refl
    ⨾ refl
    ⨾ refl
    ⨾ refl
    ⨾ refl
    ⨾ (refl, refl)
    ⨾ (refl, refl)
    ⨾ (refl, refl)
    ⨾ (refl, refl)
    ⨾ (refl, refl)
    ⨾ tt

of_lists : All arrival_lists
unfolding admitted read_table reading decoding check_into range_from transactions_from later_from
of_lists =
    refl
    ⨾ refl
    ⨾ refl
    ⨾ refl
    ⨾ refl
    ⨾ refl
    ⨾ refl
    ⨾ refl
    ⨾ refl
    ⨾ refl
    ⨾ refl
    ⨾ refl
    ⨾ refl
    ⨾ few_transactions true
    ⨾ many_transactions true
    ⨾ tt

of_schedules : All arrival_schedules
unfolding admitted read_table Schedules BuildsChecked check_list check_bytes range_from transactions_from later_from act_queue data_queue
of_schedules =
    build_tells 7 A (9 ∷ []) (8 ∷ []) (9 ∷ []) (8 ∷ []) (Err (refusal 5 0 7)) (read_at 20000000 0 ∷ []) (some 4, refl, refl, refl)
    ⨾ build_tells 7 A (9 ∷ []) (8 ∷ []) (9 ∷ []) (8 ∷ []) (Err (refusal 4 0 7)) (read_at 20000001 0 ∷ []) (refl, refl, refl)
    ⨾ build_tells 7 A (9 ∷ []) (8 ∷ []) (9 ∷ []) (8 ∷ []) (Err (refusal 4 1 7)) (read_at 5 0 ∷ read_at 4 1 ∷ []) (refl, refl, refl)
    ⨾ build_tells 7 A (replicate 48 9) (8 ∷ 8 ∷ 8 ∷ []) (bytes_of_all arrived_schedule) (24 ∷ 32 ∷ 64 ∷ []) (Ok (7, 6)) arrivals (refl, refl, record { schedule = arrived_schedule; built = record { cycles = 51; schedule = refl; acts = refl; datas = refl }; count = refl; buffer = refl; finishes = refl })
    ⨾ build_tells 7 R (replicate 24 9) (8 ∷ 8 ∷ []) (bytes_of_all (then_ref 60 0)) (24 ∷ 110 ∷ []) (Ok (7, 3)) (fine ∷ arriving refresh 60 ∷ []) (refl, refl, record { schedule = then_ref 60 0; built = record { cycles = 61; schedule = refl; acts = refl; datas = refl }; count = refl; buffer = refl; finishes = refl })
    ⨾ bytes_tell 8 A [] [] [] [] (Err (refusal 10 7 7)) true (0 ∷ []) (refl, refl, refl)
    ⨾ bytes_tell 7 A (9 ∷ []) (8 ∷ []) (9 ∷ []) (8 ∷ []) (Err (refusal 3 0 7)) true (records_of true (out ∷ []) ++ (0 ∷ [])) (refl, refl, refl)
    ⨾ bytes_tell 7 A (9 ∷ []) (8 ∷ []) (9 ∷ []) (8 ∷ []) (Err (refusal 4 1 7)) true (records_of true (read_at 5 0 ∷ read_at 4 1 ∷ [])) (refl, refl, refl)
    ⨾ bytes_tell 7 A (replicate 47 9) [] (replicate 47 9) [] (Err (refusal 5 0 7)) true (records_of true arrivals) (some 4, refl, refl, refl)
    ⨾ bytes_tell 7 A (replicate 48 9) (8 ∷ 8 ∷ []) (replicate 48 9) (8 ∷ 8 ∷ []) (Err (refusal 6 0 7)) true (records_of true arrivals) (some 5, refl, refl, refl)
    ⨾ bytes_tell 7 A (replicate 49 9) (8 ∷ 8 ∷ 8 ∷ []) (bytes_of_all arrived_schedule ++ (9 ∷ [])) (24 ∷ 32 ∷ 64 ∷ []) (Ok (7, 6)) true (records_of true arrivals) (refl, refl, record { schedule = arrived_schedule; built = record { cycles = 51; schedule = refl; acts = refl; datas = refl }; count = refl; buffer = refl; finishes = refl })
    ⨾ many_built true
    ⨾ tt

of_runs : All arrival_runs
unfolding admitted read_table running runs_checked check_list check_bytes range_from transactions_from later_from run_controller run_refusal sound tells kept act_queue data_queue
of_runs =
    refl
    ⨾ refl
    ⨾ refl
    ⨾ refl
    ⨾ refl
    ⨾ refl
    ⨾ refl
    ⨾ refl
    ⨾ refl
    ⨾ refl
    ⨾ refl
    ⨾ refl
    ⨾ refl
    ⨾ refl
    ⨾ refl
    ⨾ refl
    ⨾ refl
    ⨾ refl
    ⨾ refl
    ⨾ refl
    ⨾ refl
    ⨾ refl
    ⨾ refl
    ⨾ refl
    ⨾ refl
    ⨾ refl
    ⨾ refl
    ⨾ refl
    ⨾ refl
    ⨾ refl
    ⨾ refl
    ⨾ refl
    ⨾ many_run true
    ⨾ tt

of_pieces : All piece_calls
unfolding admitted read_table running runs_checked check_list check_bytes range_from transactions_from later_from run_controller run_refusal sound tells kept act_queue data_queue
of_pieces =
    (refl ⨾ refl ⨾ refl ⨾ tt)
    ⨾ refl
    ⨾ (refl ⨾ refl ⨾ refl ⨾ tt)
    ⨾ refl
    ⨾ tt

pub of_arrivals : All arrival_calls
of_arrivals = of_records ⨾ of_lists ⨾ of_schedules ⨾ of_runs ⨾ of_pieces ⨾ tt
