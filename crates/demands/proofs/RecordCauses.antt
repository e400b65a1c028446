-- Each call on one record tells the first row of document 01's table that applies.
-- Assumes nothing.
use Rattle.std.specs.Prelude.{Ok, Err}
use Prim.Native.Nat.{ℕ}
use mathlib.Core.Bool.{not}
use mathlib.Core.Path.{refl}
use mathlib.Core.List.{List}
use lib.Dec.{leb, eqb}
use lib.ListN.{length}
use Rattle.records.specs.Told.{refusal, over, Wrote}
use Rattle.records.specs.Little.{bytes16}
use Rattle.records.specs.Table.{table_of, group_table_of, table_at, in_range, table_size, table_refusal, table_refusal_by, read_table, write_table, write_group_table}
use Rattle.records.specs.Transaction.{transaction_at, later_at, fits_by, transaction_refusal, later_refusal, read_transaction, write_transaction, read_later, write_later, later_bytes, bytes_of as transaction_bytes}
use Rattle.records.specs.Command.{command_at, command_refusal, room_refusal, read_command, write_command, bytes_of as command_bytes}
use Rattle.stamps.specs.Record.{record_at, bytes_of_record, record_refusal, read_capture_record, record_room, write_capture_record}
use Rattle.promises.specs.Numbers.{written_numbers, table_numbers, transaction_numbers, command_numbers, capture_record_numbers}
use Rattle.demands.specs.Causes.{RecordCauses}
use Rattle.demands.proofs.FirstRows.{one, two, by_number}

module _ (s : List ℕ) where
  -- what a writer that z refuses leaves
  abbrev kept : ℕ → Wrote
  kept z = record { answer = Err (refusal z 0 0); buffer = s }

  pub record_causes_lem : RecordCauses s
  unfolding read_table write_table write_group_table read_transaction write_transaction read_later write_later read_command write_command read_capture_record write_capture_record
  record_causes_lem =
      record {
        table_read =
            let z = table_refusal (length s) (table_at s) in
            two 1 2 (not (table_size (length s))) (not (in_range (table_at s))) (table_numbers (read_table s))
            (by_number table_numbers z (Ok (table_at s)) (Err (refusal z 0 0)) (refl, refl) (refl, refl));
        table_written = λ l.
            let z = table_refusal_by (eqb (length s) 32) (table_of l) in
            two 1 2 (not (eqb (length s) 32)) (not (in_range (table_of l))) (written_numbers (write_table l s).answer)
            (by_number (λ (w : Wrote). written_numbers w.answer) z (record { answer = Ok (table_of l).edition; buffer = over (bytes16 l) s }) (kept z) (refl, refl) (refl, refl));
        group_table_written = λ l.
            let z = table_refusal_by (eqb (length s) 40) (group_table_of l) in
            two 1 2 (not (eqb (length s) 40)) (not (in_range (group_table_of l))) (written_numbers (write_group_table l s).answer)
            (by_number (λ (w : Wrote). written_numbers w.answer) z (record { answer = Ok (group_table_of l).edition; buffer = over (bytes16 l) s }) (kept z) (refl, refl) (refl, refl));
        transaction_read =
            let z = transaction_refusal (length s) (transaction_at s 0) in
            two 3 4 (not (eqb (length s) 4)) (not (fits_by 0 16 1 (transaction_at s 0))) (transaction_numbers (read_transaction s))
            (by_number transaction_numbers z (Ok (transaction_at s 0)) (Err (refusal z 0 0)) (refl, refl) (refl, refl));
        transaction_written = λ x.
            let z = transaction_refusal (length s) x in
            two 3 4 (not (eqb (length s) 4)) (not (fits_by 0 16 1 x)) (written_numbers (write_transaction x s).answer)
            (by_number (λ (w : Wrote). written_numbers w.answer) z (record { answer = Ok 0; buffer = over (transaction_bytes x) s }) (kept z) (refl, refl) (refl, refl));
        later_read =
            let z = later_refusal (length s) (later_at s 0) in
            two 3 4 (not (eqb (length s) 8)) (not (fits_by 20000000 16 1 (later_at s 0))) (transaction_numbers (read_later s))
            (by_number transaction_numbers z (Ok (later_at s 0)) (Err (refusal z 0 0)) (refl, refl) (refl, refl));
        later_written = λ x.
            let z = later_refusal (length s) x in
            two 3 4 (not (eqb (length s) 8)) (not (fits_by 20000000 16 1 x)) (written_numbers (write_later x s).answer)
            (by_number (λ (w : Wrote). written_numbers w.answer) z (record { answer = Ok 0; buffer = over (later_bytes x) s }) (kept z) (refl, refl) (refl, refl));
        command_read =
            let z = command_refusal (length s) in
            one 7 (not (eqb (length s) 8)) (command_numbers (read_command s))
            (by_number command_numbers z (Ok (command_at s 0)) (Err (refusal z 0 0)) (refl, refl) (refl, refl));
        command_written = λ c.
            let z = room_refusal (length s) in
            one 5 (not (leb 8 (length s))) (written_numbers (write_command c s).answer)
            (by_number (λ (w : Wrote). written_numbers w.answer) z (record { answer = Ok 0; buffer = over (command_bytes c) s }) (kept z) (refl, refl) (refl, refl));
        capture_read =
            let z = record_refusal (length s) in
            one 7 (not (eqb (length s) 4)) (capture_record_numbers (read_capture_record s))
            (by_number capture_record_numbers z (Ok (record_at s 0)) (Err (refusal z 0 0)) (refl, refl) (refl, refl));
        capture_written = λ x.
            let z = record_room (length s) in
            one 5 (not (leb 4 (length s))) (written_numbers (write_capture_record x s).answer)
            (by_number (λ (w : Wrote). written_numbers w.answer) z (record { answer = Ok 0; buffer = over (bytes_of_record x) s }) (kept z) (refl, refl) (refl, refl));
      }
