-- Document 02, request 6: a capture record is 4 bytes, "a 16-bit stamp, kind, bank". Read and written as document 01 has it for the command.
use Rattle.std.specs.Prelude.{ℕ, ◌+◌, not, List, [], ◌∷◌, ◌++◌, length, ◌==◌, nat_le, slice_index, Result, Ok, Err}
use Rattle.records.specs.declared.refusal.Refusal.{Refusal}
use Rattle.records.specs.Tests.{pick}
use Rattle.records.specs.Told.{refusal, first_failed, over, Wrote}
use Rattle.records.specs.Little.{num, bytes16}
use Rattle.stamps.specs.declared.one_record.CaptureRecord.{CaptureRecord}

abbrev pub capture_record : ℕ → ℕ → ℕ → CaptureRecord
capture_record t k b = record { stamp = t; kind = k; bank = b }

-- the record of the four bytes from a place on
abbrev pub record_at : List ℕ → ℕ → CaptureRecord
record_at s at = capture_record (num s at) (slice_index s (at + 2)) (slice_index s (at + 3))

-- the four bytes of a record
abbrev pub bytes_of_record : CaptureRecord → List ℕ
bytes_of_record x = bytes16 (x.stamp ∷ []) ++ (x.kind ∷ x.bank ∷ [])

-- any 4 bytes are a capture record: number 7 for any other size
abbrev pub record_refusal : ℕ → ℕ
record_refusal size = first_failed ((7, not (size == 4)) ∷ [])

unfoldable pub read_capture_record : List ℕ → Result CaptureRecord Refusal
read_capture_record s = let z = record_refusal (length s) in pick (z == 0) (Ok (record_at s 0)) (Err (refusal z 0 0))

-- number 5 for a buffer under 4
abbrev pub record_room : ℕ → ℕ
record_room size = first_failed ((5, not (nat_le 4 size)) ∷ [])

unfoldable pub write_capture_record : CaptureRecord → List ℕ → Wrote
write_capture_record x s =
    let z = record_room (length s) in
    pick (z == 0)
    (record { answer = Ok 0; buffer = over (bytes_of_record x) s })
    (record { answer = Err (refusal z 0 0); buffer = s })
