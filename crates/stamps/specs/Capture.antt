-- Document 02, request 6: "Callers send a capture in 4-byte records: a 16-bit stamp, kind, bank." One record is `specs/Record`.
use Rattle.std.specs.Prelude.{ℕ, zero, suc, ◌+◌, ◌-◌, ◌/◌, ◌%◌, Bool, ◌&&◌, ◌||◌, List, [], ◌∷◌, length, ◌==◌, nat_lt}
use Rattle.records.specs.Tests.{pick}
use Rattle.records.specs.declared.command.Command.{Command}
use Rattle.records.specs.Command.{kind_of, command}
use Rattle.stamps.specs.declared.one_record.CaptureRecord.{CaptureRecord}
use Rattle.stamps.specs.Record.{record_at}

-- n records from a place on; those of a capture
unfoldable pub records_from : List ℕ → ℕ → ℕ → List CaptureRecord
records_from s zero at = []
records_from s (suc n) at = record_at s at ∷ records_from s n (at + 4)

abbrev pub records_in : List ℕ → List CaptureRecord
records_in s = records_from s (length s / 4) 0

-- "the stamp's difference taken round the wrap": how far stamp q is after stamp p, where 0 comes after 65,535
unfoldable pub gap : ℕ → ℕ → ℕ
gap p q = (q + 65536 - p) % 65536

-- a record with its true cycle
pub record Timed : Type 0 where
  pub cycle : ℕ
  pub seen : CaptureRecord

abbrev pub timed : ℕ → CaptureRecord → Timed
timed c x = record { cycle = c; seen = x }

-- "The true cycle goes on by the stamp's difference taken round the wrap": the records after one with stamp p and true cycle c
abbrev pub timed_after : ℕ → ℕ → List CaptureRecord → List Timed
timed_after p c [] = []
timed_after p c (x ∷ l) = timed (c + gap p x.stamp) x ∷ timed_after x.stamp (c + gap p x.stamp) l

-- "from the first record's own stamp"
abbrev pub timed_of : List CaptureRecord → List Timed
timed_of [] = []
timed_of (x ∷ l) = timed x.stamp x ∷ timed_after x.stamp x.stamp l

unfoldable pub timed_in : List ℕ → List Timed
timed_in s = timed_of (records_in s)

-- number 11: "a true cycle above 4,294,967,295"
abbrev pub too_late : ℕ → Bool
too_late c = nat_lt 4294967295 c

-- number 11 of a record after one with stamp p: "a stamp equal to the one before it, or a true cycle above 4,294,967,295"
abbrev pub bad_after : ℕ → Timed → Bool
bad_after p x = x.seen.stamp == p || too_late x.cycle

-- "at the lowest such record": its number, of records that are numbered from i on and follow one with stamp p; where there is none, the number
-- after the last
abbrev pub lowest_after : ℕ → ℕ → List Timed → ℕ
lowest_after i p [] = i
lowest_after i p (x ∷ l) = pick (bad_after p x) i (lowest_after (suc i) x.seen.stamp l)

-- the first record has no stamp before it
unfoldable pub lowest : List Timed → ℕ
lowest [] = 0
lowest (x ∷ l) = pick (too_late x.cycle) 0 (lowest_after 1 x.seen.stamp l)

-- "Kind 255 with bank 0 is a tick without a command"
abbrev pub is_tick : CaptureRecord → Bool
is_tick x = x.kind == 255 && x.bank == 0

-- "The capture is written as command records (ticks dropped, transaction number 0)"
abbrev pub command_of : Timed → Command
command_of x = command x.cycle (kind_of x.seen.kind) x.seen.bank 0

unfoldable pub commands_of : List Timed → List Command
commands_of [] = []
commands_of (x ∷ l) = pick (is_tick x.seen) (commands_of l) (command_of x ∷ commands_of l)
