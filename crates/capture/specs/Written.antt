-- Document 02, request 6: "For any legal schedule, written as a capture of at most that many records in order of cycle, with ticks only at cycles
-- without a command, one at most in each and none past 4,294,967,295, the first record below cycle 65,536 and no gap of 65,536 or more, reading it
-- gives the schedule's cycles, kinds and banks again." What is written is said here without the reader.
use Rattle.std.specs.Prelude.{ℕ, suc, ◌+◌, ◌*◌, ◌%◌, ◌≤◌, ◌<◌, false, ◌≡◌, List, [], ◌∷◌, ◌++◌, length, Ok}
use Rattle.std.proofs.Math.Option.{some}
use Rattle.std.proofs.Math.ListN.{get_elem?}
use Rattle.records.specs.Tests.{pick}
use Rattle.records.specs.Told.{over}
use Rattle.records.specs.declared.table.Table.{Table}
use Rattle.records.specs.declared.command.Command.{Command}
use Rattle.records.specs.Command.{kind_number, bytes_of_all}
use Rattle.rules.specs.declared.verdict.Verdict.TheVariants.{Accepted}
use Rattle.rules.specs.Verdict.{unnumbered}
use Rattle.stamps.specs.declared.one_record.CaptureRecord.{CaptureRecord}
use Rattle.stamps.specs.Record.{capture_record, bytes_of_record}
use Rattle.stamps.specs.Capture.{records_in, timed_in, lowest, is_tick}
use Rattle.capture.specs.Answer.{not_a_capture, capture_count, commands_seen, captured}

-- what the analyser sends a record for: a command, or a tick at a cycle
pub data Sent : Type 0 where
  sends : Command → Sent
  ticks : ℕ → Sent

abbrev pub cycle_of : Sent → ℕ
cycle_of (sends r) = r.cycle
cycle_of (ticks c) = c

-- a command as a capture record: "The stamp runs round from 65,535 to 0", so it is the cycle modulo 65,536
abbrev pub stamped : Command → CaptureRecord
stamped r = capture_record (r.cycle % 65536) (kind_number r.kind) r.bank

-- the record that is sent; "Kind 255 with bank 0 is a tick"
abbrev pub record_of : Sent → CaptureRecord
record_of (sends r) = stamped r
record_of (ticks c) = capture_record (c % 65536) 255 0

abbrev pub bytes_sent : Sent → List ℕ
bytes_sent e = bytes_of_record (record_of e)

abbrev pub capture_bytes : List Sent → List ℕ
capture_bytes [] = []
capture_bytes (e ∷ es) = bytes_sent e ++ capture_bytes es

-- the commands among them
abbrev pub commands_sent : List Sent → List Command
commands_sent [] = []
commands_sent (sends r ∷ es) = r ∷ commands_sent es
commands_sent (ticks c ∷ es) = commands_sent es

-- the schedule rs, written as the capture es
pub record WrittenAs (rs : List Command) (es : List Sent) : Type 0 where
  -- the commands of the schedule, and ticks between them; a command's cycle has 32 bits
  pub schedule : commands_sent es ≡ rs
  pub cycles : (i : ℕ) (r : Command) → get_elem? rs i ≡ some r → r.cycle ≤ 4294967295
  -- "of at most that many records"
  pub few : length es ≤ 69632
  -- "in order of cycle"
  pub order : (i : ℕ) (a b : Sent) → get_elem? es i ≡ some a → get_elem? es (suc i) ≡ some b → cycle_of a ≤ cycle_of b
  -- "with ticks only at cycles without a command"
  pub apart : (i j c : ℕ) (r : Command) → get_elem? es i ≡ some (ticks c) → get_elem? rs j ≡ some r → r.cycle ≡ c → ⊥
  -- "one at most in each"
  pub once : (i j c : ℕ) → get_elem? es i ≡ some (ticks c) → get_elem? es j ≡ some (ticks c) → i ≡ j
  -- "and none past 4,294,967,295"
  pub low : (i c : ℕ) → get_elem? es i ≡ some (ticks c) → c ≤ 4294967295
  -- "the first record below cycle 65,536"
  pub first : (a : Sent) → get_elem? es 0 ≡ some a → cycle_of a < 65536
  -- "and no gap of 65,536 or more"
  pub near : (i : ℕ) (a b : Sent) → get_elem? es i ≡ some a → get_elem? es (suc i) ≡ some b → cycle_of b < cycle_of a + 65536

-- "reading it gives the schedule's cycles, kinds and banks again"
pub record ReadAgain (τ : Table) (rs : List Command) (s : List ℕ) : Type 0 where
  -- neither number 7 nor number 11 refuses the capture
  pub size : not_a_capture (length s) ≡ false
  pub none : lowest (timed_in s) ≡ capture_count s
  -- its commands are the schedule's
  pub commands : commands_seen s ≡ unnumbered rs
  -- with room for them, they are written and accepted
  pub answer : (b : List ℕ) → 8 * length rs ≤ length b
      → captured τ s b ≡ record { answer = Ok (τ.edition, length rs, Accepted); buffer = over (bytes_of_all (unnumbered rs)) b }

-- ---- beyond that sentence, of any capture at all: nothing is lost or moved

abbrev pub all_stamped : List Command → List CaptureRecord
all_stamped [] = []
all_stamped (r ∷ rs) = stamped r ∷ all_stamped rs

abbrev pub without_ticks : List CaptureRecord → List CaptureRecord
without_ticks [] = []
without_ticks (x ∷ l) = pick (is_tick x) (without_ticks l) (x ∷ without_ticks l)

-- the commands of a capture's bytes s, each with its cycle modulo 65,536 for the stamp, are its records without the ticks; their transaction
-- numbers are 0
pub record NothingLost (s : List ℕ) : Type 0 where
  pub records : all_stamped (commands_seen s) ≡ without_ticks (records_in s)
  pub numbers : unnumbered (commands_seen s) ≡ commands_seen s
