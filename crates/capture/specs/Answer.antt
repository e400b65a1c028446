-- What the judge of captures answers and leaves, and what it refuses.
use Rattle.std.specs.Prelude.{ℕ, ◌*◌, ◌/◌, ◌%◌, ◌≤◌, Bool, not, ◌||◌, ◌≡◌, List, [], ◌∷◌, ltb, eqb, length, Result, Ok, Err}
use Rattle.rules.specs.declared.verdict.Verdict.{Verdict}
use Rattle.records.specs.declared.refusal.Refusal.{Refusal}
use Rattle.records.specs.Tests.{pick}
use Rattle.records.specs.Told.{refusal, first_failed, over}
use Rattle.records.specs.declared.table.Table.{Table}
use Rattle.records.specs.declared.command.Command.{Command}
use Rattle.records.specs.Command.{bytes_of_all}
use Rattle.rules.specs.Verdict.{judge}
use Rattle.capture.specs.declared.scan.Scanned.{Scanned}
use Rattle.stamps.specs.Capture.{timed_in, lowest, commands_of}

-- "Number 7 (bytes not a multiple of 4, or over 69,632 records)"
abbrev pub not_a_capture : ℕ → Bool
not_a_capture size = not (eqb (size % 4) 0) || ltb 69632 (size / 4)

-- how many records a capture has
abbrev pub capture_count : List ℕ → ℕ
capture_count s = length s / 4

-- the commands that a capture is written as
unfoldable pub commands_seen : List ℕ → List Command
commands_seen s = commands_of (timed_in s)

-- "Number 7 .. goes before 11, and 5 (room for the commands) after it": 0, or the number by which a capture is refused
unfoldable pub capture_refusal : List ℕ → ℕ → ℕ
capture_refusal s room =
    first_failed
    ((7, not_a_capture (length s)) ∷ (11, ltb (lowest (timed_in s)) (capture_count s)) ∷ (5, ltb room (8 * length (commands_seen s))) ∷ [])

-- the position: 11 names the record, the others 0
abbrev pub position_of : ℕ → List ℕ → ℕ
position_of z s = pick (eqb z 11) (lowest (timed_in s)) 0

-- what a check of a capture finds: the commands that are due, or the refusal
abbrev pub checked_capture : List ℕ → ℕ → ℕ → Result ℕ Refusal
checked_capture s room e =
    let z = capture_refusal s room in pick (eqb z 0) (Ok (length (commands_seen s))) (Err (refusal z (position_of z s) e))

-- what judging a capture leaves: its answer, and the buffer
pub record Captured : Type 0 where
  pub answer : Result (ℕ × ℕ × Verdict) Refusal
  pub buffer : List ℕ

-- what it leaves in a buffer that held b: "a verdict against it is an answer and not a refused call, and leaves them written"
unfoldable pub captured : Table → List ℕ → List ℕ → Captured
captured τ s b =
    let z = capture_refusal s (length b) in
    pick (eqb z 0)
    (record {
      answer = Ok (τ.edition, length (commands_seen s), judge τ (commands_seen s));
      buffer = over (bytes_of_all (commands_seen s)) b;
    })
    (record { answer = Err (refusal z (position_of z s) τ.edition); buffer = b })

-- the promise: r is the answer, b what the buffer holds as the call returns
abbrev pub LeavesCapture : Captured → Result (ℕ × ℕ × Verdict) Refusal → List ℕ → Type 0
LeavesCapture w r b = (r ≡ w.answer) × (b ≡ w.buffer)

-- what the pass over a capture finds: the lowest record that number 11 names, or how many there are, and then how many commands they hold
pub record Scans (s : List ℕ) (r : Scanned) : Type 0 where
  pub place : r.place ≡ lowest (timed_in s)
  pub commands : r.place ≡ capture_count s → r.count ≡ length (commands_seen s)
  pub few : r.count ≤ capture_count s
