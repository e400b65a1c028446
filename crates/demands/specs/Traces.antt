-- Document 02, request 6, of the public call: a legal schedule that was written as a capture comes back; of any capture nothing is lost or moved;
-- and number 11 names the lowest record.
use Rattle.std.specs.Prelude.{ℕ, ◌*◌, ◌≤◌, ◌<◌, ◌≡◌, List, length, get_or, Ok, Err}
use Rattle.records.specs.declared.table.Table.{Table}
use Rattle.records.specs.declared.command.Command.{Command}
use Rattle.records.specs.declared.refusal.Refusal.{Refusal}
use Rattle.records.specs.Told.{over}
use Rattle.records.specs.Command.{bytes_of_all}
use Rattle.rules.specs.declared.verdict.Verdict.{Verdict}
use Rattle.rules.specs.declared.verdict.Rule.{Rule}
use Rattle.rules.specs.declared.verdict.Verdict.TheVariants.{Accepted, Refused as Broken}
use Rattle.rules.specs.Verdict.{judge, Legal, unnumbered}
use Rattle.stamps.specs.Capture.{records_in, timed_in}
use Rattle.capture.specs.Answer.{commands_seen}
use Rattle.capture.specs.Eleven.{Such}
use Rattle.capture.specs.Written.{Sent, capture_bytes, WrittenAs, all_stamped, without_ticks}
use Rattle.promises.specs.Admit.{admitted}
use Rattle.promises.specs.Tracing.{capturing}

-- of a table that is admitted; s is a capture's bytes, b what the room for the commands holds before the call
pub record Traces (expected : ℕ) (table : List ℕ) (τ : Table) : Type 0 where
  -- "For any legal schedule, written as a capture .., reading it gives the schedule's cycles, kinds and banks again": with room for the commands
  pub again : (rs : List Command) (es : List Sent) → Legal τ rs → WrittenAs rs es → (b : List ℕ) → 8 * length rs ≤ length b
      → capturing (admitted expected table) (capture_bytes es) b
      ≡ record { answer = Ok (τ.edition, length rs, Accepted); buffer = over (bytes_of_all (unnumbered rs)) b }
  -- whatever the verdict: it is the judge's on the commands that stand in the room, their count is told, and each with its cycle modulo 65,536 for
  -- the stamp they are the capture's records without the ticks, with transaction number 0. (Every element of s is a byte.)
  pub shown : (s b : List ℕ) (e n : ℕ) (v : Verdict) → ((i : ℕ) → get_or s i 0 < 256) → (capturing (admitted expected table) s b).answer ≡ Ok (e, n, v)
      → (rs : List Command) × (e ≡ τ.edition) × (n ≡ length rs) × (v ≡ judge τ rs) × ((capturing (admitted expected table) s b).buffer ≡ over (bytes_of_all rs) b)
      × (all_stamped rs ≡ without_ticks (records_in s)) × (unnumbered rs ≡ rs)
  -- "a verdict against it is an answer and not a refused call, and leaves them written"
  pub against : (s b : List ℕ) (e n i : ℕ) (x : Rule) → (capturing (admitted expected table) s b).answer ≡ Ok (e, n, Broken x i)
      → (capturing (admitted expected table) s b).buffer ≡ over (bytes_of_all (commands_seen s)) b
  -- "Number 11, at the lowest such record"
  pub eleven : (s b : List ℕ) (x : Refusal) → (capturing (admitted expected table) s b).answer ≡ Err x → x.number ≡ 11
      → Such (timed_in s) x.position × ((i : ℕ) → i < x.position → Such (timed_in s) i → ⊥)
