-- What a trace shows, in document 02's words and without bytes or buffers: the table's refusal; number 7 or 11 of the capture; or its commands and the
-- judge's verdict on them. Number 5 is never told, since there is room for every command.
use Rattle.std.specs.Prelude.{ℕ, ◌<◌, ◌≡◌, true, false, ◌⊎◌, List, length, Ok, Err}
use Rattle.records.specs.Told.{refusal}
use Rattle.records.specs.declared.table.Table.{Table}
use Rattle.records.specs.declared.refusal.Refusal.{Refusal}
use Rattle.rules.specs.Verdict.{judge}
use Rattle.stamps.specs.Capture.{timed_in, lowest}
use Rattle.capture.specs.Answer.{not_a_capture, capture_count, commands_seen}
use Rattle.promises.specs.Admit.{admitted}
use Rattle.lines.specs.Lines.{refused_line}
use Rattle.traced.specs.Trace.{trace_text}

-- "Number 7 (bytes not a multiple of 4, or over 69,632 records)"
pub record Shows7 (τ : Table) (capture text : List ℕ) : Type 0 where
  pub size : not_a_capture (length capture) ≡ true
  pub is : text ≡ refused_line (refusal 7 0 τ.edition)

-- "Number 11, at the lowest such record"; "Number 7 .. goes before 11"
pub record Shows11 (τ : Table) (capture text : List ℕ) : Type 0 where
  pub size : not_a_capture (length capture) ≡ false
  pub low : lowest (timed_in capture) < capture_count capture
  pub is : text ≡ refused_line (refusal 11 (lowest (timed_in capture)) τ.edition)

-- "The capture is written as command records .. and judged"
pub record ShowsVerdict (τ : Table) (capture text : List ℕ) : Type 0 where
  pub size : not_a_capture (length capture) ≡ false
  pub none : lowest (timed_in capture) ≡ capture_count capture
  pub is : text ≡ trace_text τ.edition (commands_seen capture) (judge τ (commands_seen capture))

-- numbers 1, 2 and 10; or what is told under the table that was admitted
abbrev pub Shows : ℕ → List ℕ → List ℕ → List ℕ → Type 0
Shows expected table capture text =
    ((x : Refusal) × (admitted expected table ≡ Err x) × (text ≡ refused_line x))
    ⊎ ((τ : Table) × (admitted expected table ≡ Ok τ) × (Shows7 τ capture text ⊎ (Shows11 τ capture text ⊎ ShowsVerdict τ capture text)))
