-- Document 02, request 6: what judging a capture answers on a table's bytes, and what it leaves in the buffer, which held b.
use Rattle.std.specs.Prelude.{List, ℕ, Result, Ok, Err}
use Rattle.records.specs.declared.table.Table.{Table}
use Rattle.records.specs.declared.refusal.Refusal.{Refusal}
use Rattle.capture.specs.Answer.{Captured, captured}

-- numbers 1, 2 and 10; then 7, 11 and 5, the commands and the verdict on them
unfoldable pub capturing : Result Table Refusal → List ℕ → List ℕ → Captured
capturing (Ok τ) s b = captured τ s b
capturing (Err x) s b = record { answer = Err x; buffer = b }
