-- Document 02, request 10: what is answered of a schedule, on a table's bytes and a list. s are the schedule's bytes.
use Rattle.std.specs.Prelude.{ℕ, ◌≡◌, List, Result, Ok, Err}
use Rattle.records.specs.declared.refusal.Refusal.{Refusal}
use Rattle.serves.specs.declared.answer.Served.{Served}
use Rattle.records.specs.declared.table.Table.{Table}
use Rattle.records.specs.declared.transaction.Transaction.{Transaction}
use Rattle.serves.specs.Answer.{ServesAnswers}

-- by what the check of the list, numbers 3 and 4, finds; then number 7, and whether the schedule serves the list
unfoldable pub ServesChecked : Result Unit Refusal → Table → List Transaction → List ℕ → Result (ℕ × Served) Refusal → Type 0
ServesChecked (Ok _) τ l s r = ServesAnswers τ l s r
ServesChecked (Err x) τ l s r = r ≡ Err x

-- numbers 1, 2 and 10; then the check of the list by the table, and the rest
unfoldable pub Serving : (Table → Result Unit Refusal) → Result Table Refusal → List Transaction → List ℕ → Result (ℕ × Served) Refusal → Type 0
Serving check (Ok τ) l s r = ServesChecked (check τ) τ l s r
Serving check (Err x) l s r = r ≡ Err x
