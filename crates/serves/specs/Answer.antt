-- What is answered on a schedule's bytes, by a list that numbers 3 and 4 let pass: number 7, and then what the request asks for.
use Rattle.std.specs.Prelude.{ℕ, ◌≡◌, List, length, Result, Ok, Err}
use Rattle.serves.specs.declared.answer.Served.{Served}
use Rattle.records.specs.declared.refusal.Refusal.{Refusal}
use Rattle.records.specs.declared.table.Table.{Table}
use Rattle.records.specs.declared.transaction.Transaction.{Transaction}
use Rattle.records.specs.Told.{refusal}
use Rattle.records.specs.Command.{commands_in}
use Rattle.judge.specs.Answer.{schedule_refusal}
use Rattle.serves.specs.Serves.{Says}

-- the table's edition with what is said, where number 7 does not fail, and else with the refusal, whose position is 0
abbrev pub ServesAnswers : Table → List Transaction → List ℕ → Result (ℕ × Served) Refusal → Type 0
ServesAnswers τ l s (Ok (e, a)) = (schedule_refusal (length s) ≡ 0) × (e ≡ τ.edition) × Says τ l (commands_in s) a
ServesAnswers τ l s (Err x) =
    (schedule_refusal (length s) ≡ 0 → ⊥) × (x ≡ refusal (schedule_refusal (length s)) 0 τ.edition)
