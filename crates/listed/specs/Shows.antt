-- What a listing shows, in document 01's words and without bytes or buffers: a refusal, or the schedule of the cycle rule with its finishing cycles.
use Rattle.std.specs.Prelude.{ℕ, ◌≡◌, ◌⊎◌, List, Ok}
use Rattle.records.specs.declared.table.Table.{Table}
use Rattle.records.specs.declared.refusal.Refusal.{Refusal}
use Rattle.records.specs.declared.command.Command.{Command}
use Rattle.records.specs.Transaction.{transactions_in}
use Rattle.rules.specs.CycleRule.{Built}
use Rattle.engine.specs.Build.{finishes_from}
use Rattle.promises.specs.Admit.{admitted}
use Rattle.lines.specs.Lines.{schedule_text, refused_line}

-- the text of a built schedule, under the table that was admitted
pub record ShowsSchedule (expected : ℕ) (table list text : List ℕ) : Type 0 where
  pub τ : Table
  pub admits : admitted expected table ≡ Ok τ
  pub schedule : List Command
  pub built : Built τ (transactions_in list) schedule
  pub is : text ≡ schedule_text τ.edition schedule (finishes_from τ (transactions_in list) 0 schedule)

abbrev pub Shows : ℕ → List ℕ → List ℕ → List ℕ → Type 0
Shows expected table list text = ((x : Refusal) × (text ≡ refused_line x)) ⊎ ShowsSchedule expected table list text
