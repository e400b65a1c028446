-- What a run answers, and what it leaves of the controller and the buffer, refused or not.
use Rattle.std.specs.Prelude.{ℕ, Bool, true, false, List, ◌≡◌, Result, Ok, Err}
use Rattle.controller.specs.declared.run.RunReport.{RunReport}
use Rattle.records.specs.declared.table.Table.{Table}
use Rattle.records.specs.declared.transaction.Transaction.{Transaction}
use Rattle.records.specs.declared.refusal.Refusal.{Refusal}
use Rattle.controller.specs.declared.controller.Controller.{Controller}
use Rattle.controller.specs.Run.{RunLeft, run_controller}

-- "no buffer or state changes"
abbrev pub nothing_run : Refusal → Controller → List ℕ → RunLeft
nothing_run x c b = record { told = record { controller = c; answer = Err x }; buffer = b }

-- by what the check of the list, numbers 3 and 4, finds; then numbers 5, 9 and 12, and the run of so many cycles
unfoldable pub runs_checked : Result Unit Refusal → Controller → Table → List Transaction → ℕ → List ℕ → RunLeft
runs_checked (Ok _) c τ l count b = run_controller c τ l count b
runs_checked (Err x) c τ l count b = nothing_run x c b

-- numbers 1, 2 and 10; then the check of the list by the table, and the rest
unfoldable pub running : (Table → Result Unit Refusal) → Result Table Refusal → Controller → List Transaction → ℕ → List ℕ → RunLeft
running check (Ok τ) c l count b = runs_checked (check τ) c τ l count b
running check (Err x) c l count b = nothing_run x c b

-- whether a run is told of: a refused one writes no byte of the controller
abbrev pub has_run : Result RunReport Refusal → Bool
has_run (Ok x) = true
has_run (Err x) = false

-- the promise of a run where the controller lies: r is its answer, c the controller and b the buffer as it returns
abbrev pub Runs : RunLeft → Result RunReport Refusal → Controller → List ℕ → Type 0
Runs w r c b = (r ≡ w.told.answer) × (c ≡ w.told.controller) × (b ≡ w.buffer)
