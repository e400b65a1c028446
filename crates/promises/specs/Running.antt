-- What a start and a run answer, and what they leave of the controller and the buffer, refused or not.
use Rattle.std.specs.Prelude.{replicate, Result, Ok, Err}
use Rattle.records.specs.declared.table.Table.{Table}
use Rattle.records.specs.declared.refusal.Refusal.{Refusal}
use Rattle.records.specs.Table.{table_of}
use Rattle.controller.specs.declared.controller.Controller.{Controller}
use Rattle.controller.specs.Controller.{fresh_controller}
use Rattle.promises.specs.declared.starting.StartTold.{StartTold}
pub use Rattle.runner.specs.Running.{nothing_run, has_run, Runs}
unfoldable pub use Rattle.runner.specs.Running.{runs_checked, running}

-- a controller of edition 0, which no accepted table has
abbrev pub no_controller : Controller
no_controller = fresh_controller (table_of (replicate 16 0))

-- numbers 1, 2 and 10; then "the table's edition, cycle 0, all banks closed and "never" throughout"
unfoldable pub starting : Result Table Refusal → StartTold
starting (Ok τ) = record { controller = fresh_controller τ; answer = Ok τ.edition }
starting (Err x) = record { controller = no_controller; answer = Err x }
