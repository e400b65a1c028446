-- A run of the controller: what it tells, the controller and the buffer, refused or not.
use Rattle.std.specs.Prelude.{ℕ, ◌≡◌, List, [], eqb, length, Ok, Err}
use Rattle.records.specs.Tests.{pick}
use Rattle.records.specs.Told.{refusal, over}
use Rattle.records.specs.Command.{bytes_of_all}
use Rattle.records.specs.declared.table.Table.{Table}
use Rattle.records.specs.declared.transaction.Transaction.{Transaction}
use Rattle.records.specs.declared.command.Command.{Command}
use Rattle.rules.specs.Pattern.{onto}
use Rattle.rules.specs.Run.{Ran as RanTo}
use Rattle.rules.specs.Pieces.{lent_run}
use Rattle.controller.specs.declared.controller.Controller.{Controller}
use Rattle.controller.specs.declared.run.RunTold.{RunTold}
use Rattle.controller.specs.Controller.{tells, kept}
use Rattle.sound.specs.Refused.{run_refusal}

pub record RunLeft : Type 0 where
  pub told : RunTold
  pub buffer : List ℕ

-- the commands of a history, which stands newest first, oldest first
abbrev pub written : List Command → List ℕ
written h = bytes_of_all (onto h [])

-- "Success writes each result from its buffer's start and leaves all beyond as it stood."
abbrev pub ran_left : ℕ → RanTo → List ℕ → RunLeft
ran_left e r b =
    record {
      told = record { controller = kept r.state; answer = Ok (record { edition = e; commands = length r.history; cycles = r.cycles }) };
      buffer = over (written r.history) b;
    }

-- "Each returns its number and the position shown, and no buffer or state changes."
abbrev pub refused_left : ℕ → ℕ → Controller → List ℕ → RunLeft
refused_left e z c b = record { told = record { controller = c; answer = Err (refusal z 0 e) }; buffer = b }

abbrev pub left_by : ℕ → ℕ → RanTo → Controller → List ℕ → RunLeft
left_by z e r c b = pick (eqb z 0) (ran_left e r b) (refused_left e z c b)

-- "From any state that isn't refused, the cycle rule goes on from what the state tells"; the run "is lent the whole list so far" (document 02,
-- request 9)
unfoldable pub run_controller : Controller → Table → List Transaction → ℕ → List ℕ → RunLeft
run_controller c τ l count b = left_by (run_refusal τ l (tells c) count (length b)) τ.edition (lent_run count τ l (tells c)) c b

-- the promise of a run: r is what it tells, b what the buffer holds as it returns
abbrev pub LeavesRun : RunLeft → RunTold → List ℕ → Type 0
LeavesRun w r b = (r ≡ w.told) × (b ≡ w.buffer)
