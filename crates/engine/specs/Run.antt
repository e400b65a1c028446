-- What a run asks for, and what it answers.
use Rattle.std.specs.Prelude.{ℕ, ◌+◌, ◌-◌, ◌*◌, ◌≤◌, min, ◌≡◌, List, [], length}
use Rattle.records.specs.Told.{over}
use Rattle.records.specs.declared.table.Table.{Table}
use Rattle.records.specs.declared.transaction.Transaction.{Transaction}
use Rattle.records.specs.Transaction.{later_from}
use Rattle.records.specs.Command.{bytes_of_all}
use Rattle.rules.specs.declared.state.State.{State}
use Rattle.rules.specs.Pattern.{onto}
use Rattle.rules.specs.Queues.{act_queue, data_queue}
use Rattle.rules.specs.Run.{Ran}
use Rattle.heads.specs.Queue.{Listed}
use Rattle.timing.specs.Kept.{told}
use Rattle.engine.specs.declared.run.Ran as Answer

-- "commands left, which are what each queue still holds, counted queue by queue and added"
abbrev pub commands_left : Table → List Transaction → State → ℕ
commands_left τ l s = (length (act_queue τ l) - s.acts) + (length (data_queue τ l) - s.datas)

-- a list that fits its table, a state whose counts are not past the queues' ends, and room
pub record Ready (τ : Table) (bs : List ℕ) (n : ℕ) (s : State) (count room : ℕ) : Type 0 where
  pub list : Listed τ bs n
  pub acts : s.acts ≤ length (act_queue τ (later_from bs n 0))
  pub datas : s.datas ≤ length (data_queue τ (later_from bs n 0))
  pub fits : 8 * min count (commands_left τ (later_from bs n 0) s) ≤ room

-- r is the answer, and b what the buffer holds after it was b₀: the commands, oldest first, and all beyond as it stood
pub record Runs (o : Ran) (b₀ b : List ℕ) (r : Answer.Ran) : Type 0 where
  pub state : told r.state ≡ o.state
  pub cycles : r.cycles ≡ o.cycles
  pub commands : r.commands ≡ length o.history
  pub buffer : b ≡ over (bytes_of_all (onto o.history [])) b₀
