-- What building leaves: the schedule's bytes, and the finishing cycles.
use Rattle.std.specs.Prelude.{ℕ, suc, ◌≡◌, List, [], ◌∷◌, length}
use Rattle.records.specs.Told.{over}
use Rattle.records.specs.declared.table.Table.{Table}
use Rattle.records.specs.declared.transaction.Transaction.{Transaction}
use Rattle.records.specs.declared.command.Command.{Command}
use Rattle.records.specs.Command.{bytes_of_all}
use Rattle.rules.specs.Pattern.{onto}
use Rattle.rules.specs.CycleRule.{Built}
use Rattle.rules.specs.Finish.{finish}
use Rattle.rules.specs.Promise.{next_cycle, cycle_of}
use Rattle.engine.specs.declared.build.Schedule.{Schedule}

-- where each transaction finishes, from number k on
abbrev pub finishes_from : Table → List Transaction → ℕ → List Command → List ℕ
finishes_from τ [] k rs = []
finishes_from τ (x ∷ xs) k rs = cycle_of (finish τ x k rs) ∷ finishes_from τ xs (suc k) rs

-- r is the answer, b and f what the two buffers hold after they were b₀ and f₀: the built schedule from the start of the one, its finishing
-- cycles from the start of the other, and all beyond as it stood
pub record Builds (τ : Table) (l : List Transaction) (b₀ b f₀ f : List ℕ) (r : Schedule) : Type 0 where
  pub schedule : List Command
  pub built : Built τ l schedule
  pub buffer : b ≡ over (bytes_of_all schedule) b₀
  pub finishes : f ≡ over (finishes_from τ l 0 schedule) f₀
  pub commands : r.commands ≡ length schedule
  pub cycles : r.cycles ≡ next_cycle (onto schedule [])
