-- What is promised of runs of the controller.
use Rattle.std.specs.Prelude.{ℕ, ◌+◌, ◌*◌, ◌<◌, true, ◌≡◌, List, ◌++◌, length, take, drop}
use Rattle.records.specs.Told.{over}
use Rattle.records.specs.declared.table.Table.{Table}
use Rattle.records.specs.declared.transaction.Transaction.{Transaction}
use Rattle.rules.specs.Promise.{SameTold}
use Rattle.controller.specs.declared.controller.Controller.{Controller}
use Rattle.controller.specs.declared.run.RunReport.{RunReport}
use Rattle.controller.specs.Controller.{tells}
use Rattle.sound.specs.Refused.{sound}
use Rattle.controller.specs.Run.{RunLeft}

-- "n cycles and then m give the commands and state of n + m at once": `first` and `second` are the two runs, `whole` is the one
pub record Together (first second whole : RunLeft) (x y z : RunReport) (b : List ℕ) : Type 0 where
  pub controller : whole.told.controller ≡ second.told.controller
  pub commands : z.commands ≡ x.commands + y.commands
  pub cycles : z.cycles ≡ x.cycles + y.cycles
  pub buffer : whole.buffer ≡ over (take (8 * x.commands) first.buffer ++ take (8 * y.commands) second.buffer) b

-- what a run that is not refused leaves of a controller
pub record Keeps (τ : Table) (l : List Transaction) (c d : Controller) : Type 0 where
  -- number 9 refuses it for its cycle alone, so each stored cycle is before its own
  pub sound : d.cycle < 100000000 → sound τ l (tells d) ≡ true
  pub edition : d.edition ≡ c.edition
  -- "nothing kept past them is .. changed"
  pub past_banks : drop τ.banks d.banks ≡ drop τ.banks c.banks
  pub places : length d.banks ≡ length c.banks
  -- "nothing kept past the table's groups is .. changed" (document 02, request 7)
  pub past_groups : drop τ.groups d.groups ≡ drop τ.groups c.groups
  pub group_places : length d.groups ≡ length c.groups
  -- "each run is lent the whole list so far", whatever its count (document 02, request 9)
  pub lent : d.lent ≡ length l

-- "nothing kept past them is read": two controllers that tell the same of the table's banks, of its groups and of all else
pub record SameRuns (τ : Table) (v w : RunLeft) : Type 0 where
  pub answer : v.told.answer ≡ w.told.answer
  pub buffer : v.buffer ≡ w.buffer
  pub told : SameTold τ (tells v.told.controller) (tells w.told.controller)
