-- "A run takes a count of cycles and stops at that count, when the list is served, or at cycle 100,000,000, whichever is first."
use Rattle.std.specs.Prelude.{ℕ, zero, suc, ◌+◌, Bool, true, false, ◌&&◌, ◌||◌, List, leb, length}
use Rattle.records.specs.declared.table.Table.{Table}
use Rattle.records.specs.declared.transaction.Transaction.{Transaction}
use Rattle.records.specs.declared.command.Command.{Command}
use Rattle.rules.specs.declared.state.State.{State}
use Rattle.rules.specs.State.{after}
use Rattle.rules.specs.Queues.{act_queue, data_queue}
use Rattle.rules.specs.CycleRule.{goes, push}

-- nothing is left in either queue
abbrev pub served : Table → List Transaction → State → Bool
served τ l s = leb (length (data_queue τ l)) s.datas && leb (length (act_queue τ l)) s.acts

abbrev pub stops : Table → List Transaction → State → Bool
stops τ l s = served τ l s || leb 100000000 s.cycle

-- n steps of the cycle rule from a state, with the history newest first
abbrev pub steps : ℕ → Table → List Transaction → State → List Command → State × List Command
steps zero τ l s h = (s, h)
steps (suc n) τ l s h = let g = goes τ l s in steps n τ l (after τ s g) (push g h)

-- what a run leaves: the state, what has gone, newest first, and "the cycles run, which is the number of steps the cycle rule took"
pub record Ran : Type 0 where
  pub state : State
  pub history : List Command
  pub cycles : ℕ

abbrev pub one_more : Ran → Ran
one_more r = record { state = r.state; history = r.history; cycles = r.cycles + 1 }

-- a run of at most n cycles
abbrev pub run : ℕ → Table → List Transaction → State → List Command → Ran
run zero τ l s h = record { state = s; history = h; cycles = 0 }
run (suc n) τ l s h =
    elim (stops τ l s) [ true ↦ record { state = s; history = h; cycles = 0 } | false ↦ one_more (run n τ l (after τ s (goes τ l s)) (push (goes τ l s) h)) ]
