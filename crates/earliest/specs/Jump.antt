-- Document 02, request 12: "a second engine that goes straight to the next cycle at which a command leaves".
use Rattle.std.specs.Prelude.{ℕ, zero, suc, ◌+◌, ◌-◌, min, max, Bool, true, false, List, leb}
use Rattle.records.specs.Tests.{pick}
use Rattle.records.specs.declared.table.Table.{Table}
use Rattle.records.specs.declared.transaction.Transaction.{Transaction}
use Rattle.records.specs.declared.command.Command.{Command}
use Rattle.rules.specs.declared.state.State.{State}
use Rattle.rules.specs.State.{after}
use Rattle.rules.specs.CycleRule.{goes, push}
use Rattle.rules.specs.Run.{served, Ran}
use Rattle.earliest.specs.Earliest.{limit, act_head_from, data_head_from}

-- the state at cycle t, when nothing has gone since: idle cycles change the cycle alone
abbrev pub at_cycle : State → ℕ → State
at_cycle s t =
    record {
      edition = s.edition;
      cycle = t;
      acts = s.acts;
      datas = s.datas;
      banks = s.banks;
      a1 = s.a1;
      a2 = s.a2;
      a3 = s.a3;
      a4 = s.a4;
      groups = s.groups;
      refresh = s.refresh;
      lent = s.lent;
    }

-- the next cycle at which a command leaves; 100,000,000 or more where none does
abbrev pub leaves_at : Table → List Transaction → State → ℕ
leaves_at τ l s = max s.cycle (min (data_head_from τ l s) (act_head_from τ l s))

-- a list that is served leaves nothing to run for
abbrev pub left_of : Bool → ℕ → ℕ
left_of b n = pick b 0 n

-- where a run of n cycles ends if nothing goes before: at its count, at cycle 100,000,000, or at once
abbrev pub ends_at : Table → List Transaction → ℕ → State → ℕ
ends_at τ l n s = max s.cycle (min limit (s.cycle + left_of (served τ l s) n))

-- a run that comes i cycles later
abbrev pub later : ℕ → Ran → Ran
later i r = record { state = r.state; history = r.history; cycles = i + r.cycles }

-- a run of at most n cycles by at most f jumps: to the run's end where nothing goes before it, or else to the next command and past it
abbrev pub jumps : ℕ → ℕ → Table → List Transaction → State → List Command → Ran
jumps zero n τ l s h = record { state = s; history = h; cycles = 0 }
jumps (suc f) n τ l s h =
    elim (leb (ends_at τ l n s) (leaves_at τ l s)) [
      | true ↦ record { state = at_cycle s (ends_at τ l n s); history = h; cycles = ends_at τ l n s - s.cycle }
      | false ↦ later (leaves_at τ l s - s.cycle + 1)
          (jumps f (n - (leaves_at τ l s - s.cycle + 1)) τ l (after τ (at_cycle s (leaves_at τ l s)) (goes τ l (at_cycle s (leaves_at τ l s)))) (push (goes τ l (at_cycle s (leaves_at τ l s))) h))
    ]

-- a jump takes a cycle at least, so that n of them are enough
abbrev pub jump : ℕ → Table → List Transaction → State → List Command → Ran
jump n τ l s h = jumps n n τ l s h
