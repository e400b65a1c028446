-- The host's controller: plain numbers, and the state that they tell.
use Rattle.std.specs.Prelude.{ℕ, min, ◌≤◌, Bool, true, ◌≡◌, [], ◌∷◌, map, leb, eqb, length, get_or, Some, None}
use Rattle.rules.specs.Types.{Stamp}
use Rattle.records.specs.Tests.{pick, every}
use Rattle.records.specs.declared.table.Table.{Table}
use Rattle.rules.specs.declared.state.Bank.{Bank}
use Rattle.rules.specs.declared.state.Group.{Group}
use Rattle.rules.specs.declared.state.State.{State}
use Rattle.rules.specs.State.{fresh}
use Rattle.controller.specs.declared.controller.HostBank.{HostBank}
use Rattle.controller.specs.declared.controller.HostGroup.{HostGroup}
use Rattle.controller.specs.declared.controller.Controller.{Controller}

-- "Any of these cycles may be "never"", which is the number 4294967295
abbrev pub stamp_of : ℕ → Stamp
stamp_of x = pick (eqb x 4294967295) None (Some x)

-- and back. A cycle that does not fit, which no run reaches, is written as "never"
abbrev pub number_of : Stamp → ℕ
number_of None = 4294967295
number_of (Some c) = min c 4294967295

-- "for each of the table's banks .. whether it's open, and the cycles of its last ACT and of the last RD and WR since"
abbrev pub bank_tells : HostBank → Bank
bank_tells k = record { opened = k.opened; act = stamp_of k.act; rd = stamp_of k.rd; wr = stamp_of k.wr }

abbrev pub bank_kept : Bank → HostBank
bank_kept k = record { opened = k.opened; act = number_of k.act; rd = number_of k.rd; wr = number_of k.wr }

-- "the latest read and write of each group, and the running state tells these, .. and the group's latest ACT" (document 02, request 7)
abbrev pub group_tells : HostGroup → Group
group_tells g = record { act = stamp_of g.act; rd = stamp_of g.rd; wr = stamp_of g.wr }

abbrev pub group_kept : Group → HostGroup
group_kept g = record { act = number_of g.act; rd = number_of g.rd; wr = number_of g.wr }

-- "A state tells: the edition it was started under; its cycle, the next to be tried; how many commands have left each queue; [the banks];
-- the cycles of the last four ACTs"; "the latest read and write of each group .., in place of those of all, and the group's latest ACT" (document
-- 02, request 7); it "tells the last REF's cycle" (request 5), and "how many of [the list] were lent before" (request 9).
unfoldable pub tells : Controller → State
tells c =
    record {
      edition = c.edition;
      cycle = c.cycle;
      acts = c.acts;
      datas = c.datas;
      banks = map bank_tells c.banks;
      a1 = stamp_of (get_or c.last 0 0);
      a2 = stamp_of (get_or c.last 1 0);
      a3 = stamp_of (get_or c.last 2 0);
      a4 = stamp_of (get_or c.last 3 0);
      groups = map group_tells c.groups;
      refresh = stamp_of c.refresh;
      lent = c.lent;
    }

-- the controller that tells a state
unfoldable pub kept : State → Controller
kept s =
    record {
      edition = s.edition;
      cycle = min s.cycle 4294967295;
      acts = s.acts;
      datas = s.datas;
      banks = map bank_kept s.banks;
      last = number_of s.a1 ∷ number_of s.a2 ∷ number_of s.a3 ∷ number_of s.a4 ∷ [];
      groups = map group_kept s.groups;
      refresh = number_of s.refresh;
      lent = s.lent;
    }

-- "A fresh state has the table's edition, cycle 0, all banks closed and "never" throughout."
abbrev pub fresh_controller : Table → Controller
fresh_controller τ = kept (fresh τ)

-- the ranges that the controller's types keep
abbrev pub in32 : ℕ → Bool
in32 x = leb x 4294967295

pub record Ranged (c : Controller) : Type 0 where
  pub cycle : c.cycle ≤ 4294967295
  pub banks : every (λ k. every in32 (k.act ∷ k.rd ∷ k.wr ∷ [])) c.banks ≡ true
  pub places : length c.banks ≡ 16
  pub four : length c.last ≡ 4
  pub last : every in32 c.last ≡ true
  pub groups : every (λ k. every in32 (k.act ∷ k.rd ∷ k.wr ∷ [])) c.groups ≡ true
  pub group_places : length c.groups ≡ 8
  pub refresh : c.refresh ≤ 4294967295
