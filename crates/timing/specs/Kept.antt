-- The running state in plain numbers, and what it tells.
use Rattle.std.specs.Prelude.{ℕ, zero, suc, Bool, map, replicate, Some, None}
use Rattle.rules.specs.Types.{Stamp}
use Rattle.records.specs.Tests.{pick}
use Rattle.rules.specs.declared.state.Bank.{Bank}
use Rattle.rules.specs.declared.state.Group.{Group}
use Rattle.rules.specs.declared.state.State.{State}
use Rattle.timing.specs.declared.kept.KeptBank.{KeptBank}
use Rattle.timing.specs.declared.kept.KeptGroup.{KeptGroup}
use Rattle.timing.specs.declared.kept.Kept.{Kept}

-- 0 is "never", and every other number is one more than the cycle
abbrev pub stamp_of : ℕ → Stamp
stamp_of zero = None
stamp_of (suc c) = Some c

abbrev pub told_bank : KeptBank → Bank
told_bank k = record { opened = k.opened; act = stamp_of k.act; rd = stamp_of k.rd; wr = stamp_of k.wr }

abbrev pub told_group : KeptGroup → Group
told_group g = record { act = stamp_of g.act; rd = stamp_of g.rd; wr = stamp_of g.wr }

unfoldable pub told : Kept → State
told s =
    record {
      edition = s.edition;
      cycle = s.cycle;
      acts = s.acts;
      datas = s.datas;
      banks = map told_bank s.banks;
      a1 = stamp_of s.a1;
      a2 = stamp_of s.a2;
      a3 = stamp_of s.a3;
      a4 = stamp_of s.a4;
      groups = map told_group s.groups;
      refresh = stamp_of s.refresh;
      lent = s.lent;
    }

abbrev pub shut_kept : KeptBank
shut_kept = record { opened = 0; act = 0; rd = 0; wr = 0 }

abbrev pub quiet_kept : KeptGroup
quiet_kept = record { act = 0; rd = 0; wr = 0 }

abbrev pub kept_fresh : ℕ → Kept
kept_fresh e =
    record {
      edition = e;
      cycle = 0;
      acts = 0;
      datas = 0;
      banks = replicate 16 shut_kept;
      a1 = 0;
      a2 = 0;
      a3 = 0;
      a4 = 0;
      groups = replicate 8 quiet_kept;
      refresh = 0;
      lent = 0;
    }

-- a bank after an ACT, and after a data command, a write or not, with auto precharge or not; `next` is the cycle after the command
abbrev pub kept_opened : ℕ → KeptBank
kept_opened next = record { opened = 1; act = next; rd = 0; wr = 0 }

abbrev pub kept_after : KeptBank → Bool → Bool → ℕ → KeptBank
kept_after k w z next = record { opened = pick z 0 1; act = k.act; rd = pick w k.rd next; wr = pick w next k.wr }

-- and the group of that bank
abbrev pub group_opened : KeptGroup → ℕ → KeptGroup
group_opened g next = record { act = next; rd = g.rd; wr = g.wr }

abbrev pub group_moved : KeptGroup → Bool → ℕ → KeptGroup
group_moved g w next = record { act = g.act; rd = pick w g.rd next; wr = pick w next g.wr }
