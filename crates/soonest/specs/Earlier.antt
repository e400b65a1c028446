-- What a turn of the second engine computes of the two heads, by plain numbers.
use Rattle.std.specs.Prelude.{ℕ, max, Bool, List, ltb, eqb, get_or}
use Rattle.rules.specs.Types.{Stamp}
use Rattle.records.specs.Tests.{pick}
use Rattle.records.specs.declared.table.Table.{Table}
use Rattle.rules.specs.declared.state.Bank.{Bank}
use Rattle.rules.specs.State.{is_open}
use Rattle.heads.specs.declared.head.Head.{Head}
use Rattle.timing.specs.declared.kept.KeptGroup.{KeptGroup}
use Rattle.timing.specs.Kept.{stamp_of, quiet_kept}
use Rattle.earliest.specs.Earliest.{limit, since, gate, most_below, far_from, act_from}

-- of each number the greatest over the first n groups: the latest ACT, RD and WR of all
abbrev pub latest_of : ℕ → List KeptGroup → KeptGroup
latest_of n gs =
    record {
      act = most_below n (λ g. (get_or gs g quiet_kept).act);
      rd = most_below n (λ g. (get_or gs g quiet_kept).rd);
      wr = most_below n (λ g. (get_or gs g quiet_kept).wr);
    }

-- rule 6, by the latest ACT of the own group and of all: the long number is no less than the short one
abbrev pub six_from : Table → ℕ → ℕ → ℕ
six_from τ own latest = pick (eqb τ.groups 1) (since (stamp_of latest) τ.rrdl) (max (since (stamp_of own) τ.rrdl) (since (stamp_of latest) τ.rrd))

-- rule 9, by the latest RD and WR of the own group and of all, for a write or not, with one square within a group and one across
abbrev pub nine_from : ℕ → List (List ℕ) → List (List ℕ) → ℕ → ℕ → KeptGroup → Bool → ℕ
nine_from groups near away rd wr latest w =
    pick (eqb groups 1) (far_from near (stamp_of latest.rd) (stamp_of latest.wr) w)
    (max (far_from near (stamp_of rd) (stamp_of wr) w) (far_from away (stamp_of latest.rd) (stamp_of latest.wr) w))

-- the data queue's head, to bank k, by all but rule 9, when `acts` commands have left the ACT queue
abbrev pub ready_from : Table → Head → Bank → ℕ → ℕ
ready_from τ h k acts = pick h.there (max h.arrival (max (gate (ltb h.act acts)) (max (gate (is_open k)) (since k.act τ.rcd)))) limit

-- the ACT queue's head, an ACT to bank k
abbrev pub opens_from : Table → Head → Bank → ℕ → Stamp → Stamp → ℕ
opens_from τ h k six a4 refresh = pick h.there (max h.arrival (act_from τ k six (since a4 τ.faw) (since refresh τ.rfc))) limit
