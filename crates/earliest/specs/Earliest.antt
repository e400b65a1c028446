-- Document 02, request 12: every rule is a cycle from which on it is not broken, while nothing goes; so a head is free from the greatest of them on.
use Rattle.std.specs.Prelude.{ℕ, zero, suc, ◌+◌, min, max, Bool, true, false, not, List, [], ◌∷◌, ltb, eqb, get_or, Some, None}
use Rattle.std.proofs.Math.Option.{Option, none, some}
use Rattle.rules.specs.Types.{Stamp}
use Rattle.records.specs.declared.table.Table.{Table}
use Rattle.records.specs.declared.transaction.Transaction.{Transaction}
use Rattle.records.specs.declared.command.Kind.{Kind}
use Rattle.records.specs.declared.command.Kind.TheVariants.{Act, Rd, Rda, Wr, Wra, Ref, Other}
use Rattle.rules.specs.declared.state.Bank.{Bank}
use Rattle.rules.specs.declared.state.Group.{Group}
use Rattle.rules.specs.declared.state.State.{State}
use Rattle.rules.specs.Bound.{greatest}
use Rattle.rules.specs.Square.{group_of, rrd_of, square, side, cell, write_tail}
use Rattle.rules.specs.State.{is_open, bank_of, quiet}
use Rattle.rules.specs.Queues.{Due, act_queue, data_queue, head_after}

-- the cycle that no run goes past: "or at cycle 100,000,000, whichever is first"
abbrev pub limit : ℕ
limit = 100000000

-- the first cycle that is d past a stamp; "never" holds nothing up, and a stamp that no run reaches holds up to the limit at least
abbrev pub since : Stamp → ℕ → ℕ
since None d = 0
since (Some c) d = min limit c + d

-- a test that no idle cycle changes: it holds from the start on, or in no cycle of a run
abbrev pub gate : Bool → ℕ
gate true = 0
gate false = limit

-- the greatest that f gives of the numbers below n
abbrev pub most_below : ℕ → (ℕ → ℕ) → ℕ
most_below zero f = 0
most_below (suc n) f = max (f n) (most_below n f)

-- rule 4
abbrev pub charged_from : Table → Bank → ℕ
charged_from τ k = greatest (since k.act (τ.ras + τ.rp) ∷ since k.rd (τ.rtp + τ.rp) ∷ since k.wr (write_tail τ + τ.rp) ∷ [])

-- rule 6, over the groups, for an ACT to a bank of the group `own`
abbrev pub acts_from : Table → List Group → ℕ → ℕ
acts_from τ gs own = most_below τ.groups (λ g. since (get_or gs g quiet).act (rrd_of τ (eqb g own)))

-- rule 9 by a square of distances, the last RD and the last WR of a group, for a write or not
abbrev pub far_from : List (List ℕ) → Stamp → Stamp → Bool → ℕ
far_from q rd wr w = max (since rd (cell q 0 (side w))) (since wr (cell q 1 (side w)))

-- rule 9, over the groups, for a data command to a bank of the group `own`, a write or not
abbrev pub datas_from : Table → List Group → ℕ → Bool → ℕ
datas_from τ gs own w = most_below τ.groups (λ g. far_from (square τ (eqb g own)) (get_or gs g quiet).rd (get_or gs g quiet).wr w)

-- rule 11, over the banks
abbrev pub rest_from : Table → Bank → ℕ
rest_from τ k = max (gate (not (is_open k))) (charged_from τ k)

abbrev pub rests_from : Table → State → ℕ
rests_from τ s = most_below τ.banks (λ b. rest_from τ (bank_of s b))

-- rules 3 to 12 for an ACT to bank k; from `six`, `seven` and `twelve` on rules 6, 7 and 12 are kept
abbrev pub act_from : Table → Bank → ℕ → ℕ → ℕ → ℕ
act_from τ k six seven twelve =
    greatest (gate (not (is_open k)) ∷ charged_from τ k ∷ since k.act τ.rc ∷ six ∷ seven ∷ twelve ∷ [])

-- rules 3, 8 and 9 for a data command to bank k; from `nine` on rule 9 is kept
abbrev pub data_from : Table → Bank → ℕ → ℕ
data_from τ k nine = greatest (gate (is_open k) ∷ since k.act τ.rcd ∷ nine ∷ [])

-- the cycle from which on a command of a kind to bank b breaks no rule by what a state tells, while nothing goes
abbrev pub free_from : Table → State → Kind → ℕ → ℕ
free_from τ s Act b = act_from τ (bank_of s b) (acts_from τ s.groups (group_of τ b)) (since s.a4 τ.faw) (since s.refresh τ.rfc)
free_from τ s Rd b = data_from τ (bank_of s b) (datas_from τ s.groups (group_of τ b) false)
free_from τ s Rda b = data_from τ (bank_of s b) (datas_from τ s.groups (group_of τ b) false)
free_from τ s Wr b = data_from τ (bank_of s b) (datas_from τ s.groups (group_of τ b) true)
free_from τ s Wra b = data_from τ (bank_of s b) (datas_from τ s.groups (group_of τ b) true)
free_from τ s Ref b = max (rests_from τ s) (since s.refresh τ.rfc)
free_from τ s (Other n) b = 0

-- of the head of a queue, if one stands there
abbrev pub head_from : (Due → ℕ) → Option Due → ℕ
head_from f none = limit
head_from f (some d) = f d

-- a command of the ACT queue, which is seen from its arrival on
abbrev pub act_due_from : Table → State → Due → ℕ
act_due_from τ s d = max d.arrival (free_from τ s d.kind d.bank)

-- a data command, which must have had its ACT besides
abbrev pub data_due_from : Table → State → Due → ℕ
data_due_from τ s d = greatest (d.arrival ∷ gate (ltb d.act s.acts) ∷ free_from τ s d.kind d.bank ∷ [])

-- the heads of the two queues
abbrev pub act_head_from : Table → List Transaction → State → ℕ
act_head_from τ l s = head_from (act_due_from τ s) (head_after (act_queue τ l) s.acts)

abbrev pub data_head_from : Table → List Transaction → State → ℕ
data_head_from τ l s = head_from (data_due_from τ s) (head_after (data_queue τ l) s.datas)
