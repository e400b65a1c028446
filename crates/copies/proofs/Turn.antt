-- One turn of the loop over a copy's records, over plain values.
-- Assumes nothing.
use Rattle.std.specs.Prelude.{Some, None}
use Rattle.rules.specs.Types.{Found}
use Prim.Native.Nat.{ℕ, zero, suc, ◌+◌, ◌-◌, ◌≤◌, ◌<◌}
use native.Mathlib.Nat.{sub-zero}
use native.Mathlib.Numerals.{add-one}
use native.Mathlib.Omega.{arith}
use mathlib.Core.Path.{◌≡◌, refl, sym, ap, ◌∙◌, subst}
use mathlib.Core.Bool.{Bool}
use mathlib.Core.List.{List, ◌∷◌}
use Rattle.records.specs.Tests.{pick}
use Rattle.records.specs.declared.table.Table.{Table}
use Rattle.records.specs.declared.command.Command.{Command}
use Rattle.rules.specs.declared.state.State.{State}
use Rattle.rules.specs.declared.verdict.Rule.{Rule}
use Rattle.rules.specs.declared.verdict.Rule.TheVariants.{End}
use Rattle.rules.specs.declared.verdict.Verdict.{Verdict}
use Rattle.rules.specs.declared.verdict.Verdict.TheVariants.{Accepted, Refused}
use Rattle.rules.specs.State.{note, Held}
use Rattle.rules.specs.History.{broken}
use Rattle.rules.specs.Verdict.{all_shut, judge_from}
use Rattle.rules.proofs.history.Judged.{holds}
use Rattle.rules.proofs.history.Legal.{below}
use Rattle.rules.proofs.history.JudgeState.{Judging, judging_broken, judging_note, judging_open}
use Rattle.broken.specs.ByState.{found_by, shut_by}
use Rattle.copies.specs.Seen.{record_in, before}
use Rattle.copies.proofs.Seen.{left, left_none, left_next}

-- i records of a copy are judged: the state sums up all before the next, and the verdict on what is left is that on the whole copy
pub record Turn (τ : Table) (s : List ℕ) (d : ℕ) (h : List Command) (n i : ℕ) (st : State) : Type 0 where
  pub low : i ≤ n
  pub judging : Judging τ (before s d i h) st
  pub rest : judge_from τ (left s d (n - i) i) i (before s d i h) ≡ judge_from τ (left s d n 0) 0 h

pub turn_start : {τ : Table} {s : List ℕ} {d : ℕ} {h : List Command} {n : ℕ} {st : State} → Judging τ h st → Turn τ s d h n 0 st
turn_start q = record { low = omega arith; judging = q; rest = rw sub-zero }

-- the verdict, by what the next record breaks
abbrev go_on : Table → List Command → ℕ → Command → List Command → Found → Verdict
go_on τ rs n r h f = elim f [ None ↦ judge_from τ rs (suc n) (r ∷ h) | Some x ↦ Refused x n ]

-- x is record i
module _ {τ : Table} {s : List ℕ} {d : ℕ} {h : List Command} {n i : ℕ} {st : State} (fit : Held τ) (turn : Turn τ s d h n i st) (l : i < n)
    {x : Command} (here : record_in s d i ≡ x) where
  abbrev H : List Command
  H = before s d i h

  -- what the code finds
  abbrev found : Found
  found = found_by τ st x.kind x.cycle x.bank

  finds : broken τ x H ≡ found
  unfolding found_by
  finds = judging_broken τ fit H st turn.judging x

  abbrev rest : List Command
  rest = left s d (n - suc i) (suc i)

  goes : judge_from τ (left s d n 0) 0 h ≡ go_on τ rest i x H found
  goes =
      let z : n - i ≡ suc (n - suc i) = omega arith in
      sym turn.rest
      ∙ (ap (λ (y : ℕ). judge_from τ (left s d y i) i H) z
      ∙ (ap (λ (y : List Command). judge_from τ y i H) (left_next s d (n - suc i) i ∙ ap (λ (y : Command). y ∷ rest) here)
      ∙ ap (go_on τ rest i x H) finds))

  pub turn_stops : (y : Rule) → found ≡ Some y → Refused y i ≡ judge_from τ (left s d n 0) 0 h
  turn_stops y f = sym (goes ∙ ap (go_on τ rest i x H) f)

  pub turn_bank : found ≡ None → x.bank < 16
  turn_bank f = below τ fit x (holds τ x H (finds ∙ f) 0)

  pub turn_next : found ≡ None → Turn τ s d h n (i + 1) (note τ st x.cycle x.kind x.bank)
  turn_next f =
      rw (add-one i)
      (record {
        low = omega arith;
        judging = subst (λ (y : Command). Judging τ (y ∷ H) (note τ st x.cycle x.kind x.bank)) (sym here) (judging_note τ fit H st turn.judging x (finds ∙ f));
        rest = ap (λ (y : Command). judge_from τ rest (suc i) (y ∷ H)) here ∙ sym (goes ∙ ap (go_on τ rest i x H) f);
      })

-- rule 10, off the state
shut_same : (τ : Table) (h : List Command) (st : State) → Judging τ h st → (m : ℕ) → m ≤ 16 → all_shut m h ≡ shut_by st m
shut_same τ h st q zero l = refl
shut_same τ h st q (suc m) l = rw (judging_open τ h st q m (omega arith), shut_same τ h st q m (omega arith))

module _ {τ : Table} {s : List ℕ} {d : ℕ} {h : List Command} {n i : ℕ} {st : State} (fit : Held τ) (q : Turn τ s d h n i st) (l : n ≤ i) where
  at_end : i ≡ n
  at_end = omega (arith, q.low)

  pub turn_judging : Judging τ (before s d n h) st
  turn_judging = subst (λ (m : ℕ). Judging τ (before s d m h) st) at_end q.judging

  pub turn_end : pick (shut_by st τ.banks) Accepted (Refused End n) ≡ judge_from τ (left s d n 0) 0 h
  turn_end =
      let m : n - i ≡ 0 = omega arith in
      sym (sym q.rest
      ∙ (ap (λ (y : ℕ). judge_from τ (left s d y i) i (before s d i h)) m
      ∙ (ap (λ (y : List Command). judge_from τ y i (before s d i h)) (left_none s d i)
      ∙ (ap (λ (b : Bool). pick b Accepted (Refused End i)) (shut_same τ (before s d i h) st q.judging τ.banks fit.banks)
      ∙ ap (λ (m : ℕ). pick (shut_by st τ.banks) Accepted (Refused End m)) at_end))))
