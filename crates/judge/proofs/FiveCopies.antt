-- The loop over five copies, over plain values; and what the verdict on five says of every number of copies.
-- Assumes nothing.
use Prim.Native.Nat.{ℕ, suc, ◌+◌, ◌-◌, ◌≤◌, ◌<◌}
use native.Mathlib.Numerals.{add-one}
use native.Mathlib.Omega.{arith}
use mathlib.Core.Path.{◌≡◌, refl, sym, ap, ◌∙◌}
use mathlib.Core.Bool.{Bool, true, false}
use mathlib.Core.List.{List}
use lib.Dec.{ltb}
use borrow.Author.Tests.{ltb-true, ltb-false}
use Rattle.records.specs.Tests.{pick}
use Rattle.records.specs.declared.table.Table.{Table}
use Rattle.records.specs.declared.command.Command.{Command}
use Rattle.records.specs.Command.{commands_in}
use Rattle.rules.specs.declared.state.State.{State}
use Rattle.rules.specs.declared.verdict.Rule.{Rule}
use Rattle.rules.specs.declared.verdict.Verdict.{Verdict}
use Rattle.rules.specs.declared.verdict.Verdict.TheVariants.{Accepted as Legally, Refused as Not}
use Rattle.rules.specs.declared.verdict.PatternVerdict.{PatternVerdict}
use Rattle.rules.specs.declared.verdict.PatternVerdict.TheVariants.{Accepted, Refused}
use Rattle.rules.specs.State.{fresh}
use Rattle.rules.specs.Verdict.{judge_from}
use Rattle.rules.specs.Pattern.{copy, onto, copies_from, copies}
use Rattle.rules.proofs.history.JudgeState.{Judging, judging_fresh}
use Rattle.rules.proofs.patterns.FiveDecide.{five_legal, refused_from, accepted_below}
use Rattle.judge.specs.Answer.{PatternSays}
use Rattle.copies.specs.Seen.{whole}
use Rattle.copies.proofs.Seen.{whole_next}

-- k copies are judged: the state sums them up, and the verdict on those left is that on all five
pub record Round (τ : Table) (L : ℕ) (s : List ℕ) (k : ℕ) (st : State) : Type 0 where
  pub low : k ≤ 5
  pub judging : Judging τ (whole L s k) st
  pub rest : copies_from τ L (commands_in s) (5 - k) k (whole L s k) ≡ copies τ L (commands_in s) 5

pub round_start : (τ : Table) (L : ℕ) (s : List ℕ) → Round τ L s 0 (fresh τ)
round_start τ L s = record { low = omega arith; judging = judging_fresh τ; rest = refl }

-- the verdict, by that on the next copy
abbrev go_on : Table → ℕ → List Command → ℕ → ℕ → List Command → Verdict → PatternVerdict
go_on τ L p n k h v = elim v [ Legally ↦ copies_from τ L p n (suc k) (onto (copy L p k) h) | Not x i ↦ Refused x (suc k) i ]

module _ {τ : Table} {L : ℕ} {s : List ℕ} {k : ℕ} {st : State} (q : Round τ L s k st) where
  module _ (l : k < 5) (v : Verdict) (e : v ≡ judge_from τ (copy L (commands_in s) k) 0 (whole L s k)) where
    goes : copies τ L (commands_in s) 5 ≡ go_on τ L (commands_in s) (5 - suc k) k (whole L s k) v
    goes =
        let z : 5 - k ≡ suc (5 - suc k) = omega arith in
        sym q.rest
        ∙ (ap (λ (n : ℕ). copies_from τ L (commands_in s) n k (whole L s k)) z ∙ ap (go_on τ L (commands_in s) (5 - suc k) k (whole L s k)) (sym e))

    pub round_stops : (x : Rule) (i : ℕ) → v ≡ Not x i → Refused x (k + 1) i ≡ copies τ L (commands_in s) 5
    round_stops x i f = rw (add-one k) (sym (goes ∙ ap (go_on τ L (commands_in s) (5 - suc k) k (whole L s k)) f))

    pub round_next : (st' : State) → v ≡ Legally → (v ≡ Legally → Judging τ (whole L s (suc k)) st') → Round τ L s (k + 1) st'
    round_next st' f j =
        rw (add-one k)
        (record {
          low = omega arith;
          judging = j f;
          rest =
              ap (copies_from τ L (commands_in s) (5 - suc k) (suc k)) (sym (whole_next L s k))
              ∙ sym (goes ∙ ap (go_on τ L (commands_in s) (5 - suc k) k (whole L s k)) f);
        })

  pub round_end : 5 ≤ k → Accepted ≡ copies τ L (commands_in s) 5
  round_end l =
      let z : 5 - k ≡ 0 = omega arith in
      sym (sym q.rest ∙ ap (λ (n : ℕ). copies_from τ L (commands_in s) n k (whole L s k)) z)

pub five_say : (τ : Table) (L : ℕ) (p : List Command) (v : PatternVerdict) → v ≡ copies τ L p 5 → PatternSays τ L p v
five_say τ L p Accepted e = (five_legal τ L p).0 (sym e)
five_say τ L p (Refused x c i) e = λ n. on n (ltb n c) refl
  where
    on : (n : ℕ) (b : Bool) → ltb n c ≡ b → copies τ L p n ≡ pick b Accepted (Refused x c i)
    on n true f = accepted_below τ L p 5 x c i (sym e) n (ltb-true n c f)
    on n false f = refused_from τ L p 5 x c i (sym e) n (ltb-false n c f)
