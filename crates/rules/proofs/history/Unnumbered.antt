-- "The judge doesn't look at the transaction number."
-- Assumes nothing.
use Rattle.std.specs.Prelude.{Some, None}
use Rattle.rules.specs.Types.{Found}
use Prim.Native.Nat.{ℕ, zero, suc, ◌+◌}
use mathlib.Core.Path.{◌≡◌, refl, sym, ap, ◌∙◌}
use mathlib.Core.Bool.{Bool}
use mathlib.Core.List.{List, [], ◌∷◌, ◌++◌}
use lib.ListN.{length}
use Rattle.records.specs.Tests.{every, every_below}
use Rattle.records.specs.declared.table.Table.{Table}
use Rattle.records.specs.declared.command.Kind.{Kind}
use Rattle.records.specs.declared.command.Kind.TheVariants.{Act, Rd, Rda, Wr, Wra, Ref, Other}
use Rattle.records.specs.declared.command.Command.{Command}
use Rattle.records.specs.Command.{command}
use Rattle.rules.specs.declared.verdict.Verdict.{Verdict}
use Rattle.rules.specs.declared.verdict.Verdict.TheVariants.{Refused}
use Rattle.rules.specs.Kinds.{first_broken, rules_in_order}
use Rattle.rules.specs.History.{in_table, later, open_in, act_in, precharge_in, act_back, far_act, far_data, at_rest_in, far_refresh, rules_by, broken}
use Rattle.rules.specs.Verdict.{all_shut, judge_from, judge, unnumbered}
use Rattle.rules.specs.Pattern.{moved, copy, end_to_end, EveryNumberLegal}

later_same : (t : ℕ) (h : List Command) → later t (unnumbered h) ≡ later t h
later_same t [] = refl
later_same t (r ∷ h) = refl

open_same : (b : ℕ) (h : List Command) → open_in b (unnumbered h) ≡ open_in b h
open_same b [] = refl
open_same b (r ∷ h) = rw (open_same b h)

act_same : (b : ℕ) (h : List Command) → act_in b (unnumbered h) ≡ act_in b h
act_same b [] = refl
act_same b (r ∷ h) = rw (act_same b h)

back_same : (n : ℕ) (h : List Command) → act_back n (unnumbered h) ≡ act_back n h
back_same zero [] = refl
back_same (suc n) [] = refl
back_same zero (r ∷ h) = rw (back_same zero h)
back_same (suc n) (r ∷ h) = rw (back_same n h, back_same (suc n) h)

-- the verdict, by what record n breaks
abbrev go_on : Verdict → ℕ → Found → Verdict
go_on v n f = elim f [ None ↦ v | Some x ↦ Refused x n ]

module _ (τ : Table) where
  precharge_same : (b : ℕ) (h : List Command) → precharge_in τ b (unnumbered h) ≡ precharge_in τ b h
  precharge_same b [] = refl
  precharge_same b (r ∷ h) = rw (precharge_same b h)

  acts_same : (b t : ℕ) (h : List Command) → every (far_act τ b t) (unnumbered h) ≡ every (far_act τ b t) h
  acts_same b t [] = refl
  acts_same b t (r ∷ h) = rw (acts_same b t h)

  datas_same : (w : Bool) (b t : ℕ) (h : List Command) → every (far_data τ w b t) (unnumbered h) ≡ every (far_data τ w b t) h
  datas_same w b t [] = refl
  datas_same w b t (r ∷ h) = rw (datas_same w b t h)

  refreshes_same : (t : ℕ) (h : List Command) → every (far_refresh τ t) (unnumbered h) ≡ every (far_refresh τ t) h
  refreshes_same t [] = refl
  refreshes_same t (r ∷ h) = rw (refreshes_same t h)

  rest_same : (n t : ℕ) (h : List Command) → every_below n (at_rest_in τ t (unnumbered h)) ≡ every_below n (at_rest_in τ t h)
  rest_same zero t h = refl
  rest_same (suc n) t h = rw (open_same n h, precharge_same n h, rest_same n t h)

  rules_same : (k : Kind) (t b : ℕ) (h : List Command) → rules_by τ k t b (unnumbered h) ≡ rules_by τ k t b h
  rules_same Act t b h = rw (open_same b h, precharge_same b h, act_same b h, acts_same b t h, back_same 3 h, refreshes_same t h)
  rules_same Rd t b h = rw (open_same b h, act_same b h, datas_same _ b t h)
  rules_same Rda t b h = rw (open_same b h, act_same b h, datas_same _ b t h)
  rules_same Wr t b h = rw (open_same b h, act_same b h, datas_same _ b t h)
  rules_same Wra t b h = rw (open_same b h, act_same b h, datas_same _ b t h)
  rules_same Ref t b h = rw (rest_same τ.banks t h, refreshes_same t h)
  rules_same (Other n) t b h = refl

  broken_same : (r : Command) (h : List Command) → broken τ (command r.cycle r.kind r.bank 0) (unnumbered h) ≡ broken τ r h
  broken_same r h =
      ap (λ (l : List Bool). first_broken (in_table τ r.kind r.bank ∷ later r.cycle (unnumbered h) ∷ l) rules_in_order) (rules_same r.kind r.cycle r.bank h)
      ∙ ap (λ (y : Bool). first_broken (in_table τ r.kind r.bank ∷ y ∷ rules_by τ r.kind r.cycle r.bank h) rules_in_order) (later_same r.cycle h)

  shut_same : (n : ℕ) (h : List Command) → all_shut n (unnumbered h) ≡ all_shut n h
  shut_same zero h = refl
  shut_same (suc n) h = rw (open_same n h, shut_same n h)

  judge_from_same : (rs : List Command) (n : ℕ) (h : List Command) → judge_from τ (unnumbered rs) n (unnumbered h) ≡ judge_from τ rs n h
  judge_from_same [] n h = rw (shut_same τ.banks h)
  judge_from_same (r ∷ rs) n h =
      ap (go_on (judge_from τ (unnumbered rs) (suc n) (unnumbered (r ∷ h))) n) (broken_same r h) ∙ on (broken τ r h) (judge_from_same rs (suc n) (r ∷ h))
    where
      on : (f : Found) → judge_from τ (unnumbered rs) (suc n) (unnumbered (r ∷ h)) ≡ judge_from τ rs (suc n) (r ∷ h)
          → go_on (judge_from τ (unnumbered rs) (suc n) (unnumbered (r ∷ h))) n f ≡ go_on (judge_from τ rs (suc n) (r ∷ h)) n f
      on None ih = ih
      on (Some x) ih = refl

  pub judge_same : (rs : List Command) → judge τ (unnumbered rs) ≡ judge τ rs
  judge_same rs = judge_from_same rs 0 []

pub length_unnumbered : (rs : List Command) → length (unnumbered rs) ≡ length rs
length_unnumbered [] = refl
length_unnumbered (r ∷ rs) = ap suc (length_unnumbered rs)

-- ---- copies of a pattern

unnumbered_append : (a b : List Command) → unnumbered (a ++ b) ≡ unnumbered a ++ unnumbered b
unnumbered_append [] b = refl
unnumbered_append (r ∷ a) b = ap (λ (l : List Command). command r.cycle r.kind r.bank 0 ∷ l) (unnumbered_append a b)

unnumbered_moved : (d : ℕ) (p : List Command) → unnumbered (moved d p) ≡ moved d (unnumbered p)
unnumbered_moved d [] = refl
unnumbered_moved d (r ∷ p) = ap (λ (l : List Command). command (r.cycle + d) r.kind r.bank 0 ∷ l) (unnumbered_moved d p)

module _ (L : ℕ) (p : List Command) where
  unnumbered_copies : (n k : ℕ) → unnumbered (end_to_end L p n k) ≡ end_to_end L (unnumbered p) n k
  unnumbered_copies zero k = refl
  unnumbered_copies (suc n) k =
      unnumbered_append (copy L p k) (end_to_end L p n (suc k))
      ∙ (ap (λ (l : List Command). l ++ unnumbered (end_to_end L p n (suc k))) (unnumbered_moved _ p)
      ∙ ap (λ (l : List Command). copy L (unnumbered p) k ++ l) (unnumbered_copies n (suc k)))

  pub legal_unnumbered : (τ : Table) → EveryNumberLegal τ L p → EveryNumberLegal τ L (unnumbered p)
  legal_unnumbered τ f n = ap (judge τ) (sym (unnumbered_copies n 0)) ∙ (judge_same τ (end_to_end L p n 0) ∙ f n)
