-- The judge accepts exactly the records of which none breaks a rule against those before it, and which leave no bank open.
-- Assumes nothing.
use Rattle.std.specs.Prelude.{Some, None}
use Rattle.rules.specs.Types.{Found}
use Prim.Native.Nat.{ℕ, suc, ◌≤◌, ◌<◌}
use native.Mathlib.Omega.{arith}
use mathlib.Core.Path.{◌≡◌, refl, sym, ap, ◌∙◌}
use mathlib.Core.Bool.{Bool, true, false, not, ◌&&◌, ◌||◌}
use mathlib.Core.List.{List, [], ◌∷◌}
use lib.Dec.{ltb, eqb}
use lib.ListN.{length, get_or}
use borrow.Author.Tests.{ltb-true}
use Rattle.records.specs.Tests.{pick, all_of}
use Rattle.records.specs.declared.table.Table.{Table}
use Rattle.records.specs.declared.command.Kind.{Kind}
use Rattle.records.specs.declared.command.Kind.TheVariants.{Act, Rd, Rda, Wr, Wra, Ref, Other}
use Rattle.records.specs.declared.command.Command.{Command}
use Rattle.rules.specs.declared.verdict.Rule.{Rule}
use Rattle.rules.specs.declared.verdict.Rule.TheVariants.{End}
use Rattle.rules.specs.declared.verdict.Verdict.TheVariants.{Accepted, Refused}
use Rattle.rules.specs.Kinds.{is_ref, is_known, first_broken, rules_in_order}
use Rattle.rules.specs.History.{in_table, later, rules_by, rules, broken, is_fine}
use Rattle.rules.specs.Verdict.{all_shut, judge_from}
use Rattle.rules.specs.Pattern.{onto}
use Rattle.rules.proofs.laws.TestLaws.{true_false, to_T, and_fst, and_snd, and_at}
use Rattle.rules.proofs.history.Newest.{Rising}

-- with a rule for each test, none is broken exactly when all hold
pub fine_all : (ts : List Bool) (rs : List Rule) → length ts ≤ length rs → is_fine (first_broken ts rs) ≡ all_of ts
fine_all [] rs l = refl
fine_all (t ∷ ts) [] l = absurd (omega arith)
fine_all (true ∷ ts) (r ∷ rs) l = fine_all ts rs (omega arith)
fine_all (false ∷ ts) (r ∷ rs) l = refl

pub is_fine_lem : (f : Found) → is_fine f ≡ true → f ≡ None
is_fine_lem None e = refl
is_fine_lem (Some r) e = true_false false e refl

module _ (τ : Table) (r : Command) (h : List Command) where
  few : (k : Kind) (t b : ℕ) → length (rules_by τ k t b h) ≤ 9
  few Act t b = omega arith
  few Rd t b = omega arith
  few Rda t b = omega arith
  few Wr t b = omega arith
  few Wra t b = omega arith
  few Ref t b = omega arith
  few (Other n) t b = omega arith

  pub fine_rules : is_fine (broken τ r h) ≡ all_of (rules τ r h)
  fine_rules = fine_all (rules τ r h) rules_in_order (omega (arith, few r.kind r.cycle r.bank))

  -- of a record that breaks no rule: 0 rule 1, 1 rule 2, 2 the others
  pub holds : broken τ r h ≡ None → (i : ℕ) → get_or (in_table τ r.kind r.bank ∷ later r.cycle h ∷ []) i (all_of (rules_by τ r.kind r.cycle r.bank h)) ≡ true
  holds e i =
      and_at (in_table τ r.kind r.bank ∷ later r.cycle h ∷ []) (all_of (rules_by τ r.kind r.cycle r.bank h)) i
      (sym fine_rules ∙ ap is_fine e)

-- rule 1: a kind that is known, a bank of the table
pub in_known : (τ : Table) (k : Kind) (b : ℕ) → in_table τ k b ≡ true → is_known k ≡ true
in_known τ k b e = and_fst (is_known k) (ltb b τ.banks && (not (is_ref k) || eqb b 0)) e

pub in_bank : (τ : Table) (k : Kind) (b : ℕ) → in_table τ k b ≡ true → b < τ.banks
in_bank τ k b e =
    ltb-true b τ.banks (and_fst (ltb b τ.banks) (not (is_ref k) || eqb b 0) (and_snd (is_known k) (ltb b τ.banks && (not (is_ref k) || eqb b 0)) e))

-- each record breaks no rule against those before it
abbrev pub LegalHistory : Table → List Command → Type 0
LegalHistory τ [] = Unit {0}
LegalHistory τ (r ∷ h) = (broken τ r h ≡ None) × LegalHistory τ h

pub legal_rising : (τ : Table) (h : List Command) → LegalHistory τ h → Rising h
legal_rising τ [] k = tt
legal_rising τ (r ∷ h) k = (to_T (later r.cycle h) (holds τ r h k.0 1), legal_rising τ h k.1)

pub legal_older : (τ : Table) (rs h : List Command) → LegalHistory τ (onto rs h) → LegalHistory τ h
legal_older τ [] h k = k
legal_older τ (r ∷ rs) h k = (legal_older τ rs (r ∷ h) k).1

pub legal_accepted : (τ : Table) (rs : List Command) (n : ℕ) (h : List Command) → LegalHistory τ (onto rs h) → all_shut τ.banks (onto rs h) ≡ true
    → judge_from τ rs n h ≡ Accepted
legal_accepted τ [] n h k e = rw e
legal_accepted τ (r ∷ rs) n h k e = rw ((legal_older τ rs (r ∷ h) k).0, judge_from) (legal_accepted τ rs (suc n) (r ∷ h) k e)

pub accepted_legal : (τ : Table) (rs : List Command) (n : ℕ) (h : List Command) → LegalHistory τ h → judge_from τ rs n h ≡ Accepted
    → LegalHistory τ (onto rs h) × (all_shut τ.banks (onto rs h) ≡ true)
accepted_legal τ [] n h k e = (k, on (all_shut τ.banks h) e)
  where
    on : (b : Bool) → pick b Accepted (Refused End n) ≡ Accepted → b ≡ true
    on true e = refl
    on false e = cc
accepted_legal τ (r ∷ rs) n h k e = on (broken τ r h) refl e (accepted_legal τ rs (suc n) (r ∷ h))
  where
    on : (b : Found) → broken τ r h ≡ b → (elim b [ None ↦ judge_from τ rs (suc n) (r ∷ h) | Some x ↦ Refused x n ]) ≡ Accepted
        → (LegalHistory τ (r ∷ h) → judge_from τ rs (suc n) (r ∷ h) ≡ Accepted → LegalHistory τ (onto rs (r ∷ h)) × (all_shut τ.banks (onto rs (r ∷ h)) ≡ true))
        → LegalHistory τ (onto rs (r ∷ h)) × (all_shut τ.banks (onto rs (r ∷ h)) ≡ true)
    on None b e ih = ih (b, k) e
    on (Some x) b e ih = let z : ◌≡◌ {A = ℕ} 0 1 = cc in absurd (omega arith)
