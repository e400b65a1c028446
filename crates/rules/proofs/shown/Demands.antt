-- Demands 2 and 3 hold of the definitions.
-- Assumes nothing.
use Rattle.std.specs.Prelude.{Some, None}
use Rattle.rules.specs.Types.{Found}
use Prim.Native.Nat.{ℕ, zero, suc, ◌+◌}
use native.Mathlib.Omega.{arith}
use mathlib.Core.Bool.{Bool, true, false}
use mathlib.Core.Path.{◌≡◌, refl, sym, ap, ◌∙◌, subst}
use mathlib.Core.Logic.{◌⊎◌, inl, inr, ⊎_elim}
use mathlib.Core.List.{List, [], ◌∷◌}
use lib.ListN.{length}
use Rattle.records.specs.declared.table.Table.{Table}
use Rattle.records.specs.declared.transaction.Transaction.{Transaction}
use Rattle.records.specs.declared.command.Command.{Command}
use Rattle.records.specs.Tests.{pick}
use Rattle.records.specs.Table.{Accepted}
use Rattle.records.specs.Transaction.{list_fits}
use Rattle.rules.specs.declared.verdict.Rule.{Rule}
use Rattle.rules.specs.declared.verdict.Rule.TheVariants.{End}
use Rattle.rules.specs.declared.verdict.Verdict.{Verdict}
use Rattle.rules.specs.declared.verdict.Verdict.TheVariants.{Accepted as Passed, Refused}
use Rattle.rules.specs.History.{broken}
use Rattle.rules.specs.Verdict.{all_shut, judge_from}
use Rattle.rules.specs.Pattern.{onto}
use Rattle.rules.specs.Demands.{FineTo, BrokenAt, OpenAtEnd, FirstBroken, Demand2, Demand3}
use Rattle.rules.proofs.shown.Built.{by_state}
use Rattle.rules.proofs.patterns.FiveDecide.{five_legal, refused_from, accepted_below}
use Rattle.rules.proofs.shown.Promises.{promise}

-- a record that breaks no rule, in front
fine_first : (τ : Table) (h : List Command) (r : Command) (rs : List Command) (n : ℕ) → broken τ r h ≡ None → FineTo τ (r ∷ h) rs n → FineTo τ h (r ∷ rs) (suc n)
fine_first τ h r rs n e f zero q k g = ap (λ (c : Command). broken τ c h) (sym same) ∙ e
  where
    same : r ≡ q
    same = cc
fine_first τ h r rs n e f (suc i) q k g = f i q (omega arith) g

fine_rest : (τ : Table) (h : List Command) (r : Command) (rs : List Command) (n : ℕ) → FineTo τ h (r ∷ rs) (suc n) → FineTo τ (r ∷ h) rs n
fine_rest τ h r rs n f i q k g = f (suc i) q (omega arith) g

none_yet : (τ : Table) (h rs : List Command) → FineTo τ h rs 0
none_yet τ h rs i r k g = absurd (omega arith)

-- the verdict by what the record in front breaks
abbrev verdict_on : Table → List Command → ℕ → Command → List Command → Found → Verdict
verdict_on τ rs n r h f = elim f [ None ↦ judge_from τ rs (suc n) (r ∷ h) | Some x ↦ Refused x n ]

accepts_only : (τ : Table) (rs : List Command) (n : ℕ) (h : List Command) → judge_from τ rs n h ≡ Passed → FineTo τ h rs (length rs) × (all_shut τ.banks (onto rs h) ≡ true)
accepts_only τ [] n h e = (none_yet τ h [], on (all_shut τ.banks h) e)
  where
    on : (b : Bool) → pick b Passed (Refused End n) ≡ Passed → b ≡ true
    on true e = refl
    on false e = cc
accepts_only τ (r ∷ rs) n h e = on (broken τ r h) refl e (accepts_only τ rs (suc n) (r ∷ h))
  where
    on : (f : Found) → broken τ r h ≡ f → verdict_on τ rs n r h f ≡ Passed
        → (judge_from τ rs (suc n) (r ∷ h) ≡ Passed → FineTo τ (r ∷ h) rs (length rs) × (all_shut τ.banks (onto rs (r ∷ h)) ≡ true))
        → FineTo τ h (r ∷ rs) (suc (length rs)) × (all_shut τ.banks (onto rs (r ∷ h)) ≡ true)
    on None b e ih = (fine_first τ h r rs (length rs) b (ih e).0, (ih e).1)
    on (Some x) b e ih = let z : ◌≡◌ {A = ℕ} 0 1 = cc in absurd (omega arith)

accepts_all : (τ : Table) (rs : List Command) (n : ℕ) (h : List Command) → FineTo τ h rs (length rs) → all_shut τ.banks (onto rs h) ≡ true → judge_from τ rs n h ≡ Passed
accepts_all τ [] n h f e = rw e
accepts_all τ (r ∷ rs) n h f e =
    rw (f zero r (omega arith) refl, judge_from) (accepts_all τ rs (suc n) (r ∷ h) (fine_rest τ h r rs (length rs) f) e)

-- a refusal at k is at record k − n of those left
pub names_from : (τ : Table) (rs : List Command) (n : ℕ) (h : List Command) (x : Rule) (k : ℕ) → judge_from τ rs n h ≡ Refused x k
    → (i : ℕ) × (k ≡ n + i) × FirstBroken τ h rs x i
names_from τ [] n h x k e = on (all_shut τ.banks h) refl e
  where
    on : (b : Bool) → all_shut τ.banks h ≡ b → pick b Passed (Refused End n) ≡ Refused x k → (i : ℕ) × (k ≡ n + i) × FirstBroken τ h [] x i
    on true p e = let z : ◌≡◌ {A = ℕ} 0 1 = cc in absurd (omega arith)
    on false p e =
        let same : n ≡ k = cc in
        let rule : End ≡ x = cc in
        (0, omega arith, (none_yet τ h [], inr (sym rule, refl, p)))
names_from τ (r ∷ rs) n h x k e = on (broken τ r h) refl e (names_from τ rs (suc n) (r ∷ h) x k)
  where
    further : (i : ℕ) → BrokenAt τ (r ∷ h) rs x i ⊎ OpenAtEnd τ (r ∷ h) rs x i → BrokenAt τ h (r ∷ rs) x (suc i) ⊎ OpenAtEnd τ h (r ∷ rs) x (suc i)
    further i w = ⊎_elim (λ b. inl b) (λ o. inr (o.0, ap suc o.1, o.2)) w

    on : (f : Found) → broken τ r h ≡ f → verdict_on τ rs n r h f ≡ Refused x k
        → (judge_from τ rs (suc n) (r ∷ h) ≡ Refused x k → (i : ℕ) × (k ≡ suc n + i) × FirstBroken τ (r ∷ h) rs x i)
        → (i : ℕ) × (k ≡ n + i) × FirstBroken τ h (r ∷ rs) x i
    on None b e ih =
        let y = ih e in
        (suc y.0, omega (arith, y.1), (fine_first τ h r rs y.0 b y.2.0, further y.0 y.2.1))
    on (Some z) b e ih =
        let same : n ≡ k = cc in
        let rule : z ≡ x = cc in
        (0, omega arith, (none_yet τ h (r ∷ rs), inl (r, refl, b ∙ ap Some rule)))

pub demand_2 : Demand2
demand_2 =
    record {
      rule = λ τ l acc fit n. sym (by_state τ acc l fit n);
      accepts = λ τ rs. (accepts_only τ rs 0 [], λ z. accepts_all τ rs 0 [] z.0 z.1);
      names = λ τ rs x i e. let y = names_from τ rs 0 [] x i e in subst (λ (k : ℕ). FirstBroken τ [] rs x k) (omega (arith, y.1)) y.2;
      pattern = five_legal;
      lowest = λ τ L p x c i e. (accepted_below τ L p 5 x c i e, refused_from τ L p 5 x c i e);
    }

pub demand_3 : (τ : Table) (l : List Transaction) → Accepted τ → list_fits τ l ≡ true → Demand3 τ l
demand_3 τ l acc fit =
    let k = promise τ acc l fit in
    record {
      schedule = k.0;
      built = k.1.built;
      only = k.1.only;
      passes = k.1.passes;
      served = k.1.finishes;
      first = k.1.first_in;
      next = k.1.next_in;
      first_finish = k.1.first_finish;
      next_finish = k.1.next_finish;
      fits = k.1.finish_fits;
      unmoved = k.1.unmoved;
    }
