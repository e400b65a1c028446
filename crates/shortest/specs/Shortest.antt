-- Document 02, request 11: "The shortest pattern".
use Rattle.std.specs.Prelude.{ℕ, zero, suc, ◌≤◌, ◌<◌, Bool, true, ◌&&◌, ◌||◌, ◌≡◌, ◌⊎◌, List, [], ◌∷◌, ltb, eqb}
use Rattle.std.proofs.Math.Option.{some}
use Rattle.std.proofs.Math.ListN.{get_elem?}
use Rattle.records.specs.Tests.{pick, every}
use Rattle.records.specs.declared.table.Table.{Table}
use Rattle.records.specs.declared.command.Kind.{Kind}
use Rattle.records.specs.declared.command.Kind.TheVariants.{Act}
use Rattle.records.specs.declared.command.Command.{Command}
use Rattle.records.specs.Command.{command, kind_number}
use Rattle.rules.specs.declared.verdict.PatternVerdict.TheVariants.{Accepted}
use Rattle.rules.specs.Queues.{data_kind, numbered}
use Rattle.rules.specs.Verdict.{unnumbered}
use Rattle.judge.specs.Answer.{PatternSays}

-- the kinds of the records to bank b, in order
abbrev pub kinds_to : ℕ → List Command → List Kind
kinds_to b [] = []
kinds_to b (r ∷ rs) = pick (eqb r.bank b) (r.kind ∷ kinds_to b rs) (kinds_to b rs)

-- what a bank gets m-th, from 0, in a write or not: its ACT, then data commands, the BC-th of which closes it
abbrev pub kind_at : Bool → ℕ → ℕ → Kind
kind_at w bc zero = Act
kind_at w bc (suc m) = data_kind w (eqb (suc m) bc)

-- "opened once and given its BC data commands, the last closing it"
abbrev pub bank_kinds : Bool → ℕ → List Kind
bank_kinds w bc = numbered (kind_at w bc) (suc bc) 0

-- a pattern of length L for a type (a write or not), BI and BC; "Banks may come in any order", and its records may carry any transaction numbers
pub record IsPattern (τ : Table) (w : Bool) (bi bc L : ℕ) (p : List Command) : Type 0 where
  -- "starting with the ACT of bank 0 at cycle 0"
  pub starts : get_elem? (unnumbered p) 0 ≡ some (command 0 Act 0 0)
  -- "each bank below BI opened once and given its BC data commands, the last closing it", and no other bank reached
  pub banks : (b : ℕ) → kinds_to b p ≡ pick (ltb b bi) (bank_kinds w bc) []
  -- "no command past cycle L − 1"
  pub within : every (λ r. ltb r.cycle L) p ≡ true
  -- "is accepted by the pattern judge": every number of copies, set end to end, is a legal schedule
  pub accepted : PatternSays τ L p Accepted

-- "compared in order by cycle, then kind, then bank"
abbrev pub earlier : Command → Command → Bool
earlier r s =
    ltb r.cycle s.cycle
    || (eqb r.cycle s.cycle && (ltb (kind_number r.kind) (kind_number s.kind)
    || (eqb (kind_number r.kind) (kind_number s.kind) && ltb r.bank s.bank)))

-- two records that are compared as one
abbrev pub Alike : Command → Command → Type 0
Alike r s = (r.cycle ≡ s.cycle) × (r.kind ≡ s.kind) × (r.bank ≡ s.bank)

-- the records of p come first, or are compared as those of q: at the first record that differs, p's is earlier
abbrev pub NoLater : List Command → List Command → Type 0
NoLater [] q = Unit {0}
NoLater (r ∷ p) [] = ⊥
NoLater (r ∷ p) (s ∷ q) = (earlier r s ≡ true) ⊎ (Alike r s × NoLater p q)

-- "the least L for which some pattern .. is accepted", and "Among patterns of that L .. the one whose records .. come first"
pub record Shortest (τ : Table) (w : Bool) (bi bc most L : ℕ) (p : List Command) : Type 0 where
  pub inside : L ≤ most
  pub is : IsPattern τ w bi bc L p
  -- "the records carry transaction number 0"
  pub numbers : every (λ r. eqb r.number 0) p ≡ true
  pub least : (M : ℕ) → M < L → (q : List Command) → IsPattern τ w bi bc M q → ⊥
  pub first : (q : List Command) → IsPattern τ w bi bc L q → NoLater p q

-- "none exists up to the greatest length"
abbrev pub NoneUpTo : Table → Bool → ℕ → ℕ → ℕ → Type 0
NoneUpTo τ w bi bc most = (L : ℕ) → L ≤ most → (p : List Command) → IsPattern τ w bi bc L p → ⊥
