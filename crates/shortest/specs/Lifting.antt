-- Lower bounds of a pattern's cycles for one order of its commands, and what is set out at them, copy after copy.
use Rattle.std.specs.Prelude.{ℕ, suc, ◌+◌, ◌*◌, ◌≤◌, ◌<◌, Bool, true, false, ◌≡◌, List, [], ◌∷◌, eqb, take, None}
use Rattle.rules.specs.Types.{Stamp}
use Rattle.rules.specs.Types.{Found}
use Rattle.records.specs.Tests.{pick}
use Rattle.records.specs.declared.table.Table.{Table}
use Rattle.records.specs.declared.command.Kind.{Kind}
use Rattle.records.specs.declared.command.Command.{Command}
use Rattle.rules.specs.declared.state.Bank.{Bank}
use Rattle.rules.specs.declared.state.Group.{Group}
use Rattle.rules.specs.declared.state.State.{State}
use Rattle.rules.specs.Pattern.{moved, onto}
use Rattle.rules.proofs.history.JudgeState.{Judging}
use Rattle.rules.proofs.patterns.Copies.{after_copies}
use Rattle.broken.specs.ByState.{groups_far, found_on}
use Rattle.shortest.specs.Shortest.{IsPattern}
use Rattle.shortest.specs.Search.{Below, Under, Capped, Hopeless}

-- a history of the same commands, none later
abbrev pub Lower : List Command → List Command → Type 0
Lower [] [] = Unit {0}
Lower [] (r ∷ h) = ⊥
Lower (x ∷ l) [] = ⊥
Lower (x ∷ l) (r ∷ h) = Below x r × Lower l h

-- the history before record i of copy c + 1
abbrev pub seen : ℕ → List Command → ℕ → ℕ → List Command
seen L p c i = onto (moved (L * c) (take i p)) (after_copies L p c)

-- what a record of a kind to bank k of the group `own` breaks at a cycle, off the parts of a state that the rules read
abbrev pub found_at : Table → ℕ → Bank → List Group → ℕ → Stamp → Stamp → Kind → ℕ → Found
found_at τ cycle k gs own a4 refresh kind c = found_on τ cycle k (groups_far τ gs own kind c) a4 refresh kind c

-- r is the first cycle from `from` on at which f finds no rule broken, or it is above lim
pub record Scanned (f : ℕ → Found) (from lim r : ℕ) : Type 0 where
  pub low : from ≤ r
  pub before : (c : ℕ) → from ≤ c → c < r → f c ≡ None → ⊥
  pub fine : r ≤ lim → f r ≡ None

-- up to where a record may go in a copy that is `off` cycles later: a placed one not past its bound, the others to the last cycle of the copy
pub record Limit (placed : Bool) (bound L off lim : ℕ) : Type 0 where
  pub capped : placed ≡ true → lim ≡ bound
  pub free : placed ≡ false → lim + 1 ≡ L + off

-- the place after i in a pattern of n records, the first after the last; and how many cycles later the copy is that it stands in
abbrev pub next_place : ℕ → ℕ → ℕ
next_place n i = pick (eqb (i + 1) n) 0 (i + 1)

abbrev pub next_shift : ℕ → ℕ → ℕ → ℕ → ℕ
next_shift n i L off = pick (eqb (i + 1) n) (off + L) off

-- i records of copy c + 1 are set out, at cycles that x and the copy tell: whatever pattern x₀ is under, x and all that is set out are under it
pub record Lifting (τ : Table) (w : Bool) (bi bc L k : ℕ) (x₀ : List Command) (c i : ℕ) (x : List Command) (s : State) : Type 0 where
  pub history : List Command
  pub judging : Judging τ history s
  pub keeps : (p : List Command) → IsPattern τ w bi bc L p → Under (bi * suc bc) x₀ p → Capped k x₀ p
      → Lower history (seen L p c i) × Under (bi * suc bc) x p × Capped k x p

-- for whatever type, BI and BC with n commands there is no hope
abbrev pub LostFor : Table → ℕ → ℕ → ℕ → List Command → Type 0
LostFor τ L k n x = (w : Bool) (bi bc : ℕ) → n ≡ bi * suc bc → Hopeless τ w bi bc L k n x
