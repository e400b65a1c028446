-- What the functions of the search say of each other. A list x holds the records that are placed so far, by their number from 0.
use Rattle.std.specs.Prelude.{ℕ, zero, suc, ◌+◌, ◌*◌, ◌≤◌, ◌<◌, Bool, true, false, ◌≡◌, List, eqb, length, get_or, take, Option, Some, None}
use Rattle.records.specs.Tests.{every}
use Rattle.records.specs.declared.table.Table.{Table}
use Rattle.records.specs.declared.command.Kind.{Kind}
use Rattle.records.specs.declared.command.Kind.TheVariants.{Act, Rd, Rda, Wr, Wra, Ref, Other}
use Rattle.records.specs.declared.command.Command.{Command}
use Rattle.records.specs.Command.{command}
use Rattle.rules.specs.declared.verdict.PatternVerdict.{PatternVerdict}
use Rattle.rules.specs.declared.verdict.PatternVerdict.TheVariants.{Accepted, Refused}
use Rattle.rules.specs.Kinds.{is_ref}
use Rattle.rules.specs.State.{add_if}
use Rattle.rules.specs.History.{in_table}
use Rattle.shortest.specs.Shortest.{kind_at, IsPattern, Alike, NoLater, Shortest, NoneUpTo}

abbrev pub nil : Command
nil = command 0 Act 0 0

-- record number i
abbrev pub nth : List Command → ℕ → Command
nth x i = get_or x i nil

-- how many of the first m records are to bank b
abbrev pub tally : ℕ → List Command → ℕ → ℕ
tally b x zero = 0
tally b x (suc m) = add_if (eqb (nth x m).bank b) (tally b x m)

-- a pattern's kinds in the order of their numbers: ACT, a data command, one that closes
abbrev pub class : Kind → ℕ
class Act = 0
class Rd = 1
class Rda = 2
class Wr = 1
class Wra = 2
class Ref = 3
class (Other n) = 3

-- the choices of a cycle, three banks to a class, in the order in which they are tried
abbrev pub rank : Command → ℕ
rank r = class r.kind * 3 + r.bank

-- the same command, no later
abbrev pub Below : Command → Command → Type 0
Below x r = (x.kind ≡ r.kind) × (x.bank ≡ r.bank) × (x.cycle ≤ r.cycle)

-- each of the first m records is the pattern's, no later
abbrev pub Under : ℕ → List Command → List Command → Type 0
Under m x p = (i : ℕ) → i < m → Below (nth x i) (nth p i)

-- and the first k of them no earlier
abbrev pub Capped : ℕ → List Command → List Command → Type 0
Capped k x p = (i : ℕ) → i < k → (nth p i).cycle ≤ (nth x i).cycle

-- the first k records are the pattern's
abbrev pub Agree : ℕ → List Command → List Command → Type 0
Agree k x p = (i : ℕ) → i < k → Alike (nth p i) (nth x i)

-- an ACT or a data command to a bank of the table
abbrev pub CanStand : Table → Command → Type 0
CanStand τ r = (in_table τ r.kind r.bank ≡ true) × (is_ref r.kind ≡ false)

-- the first m records are such
abbrev pub Placeable : Table → ℕ → List Command → Type 0
Placeable τ m x = (i : ℕ) → i < m → CanStand τ (nth x i)

-- the next record of bank b, at cycle t
abbrev pub choice : Bool → ℕ → ℕ → List Command → ℕ → ℕ → Command
choice w bc k x t b = command t (kind_at w bc (tally b x k)) b 0

-- the first k records are such as a pattern has
pub record Shaped (w : Bool) (bi bc L k : ℕ) (x : List Command) : Type 0 where
  pub room : k ≤ length x
  pub starts : 0 < k → nth x 0 ≡ nil
  pub cycle : (i : ℕ) → i < k → (nth x i).cycle < L
  pub number : (i : ℕ) → i < k → (nth x i).number ≡ 0
  pub bank : (i : ℕ) → i < k → (nth x i).bank < bi
  pub step : (i : ℕ) → i < k → tally (nth x i).bank x i ≤ bc
  pub kind : (i : ℕ) → i < k → (nth x i).kind ≡ kind_at w bc (tally (nth x i).bank x i)

module _ (τ : Table) (w : Bool) (bi bc L : ℕ) where
  -- p has the first k records, and its next one at cycle t or later
  pub record Fits (k : ℕ) (x : List Command) (t : ℕ) (p : List Command) : Type 0 where
    pub is : IsPattern τ w bi bc L p
    pub agrees : Agree k x p
    pub next : k < length p → t ≤ (nth p k).cycle

  -- no pattern does
  abbrev pub Nothing : ℕ → List Command → ℕ → Type 0
  Nothing k x t = (p : List Command) → Fits k x t p → ⊥

  -- of those that do p comes first
  pub record Best (k : ℕ) (x : List Command) (t : ℕ) (p : List Command) : Type 0 where
    pub is : IsPattern τ w bi bc L p
    pub numbers : every (λ r. eqb r.number 0) p ≡ true
    pub agrees : Agree k x p
    pub first : (q : List Command) → Fits k x t q → NoLater p q

  -- no pattern goes on at cycle t by a choice of rank below m
  abbrev pub Tried : ℕ → List Command → ℕ → ℕ → Type 0
  Tried k x t m = (p : List Command) → Fits k x t p → (nth p k).cycle ≡ t → rank (nth p k) < m → ⊥

  -- no pattern has the first k records and the next up to m in this order, none earlier
  abbrev pub Hopeless : ℕ → ℕ → List Command → Type 0
  Hopeless k m x = (p : List Command) → IsPattern τ w bi bc L p → Under m x p → Capped k x p → ⊥

  -- none goes on with a bank below b
  abbrev pub HopelessTo : ℕ → ℕ → List Command → ℕ → Type 0
  HopelessTo k m x b = (p : List Command) → IsPattern τ w bi bc L p → Under m x p → Capped k x p → (nth p m).bank < b → ⊥

  -- what a search answers: the pattern that comes first, or that there is none
  abbrev pub Searched : ℕ → List Command → ℕ → Option (List Command) → Type 0
  Searched k x t (Some y) = Best k x t (take (bi * suc bc) y)
  Searched k x t None = Nothing k x t

abbrev pub all_passed : PatternVerdict → Bool
all_passed Accepted = true
all_passed (Refused x c i) = false

-- what the search over lengths answers: the least length and its pattern, or that there is none
abbrev pub FoundLeast : Table → Bool → ℕ → ℕ → ℕ → Option (ℕ × List Command) → Type 0
FoundLeast τ w bi bc most (Some (L, y)) = Shortest τ w bi bc most L (take (bi * suc bc) y)
FoundLeast τ w bi bc most None = NoneUpTo τ w bi bc most
