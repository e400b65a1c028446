-- Document 02, request 8: the data pins, for an assessor who asked "whether two bursts can meet on the pins". A burst is what one data command
-- moves; `docs/PINS.md` says the same in words.
use Rattle.std.specs.Prelude.{ℕ, ◌+◌, ◌≤◌, ◌<◌, Bool, true, false, ◌&&◌, ◌||◌, ◌≡◌, List, [], ◌∷◌, leb, ltb}
use Rattle.std.proofs.Math.Option.{some}
use Rattle.std.proofs.Math.ListN.{get_elem?}
use Rattle.records.specs.Tests.{pick}
use Rattle.records.specs.Table.{Accepted}
use Rattle.records.specs.declared.table.Table.{Table}
use Rattle.records.specs.declared.transaction.Transaction.{Transaction}
use Rattle.records.specs.declared.command.Command.{Command}
use Rattle.records.specs.Transaction.{list_fits}
use Rattle.rules.specs.declared.verdict.PatternVerdict.TheVariants.{Accepted as AllPassed}
use Rattle.rules.specs.Kinds.{is_rd, is_wr, is_data}
use Rattle.rules.specs.Verdict.{Legal}
use Rattle.rules.specs.Pattern.{end_to_end, copies}
use Rattle.rules.specs.CycleRule.{Built}

-- "A read at cycle t holds them from t + RL for B cycles, a write from t + WL for B cycles": the first cycle, and the first after them
abbrev pub holds_from : Table → Command → ℕ
holds_from τ r = r.cycle + pick (is_wr r.kind) τ.wl τ.rl

abbrev pub holds_until : Table → Command → ℕ
holds_until τ r = holds_from τ r + τ.b

-- a record holds the pins in cycle t: it is a read or a write, and t is one of those cycles
abbrev pub holds_at : Table → Command → ℕ → Bool
holds_at τ r t = is_data r.kind && (leb (holds_from τ r) t && ltb t (holds_until τ r))

-- two bursts "share a cycle"
abbrev pub ShareACycle : Table → Command → Command → Type 0
ShareACycle τ x y = (t : ℕ) × (holds_at τ x t ≡ true) × (holds_at τ y t ≡ true)

-- the pins are busy in cycle t: some record of the schedule holds them. A cycle in which they are not is free
abbrev pub busy : Table → List Command → ℕ → Bool
busy τ [] t = false
busy τ (r ∷ rs) t = holds_at τ r t || busy τ rs t

abbrev pub Free : Table → List Command → ℕ → Type 0
Free τ rs t = busy τ rs t ≡ false

-- two "free cycles lie between" the burst of x and that of y, side by side: t and t + 1
abbrev pub TwoFreeBetween : Table → List Command → Command → Command → Type 0
TwoFreeBetween τ rs x y = (t : ℕ) × (holds_until τ x ≤ t) × (t + 2 ≤ holds_from τ y) × Free τ rs t × Free τ rs (t + 1)

-- of the records i and j of a schedule, x the earlier and y the later
pub record PinsKept (τ : Table) (rs : List Command) : Type 0 where
  -- "no two bursts share a cycle"
  pub alone : (i j : ℕ) (x y : Command) → i < j → get_elem? rs i ≡ some x → get_elem? rs j ≡ some y → ShareACycle τ x y → ⊥
  -- "at least two free cycles lie between a read's burst and a following write's", which is any later one
  pub turn : (i j : ℕ) (x y : Command) → i < j → get_elem? rs i ≡ some x → get_elem? rs j ≡ some y → is_rd x.kind ≡ true → is_wr y.kind ≡ true
      → TwoFreeBetween τ rs x y
  -- bursts stand in the order of their commands: the later one starts no earlier than the earlier one ends
  pub order : (i j : ℕ) (x y : Command) → i < j → get_elem? rs i ≡ some x → get_elem? rs j ≡ some y → is_data x.kind ≡ true → is_data y.kind ≡ true
      → holds_until τ x ≤ holds_from τ y

-- "for either table record, .. in every schedule the judge accepts, and in every number of copies of a pattern it accepts"; so in every schedule
-- of the cycle rule
pub record PinsShown : Type 0 where
  pub schedules : (τ : Table) → Accepted τ → (rs : List Command) → Legal τ rs → PinsKept τ rs
  pub patterns : (τ : Table) → Accepted τ → (L : ℕ) (p : List Command) → copies τ L p 5 ≡ AllPassed → (n : ℕ) → PinsKept τ (end_to_end L p n 0)
  pub built : (τ : Table) → Accepted τ → (l : List Transaction) → list_fits τ l ≡ true → (rs : List Command) → Built τ l rs → PinsKept τ rs
