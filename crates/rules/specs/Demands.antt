-- The customer's demands 2 and 3, for the definitions of document 01.
use Rattle.std.specs.Prelude.{ℕ, suc, ◌+◌, ◌≤◌, ◌<◌, true, false, ◌≡◌, ◌↔◌, ◌⊎◌, List, [], ◌++◌, length, take, Some, None}
use Rattle.std.proofs.Math.Option.{some}
use Rattle.std.proofs.Math.ListN.{get_elem?}
use Rattle.records.specs.declared.table.Table.{Table}
use Rattle.records.specs.declared.transaction.Transaction.{Transaction}
use Rattle.records.specs.declared.command.Command.{Command}
use Rattle.records.specs.Table.{Accepted}
use Rattle.records.specs.Transaction.{list_fits}
use Rattle.rules.specs.declared.verdict.Rule.{Rule}
use Rattle.rules.specs.declared.verdict.Rule.TheVariants.{End}
use Rattle.rules.specs.declared.verdict.Verdict.TheVariants.{Accepted as Passed, Refused}
use Rattle.rules.specs.declared.verdict.PatternVerdict.TheVariants.{Accepted as AllPassed, Refused as RefusedAt}
use Rattle.rules.specs.History.{broken}
use Rattle.rules.specs.Verdict.{all_shut, judge, Legal}
use Rattle.rules.specs.Pattern.{onto, copies, EveryNumberLegal}
use Rattle.rules.specs.State.{fresh}
use Rattle.rules.specs.CycleRule.{gone, Built}
use Rattle.rules.specs.Run.{steps}
use Rattle.rules.specs.Finish.{last_command, finish_of, count_from}
use Rattle.rules.specs.Bound.{span, start_at}
use Rattle.rules.specs.Promise.{of_first, last_command_cycle, finish_cycle}

-- each of the first n records breaks no rule against all records before it, of which those of h are the oldest
abbrev pub FineTo : Table → List Command → List Command → ℕ → Type 0
FineTo τ h rs n = (i : ℕ) (r : Command) → i < n → get_elem? rs i ≡ some r → broken τ r (onto (take i rs) h) ≡ None

-- record i breaks rule x
abbrev pub BrokenAt : Table → List Command → List Command → Rule → ℕ → Type 0
BrokenAt τ h rs x i = (r : Command) × (get_elem? rs i ≡ some r) × (broken τ r (onto (take i rs) h) ≡ Some x)

-- rule 10: at the end, whose number is the count, a bank is open
abbrev pub OpenAtEnd : Table → List Command → List Command → Rule → ℕ → Type 0
OpenAtEnd τ h rs x i = (x ≡ End) × (i ≡ length rs) × (all_shut τ.banks (onto rs h) ≡ false)

-- the first broken record is number i, and its first broken rule is x
abbrev pub FirstBroken : Table → List Command → List Command → Rule → ℕ → Type 0
FirstBroken τ h rs x i = FineTo τ h rs i × (BrokenAt τ h rs x i ⊎ OpenAtEnd τ h rs x i)

pub record Demand2 : Type 0 where
  -- the cycle rule by what a state tells gives, from a fresh state, what the cycle rule by history gives
  pub rule : (τ : Table) (l : List Transaction) → Accepted τ → list_fits τ l ≡ true → (n : ℕ) → (steps n τ l (fresh τ) []).1 ≡ gone n τ l
  -- "The judge accepts a schedule exactly when every timing rule there holds, and otherwise names the first broken record and rule."
  pub accepts : (τ : Table) (rs : List Command) → (judge τ rs ≡ Passed) ↔ (FineTo τ [] rs (length rs) × (all_shut τ.banks (onto rs []) ≡ true))
  pub names : (τ : Table) (rs : List Command) (x : Rule) (i : ℕ) → judge τ rs ≡ Refused x i → FirstBroken τ [] rs x i
  -- "a repeated pattern exactly when every number of copies, set end to end, is a legal schedule"; a refusal names the lowest copy
  pub pattern : (τ : Table) (L : ℕ) (p : List Command) → (copies τ L p 5 ≡ AllPassed) ↔ EveryNumberLegal τ L p
  pub lowest : (τ : Table) (L : ℕ) (p : List Command) (x : Rule) (c i : ℕ) → copies τ L p 5 ≡ RefusedAt x c i
      → ((n : ℕ) → n < c → copies τ L p n ≡ AllPassed) × ((n : ℕ) → c ≤ n → copies τ L p n ≡ RefusedAt x c i)

-- "For every accepted table and transaction list with room for the result"
pub record Demand3 (τ : Table) (l : List Transaction) : Type 0 where
  -- there is one built schedule, and no other
  pub schedule : List Command
  pub built : Built τ l schedule
  pub only : (rs : List Command) → Built τ l rs → rs ≡ schedule
  -- "the built schedule passes the judge"
  pub passes : Legal τ schedule
  -- each transaction has a last command: its last read or write command, or its REF
  pub served : (k : ℕ) → k < length l → last_command k schedule ≡ Some (last_command_cycle k schedule)
  -- "each transaction's last read or write command comes no later than its predecessor's last plus the bound ..
  -- (for the first, counted from cycle 0)"; "The promise counts from that finish where the predecessor", w, "is a refresh", and a REF comes
  -- "within S of where its count starts"; no count starts before the arrival
  pub first : (x : Transaction) → get_elem? l 0 ≡ some x → last_command_cycle 0 schedule ≤ start_at x 0 + span τ x
  pub next : (k : ℕ) (w x : Transaction) → get_elem? l k ≡ some w → get_elem? l (suc k) ≡ some x
      → last_command_cycle (suc k) schedule ≤ start_at x (count_from τ w (last_command_cycle k schedule)) + span τ x
  -- "the promised finish of a read is that limit + RL + B", a write's is that limit, a refresh's that limit + RFC; and 32 bits hold every finish
  pub first_finish : (x : Transaction) → get_elem? l 0 ≡ some x → finish_cycle τ x 0 schedule ≤ finish_of τ x (start_at x 0 + span τ x)
  pub next_finish : (k : ℕ) (w x : Transaction) → get_elem? l k ≡ some w → get_elem? l (suc k) ≡ some x
      → finish_cycle τ x (suc k) schedule ≤ finish_of τ x (start_at x (count_from τ w (last_command_cycle k schedule)) + span τ x)
  pub fits : (k : ℕ) (x : Transaction) → get_elem? l k ≡ some x → finish_cycle τ x k schedule < 4294967296
  -- "Transactions added at the end move no command of the earlier ones by a cycle."
  pub unmoved : (xs ys : List Transaction) → l ≡ xs ++ ys → Built τ xs (of_first (length xs) schedule)
