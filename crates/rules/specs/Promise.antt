-- What is promised of the built schedule and of runs, for a table that is accepted and a list that fits it.
use Rattle.std.specs.Prelude.{ℕ, suc, ◌+◌, ◌-◌, ◌≤◌, ◌<◌, Bool, true, ◌≡◌, List, [], ◌∷◌, ◌++◌, ltb, leb, length, take, drop, Some, None}
use Rattle.std.proofs.Math.Option.{Option, none, some}
use Rattle.std.proofs.Math.ListN.{get_elem?}
use Rattle.rules.specs.Types.{Stamp}
use Rattle.records.specs.Tests.{pick, every}
use Rattle.records.specs.declared.table.Table.{Table}
use Rattle.records.specs.declared.transaction.Transaction.{Transaction}
use Rattle.records.specs.declared.command.Command.{Command}
use Rattle.rules.specs.declared.state.State.{State}
use Rattle.rules.specs.State.{fresh}
use Rattle.rules.specs.Pattern.{onto}
use Rattle.rules.specs.Verdict.{Legal}
use Rattle.rules.specs.Queues.{act_queue, data_queue}
use Rattle.rules.specs.CycleRule.{Built}
use Rattle.rules.specs.Run.{served, steps, run}
use Rattle.rules.specs.Finish.{last_command, finish_of, count_from, finish}
use Rattle.rules.specs.Bound.{span, start_at}

-- the commands of the first k transactions
abbrev pub of_first : ℕ → List Command → List Command
of_first k [] = []
of_first k (r ∷ rs) = pick (ltb r.number k) (r ∷ of_first k rs) (of_first k rs)

-- one past the cycle of the newest record of a history, 0 where there is none
abbrev pub next_cycle : List Command → ℕ
next_cycle [] = 0
next_cycle (r ∷ h) = r.cycle + 1

abbrev pub cycle_of : Stamp → ℕ
cycle_of None = 0
cycle_of (Some c) = c

-- the cycle of the last command of transaction k
abbrev pub last_command_cycle : ℕ → List Command → ℕ
last_command_cycle k rs = cycle_of (last_command k rs)

-- the cycle at which transaction x, number k of the list, finishes
abbrev pub finish_cycle : Table → Transaction → ℕ → List Command → ℕ
finish_cycle τ x k rs = cycle_of (finish τ x k rs)

-- "Neither queue sees a transaction before its arrival" (document 02, request 9): a command whose transaction has arrived by its cycle
abbrev pub arrived_by : ℕ → Option Transaction → Bool
arrived_by t none = true
arrived_by t (some x) = leb x.arrival t

abbrev pub arrived : List Transaction → Command → Bool
arrived l c = arrived_by c.cycle (get_elem? l c.number)

-- the bounds of all transactions, added, each up to where the next count starts; the first count may start at F, and none before its arrival
abbrev pub bounds_from : Table → ℕ → List Transaction → ℕ
bounds_from τ F [] = F
bounds_from τ F (x ∷ l) = bounds_from τ (start_at x F + count_from τ x (span τ x)) l

abbrev pub all_bounds : Table → List Transaction → ℕ
all_bounds τ l = bounds_from τ 0 l

-- one cycle more than the bounds together serves the list, and they stay below the limit of a run
pub record Ends (τ : Table) (l : List Transaction) : Type 0 where
  pub short : all_bounds τ l < 100000000
  pub enough : (n : ℕ) → all_bounds τ l < n → served τ l (steps n τ l (fresh τ) []).0 ≡ true

pub record Kept (τ : Table) (l : List Transaction) (rs : List Command) : Type 0 where
  -- it is that of the cycle rule, and no other is
  pub built : Built τ l rs
  pub only : (rs' : List Command) → Built τ l rs' → rs' ≡ rs
  pub count : length rs ≡ length (act_queue τ l) + length (data_queue τ l)
  -- it passes the judge
  pub passes : Legal τ rs
  -- no command goes before its transaction's arrival
  pub not_before : every (arrived l) rs ≡ true
  -- each transaction has its last command: the first within its span after its arrival, each other within its span after where its count starts, w
  -- being its predecessor
  pub finishes : (k : ℕ) → k < length l → last_command k rs ≡ Some (last_command_cycle k rs)
  pub first_in : (x : Transaction) → get_elem? l 0 ≡ some x → last_command_cycle 0 rs ≤ start_at x 0 + span τ x
  pub next_in : (k : ℕ) (w x : Transaction) → get_elem? l k ≡ some w → get_elem? l (suc k) ≡ some x
      → last_command_cycle (suc k) rs ≤ start_at x (count_from τ w (last_command_cycle k rs)) + span τ x
  -- it finishes there, a read RL + B and a refresh RFC later, so no later than if its last command went at that limit; and 32 bits hold it
  pub finish_at : (k : ℕ) (x : Transaction) → get_elem? l k ≡ some x → finish τ x k rs ≡ Some (finish_of τ x (last_command_cycle k rs))
  pub first_finish : (x : Transaction) → get_elem? l 0 ≡ some x → finish_cycle τ x 0 rs ≤ finish_of τ x (start_at x 0 + span τ x)
  pub next_finish : (k : ℕ) (w x : Transaction) → get_elem? l k ≡ some w → get_elem? l (suc k) ≡ some x
      → finish_cycle τ x (suc k) rs ≤ finish_of τ x (start_at x (count_from τ w (last_command_cycle k rs)) + span τ x)
  pub finish_fits : (k : ℕ) (x : Transaction) → get_elem? l k ≡ some x → finish_cycle τ x k rs < 4294967296
  -- transactions added at the end move no command of the earlier ones
  pub unmoved : (xs ys : List Transaction) → l ≡ xs ++ ys → Built τ xs (of_first (length xs) rs)
  pub same_finish : (xs ys : List Transaction) → l ≡ xs ++ ys → (k : ℕ) → k < length xs → last_command k (of_first (length xs) rs) ≡ last_command k rs
  -- it ends before cycle 100,000,000
  pub early : every (λ r. ltb r.cycle 100000000) rs ≡ true
  pub last_early : (k : ℕ) → last_command_cycle k rs < 100000000
  -- a fresh run that serves the list leaves it and reports one past its last command's cycle; one of 100,000,000 cycles or more serves it
  pub running : (n : ℕ) → served τ l (run n τ l (fresh τ) []).state ≡ true
      → (onto (run n τ l (fresh τ) []).history [] ≡ rs) × ((run n τ l (fresh τ) []).cycles ≡ next_cycle (onto rs []))
  pub ends : (n : ℕ) → 100000000 ≤ n → served τ l (run n τ l (fresh τ) []).state ≡ true

-- two states that tell the same of the table's banks and groups and of all else; the edition, what was lent before and what lies past the table's
-- banks and groups may differ
pub record SameTold (τ : Table) (s u : State) : Type 0 where
  pub cycle : s.cycle ≡ u.cycle
  pub acts : s.acts ≡ u.acts
  pub datas : s.datas ≡ u.datas
  pub banks : take τ.banks s.banks ≡ take τ.banks u.banks
  pub a1 : s.a1 ≡ u.a1
  pub a2 : s.a2 ≡ u.a2
  pub a3 : s.a3 ≡ u.a3
  pub a4 : s.a4 ≡ u.a4
  pub groups : take τ.groups s.groups ≡ take τ.groups u.groups
  pub refresh : s.refresh ≡ u.refresh

-- from any state, reached or not
pub record RunsKept (τ : Table) (l : List Transaction) : Type 0 where
  -- n cycles and then m give the commands, the state and the cycles of n + m, each run writing its own commands
  pub splits : (n m : ℕ) (s : State)
      → run (n + m) τ l s [] ≡ record {
        state = (run m τ l (run n τ l s []).state []).state;
        history = (run m τ l (run n τ l s []).state []).history ++ (run n τ l s []).history;
        cycles = (run n τ l s []).cycles + (run m τ l (run n τ l s []).state []).cycles;
      }
  -- no command goes before its transaction's arrival, from any state
  pub not_before : (n : ℕ) (s : State) → every (arrived l) (run n τ l s []).history ≡ true
  -- the edition, what was lent before and what lies past the table's banks and groups are left as they stood, and not read
  pub edition : (n : ℕ) (s : State) → (run n τ l s []).state.edition ≡ s.edition
  pub lent : (n : ℕ) (s : State) → (run n τ l s []).state.lent ≡ s.lent
  pub size : (n : ℕ) (s : State) → length (run n τ l s []).state.banks ≡ length s.banks
  pub past_kept : (n : ℕ) (s : State) → drop τ.banks (run n τ l s []).state.banks ≡ drop τ.banks s.banks
  pub group_size : (n : ℕ) (s : State) → length (run n τ l s []).state.groups ≡ length s.groups
  pub groups_kept : (n : ℕ) (s : State) → drop τ.groups (run n τ l s []).state.groups ≡ drop τ.groups s.groups
  pub past_unread : (n : ℕ) (s u : State) → SameTold τ s u
      → ((run n τ l s []).history ≡ (run n τ l u []).history) × ((run n τ l s []).cycles ≡ (run n τ l u []).cycles)
      × SameTold τ (run n τ l s []).state (run n τ l u []).state
  -- no more commands than cycles, and than are left in the queues
  pub room : (n : ℕ) (s : State) → s.acts ≤ length (act_queue τ l) → s.datas ≤ length (data_queue τ l)
      → (length (run n τ l s []).history ≤ n)
      × (length (run n τ l s []).history ≤ (length (act_queue τ l) - s.acts) + (length (data_queue τ l) - s.datas))
