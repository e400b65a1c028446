-- Document 02, request 8, of the public calls: what `judge`, `judge_pattern` and `judge_capture` accept, and what `schedule` and `run` write, keeps
-- the data pins. `PinsKept` is that no two bursts share a cycle and that at least two free cycles lie between a read's burst and a following write's.
use Rattle.std.specs.Prelude.{ℕ, ◌*◌, ◌≤◌, ◌<◌, Bool, ◌≡◌, List, [], length, get_or, take, Result, Ok}
use Rattle.records.specs.declared.refusal.Refusal.{Refusal}
use Rattle.records.specs.declared.table.Table.{Table}
use Rattle.records.specs.declared.transaction.Transaction.{Transaction}
use Rattle.records.specs.declared.command.Command.{Command}
use Rattle.records.specs.Told.{over}
use Rattle.records.specs.Transaction.{list_of}
use Rattle.records.specs.Command.{commands_in, bytes_of_all}
use Rattle.rules.specs.declared.verdict.Verdict.TheVariants.{Accepted as Passed}
use Rattle.rules.specs.declared.verdict.PatternVerdict.TheVariants.{Accepted as AllPassed}
use Rattle.rules.specs.Pattern.{onto, end_to_end}
use Rattle.rules.specs.CycleRule.{Built as IsBuilt}
use Rattle.rules.specs.Promise.{next_cycle}
use Rattle.rules.specs.Pins.{PinsKept}
use Rattle.lists.specs.Check.{check_list, check_bytes}
use Rattle.controller.specs.declared.run.RunReport.{RunReport}
use Rattle.promises.specs.Admit.{admitted}
use Rattle.promises.specs.Judging.{judging, PatternTold}
use Rattle.promises.specs.Tracing.{capturing}
use Rattle.promises.specs.Schedules.{Schedules}
use Rattle.promises.specs.Running.{starting, running}

-- the n commands that stand at a buffer's start keep the pins
abbrev pub StartKept : Table → ℕ → List ℕ → Type 0
StartKept τ n b = (rs : List Command) × (n ≡ length rs) × (take (8 * n) b ≡ bytes_of_all rs) × PinsKept τ rs

-- a run from a fresh controller to the end, by a count that is not below the last command's cycle plus one, writes the built schedule, and this keeps
-- the pins
abbrev pub RunKept : ℕ → List ℕ → Table → (Table → Result Unit Refusal) → List Transaction → Type 0
RunKept expected table τ check l =
    (rs : List Command) → IsBuilt τ l rs → (n : ℕ) → next_cycle (onto rs []) ≤ n → (b : List ℕ) (x : RunReport)
    → (running check (admitted expected table) (starting (admitted expected table)).controller l n b).told.answer ≡ Ok x
    → ((running check (admitted expected table) (starting (admitted expected table)).controller l n b).buffer ≡ over (bytes_of_all rs) b) × PinsKept τ rs

-- of a table that is admitted, of 32 bytes or of 40
pub record PinsOfCalls (expected : ℕ) (table : List ℕ) (τ : Table) : Type 0 where
  -- "in every schedule the judge accepts"
  pub judge : (s : List ℕ) → judging (admitted expected table) s ≡ Ok (τ.edition, Passed) → PinsKept τ (commands_in s)
  -- "and in every number of copies of a pattern it accepts"
  pub pattern : (s : List ℕ) (L : ℕ) → PatternTold (admitted expected table) s L (Ok (τ.edition, AllPassed))
      → (n : ℕ) → PinsKept τ (end_to_end L (commands_in s) n 0)
  -- the commands of a capture that is accepted, which stand in the room. (Every element of s is a byte.)
  pub capture : (s b : List ℕ) (e n : ℕ) → ((i : ℕ) → get_or s i 0 < 256) → (capturing (admitted expected table) s b).answer ≡ Ok (e, n, Passed)
      → (rs : List Command) × (n ≡ length rs) × ((capturing (admitted expected table) s b).buffer ≡ over (bytes_of_all rs) b) × PinsKept τ rs
  -- every schedule that is written, of a list with arrivals too; its bytes are records of 8 where `later`, else of 4
  pub schedule : (l : List Transaction) (b₀ b f₀ f : List ℕ) (e n : ℕ) → Schedules (λ τ. check_list τ l) (admitted expected table) l b₀ b f₀ f (Ok (e, n))
      → StartKept τ n b
  pub schedule_bytes : (later : Bool) (s b₀ b f₀ f : List ℕ) (e n : ℕ)
      → Schedules (λ τ. check_bytes later τ s) (admitted expected table) (list_of later s) b₀ b f₀ f (Ok (e, n)) → StartKept τ n b
  pub run : (l : List Transaction) → RunKept expected table τ (λ τ. check_list τ l) l
  pub run_bytes : (later : Bool) (s : List ℕ) → RunKept expected table τ (λ τ. check_bytes later τ s) (list_of later s)
