-- Document 01, "Running a few cycles", of the public calls `run`, `run_bytes` and `run_later_bytes`, with a table that is admitted and a list that fits
-- it.
use Rattle.std.specs.Prelude.{ℕ, ◌+◌, ◌*◌, ◌≤◌, min, false, ◌≡◌, List, [], length, Result, Ok}
use Rattle.records.specs.declared.refusal.Refusal.{Refusal}
use Rattle.records.specs.declared.table.Table.{Table}
use Rattle.records.specs.declared.transaction.Transaction.{Transaction}
use Rattle.records.specs.declared.command.Command.{Command}
use Rattle.records.specs.Told.{refusal, over}
use Rattle.records.specs.Command.{bytes_of_all}
use Rattle.rules.specs.Pattern.{onto}
use Rattle.rules.specs.Queues.{act_queue, data_queue}
use Rattle.rules.specs.CycleRule.{Built}
use Rattle.rules.specs.Promise.{next_cycle}
use Rattle.rules.specs.Pieces.{is_late}
use Rattle.controller.specs.declared.controller.Controller.{Controller}
use Rattle.controller.specs.declared.run.RunReport.{RunReport}
use Rattle.controller.specs.Controller.{tells, Ranged}
use Rattle.controller.specs.Run.{RunLeft}
use Rattle.controller.specs.Promise.{Together}
use Rattle.promises.specs.Admit.{admitted}
use Rattle.promises.specs.Running.{starting, nothing_run, running}

-- `check` is that of a list's records, or of its bytes, records of 4 or of 8
pub record RunsOn (expected : ℕ) (table : List ℕ) (τ : Table) (check : Table → Result Unit Refusal) (l : List Transaction) : Type 0 where
  -- what a run of so many cycles answers and leaves
  pub left : Controller → ℕ → List ℕ → RunLeft
  pub is_left : (c : Controller) (n : ℕ) (b : List ℕ) → left c n b ≡ running check (admitted expected table) c l n b
  -- "n cycles and then m give the commands and state of n + m at once": from a fresh controller, and from any other that its types can hold
  pub halves : (c : Controller) → Ranged c → (n m : ℕ) (b₁ b₂ b : List ℕ) (x y z : RunReport)
      → (left c n b₁).told.answer ≡ Ok x → (left (left c n b₁).told.controller m b₂).told.answer ≡ Ok y → (left c (n + m) b).told.answer ≡ Ok z
      → Together (left c n b₁) (left (left c n b₁).told.controller m b₂) (left c (n + m) b) x y z b
  -- a run that is not refused, of count 0 too, leaves "how many of [the list] were lent before" at the list's length, so that another run of the list
  -- lends nothing new, and "an empty piece never late" (document 02, request 9)
  pub lent : (c : Controller) (n : ℕ) (b : List ℕ) (x : RunReport) → (left c n b).told.answer ≡ Ok x → (left c n b).told.controller.lent ≡ length l
  pub not_late : (c : Controller) (n : ℕ) (b : List ℕ) (x : RunReport) → (left c n b).told.answer ≡ Ok x → is_late l (tells (left c n b).told.controller) ≡ false
  -- "A fresh run to the end reports the last command's cycle plus one (0 for an empty list)"; it writes the built schedule. It is one to the end
  -- by every count that is not below that number
  pub to_end : (rs : List Command) → Built τ l rs → (n : ℕ) → next_cycle (onto rs []) ≤ n → (b : List ℕ) (x : RunReport)
      → (left (starting (admitted expected table)).controller n b).told.answer ≡ Ok x
      → ((left (starting (admitted expected table)).controller n b).buffer ≡ over (bytes_of_all rs) b)
      × (x.commands ≡ length rs) × (x.cycles ≡ next_cycle (onto rs []))

-- number 9 refuses every run of this controller, under any table that is admitted, with any list that the check finds fine, and room
abbrev pub NeverRuns : Controller → Type 0
NeverRuns c =
    (expected : ℕ) (table : List ℕ) (τ : Table) → admitted expected table ≡ Ok τ → (check : Table → Result Unit Refusal) (l : List Transaction) → check τ ≡ Ok tt
    → (n : ℕ) (b : List ℕ) → 8 * min n (length (act_queue τ l) + length (data_queue τ l)) ≤ length b
    → running check (admitted expected table) c l n b ≡ nothing_run (refusal 9 0 τ.edition) c b
