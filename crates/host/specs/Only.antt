-- "For all inputs, a public call's promise leaves one possible result and one possible content of each buffer it was lent, refused or not": of
-- each exported call.
use Rattle.std.specs.Prelude.{ℕ, Bool, ◌≡◌, List}
use Rattle.records.specs.declared.transaction.Transaction.{Transaction}
use Rattle.records.specs.Table.{read_table, write_table, write_group_table}
use Rattle.records.specs.Transaction.{transaction, arriving, read_transaction, write_transaction, read_later, write_later, list_of}
use Rattle.records.specs.Command.{command, kind_of, read_command, write_command}
use Rattle.stamps.specs.Record.{capture_record, read_capture_record, write_capture_record}
use Rattle.lists.specs.Check.{check_list, check_bytes}
use Rattle.controller.specs.declared.controller.Controller.{Controller}
use Rattle.promises.specs.Admit.{admitted}
use Rattle.promises.specs.Judging.{judging}
use Rattle.promises.specs.Tracing.{capturing}
use Rattle.promises.specs.Bounds.{bounding}
use Rattle.promises.specs.Transactions.{reading}
use Rattle.promises.specs.Running.{starting, running}
use Rattle.answers.specs.declared.answer.Answer.{Answer}
use Rattle.answers.specs.declared.reader.TableAnswer.{TableAnswer}
use Rattle.answers.specs.declared.reader.TransactionAnswer.{TransactionAnswer}
use Rattle.answers.specs.declared.reader.CommandAnswer.{CommandAnswer}
use Rattle.answers.specs.declared.reader.CaptureRecordAnswer.{CaptureRecordAnswer}
use Rattle.answers.specs.declared.answer.StartAnswer.{StartAnswer}
use Rattle.answers.specs.declared.answer.RunAnswer.{RunAnswer}
use Rattle.verdict_answers.specs.declared.verdict.VerdictAnswer.{VerdictAnswer}
use Rattle.verdict_answers.specs.declared.verdict.CaptureAnswer.{CaptureAnswer}
use Rattle.verdict_answers.specs.declared.verdict.ServesAnswer.{ServesAnswer}
use Rattle.answers.specs.declared.patterns.PatternAnswer.{PatternAnswer}
use Rattle.answers.specs.Answers.{of_table, of_transaction, of_command, of_capture_record, of_bound, start_of}
use Rattle.verdict_answers.specs.Verdicts.{verdict_of}
use Rattle.host.specs.Promises.{Writes, PatternSaid, Traces, PatternFound, ReadsInto, Scheduled, ServesSaid, RunsIn, RunsBack}

-- x and y are two results that keep the promise; b and d, f and g, c and e are a buffer or a controller as either leaves it. First the calls
-- on one record: s is the bytes read, or what the buffer held
pub record OnlyRecord (s : List ℕ) : Type 0 where
  pub table_read : (x y : TableAnswer) → x ≡ of_table (read_table s) → y ≡ of_table (read_table s) → x ≡ y
  pub table_written : (l : List ℕ) (x y : Answer) (b d : List ℕ) → Writes (write_table l s) x b → Writes (write_table l s) y d → (x ≡ y) × (b ≡ d)
  pub group_table_written : (l : List ℕ) (x y : Answer) (b d : List ℕ) → Writes (write_group_table l s) x b → Writes (write_group_table l s) y d → (x ≡ y) × (b ≡ d)
  pub transaction_read : (x y : TransactionAnswer) → x ≡ of_transaction (read_transaction s) → y ≡ of_transaction (read_transaction s) → x ≡ y
  pub transaction_written : (kind start bi bc : ℕ) (x y : Answer) (b d : List ℕ)
      → Writes (write_transaction (transaction kind start bi bc) s) x b → Writes (write_transaction (transaction kind start bi bc) s) y d
      → (x ≡ y) × (b ≡ d)
  pub later_read : (x y : TransactionAnswer) → x ≡ of_transaction (read_later s) → y ≡ of_transaction (read_later s) → x ≡ y
  pub later_written : (kind start bi bc arrival : ℕ) (x y : Answer) (b d : List ℕ)
      → Writes (write_later (arriving (transaction kind start bi bc) arrival) s) x b → Writes (write_later (arriving (transaction kind start bi bc) arrival) s) y d
      → (x ≡ y) × (b ≡ d)
  pub command_read : (x y : CommandAnswer) → x ≡ of_command (read_command s) → y ≡ of_command (read_command s) → x ≡ y
  pub command_written : (cycle kind bank number : ℕ) (x y : Answer) (b d : List ℕ)
      → Writes (write_command (command cycle (kind_of kind) bank number) s) x b → Writes (write_command (command cycle (kind_of kind) bank number) s) y d
      → (x ≡ y) × (b ≡ d)
  pub capture_record_read : (x y : CaptureRecordAnswer) → x ≡ of_capture_record (read_capture_record s) → y ≡ of_capture_record (read_capture_record s) → x ≡ y
  pub capture_record_written : (stamp kind bank : ℕ) (x y : Answer) (b d : List ℕ)
      → Writes (write_capture_record (capture_record stamp kind bank) s) x b → Writes (write_capture_record (capture_record stamp kind bank) s) y d
      → (x ≡ y) × (b ≡ d)

-- the calls that take a table; bytes of a list are records of 8 where `later`, else of 4
pub record Only (expected : ℕ) (table : List ℕ) : Type 0 where
  pub judge : (s : List ℕ) (x y : VerdictAnswer) → x ≡ verdict_of (judging (admitted expected table) s) → y ≡ verdict_of (judging (admitted expected table) s) → x ≡ y
  pub judge_pattern : (s : List ℕ) (L : ℕ) (x y : VerdictAnswer) → PatternSaid (admitted expected table) s L x → PatternSaid (admitted expected table) s L y → x ≡ y
  pub judge_capture : (s b₀ : List ℕ) (x y : CaptureAnswer) (b d : List ℕ) → Traces (capturing (admitted expected table) s b₀) x b
      → Traces (capturing (admitted expected table) s b₀) y d → (x ≡ y) × (b ≡ d)
  pub shortest_pattern : (type bi bc most : ℕ) (b₀ : List ℕ) (x y : PatternAnswer) (b d : List ℕ)
      → PatternFound (admitted expected table) type bi bc most b₀ b x → PatternFound (admitted expected table) type bi bc most b₀ d y → (x ≡ y) × (b ≡ d)
  pub bound : (bi bc : ℕ) (x y : Answer) → x ≡ of_bound (bounding (admitted expected table) bi bc) → y ≡ of_bound (bounding (admitted expected table) bi bc) → x ≡ y
  pub read_transactions : (later : Bool) (s : List ℕ) (l : List Transaction) (x y : Answer) (b d : List Transaction)
      → ReadsInto (reading later (admitted expected table) s l) x b → ReadsInto (reading later (admitted expected table) s l) y d → (x ≡ y) × (b ≡ d)
  pub schedule : (l : List Transaction) (b₀ f₀ : List ℕ) (x y : Answer) (b d f g : List ℕ)
      → Scheduled (λ τ. check_list τ l) (admitted expected table) l b₀ b f₀ f x → Scheduled (λ τ. check_list τ l) (admitted expected table) l b₀ d f₀ g y
      → (x ≡ y) × (b ≡ d) × (f ≡ g)
  pub schedule_bytes : (later : Bool) (s b₀ f₀ : List ℕ) (x y : Answer) (b d f g : List ℕ)
      → Scheduled (λ τ. check_bytes later τ s) (admitted expected table) (list_of later s) b₀ b f₀ f x
      → Scheduled (λ τ. check_bytes later τ s) (admitted expected table) (list_of later s) b₀ d f₀ g y → (x ≡ y) × (b ≡ d) × (f ≡ g)
  pub serves : (l : List Transaction) (s : List ℕ) (x y : ServesAnswer)
      → ServesSaid (λ τ. check_list τ l) (admitted expected table) l s x → ServesSaid (λ τ. check_list τ l) (admitted expected table) l s y → x ≡ y
  pub serves_bytes : (later : Bool) (b s : List ℕ) (x y : ServesAnswer)
      → ServesSaid (λ τ. check_bytes later τ b) (admitted expected table) (list_of later b) s x
      → ServesSaid (λ τ. check_bytes later τ b) (admitted expected table) (list_of later b) s y → x ≡ y
  pub start : (x y : StartAnswer) → x ≡ start_of (starting (admitted expected table)) → y ≡ start_of (starting (admitted expected table)) → x ≡ y
  -- `skv_step` is the run of one cycle
  pub run : (c₀ : Controller) (l : List Transaction) (n : ℕ) (b₀ : List ℕ) (x y : Answer) (c e : Controller) (b d : List ℕ)
      → RunsIn (running (λ τ. check_list τ l) (admitted expected table) c₀ l n b₀) x c b → RunsIn (running (λ τ. check_list τ l) (admitted expected table) c₀ l n b₀) y e d
      → (x ≡ y) × (c ≡ e) × (b ≡ d)
  pub run_bytes : (later : Bool) (c₀ : Controller) (s : List ℕ) (n : ℕ) (b₀ : List ℕ) (x y : RunAnswer) (b d : List ℕ)
      → RunsBack (running (λ τ. check_bytes later τ s) (admitted expected table) c₀ (list_of later s) n b₀) x b
      → RunsBack (running (λ τ. check_bytes later τ s) (admitted expected table) c₀ (list_of later s) n b₀) y d → (x ≡ y) × (b ≡ d)
