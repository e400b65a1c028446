-- "For all inputs, a public call's promise leaves one possible result and one possible content of each buffer it was lent, refused or not."
use Rattle.std.specs.Prelude.{ℕ, Bool, ◌≡◌, List, Result}
use Rattle.rules.specs.declared.verdict.Verdict.{Verdict}
use Rattle.records.specs.declared.refusal.Refusal.{Refusal}
use Rattle.rules.specs.declared.verdict.PatternVerdict.{PatternVerdict}
use Rattle.serves.specs.declared.answer.Served.{Served}
use Rattle.controller.specs.declared.run.RunReport.{RunReport}
use Rattle.records.specs.declared.transaction.Transaction.{Transaction}
use Rattle.records.specs.Transaction.{list_of}
use Rattle.capture.specs.Answer.{LeavesCapture}
use Rattle.lists.specs.Check.{check_list, check_bytes}
use Rattle.lists.specs.Decode.{Decodes}
use Rattle.controller.specs.declared.controller.Controller.{Controller}
use Rattle.controller.specs.declared.run.RunTold.{RunTold}
use Rattle.controller.specs.Run.{LeavesRun}
use Rattle.promises.specs.declared.starting.StartTold.{StartTold}
use Rattle.promises.specs.Admit.{admitted}
use Rattle.promises.specs.Judging.{judging, PatternTold}
use Rattle.promises.specs.Tracing.{capturing}
use Rattle.promises.specs.Patterns.{ShortestTold}
use Rattle.promises.specs.Bounds.{bounding}
use Rattle.promises.specs.Transactions.{reading}
use Rattle.promises.specs.Schedules.{Schedules}
use Rattle.promises.specs.Running.{starting, running, Runs}
use Rattle.promises.specs.Serving.{Serving}

-- Bytes of a list are records of 8 where `later`, else of 4; x and y are two results that keep the promise; each other letter that comes twice is a buffer or a controller as either leaves it
pub record Only (expected : ℕ) (table : List ℕ) : Type 0 where
  pub judge : (s : List ℕ) (x y : Result (ℕ × Verdict) Refusal) → x ≡ judging (admitted expected table) s → y ≡ judging (admitted expected table) s → x ≡ y
  pub judge_pattern : (s : List ℕ) (L : ℕ) (x y : Result (ℕ × PatternVerdict) Refusal) → PatternTold (admitted expected table) s L x → PatternTold (admitted expected table) s L y → x ≡ y
  pub judge_capture : (s b₀ : List ℕ) (x y : Result (ℕ × ℕ × Verdict) Refusal) (b d : List ℕ) → LeavesCapture (capturing (admitted expected table) s b₀) x b
      → LeavesCapture (capturing (admitted expected table) s b₀) y d → (x ≡ y) × (b ≡ d)
  pub shortest_pattern : (type bi bc most : ℕ) (b₀ : List ℕ) (x y : Result (ℕ × ℕ × ℕ) Refusal) (b d : List ℕ)
      → ShortestTold (admitted expected table) type bi bc most b₀ b x → ShortestTold (admitted expected table) type bi bc most b₀ d y → (x ≡ y) × (b ≡ d)
  pub bound : (bi bc : ℕ) (x y : Result (ℕ × ℕ) Refusal) → x ≡ bounding (admitted expected table) bi bc → y ≡ bounding (admitted expected table) bi bc → x ≡ y
  pub read_transactions : (later : Bool) (s : List ℕ) (l : List Transaction) (x y : Result (ℕ × ℕ) Refusal) (b d : List Transaction)
      → Decodes (reading later (admitted expected table) s l) x b → Decodes (reading later (admitted expected table) s l) y d → (x ≡ y) × (b ≡ d)
  pub schedule : (l : List Transaction) (b₀ f₀ : List ℕ) (x y : Result (ℕ × ℕ) Refusal) (b d f g : List ℕ)
      → Schedules (λ τ. check_list τ l) (admitted expected table) l b₀ b f₀ f x → Schedules (λ τ. check_list τ l) (admitted expected table) l b₀ d f₀ g y
      → (x ≡ y) × (b ≡ d) × (f ≡ g)
  pub schedule_bytes : (later : Bool) (s b₀ f₀ : List ℕ) (x y : Result (ℕ × ℕ) Refusal) (b d f g : List ℕ)
      → Schedules (λ τ. check_bytes later τ s) (admitted expected table) (list_of later s) b₀ b f₀ f x
      → Schedules (λ τ. check_bytes later τ s) (admitted expected table) (list_of later s) b₀ d f₀ g y → (x ≡ y) × (b ≡ d) × (f ≡ g)
  pub serves : (l : List Transaction) (s : List ℕ) (x y : Result (ℕ × Served) Refusal)
      → Serving (λ τ. check_list τ l) (admitted expected table) l s x → Serving (λ τ. check_list τ l) (admitted expected table) l s y → x ≡ y
  pub serves_bytes : (later : Bool) (b s : List ℕ) (x y : Result (ℕ × Served) Refusal)
      → Serving (λ τ. check_bytes later τ b) (admitted expected table) (list_of later b) s x
      → Serving (λ τ. check_bytes later τ b) (admitted expected table) (list_of later b) s y → x ≡ y
  pub start : (x y : StartTold) → x ≡ starting (admitted expected table) → y ≡ starting (admitted expected table) → x ≡ y
  pub run : (c₀ : Controller) (l : List Transaction) (n : ℕ) (b₀ : List ℕ) (x y : Result RunReport Refusal) (c e : Controller) (b d : List ℕ)
      → Runs (running (λ τ. check_list τ l) (admitted expected table) c₀ l n b₀) x c b → Runs (running (λ τ. check_list τ l) (admitted expected table) c₀ l n b₀) y e d
      → (x ≡ y) × (c ≡ e) × (b ≡ d)
  pub run_bytes : (later : Bool) (c₀ : Controller) (s : List ℕ) (n : ℕ) (b₀ : List ℕ) (x y : RunTold) (b d : List ℕ)
      → LeavesRun (running (λ τ. check_bytes later τ s) (admitted expected table) c₀ (list_of later s) n b₀) x b
      → LeavesRun (running (λ τ. check_bytes later τ s) (admitted expected table) c₀ (list_of later s) n b₀) y d → (x ≡ y) × (b ≡ d)
