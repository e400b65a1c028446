-- Document 02, request 12: "a second engine that goes straight to the next cycle at which a command leaves, and prove that its commands, finishing cycles,
-- states and reported cycle counts equal those of the cycle rule for every input, refusals included".
use Rattle.std.specs.Prelude.{ℕ, Bool, ◌≡◌, List, Result}
use Rattle.records.specs.declared.refusal.Refusal.{Refusal}
use Rattle.controller.specs.declared.run.RunReport.{RunReport}
use Rattle.records.specs.declared.table.Table.{Table}
use Rattle.records.specs.declared.transaction.Transaction.{Transaction}
use Rattle.records.specs.declared.command.Command.{Command}
use Rattle.records.specs.Transaction.{list_of}
use Rattle.rules.specs.declared.state.State.{State}
use Rattle.rules.specs.Run.{run as run_of}
use Rattle.earliest.specs.Jump.{jump}
use Rattle.lists.specs.Check.{check_list, check_bytes}
use Rattle.controller.specs.declared.controller.Controller.{Controller}
use Rattle.controller.specs.declared.run.RunTold.{RunTold}
use Rattle.controller.specs.Run.{LeavesRun}
use Rattle.promises.specs.Admit.{admitted}
use Rattle.promises.specs.Schedules.{Schedules}
use Rattle.promises.specs.Running.{running, Runs}

-- the run that goes straight is the run of the cycle rule, from every state; and what a call of the plain engine leaves by its promise (x, b, f, c) is
-- what the second engine's call of that name leaves by its own (y, d, g, e). Bytes of a list are records of 8 where `later`, else of 4.
pub record Alike (expected : ℕ) (table : List ℕ) : Type 0 where
  pub jumps : (n : ℕ) (τ : Table) (l : List Transaction) (s : State) (h : List Command) → jump n τ l s h ≡ run_of n τ l s h
  pub schedule : (l : List Transaction) (b₀ f₀ : List ℕ) (x y : Result (ℕ × ℕ) Refusal) (b d f g : List ℕ)
      → Schedules (λ τ. check_list τ l) (admitted expected table) l b₀ b f₀ f x → Schedules (λ τ. check_list τ l) (admitted expected table) l b₀ d f₀ g y
      → (x ≡ y) × (b ≡ d) × (f ≡ g)
  pub schedule_bytes : (later : Bool) (s b₀ f₀ : List ℕ) (x y : Result (ℕ × ℕ) Refusal) (b d f g : List ℕ)
      → Schedules (λ τ. check_bytes later τ s) (admitted expected table) (list_of later s) b₀ b f₀ f x
      → Schedules (λ τ. check_bytes later τ s) (admitted expected table) (list_of later s) b₀ d f₀ g y → (x ≡ y) × (b ≡ d) × (f ≡ g)
  -- a step is the run of one cycle
  pub run : (c₀ : Controller) (l : List Transaction) (n : ℕ) (b₀ : List ℕ) (x y : Result RunReport Refusal) (c e : Controller) (b d : List ℕ)
      → Runs (running (λ τ. check_list τ l) (admitted expected table) c₀ l n b₀) x c b → Runs (running (λ τ. check_list τ l) (admitted expected table) c₀ l n b₀) y e d
      → (x ≡ y) × (c ≡ e) × (b ≡ d)
  pub run_bytes : (later : Bool) (c₀ : Controller) (s : List ℕ) (n : ℕ) (b₀ : List ℕ) (x y : RunTold) (b d : List ℕ)
      → LeavesRun (running (λ τ. check_bytes later τ s) (admitted expected table) c₀ (list_of later s) n b₀) x b
      → LeavesRun (running (λ τ. check_bytes later τ s) (admitted expected table) c₀ (list_of later s) n b₀) y d → (x ≡ y) × (b ≡ d)
