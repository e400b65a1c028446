-- Document 02, request 12: the exported calls of the two engines leave the same, "for every input, refusals included".
use Rattle.std.specs.Prelude.{ℕ, Bool, ◌≡◌, List}
use Rattle.records.specs.declared.transaction.Transaction.{Transaction}
use Rattle.records.specs.Transaction.{list_of}
use Rattle.lists.specs.Check.{check_list, check_bytes}
use Rattle.controller.specs.declared.controller.Controller.{Controller}
use Rattle.promises.specs.Admit.{admitted}
use Rattle.promises.specs.Running.{running}
use Rattle.answers.specs.declared.answer.Answer.{Answer}
use Rattle.answers.specs.declared.answer.RunAnswer.{RunAnswer}
use Rattle.host.specs.Promises.{Scheduled, RunsIn, RunsBack}

-- what a call of the plain engine leaves by its promise (x, b, f, c) is what the second engine's call leaves by its own (y, d, g, e). Bytes of a list are
-- records of 8 where `later`, else of 4
pub record Alike (expected : ℕ) (table : List ℕ) : Type 0 where
  pub schedule : (l : List Transaction) (b₀ f₀ : List ℕ) (x y : Answer) (b d f g : List ℕ)
      → Scheduled (λ τ. check_list τ l) (admitted expected table) l b₀ b f₀ f x → Scheduled (λ τ. check_list τ l) (admitted expected table) l b₀ d f₀ g y
      → (x ≡ y) × (b ≡ d) × (f ≡ g)
  pub schedule_bytes : (later : Bool) (s b₀ f₀ : List ℕ) (x y : Answer) (b d f g : List ℕ)
      → Scheduled (λ τ. check_bytes later τ s) (admitted expected table) (list_of later s) b₀ b f₀ f x
      → Scheduled (λ τ. check_bytes later τ s) (admitted expected table) (list_of later s) b₀ d f₀ g y → (x ≡ y) × (b ≡ d) × (f ≡ g)
  -- a step is the run of one cycle
  pub run : (c₀ : Controller) (l : List Transaction) (n : ℕ) (b₀ : List ℕ) (x y : Answer) (c e : Controller) (b d : List ℕ)
      → RunsIn (running (λ τ. check_list τ l) (admitted expected table) c₀ l n b₀) x c b → RunsIn (running (λ τ. check_list τ l) (admitted expected table) c₀ l n b₀) y e d
      → (x ≡ y) × (c ≡ e) × (b ≡ d)
  pub run_bytes : (later : Bool) (c₀ : Controller) (s : List ℕ) (n : ℕ) (b₀ : List ℕ) (x y : RunAnswer) (b d : List ℕ)
      → RunsBack (running (λ τ. check_bytes later τ s) (admitted expected table) c₀ (list_of later s) n b₀) x b
      → RunsBack (running (λ τ. check_bytes later τ s) (admitted expected table) c₀ (list_of later s) n b₀) y d → (x ≡ y) × (b ≡ d)
