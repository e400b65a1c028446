-- The promise of a run leaves one possible answer, one possible controller and one possible content of the buffer, refused or not.
-- Assumes nothing.
use Prim.Native.Nat.{ℕ}
use mathlib.Core.Path.{◌≡◌, ap}
use mathlib.Core.List.{List}
use Rattle.records.specs.declared.table.Table.{Table}
use Rattle.records.specs.declared.transaction.Transaction.{Transaction}
use Rattle.records.proofs.Unique.{one_answer}
use Rattle.controller.specs.declared.controller.Controller.{Controller}
use Rattle.controller.specs.declared.run.RunTold.{RunTold}
use Rattle.controller.specs.Run.{run_controller, LeavesRun}

pub run_only : (c : Controller) (τ : Table) (l : List Transaction) (count : ℕ) (s : List ℕ) (x y : RunTold) (b d : List ℕ)
    → LeavesRun (run_controller c τ l count s) x b → LeavesRun (run_controller c τ l count s) y d
    → (x.answer ≡ y.answer) × (x.controller ≡ y.controller) × (b ≡ d)
run_only c τ l count s x y b d p q =
    let e : x ≡ y = one_answer (run_controller c τ l count s).told x y p.0 q.0 in
    (ap (λ (r : RunTold). r.answer) e, ap (λ (r : RunTold). r.controller) e, one_answer (run_controller c τ l count s).buffer b d p.1 q.1)
