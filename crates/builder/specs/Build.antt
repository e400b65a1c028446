-- Document 01, "What the caller is told", numbers 5 and 6, and what building leaves.
use Rattle.std.specs.Prelude.{ℕ, ◌+◌, ◌*◌, ◌≡◌, List, [], ◌∷◌, ltb, length, Result, Ok, Err}
use Rattle.records.specs.declared.refusal.Refusal.{Refusal}
use Rattle.records.specs.Told.{refusal, first_failed, over}
use Rattle.records.specs.declared.table.Table.{Table}
use Rattle.records.specs.declared.transaction.Transaction.{Transaction}
use Rattle.records.specs.declared.command.Command.{Command}
use Rattle.records.specs.Command.{bytes_of_all}
use Rattle.rules.specs.Queues.{act_queue, data_queue}
use Rattle.rules.specs.CycleRule.{Built as IsBuilt}
use Rattle.engine.specs.Build.{finishes_from}

-- number 5: "command room under 8 × commands due"; number 6: "finishing slice shorter than the list"
abbrev pub build_refusal : Table → List Transaction → ℕ → ℕ → ℕ
build_refusal τ l room places =
    first_failed ((5, ltb room (8 * (length (act_queue τ l) + length (data_queue τ l)))) ∷ (6, ltb places (length l)) ∷ [])

-- the built schedule stands from the start of the one buffer, its finishing cycles from the start of the other, all beyond as it stood
pub record Stands (τ : Table) (l : List Transaction) (b₀ b f₀ f : List ℕ) (n : ℕ) : Type 0 where
  pub schedule : List Command
  pub built : IsBuilt τ l schedule
  pub count : n ≡ length schedule
  pub buffer : b ≡ over (bytes_of_all schedule) b₀
  pub finishes : f ≡ over (finishes_from τ l 0 schedule) f₀

-- what building answers, and leaves in buffers that held b₀ and f₀: where neither 5 nor 6 fails the schedule, and else the refusal and no change
abbrev pub LeavesBuild : Table → List Transaction → List ℕ → List ℕ → List ℕ → List ℕ → Result (ℕ × ℕ) Refusal → Type 0
LeavesBuild τ l b₀ b f₀ f (Ok (e, n)) = (build_refusal τ l (length b₀) (length f₀) ≡ 0) × (e ≡ τ.edition) × Stands τ l b₀ b f₀ f n
LeavesBuild τ l b₀ b f₀ f (Err x) =
    (build_refusal τ l (length b₀) (length f₀) ≡ 0 → ⊥)
    × (x ≡ refusal (build_refusal τ l (length b₀) (length f₀)) 0 τ.edition) × (b ≡ b₀) × (f ≡ f₀)
