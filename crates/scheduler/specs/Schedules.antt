-- What a call that builds a schedule answers, and what it leaves in the two buffers, refused or not. b₀ and f₀ are what they held.
use Rattle.std.specs.Prelude.{ℕ, ◌≡◌, List, Result, Ok, Err}
use Rattle.records.specs.declared.table.Table.{Table}
use Rattle.records.specs.declared.transaction.Transaction.{Transaction}
use Rattle.records.specs.declared.refusal.Refusal.{Refusal}
use Rattle.builder.specs.Build.{LeavesBuild}

-- "no buffer or state changes"
abbrev pub NothingBuilt : Refusal → List ℕ → List ℕ → List ℕ → List ℕ → Result (ℕ × ℕ) Refusal → Type 0
NothingBuilt x b₀ b f₀ f r = (r ≡ Err x) × (b ≡ b₀) × (f ≡ f₀)

-- by what the check of the list, numbers 3 and 4, finds; then numbers 5 and 6, and the schedule
unfoldable pub BuildsChecked : Result Unit Refusal → Table → List Transaction → List ℕ → List ℕ → List ℕ → List ℕ → Result (ℕ × ℕ) Refusal → Type 0
BuildsChecked (Ok _) τ l b₀ b f₀ f r = LeavesBuild τ l b₀ b f₀ f r
BuildsChecked (Err x) τ l b₀ b f₀ f r = NothingBuilt x b₀ b f₀ f r

-- numbers 1, 2 and 10; then the check of the list by the table, and the rest
unfoldable pub Schedules : (Table → Result Unit Refusal) → Result Table Refusal → List Transaction → List ℕ → List ℕ → List ℕ → List ℕ → Result (ℕ × ℕ) Refusal → Type 0
Schedules check (Ok τ) l b₀ b f₀ f r = BuildsChecked (check τ) τ l b₀ b f₀ f r
Schedules check (Err x) l b₀ b f₀ f r = NothingBuilt x b₀ b f₀ f r
