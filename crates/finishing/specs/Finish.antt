-- What the two passes for the finishing cycles leave.
use Rattle.std.specs.Prelude.{ℕ, ◌*◌, ◌≤◌, ◌<◌, ◌≡◌, List, length, get_or, Some, None}
use Rattle.rules.specs.Types.{Stamp}
use Rattle.records.specs.declared.table.Table.{Table}
use Rattle.records.specs.declared.command.Command.{Command}
use Rattle.records.specs.Transaction.{later_at}
use Rattle.rules.specs.Finish.{last_command, finish_of}

-- a stamp's cycle, d for never
abbrev pub cycle_or : ℕ → Stamp → ℕ
cycle_or d None = d
cycle_or d (Some c) = c

-- at each number the cycle of the last command of it, and else what stood there
pub record Marked (cs : List Command) (f₀ f : List ℕ) : Type 0 where
  pub size : length f ≡ length f₀
  pub each : (k : ℕ) → get_or f k 0 ≡ cycle_or (get_or f₀ k 0) (last_command k cs)

-- the cycles f of last commands became g: finishing cycles, for the first n transactions of the bytes s, and all beyond as it stood
pub record Finished (τ : Table) (s : List ℕ) (n : ℕ) (f g : List ℕ) : Type 0 where
  pub size : length g ≡ length f
  pub each : (k : ℕ) → k < n → get_or g k 0 ≡ finish_of τ (later_at s (8 * k)) (get_or f k 0)
  pub beyond : (k : ℕ) → n ≤ k → get_or g k 0 ≡ get_or f k 0
