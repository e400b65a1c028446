-- The exported calls of the two engines leave the same: by one promise there is one answer.
-- Assumes nothing.
use Prim.Native.Nat.{ℕ}
use mathlib.Core.List.{List}
use Rattle.host.specs.Alike.{Alike}
use Rattle.host.proofs.Unique.{only}

pub alike : (expected : ℕ) (table : List ℕ) → Alike expected table
alike expected table =
    let o = only expected table in
    record { schedule = o.schedule; schedule_bytes = o.schedule_bytes; run = o.run; run_bytes = o.run_bytes }
