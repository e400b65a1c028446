-- The calls of the two engines leave the same.
-- Assumes nothing.
use Prim.Native.Nat.{ℕ}
use mathlib.Core.List.{List}
use Rattle.earliest.proofs.Jump.{jump_run}
use Rattle.promises.specs.Alike.{Alike}
use Rattle.promises.proofs.Unique.{only}

pub alike : (expected : ℕ) (table : List ℕ) → Alike expected table
alike expected table =
    let o = only expected table in
    record {
      jumps = jump_run;
      schedule = o.schedule;
      schedule_bytes = o.schedule_bytes;
      run = o.run;
      run_bytes = o.run_bytes;
    }
