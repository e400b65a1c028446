-- "Requests may come in pieces" (document 02, request 9), of the public calls `start`, `run` and `run_later_bytes`: each run is lent the whole list so
-- far, and "Numbers 3 and 4 are read over the whole list".
use Rattle.std.specs.Prelude.{ℕ, true, List}
use Rattle.records.specs.declared.transaction.Transaction.{Transaction}
use Rattle.records.specs.Transaction.{later_in}
use Rattle.lists.specs.Check.{check_list, check_bytes}
use Rattle.lists.specs.Packed.{records_of}
use Rattle.controller.specs.declared.controller.Controller.{Controller}
use Rattle.controller.specs.Run.{RunLeft}
use Rattle.controller.specs.Pieces.{Lot, AsWhole}
use Rattle.promises.specs.Admit.{admitted}
use Rattle.promises.specs.Running.{starting, running}

-- what `run` leaves of a controller, over a lent run of records
abbrev pub ran_over : ℕ → List ℕ → Controller → List Transaction → ℕ → List ℕ → RunLeft
ran_over expected table c l n b = running (λ τ. check_list τ l) (admitted expected table) c l n b

-- what `run_later_bytes` leaves, over the bytes of the list's records of 8
abbrev pub ran_over_bytes : ℕ → List ℕ → Controller → List Transaction → ℕ → List ℕ → RunLeft
ran_over_bytes expected table c l n b = running (λ τ. check_bytes true τ (records_of true l)) (admitted expected table) c (later_in (records_of true l)) n b

-- "From a fresh state, any cutting without refusal, run to the end, gives the commands of the whole list", and the controller and the cycles of one
-- run: from what `start` hands out
pub record PiecesAsWhole (expected : ℕ) (table : List ℕ) (ps : List Lot) : Type 0 where
  pub records : AsWhole (ran_over expected table) (starting (admitted expected table)).controller ps
  pub bytes : AsWhole (ran_over_bytes expected table) (starting (admitted expected table)).controller ps
