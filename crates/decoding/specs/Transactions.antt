-- "Decoded transactions are kept as a lent run of records." The bytes are records of 8 where `later`, else of 4.
use Rattle.std.specs.Prelude.{ℕ, Bool, List, Result, Ok, Err}
use Rattle.records.specs.declared.table.Table.{Table}
use Rattle.records.specs.declared.refusal.Refusal.{Refusal}
use Rattle.records.specs.declared.transaction.Transaction.{Transaction}
use Rattle.lists.specs.declared.decode.Plan.{Plan}
use Rattle.lists.specs.Decode.{Decoding, decoding, plan}

-- numbers 1, 2 and 10; then 3, 4 and the transactions of the bytes s from the start of the run that held l
unfoldable pub reading : Bool → Result Table Refusal → List ℕ → List Transaction → Decoding
reading later (Ok τ) s l = decoding later τ s l
reading later (Err x) s l = record { answer = Err x; list = l }

-- the answer for so many places, and how many are stored
unfoldable pub reading_plan : Bool → Result Table Refusal → List ℕ → ℕ → Plan
reading_plan later (Ok τ) s places = plan later τ s places
reading_plan later (Err x) s places = record { n = 0; answer = Err x }
