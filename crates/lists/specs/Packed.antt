-- "Decoded transactions are kept as a lent run of records": such a run, as the bytes of its records.
use Rattle.std.specs.Prelude.{ℕ, Bool, true, List, [], ◌∷◌, ◌++◌, take, replicate}
use Rattle.records.specs.declared.transaction.Transaction.{Transaction}
use Rattle.records.specs.Tests.{pick}
use Rattle.records.specs.Told.{over}
use Rattle.records.specs.Transaction.{transaction, bytes_of, later_bytes, later_from}

-- the bytes of a list's records, of 8 where `later`, else of 4
abbrev pub records_of : Bool → List Transaction → List ℕ
records_of later [] = []
records_of later (x ∷ l) = pick later (later_bytes x) (bytes_of x) ++ records_of later l

-- a list's first n, packed: the bytes of their records of 8, and zeros
unfoldable pub packed : ℕ → List Transaction → List ℕ
packed n l = over (records_of true (take n l)) (replicate 2048 0)

-- the list of n that packed bytes hold
unfoldable pub held : ℕ → List ℕ → List Transaction
held n s = later_from s n 0

-- what is read past a list's end
abbrev pub no_transaction : Transaction
no_transaction = transaction 0 0 0 0
