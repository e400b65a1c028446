-- What one record of the list leaves of the marks that the pass keeps.
use Rattle.std.specs.Prelude.{ℕ, ◌+◌, max, min, not, ◌&&◌, eqb}
use Rattle.records.specs.declared.transaction.Transaction.{Transaction}
use Rattle.records.specs.Tests.{pick, within}
use Rattle.faults.specs.declared.turn.Marks.{Marks}
use Rattle.serves.specs.Check.{due_count, key_of, faulty_by}

-- the marks after a record of the list, of kind c, to bank b, under number y, which is transaction x
abbrev pub marks_after : ℕ → Transaction → ℕ → ℕ → ℕ → ℕ → Marks → Marks
marks_after banks x c b y held m =
    let due = due_count banks x c b in
    let key = key_of banks x.start y c b in
    record {
      top = pick (within 1 4 c && not (eqb due 0)) (max key m.top) m.top;
      high = max (y + 1) m.high;
      least = pick (faulty_by due c held y key m.top m.high) (min y m.least) m.least;
    }
