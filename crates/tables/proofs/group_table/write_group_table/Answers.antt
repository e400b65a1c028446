use Rattle.std.proofs.Common.{◌≡◌, Ok, Err, Result, ℕ, eqb, length, rules}
use mathlib.Core.Path.{sym}
use Rattle.records.specs.declared.refusal.Refusal.{Refusal}
use Rattle.records.specs.Told.{over}
use Rattle.records.specs.Little.{bytes16}
use Rattle.records.specs.Table.{group_table_of, table_refusal_by, write_group_table}
use Rattle.records.proofs.Laws.{check_writes, check_stops}
use Rattle.tables.proofs.group_table.write_group_table.Goals as goal

pub returns-in_err-check_table : goal.returns-in_err-check_table
unfolding write_group_table
returns-in_err-check_table c =
    check_stops (table_refusal_by (eqb (length c.args.s.now) 40) (group_table_of c.args.n)) c.args.s.now _ _ (rw c.group_table_of-grouped.ensures at c.check_table.ensures) _ _
    c.in_err-check_table.was (search rules)

pub returns : goal.returns
unfolding write_group_table
returns c =
    rw c.group_table_of-grouped.ensures
    (check_writes (table_refusal_by (eqb (length c.args.s.now) 40) (group_table_of c.args.n)) c.args.s.now
    (record { answer = Ok (group_table_of c.args.n).edition; buffer = over (bytes16 c.args.n) c.args.s.now }) _ (rw c.group_table_of-grouped.ensures at c.check_table.ensures) _
    c.in_ok-check_table.was c.put_numbers.ensures)
