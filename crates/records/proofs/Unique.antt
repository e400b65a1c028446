-- Each call's promise leaves one possible answer, and one possible content of the buffer it was lent, refused or not.
-- Assumes nothing.
use Rattle.std.specs.Prelude.{Result}
use Rattle.records.specs.declared.table.Table.{Table}
use Rattle.records.specs.declared.refusal.Refusal.{Refusal}
use Prim.Native.Nat.{ℕ}
use mathlib.Core.Path.{◌≡◌, sym, ◌∙◌}
use mathlib.Core.List.{List}
use Rattle.records.specs.declared.transaction.Transaction.{Transaction}
use Rattle.records.specs.declared.command.Command.{Command}
use Rattle.records.specs.Told.{Wrote, Leaves}
use Rattle.records.specs.Table.{read_table, write_table, write_group_table}
use Rattle.records.specs.Transaction.{read_transaction, write_transaction, read_later, write_later}
use Rattle.records.specs.Command.{read_command, write_command}

pub one_answer : {A : Type 0} (a x y : A) → x ≡ a → y ≡ a → x ≡ y
one_answer a x y p q = p ∙ sym q

pub one_left : (w : Wrote) (x y : Result ℕ Refusal) (b d : List ℕ) → Leaves w x b → Leaves w y d → (x ≡ y) × (b ≡ d)
one_left w x y b d p q = (one_answer w.answer x y p.0 q.0, one_answer w.buffer b d p.1 q.1)

pub read_table_only : (s : List ℕ) (x y : Result Table Refusal) → x ≡ read_table s → y ≡ read_table s → x ≡ y
read_table_only s = one_answer (read_table s)

pub read_transaction_only : (s : List ℕ) (x y : Result Transaction Refusal) → x ≡ read_transaction s → y ≡ read_transaction s → x ≡ y
read_transaction_only s = one_answer (read_transaction s)

pub read_later_only : (s : List ℕ) (x y : Result Transaction Refusal) → x ≡ read_later s → y ≡ read_later s → x ≡ y
read_later_only s = one_answer (read_later s)

pub read_command_only : (s : List ℕ) (x y : Result Command Refusal) → x ≡ read_command s → y ≡ read_command s → x ≡ y
read_command_only s = one_answer (read_command s)

module _ (s : List ℕ) (x y : Result ℕ Refusal) (b d : List ℕ) where
  pub write_table_only : (l : List ℕ) → Leaves (write_table l s) x b → Leaves (write_table l s) y d → (x ≡ y) × (b ≡ d)
  write_table_only l = one_left (write_table l s) x y b d

  pub write_group_table_only : (l : List ℕ) → Leaves (write_group_table l s) x b → Leaves (write_group_table l s) y d → (x ≡ y) × (b ≡ d)
  write_group_table_only l = one_left (write_group_table l s) x y b d

  pub write_transaction_only : (t : Transaction) → Leaves (write_transaction t s) x b → Leaves (write_transaction t s) y d → (x ≡ y) × (b ≡ d)
  write_transaction_only t = one_left (write_transaction t s) x y b d

  pub write_later_only : (t : Transaction) → Leaves (write_later t s) x b → Leaves (write_later t s) y d → (x ≡ y) × (b ≡ d)
  write_later_only t = one_left (write_later t s) x y b d

  pub write_command_only : (c : Command) → Leaves (write_command c s) x b → Leaves (write_command c s) y d → (x ≡ y) × (b ≡ d)
  write_command_only c = one_left (write_command c s) x y b d
