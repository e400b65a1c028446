-- What the four kinds of data commands have in common, and the two kinds of the ACT queue; a known kind has its number.
-- Assumes nothing.
use Prim.Native.Nat.{ℕ}
use mathlib.Core.Path.{◌≡◌, refl}
use mathlib.Core.Bool.{Bool, true, false, not}
use Rattle.records.specs.declared.table.Table.{Table}
use Rattle.records.specs.declared.transaction.Transaction.{Transaction}
use Rattle.records.specs.declared.command.Kind.{Kind}
use Rattle.records.specs.declared.command.Kind.TheVariants.{Act, Rd, Rda, Wr, Wra, Ref, Other}
use Rattle.records.specs.Command.{kind_of, kind_number}
use Rattle.records.specs.Tests.{pick}
use Rattle.records.specs.Transaction.{is_refresh}
use Rattle.rules.specs.declared.state.Bank.{Bank}
use Rattle.rules.specs.declared.state.State.{State}
use Rattle.rules.specs.Kinds.{is_act, is_ref, is_data, in_act_queue, can_end, is_known}
use Rattle.rules.specs.State.{is_open, data_tests, tests_by, bank_after}
use Rattle.rules.specs.Queues.{data_kind, act_kind}
use Rattle.rules.proofs.laws.TestLaws.{true_false}

-- a data command is no ACT
pub no_act : (w z : Bool) → is_act (data_kind w z) ≡ false
no_act true true = refl
no_act true false = refl
no_act false true = refl
no_act false false = refl

-- and no REF, so it is no command of the ACT queue
pub no_ref : (w z : Bool) → is_ref (data_kind w z) ≡ false
no_ref true true = refl
no_ref true false = refl
no_ref false true = refl
no_ref false false = refl

pub not_in_acts : (w z : Bool) → in_act_queue (data_kind w z) ≡ false
not_in_acts w z = rw (no_act w z, no_ref w z)

pub is_data_lem : (w z : Bool) → is_data (data_kind w z) ≡ true
is_data_lem true true = refl
is_data_lem true false = refl
is_data_lem false true = refl
is_data_lem false false = refl

pub can_end_lem : (w z : Bool) → can_end (data_kind w z) ≡ true
can_end_lem w z = rw (is_data_lem w z)

pub is_known_lem : (w z : Bool) → is_known (data_kind w z) ≡ true
is_known_lem true true = refl
is_known_lem true false = refl
is_known_lem false true = refl
is_known_lem false false = refl

-- a bank after a data command; z where the command closes it
pub open_after_lem : (w z : Bool) (t : ℕ) (k : Bank) → is_open (bank_after (data_kind w z) t k) ≡ not z
open_after_lem true true t k = refl
open_after_lem true false t k = refl
open_after_lem false true t k = refl
open_after_lem false false t k = refl

pub act_after : (w z : Bool) (t : ℕ) (k : Bank) → (bank_after (data_kind w z) t k).act ≡ k.act
act_after true true t k = refl
act_after true false t k = refl
act_after false true t k = refl
act_after false false t k = refl

-- the rules of a data command are those of its type
pub rules_kind : (τ : Table) (s : State) (w z : Bool) (t b : ℕ) → tests_by τ s (data_kind w z) t b ≡ data_tests τ s w t b
rules_kind τ s true true t b = refl
rules_kind τ s true false t b = refl
rules_kind τ s false true t b = refl
rules_kind τ s false false t b = refl

-- what a transaction puts into the ACT queue is a command of that queue, and no data command
pub act_queued : (x : Transaction) → in_act_queue (act_kind x) ≡ true
act_queued x = on (is_refresh x)
  where
    on : (b : Bool) → in_act_queue (pick b Ref Act) ≡ true
    on true = refl
    on false = refl

pub act_no_data : (x : Transaction) → is_data (act_kind x) ≡ false
act_no_data x = on (is_refresh x)
  where
    on : (b : Bool) → is_data (pick b Ref Act) ≡ false
    on true = refl
    on false = refl

pub act_known_lem : (x : Transaction) → is_known (act_kind x) ≡ true
act_known_lem x = on (is_refresh x)
  where
    on : (b : Bool) → is_known (pick b Ref Act) ≡ true
    on true = refl
    on false = refl

-- a kind that rule 1 knows is told by its number
pub kind_back_lem : (k : Kind) → is_known k ≡ true → kind_of (kind_number k) ≡ k
kind_back_lem Act e = refl
kind_back_lem Rd e = refl
kind_back_lem Rda e = refl
kind_back_lem Wr e = refl
kind_back_lem Wra e = refl
kind_back_lem Ref e = refl
kind_back_lem (Other n) e = true_false false e refl
