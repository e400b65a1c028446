-- A refused call leaves everything as it stood.
-- Assumes nothing.
use Rattle.std.specs.Prelude.{Result, Ok, Err}
use Prim.Native.Nat.{ℕ}
use mathlib.Core.Bool.{Bool, true, false}
use mathlib.Core.Path.{◌≡◌, refl, ap}
use mathlib.Core.List.{List}
use native.Mathlib.Omega.{arith}
use lib.Dec.{eqb}
use lib.ListN.{length}
use Rattle.records.specs.declared.table.Table.{Table}
use Rattle.records.specs.declared.transaction.Transaction.{Transaction}
use Rattle.records.specs.declared.command.Command.{Command}
use Rattle.records.specs.declared.refusal.Refusal.{Refusal}
use Rattle.records.specs.Tests.{pick}
use Rattle.records.specs.Told.{refusal, over, Wrote}
use Rattle.records.specs.Little.{bytes16}
use Rattle.records.specs.Table.{table_of, group_table_of, table_refusal_by, write_table, write_group_table}
use Rattle.records.specs.Transaction.{transaction_refusal, later_refusal, write_transaction, write_later, later_bytes, bytes_of as transaction_bytes}
use Rattle.records.specs.Command.{room_refusal, write_command, bytes_of as command_bytes}
use Rattle.stamps.specs.declared.one_record.CaptureRecord.{CaptureRecord}
use Rattle.stamps.specs.Record.{bytes_of_record, record_room, write_capture_record}
use Rattle.lists.proofs.Promises.{decode_kept}
use Rattle.controller.specs.declared.controller.Controller.{Controller}
use Rattle.controller.specs.Run.{RunLeft}
use Rattle.controller.proofs.Halves.{refused}
use Rattle.promises.specs.Transactions.{reading}
use Rattle.promises.specs.Schedules.{BuildsChecked, Schedules}
use Rattle.promises.specs.Running.{runs_checked, running}

pub unread : (later : Bool) (a : Result Table Refusal) (s : List ℕ) (l : List Transaction) (x : Refusal) → (reading later a s l).answer ≡ Err x → (reading later a s l).list ≡ l
unfolding reading
unread later (Ok τ) s l x e = (decode_kept later τ s l).refused x e
unread later (Err y) s l x e = refl

module _ (l : List Transaction) (b₀ b f₀ f : List ℕ) (x : Refusal) where
  unbuilt_checked : (c : Result Unit Refusal) (τ : Table) → BuildsChecked c τ l b₀ b f₀ f (Err x) → (b ≡ b₀) × (f ≡ f₀)
  unfolding BuildsChecked
  unbuilt_checked (Ok _) τ h = (h.2, h.3)
  unbuilt_checked (Err y) τ h = (h.1, h.2)

  pub unbuilt : (check : Table → Result Unit Refusal) (a : Result Table Refusal) → Schedules check a l b₀ b f₀ f (Err x) → (b ≡ b₀) × (f ≡ f₀)
  unfolding Schedules
  unbuilt check (Ok τ) h = unbuilt_checked (check τ) τ h
  unbuilt check (Err y) h = (h.1, h.2)

module _ (c : Controller) (l : List Transaction) (n : ℕ) (b : List ℕ) (x : Refusal) where
  -- the controller and the buffer are as they stood
  abbrev Stood : RunLeft → Type 0
  Stood w = (w.told.controller ≡ c) × (w.buffer ≡ b)

  unrun_checked : (d : Result Unit Refusal) (τ : Table) → (runs_checked d c τ l n b).told.answer ≡ Err x → Stood (runs_checked d c τ l n b)
  unfolding runs_checked
  unrun_checked (Ok _) τ e = let w = refused τ l c n b x e in (ap (λ (v : RunLeft). v.told.controller) w, ap (λ (v : RunLeft). v.buffer) w)
  unrun_checked (Err y) τ e = (refl, refl)

  pub unrun : (check : Table → Result Unit Refusal) (a : Result Table Refusal) → (running check a c l n b).told.answer ≡ Err x → Stood (running check a c l n b)
  unfolding running
  unrun check (Ok τ) e = unrun_checked (check τ) τ e
  unrun check (Err y) e = (refl, refl)

-- a writer of one record that z refuses
unwritten : (z : ℕ) (w : Wrote) (s : List ℕ) (x : Refusal)
    → (pick (eqb z 0) w (record { answer = Err (refusal z 0 0); buffer = s })).answer ≡ Err x → ((x : Refusal) → w.answer ≡ Err x → ⊥)
    → (pick (eqb z 0) w (record { answer = Err (refusal z 0 0); buffer = s })).buffer ≡ s
unwritten z w s x e h = on (eqb z 0) e
  where
    on : (b : Bool) → (pick b w (record { answer = Err (refusal z 0 0); buffer = s })).answer ≡ Err x
        → (pick b w (record { answer = Err (refusal z 0 0); buffer = s })).buffer ≡ s
    on true e = absurd (h x e)
    on false e = refl

done_not : (e : ℕ) (x : Refusal) → ◌≡◌ {A = Result ℕ Refusal} (Ok e) (Err x) → ⊥
done_not e x h = let z : ◌≡◌ {A = ℕ} 0 1 = cc in omega arith

pub table_unwritten_lem : (l s : List ℕ) (x : Refusal) → (write_table l s).answer ≡ Err x → (write_table l s).buffer ≡ s
unfolding write_table
table_unwritten_lem l s x e =
    unwritten (table_refusal_by (eqb (length s) 32) (table_of l)) (record { answer = Ok (table_of l).edition; buffer = over (bytes16 l) s }) s x e (done_not (table_of l).edition)

pub group_table_unwritten_lem : (l s : List ℕ) (x : Refusal) → (write_group_table l s).answer ≡ Err x → (write_group_table l s).buffer ≡ s
unfolding write_group_table
group_table_unwritten_lem l s x e =
    unwritten (table_refusal_by (eqb (length s) 40) (group_table_of l)) (record { answer = Ok (group_table_of l).edition; buffer = over (bytes16 l) s }) s x e (done_not (group_table_of l).edition)

pub transaction_unwritten_lem : (t : Transaction) (s : List ℕ) (x : Refusal) → (write_transaction t s).answer ≡ Err x → (write_transaction t s).buffer ≡ s
unfolding write_transaction
transaction_unwritten_lem t s x e = unwritten (transaction_refusal (length s) t) (record { answer = Ok 0; buffer = over (transaction_bytes t) s }) s x e (done_not 0)

pub later_unwritten_lem : (t : Transaction) (s : List ℕ) (x : Refusal) → (write_later t s).answer ≡ Err x → (write_later t s).buffer ≡ s
unfolding write_later
later_unwritten_lem t s x e = unwritten (later_refusal (length s) t) (record { answer = Ok 0; buffer = over (later_bytes t) s }) s x e (done_not 0)

pub command_unwritten_lem : (c : Command) (s : List ℕ) (x : Refusal) → (write_command c s).answer ≡ Err x → (write_command c s).buffer ≡ s
unfolding write_command
command_unwritten_lem c s x e = unwritten (room_refusal (length s)) (record { answer = Ok 0; buffer = over (command_bytes c) s }) s x e (done_not 0)

pub capture_unwritten_lem : (c : CaptureRecord) (s : List ℕ) (x : Refusal) → (write_capture_record c s).answer ≡ Err x → (write_capture_record c s).buffer ≡ s
unfolding write_capture_record
capture_unwritten_lem c s x e = unwritten (record_room (length s)) (record { answer = Ok 0; buffer = over (bytes_of_record c) s }) s x e (done_not 0)
