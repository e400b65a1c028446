-- What is planned for a lent run of records is what is read into it.
-- Assumes nothing.
use Rattle.std.specs.Prelude.{Result, Ok, Err}
use Prim.Native.Nat.{ℕ, ◌≤◌}
use mathlib.Core.Bool.{Bool}
use mathlib.Core.Path.{◌≡◌, refl, sym}
use mathlib.Core.List.{List}
use native.Mathlib.Omega.{arith}
use lib.ListN.{length}
use Rattle.records.specs.declared.table.Table.{Table}
use Rattle.records.specs.declared.transaction.Transaction.{Transaction}
use Rattle.records.specs.declared.refusal.Refusal.{Refusal}
use Rattle.records.specs.Transaction.{record_count, list_of}
use Rattle.lists.specs.declared.decode.Plan.{Plan}
use Rattle.lists.specs.Decode.{plan, stored}
use Rattle.lists.proofs.Storing.{stored_none, plan_room, plan_decodes}
use Rattle.admission.specs.Admit.{admitted}
use Rattle.admission.proofs.Laws.{by_admitted}
use Rattle.decoding.specs.Transactions.{reading, reading_plan}

-- the plan by what `admit` answered: a, of the expected edition w and the table's bytes s
module _ (w : ℕ) (s : List ℕ) (a : Result Table Refusal) (e : a ≡ admitted w s) where
  module _ (τ : Table) (t : a ≡ Ok τ) where
    pub plan_read : (later : Bool) (b : List ℕ) (places : ℕ) (r : Plan) → r ≡ plan later τ b places → r ≡ reading_plan later (admitted w s) b places
    unfolding reading_plan
    plan_read later b places r h = by_admitted (λ (z : Result Table Refusal). r ≡ reading_plan later z b places) w s a (Ok τ) e t h

  module _ (x : Refusal) (t : a ≡ Err x) where
    pub plan_refused : (later : Bool) (b : List ℕ) (places : ℕ) → record { n = 0; answer = Err x } ≡ reading_plan later (admitted w s) b places
    unfolding reading_plan
    plan_refused later b places = by_admitted (λ (z : Result Table Refusal). record { n = 0; answer = Err x } ≡ reading_plan later z b places) w s a (Err x) e t refl

-- there are bytes, and places, for what is stored
pub reading_room : (later : Bool) (a : Result Table Refusal) (s : List ℕ) (places : ℕ)
    → ((reading_plan later a s places).n ≤ record_count later (length s)) × ((reading_plan later a s places).n ≤ places)
unfolding reading_plan
reading_room later (Ok τ) s places = plan_room later τ s places
reading_room later (Err x) s places = (omega arith, omega arith)

pub reading_planned : (later : Bool) (a : Result Table Refusal) (s : List ℕ) (l : List Transaction)
    → ((reading_plan later a s (length l)).answer ≡ (reading later a s l).answer) × (stored (list_of later s) (reading_plan later a s (length l)).n l ≡ (reading later a s l).list)
unfolding reading_plan reading
reading_planned later (Ok τ) s l = plan_decodes later τ s l
reading_planned later (Err x) s l = (refl, sym (stored_none (list_of later s) l))
