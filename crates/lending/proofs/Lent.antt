-- Laws of a lent run of records: gathered, it is scheduled and run as the run itself would be.
-- Assumes nothing.
use Rattle.std.specs.Prelude.{Result, Ok, Err}
use Rattle.records.specs.declared.refusal.Refusal.{Refusal}
use Prim.Native.Nat.{ℕ, ◌≤◌}
use mathlib.Core.Bool.{Bool, true, false, not}
use mathlib.Core.Path.{◌≡◌, refl, sym, ap, ◌∙◌, subst}
use mathlib.Core.List.{List}
use native.Mathlib.Omega.{arith}
use lib.Dec.{T, leb, eqb}
use lib.ListN.{length}
use borrow.Author.Tests.{leb-true, leb-false}
use Rattle.records.specs.declared.table.Table.{Table}
use Rattle.records.specs.declared.transaction.Transaction.{Transaction}
use Rattle.records.specs.Tests.{pick}
use Rattle.records.specs.Told.{refusal}
use Rattle.rules.specs.Run.{Ran as RanTo}
use Rattle.rules.specs.Pieces.{lent_run}
use Rattle.lists.specs.Check.{check_list}
use Rattle.lists.specs.Packed.{held, packed}
use Rattle.lists.proofs.Checks.{over_list}
use Rattle.lists.proofs.Packing.{held_whole}
use Rattle.sound.specs.Refused.{run_refusal}
use Rattle.controller.specs.declared.controller.Controller.{Controller}
use Rattle.controller.specs.declared.run.RunTold.{RunTold}
use Rattle.controller.specs.Controller.{tells}
use Rattle.controller.specs.Run.{RunLeft, ran_left, refused_left, left_by, run_controller, LeavesRun}
use Rattle.admission.specs.declared.admit.WayIn.{WayIn}
use Rattle.admission.specs.Admit.{admitted, no_way, way_in, LetIn}
use Rattle.scheduler.specs.Schedules.{BuildsChecked, Schedules}
use Rattle.runner.specs.Running.{runs_checked, running, Runs, has_run}
use Rattle.admission.proofs.Laws.{read_accepted}

-- ---- the way in

-- at most as many are gathered as there are
pub way_room : (n : ℕ) (a : Result Table Refusal) → ((way_in n a).n ≤ n) × ((way_in n a).n ≤ 256)
way_room n (Ok τ) = on (leb n 256) refl
  where
    on : (b : Bool) → leb n 256 ≡ b → ((pick b (record { n = n; table = Ok τ }) (no_way (refusal 3 0 τ.edition))).n ≤ n) × ((pick b (record { n = n; table = Ok τ }) (no_way (refusal 3 0 τ.edition))).n ≤ 256)
    on true t = (omega arith, leb-true n 256 t)
    on false t = (omega arith, omega arith)
way_room n (Err x) = (omega arith, omega arith)

-- a table that it lets in was admitted
way_read : (n : ℕ) (a : Result Table Refusal) (τ : Table) → (way_in n a).table ≡ Ok τ → a ≡ Ok τ
way_read n (Ok t) τ h = on (leb n 256) h
  where
    on : (b : Bool) → (pick b (record { n = n; table = Ok t }) (no_way (refusal 3 0 t.edition))).table ≡ Ok τ → ◌≡◌ {A = Result Table Refusal} (Ok t) (Ok τ)
    on true h = h
    on false h = let z : ◌≡◌ {A = ℕ} 0 1 = cc in absurd (omega arith)
way_read n (Err x) τ h = h

pub let_in : (expected : ℕ) (table : List ℕ) (n : ℕ) (w : WayIn) → w ≡ way_in n (admitted expected table) → LetIn w
let_in expected table n w e =
    subst (λ (z : WayIn). LetIn z) (sym e)
    (record { few = (way_room n (admitted expected table)).1; accepted = λ τ h. read_accepted expected table τ (way_read n (admitted expected table) τ h) })

-- ---- gathered, a list is scheduled and run as it would be itself

module _ (l : List Transaction) where
  pub over : (τ : Table) → leb (length l) 256 ≡ false → Err (refusal 3 0 τ.edition) ≡ check_list τ l
  over τ t = over_list τ l (leb-false (length l) 256 t)

  abbrev pub by : Bool → Table → WayIn
  by b τ = pick b (record { n = length l; table = Ok τ }) (no_way (refusal 3 0 τ.edition))

  -- ---- a schedule

  module _ (b₀ b f₀ f : List ℕ) (r : Result (ℕ × ℕ) Refusal) where
    abbrev Built : WayIn → List ℕ → Type 0
    Built w s = Schedules (λ τ. check_list τ (held w.n s)) w.table (held w.n s) b₀ b f₀ f r

    schedules : (a : Result Table Refusal) → Built (way_in (length l) a) (packed (way_in (length l) a).n l) → Schedules (λ τ. check_list τ l) a l b₀ b f₀ f r
    unfolding Schedules BuildsChecked
    schedules (Ok τ) = on (leb (length l) 256) refl
      where
        on : (y : Bool) → leb (length l) 256 ≡ y → Built (by y τ) (packed (by y τ).n l) → BuildsChecked (check_list τ l) τ l b₀ b f₀ f r
        on true t h = subst (λ (m : List Transaction). BuildsChecked (check_list τ m) τ m b₀ b f₀ f r) (held_whole l) h
        on false t h = subst (λ (d : Result Unit Refusal). BuildsChecked d τ l b₀ b f₀ f r) (over τ t) h
    schedules (Err x) = λ h. h

    pub schedules_lent : (a : Result Table Refusal) (w : WayIn) → w ≡ way_in (length l) a → (s : List ℕ) → s ≡ packed w.n l → Built w s → Schedules (λ τ. check_list τ l) a l b₀ b f₀ f r
    schedules_lent a w e s k h = schedules a (subst (λ (z : WayIn). Built z (packed z.n l)) e (subst (λ (z : List ℕ). Built w z) k h))

  -- ---- a run

  module _ (c : Controller) (n : ℕ) (b : List ℕ) where
    abbrev ran : WayIn → List ℕ → RunLeft
    ran w s = running (λ τ. check_list τ (held w.n s)) w.table c (held w.n s) n b

    runs : (a : Result Table Refusal) → ran (way_in (length l) a) (packed (way_in (length l) a).n l) ≡ running (λ τ. check_list τ l) a c l n b
    unfolding running runs_checked
    runs (Ok τ) = on (leb (length l) 256) refl
      where
        on : (y : Bool) → leb (length l) 256 ≡ y → ran (by y τ) (packed (by y τ).n l) ≡ runs_checked (check_list τ l) c τ l n b
        on true t = ap (λ (m : List Transaction). runs_checked (check_list τ m) c τ m n b) (held_whole l)
        on false t = ap (λ (d : Result Unit Refusal). runs_checked d c τ l n b) (over τ t)
    runs (Err x) = refl

    -- by value, and where the controller lies
    pub runs_lent : (a : Result Table Refusal) (w : WayIn) → w ≡ way_in (length l) a → (s : List ℕ) → s ≡ packed w.n l → (r : RunTold) (z : List ℕ)
        → LeavesRun (ran w s) r z → Runs (running (λ τ. check_list τ l) a c l n b) r.answer r.controller z
    runs_lent a w e s k r z h =
        let same : ran w s ≡ running (λ τ. check_list τ l) a c l n b = ap (ran w) k ∙ ap (λ (y : WayIn). ran y (packed y.n l)) e ∙ runs a in
        let j = subst (λ (y : RunLeft). LeavesRun y r z) same h in
        (ap (λ (t : RunTold). t.answer) j.0, ap (λ (t : RunTold). t.controller) j.0, j.1)

-- the test that does not hold
pub untold : (y : Bool) → T (not y) → y ≡ false
untold true z = absurd z
untold false z = refl

-- a refused run leaves the controller
pub not_run : (check : Table → Result Unit Refusal) (a : Result Table Refusal) (c : Controller) (l : List Transaction) (n : ℕ) (b : List ℕ) (r : RunTold) (z : List ℕ)
    → LeavesRun (running check a c l n b) r z → has_run r.answer ≡ false → c ≡ r.controller
unfolding running runs_checked run_controller
not_run check a c l n b r z h refused = sym (ap (λ (t : RunTold). t.controller) h.0 ∙ kept check a (sym (ap (λ (t : RunTold). has_run t.answer) h.0) ∙ refused))
  where
    by_number : (e : ℕ) (m : RanTo) (y : ℕ) → has_run (left_by y e m c b).told.answer ≡ false → (left_by y e m c b).told.controller ≡ c
    by_number e m y h = on (eqb y 0) h
      where
        on : (t : Bool) → has_run (pick t (ran_left e m b) (refused_left e y c b)).told.answer ≡ false → (pick t (ran_left e m b) (refused_left e y c b)).told.controller ≡ c
        on true h = let w : ◌≡◌ {A = ℕ} 0 1 = cc in absurd (omega arith)
        on false h = refl

    checked : (τ : Table) (d : Result Unit Refusal) → has_run (runs_checked d c τ l n b).told.answer ≡ false → (runs_checked d c τ l n b).told.controller ≡ c
    checked τ (Ok _) h = by_number τ.edition (lent_run n τ l (tells c)) (run_refusal τ l (tells c) n (length b)) h
    checked τ (Err x) h = refl

    kept : (check : Table → Result Unit Refusal) (a : Result Table Refusal) → has_run (running check a c l n b).told.answer ≡ false → (running check a c l n b).told.controller ≡ c
    kept check (Ok τ) h = checked τ (check τ) h
    kept check (Err x) h = refl
