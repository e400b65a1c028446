-- What a call answers stands in the buffers that it was lent.
-- Assumes nothing.
use Rattle.std.specs.Prelude.{Result, Ok, Err}
use Prim.Native.Nat.{ℕ, ◌*◌, ◌≤◌}
use mathlib.Core.Bool.{Bool, true, false}
use mathlib.Core.Path.{◌≡◌, refl, sym, ap, ◌∙◌, subst}
use mathlib.Core.List.{List}
use native.Mathlib.Omega.{arith}
use lib.Dec.{eqb}
use lib.ListN.{length, drop, length-append}
use Rattle.records.specs.declared.table.Table.{Table}
use Rattle.records.specs.declared.transaction.Transaction.{Transaction}
use Rattle.records.specs.declared.refusal.Refusal.{Refusal}
use Rattle.records.specs.Tests.{pick}
use Rattle.records.specs.Told.{over}
use Rattle.records.specs.Transaction.{record_count, list_of}
use Rattle.records.specs.Command.{bytes_of_all}
use Rattle.rules.specs.Run.{Ran as RanTo}
use Rattle.rules.specs.Pieces.{lent_run}
use Rattle.records.proofs.Listed.{length_list}
use Rattle.engine.specs.Build.{finishes_from}
use Rattle.records.proofs.Written.{length_bytes}
use Rattle.engine.proofs.Schedule.{finishes_length}
use Rattle.shortest.proofs.Calls.{pattern_few}
use Rattle.lists.specs.Check.{check_bytes}
use Rattle.builder.specs.Build.{Stands}
use Rattle.controller.specs.declared.controller.Controller.{Controller}
use Rattle.controller.specs.declared.run.RunReport.{RunReport}
use Rattle.controller.specs.declared.run.RunTold.{RunTold}
use Rattle.sound.specs.Refused.{run_refusal}
use Rattle.controller.specs.Controller.{tells}
use Rattle.controller.specs.Run.{RunLeft, written, ran_left, refused_left, run_controller, LeavesRun}
use Rattle.controller.proofs.Written.{written_length}
use Rattle.promises.specs.Admit.{admitted}
use Rattle.promises.specs.Patterns.{ShortestTold}
use Rattle.promises.specs.Schedules.{NothingBuilt, BuildsChecked, Schedules}
use Rattle.promises.specs.Running.{nothing_run, runs_checked, running}

over_room : (new s b : List ℕ) → b ≡ over new s → length new ≤ length b
over_room new s b e = omega (arith, ap length e, length-append new (drop (length new) s))

-- ---- a schedule

module _ (l : List Transaction) (b₀ b f₀ f : List ℕ) (e n : ℕ) where
  abbrev Fits : Type 0
  Fits = (8 * n ≤ length b) × (length l ≤ length f)

  stands : (τ : Table) → Stands τ l b₀ b f₀ f n → Fits
  stands τ k = (
    omega (arith, k.count, length_bytes k.schedule, over_room (bytes_of_all k.schedule) b₀ b k.buffer),
    omega (arith, finishes_length τ l 0 k.schedule, over_room (finishes_from τ l 0 k.schedule) f₀ f k.finishes),
  )

  nothing : (x : Refusal) → NothingBuilt x b₀ b f₀ f (Ok (e, n)) → Fits
  nothing x h = let k = h.0 in let z : ◌≡◌ {A = ℕ} 0 1 = cc in absurd (omega arith)

  checked : (d : Result Unit Refusal) (τ : Table) → BuildsChecked d τ l b₀ b f₀ f (Ok (e, n)) → Fits
  unfolding BuildsChecked
  checked (Ok _) τ h = stands τ h.2
  checked (Err x) τ h = nothing x h

  fits : (check : Table → Result Unit Refusal) (a : Result Table Refusal) → Schedules check a l b₀ b f₀ f (Ok (e, n)) → Fits
  unfolding Schedules
  fits check (Ok τ) h = checked (check τ) τ h
  fits check (Err x) h = nothing x h

pub built_room : (w : ℕ) (t : List ℕ) (later : Bool) (s b₀ b f₀ f : List ℕ) (r : Result (ℕ × ℕ) Refusal) (e n : ℕ)
    → Schedules (λ τ. check_bytes later τ s) (admitted w t) (list_of later s) b₀ b f₀ f r → r ≡ Ok (e, n) → (8 * n ≤ length b) × (record_count later (length s) ≤ length f)
built_room w t later s b₀ b f₀ f r e n h p =
    let z = fits (list_of later s) b₀ b f₀ f e n (λ τ. check_bytes later τ s) (admitted w t)
    (subst (λ (a : Result (ℕ × ℕ) Refusal). Schedules (λ τ. check_bytes later τ s) (admitted w t) (list_of later s) b₀ b f₀ f a) p h) in
    (z.0, omega (arith, z.1, length_list s later))

-- ---- a run

module _ (c : Controller) (l : List Transaction) (count : ℕ) (b₀ : List ℕ) (x : RunReport) where
  -- what a run leaves, if it reports x
  abbrev Holds : RunLeft → Type 0
  Holds w = w.told.answer ≡ Ok x → 8 * x.commands ≤ length w.buffer

  not_run : (y : Refusal) → Holds (nothing_run y c b₀)
  not_run y e = let z : ◌≡◌ {A = ℕ} 0 1 = cc in absurd (omega arith)

  ran : (τ : Table) → Holds (run_controller c τ l count b₀)
  unfolding run_controller
  ran τ = on (eqb z 0)
    where
      z : ℕ
      z = run_refusal τ l (tells c) count (length b₀)

      R : RanTo
      R = lent_run count τ l (tells c)

      on : (t : Bool) → Holds (pick t (ran_left τ.edition R b₀) (refused_left τ.edition z c b₀))
      on true e =
          let same : record { edition = τ.edition; commands = length R.history; cycles = R.cycles } ≡ x = cc in
          omega (arith, ap (λ (v : RunReport). v.commands) same, written_length R.history, over_room (written R.history) b₀ (over (written R.history) b₀) refl)
      on false e = let z : ◌≡◌ {A = ℕ} 0 1 = cc in absurd (omega arith)

  ran_checked : (d : Result Unit Refusal) (τ : Table) → Holds (runs_checked d c τ l count b₀)
  unfolding runs_checked
  ran_checked (Ok _) τ = ran τ
  ran_checked (Err y) τ = not_run y

  holds : (check : Table → Result Unit Refusal) (a : Result Table Refusal) → Holds (running check a c l count b₀)
  unfolding running
  holds check (Ok τ) = ran_checked (check τ) τ
  holds check (Err y) = not_run y

pub ran_room : (w : ℕ) (t : List ℕ) (check : Table → Result Unit Refusal) (c : Controller) (l : List Transaction) (count : ℕ) (b₀ : List ℕ) (r : RunTold) (b : List ℕ) (x : RunReport)
    → LeavesRun (running check (admitted w t) c l count b₀) r b → r.answer ≡ Ok x → 8 * x.commands ≤ length b
ran_room w t check c l count b₀ r b x h e =
    rw h.1 (holds c l count b₀ x check (admitted w t) (sym (ap (λ (v : RunTold). v.answer) h.0) ∙ e))

-- ---- a pattern

pub shortest_few : (a : Result Table Refusal) (type bi bc most : ℕ) (b₀ b : List ℕ) (e L n : ℕ) → ShortestTold a type bi bc most b₀ b (Ok (e, L, n)) → n ≤ 6
unfolding ShortestTold
shortest_few (Ok τ) type bi bc most b₀ b e L n p = pattern_few τ type bi bc most b₀ b e L n p
shortest_few (Err x) type bi bc most b₀ b e L n p = let k = p.0 in let z : ◌≡◌ {A = ℕ} 0 1 = cc in absurd (omega arith)
