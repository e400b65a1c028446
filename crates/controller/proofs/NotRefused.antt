-- What a run's refusal, and that there is none, tell.
-- Assumes nothing.
use Rattle.std.specs.Prelude.{Ok, Err}
use Prim.Native.Nat.{ℕ, ◌*◌, min, ◌≤◌, ◌<◌}
use native.Mathlib.Omega.{arith}
use mathlib.Core.Bool.{true, false, not}
use mathlib.Core.Path.{◌≡◌, refl, sym, ap, ◌∙◌, subst}
use mathlib.Core.List.{List, [], ◌∷◌}
use lib.ListN.{length}
use borrow.Author.Tests.{ltb-false, not-false, eq-eqb, ne_eqb}
use Rattle.records.specs.Told.{refusal}
use Rattle.records.specs.Transaction.{later_from}
use Rattle.records.specs.declared.refusal.Refusal.{Refusal}
use Rattle.records.specs.declared.table.Table.{Table}
use Rattle.records.specs.declared.transaction.Transaction.{Transaction}
use Rattle.records.proofs.Laws.{passes}
use Rattle.rules.specs.declared.state.State.{State}
use Rattle.rules.specs.Run.{run}
use Rattle.rules.specs.Pieces.{lend, is_late, lent_run}
use Rattle.rules.proofs.runs.HowMany.{run_room}
use Rattle.heads.specs.Queue.{Listed}
use Rattle.heads.proofs.Laws.{length_from}
use Rattle.engine.specs.declared.run.Ran.{Ran as Answer}
use Rattle.engine.specs.Run.{commands_left, Ready, Runs}
use Rattle.timing.specs.Kept.{told}
use Rattle.controller.specs.declared.controller.Controller.{Controller}
use Rattle.controller.specs.Controller.{tells, kept}
use Rattle.sound.specs.Refused.{room_short, sound, run_refusal}
use Rattle.controller.specs.Run.{run_controller, LeavesRun}
use Rattle.refusals.proofs.SoundKept.{sound_tested}

-- there is room, and neither number 9 nor number 12 applies
pub not_refused : (τ : Table) (l : List Transaction) (s : State) (count room : ℕ) → run_refusal τ l s count room ≡ 0
    → (8 * min count (commands_left τ l s) ≤ room) × (sound τ l s ≡ true) × (is_late l s ≡ false)
unfolding run_refusal
not_refused τ l s count room e =
    let left = commands_left τ l s in
    let p = passes 5 (room_short room count left) ((9, not (sound τ l s)) ∷ (12, is_late l s) ∷ []) (λ z. omega arith) e in
    let q = passes 9 (not (sound τ l s)) ((12, is_late l s) ∷ []) (λ z. omega arith) p.1 in
    (ltb-false room (8 * min count left) p.0, not-false (sound τ l s) q.0, (passes 12 (is_late l s) [] (λ z. omega arith) q.1).0)

-- what the code leaves is what a run leaves: s is what the controller tells, z the refusal's number
module _ (c : Controller) (τ : Table) (bs : List ℕ) (n count : ℕ) (b : List ℕ) (s : State) (k : s ≡ tells c)
    (z : ℕ) (e : z ≡ run_refusal τ (later_from bs n 0) s count (length b)) where
  z_told : z ≡ run_refusal τ (later_from bs n 0) (tells c) count (length b)
  z_told = e ∙ ap (λ (u : State). run_refusal τ (later_from bs n 0) u count (length b)) k

  pub leaves_refused : (q : Refusal) → q ≡ refusal z 0 τ.edition → (z ≡ 0 → ⊥)
      → LeavesRun (run_controller c τ (later_from bs n 0) count b) (record { controller = c; answer = Err q }) b
  unfolding run_controller
  leaves_refused q p h = rw (← z_told, ne_eqb z 0 h, p) (refl, refl)

  -- u is s once the list is lent
  pub leaves_ran : (d : Controller) (r : Answer) (b' : List ℕ) (u : State) → u ≡ lend n s → d ≡ kept (told r.state)
      → Runs (run count τ (later_from bs n 0) u []) b b' r → z ≡ 0
      → LeavesRun (run_controller c τ (later_from bs n 0) count b)
      (record { controller = d; answer = Ok (record { edition = τ.edition; commands = r.commands; cycles = r.cycles }) }) b'
  unfolding run_controller
  leaves_ran d r b' u v p q h =
      let lent : u ≡ lend (length (later_from bs n 0)) (tells c) =
      v ∙ (ap (λ (m : ℕ). lend m s) (sym (length_from bs n 0)) ∙ ap (lend (length (later_from bs n 0))) k) in
      let o : Runs (lent_run count τ (later_from bs n 0) (tells c)) b b' r =
      subst (λ (y : State). Runs (run count τ (later_from bs n 0) y []) b b' r) lent q in
      rw (← z_told, eq-eqb z 0 h, p, o.state, o.commands, o.cycles, o.buffer) (refl, refl)

-- what a run that is not refused asks for, and that its commands are counted in 32 bits
module _ (τ : Table) (bs : List ℕ) (n : ℕ) (s : State) (count room z : ℕ) (k : Listed τ bs n) (e : z ≡ run_refusal τ (later_from bs n 0) s count room) (h : z ≡ 0)
    (u : State) (v : u ≡ lend n s) where
  pub ready : Ready τ bs n u count room
  ready =
      let p = not_refused τ (later_from bs n 0) s count room (sym e ∙ h) in
      let q = sound_tested τ (later_from bs n 0) s p.1 in
      subst (λ (y : State). Ready τ bs n y count room) (sym v) (record { list = k; acts = q.1.acts; datas = q.1.datas; fits = p.0 })

  pub few_commands : count < 4294967296 → (m : ℕ) → m ≡ length (run count τ (later_from bs n 0) u []).history → m < 4294967296
  few_commands f m g = omega (arith, (run_room τ (later_from bs n 0) count u ready.acts ready.datas).0)
