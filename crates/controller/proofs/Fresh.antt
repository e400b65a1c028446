-- From a fresh controller.
-- Assumes nothing.
use Rattle.std.specs.Prelude.{Ok}
use Prim.Native.Nat.{ℕ, zero, suc, ◌+◌, ◌≤◌}
use native.Mathlib.Omega.{arith}
use mathlib.Core.Bool.{Bool, true, false}
use mathlib.Core.Path.{◌≡◌, refl, sym, ap, ◌∙◌, subst}
use mathlib.Core.List.{List, []}
use lib.ListN.{length}
use Rattle.records.specs.Told.{over}
use Rattle.records.specs.Table.{Accepted}
use Rattle.records.specs.Transaction.{list_fits}
use Rattle.records.specs.Command.{bytes_of_all}
use Rattle.records.specs.declared.table.Table.{Table}
use Rattle.records.specs.declared.transaction.Transaction.{Transaction}
use Rattle.records.specs.declared.command.Command.{Command}
use Rattle.rules.specs.declared.state.State.{State}
use Rattle.rules.specs.State.{fresh, after}
use Rattle.rules.specs.Pattern.{onto}
use Rattle.rules.specs.CycleRule.{goes, push, Built}
use Rattle.rules.specs.Run.{served, stops, Ran as RanTo, run}
use Rattle.rules.specs.Pieces.{lent_run}
use Rattle.rules.specs.Promise.{next_cycle, Kept}
use Rattle.rules.proofs.laws.TestLaws.{true_false}
use Rattle.rules.proofs.runs.HowMany.{length_turn}
use Rattle.rules.proofs.runs.RunTo.{stopped, going, n_then_m}
use Rattle.rules.proofs.runs.Lent.{lend_ran, run_lent}
use Rattle.rules.proofs.shown.Promises.{kept as promised}
use Rattle.controller.specs.declared.run.RunReport.{RunReport}
use Rattle.controller.specs.Controller.{tells, kept, fresh_controller, Ranged}
use Rattle.sound.specs.Refused.{sound}
use Rattle.controller.specs.Run.{RunLeft, written, run_controller}
use Rattle.refusals.proofs.SoundKept.{fresh_sound}
use Rattle.controller.proofs.Halves.{ran}

pub fresh_ranged : (τ : Table) → Ranged (fresh_controller τ)
unfolding kept
fresh_ranged τ =
    record { cycle = omega arith; banks = refl; places = refl; four = refl; last = refl; groups = refl; group_places = refl; refresh = omega arith }

pub fresh_told : (τ : Table) → tells (fresh_controller τ) ≡ fresh τ
unfolding tells kept
fresh_told τ = refl

-- number 9 does not refuse it
pub fresh_fine : (τ : Table) (l : List Transaction) → sound τ l (tells (fresh_controller τ)) ≡ true
fresh_fine τ l = rw (fresh_told τ) (fresh_sound τ l)

-- a run that is not stopped takes all its cycles
run_full : (n : ℕ) (τ : Table) (l : List Transaction) (s : State) (h : List Command) → stops τ l (run n τ l s h).state ≡ false → (run n τ l s h).cycles ≡ n
run_full zero τ l s h e = refl
run_full (suc n) τ l s h e = on (stops τ l s) refl (run_full n τ l (after τ s (goes τ l s)) (push (goes τ l s) h))
  where
    next : RanTo
    next = run n τ l (after τ s (goes τ l s)) (push (goes τ l s) h)

    on : (b : Bool) → stops τ l s ≡ b → (stops τ l next.state ≡ false → next.cycles ≡ n) → (run (suc n) τ l s h).cycles ≡ suc n
    on true t ih = true_false (stops τ l s) t (subst (λ (r : RanTo). stops τ l r.state ≡ false) (stopped (suc n) τ l s h t) e)
    on false t ih =
        let g = going n τ l s h t in
        let k = ih (subst (λ (r : RanTo). stops τ l r.state ≡ false) g e) in
        ap (λ (r : RanTo). r.cycles) g ∙ omega (arith, k)

-- a fresh run serves the list as soon as its count reaches one past the last command's cycle: m cycles more, which are enough, change nothing
serves_by : (τ : Table) (l : List Transaction) (rs : List Command) → Kept τ l rs → (n m : ℕ) → 100000000 ≤ suc m → next_cycle (onto rs []) ≤ n
    → served τ l (run n τ l (fresh τ) []).state ≡ true
serves_by τ l rs q n m big h = on (stops τ l first.state) refl
  where
    first : RanTo
    first = run n τ l (fresh τ) []

    then : RanTo
    then = run (suc m) τ l first.state []

    all : served τ l (run (n + suc m) τ l (fresh τ) []).state ≡ true
    all = q.ends (n + suc m) (omega arith)

    same : (run (n + suc m) τ l (fresh τ) []).state ≡ then.state
    same = ap (λ (r : RanTo). r.state) (n_then_m n (suc m) τ l (fresh τ))

    cycles : first.cycles + then.cycles ≡ next_cycle (onto rs [])
    cycles = sym (ap (λ (r : RanTo). r.cycles) (n_then_m n (suc m) τ l (fresh τ))) ∙ (q.running (n + suc m) all).1

    on : (b : Bool) → stops τ l first.state ≡ b → served τ l first.state ≡ true
    on true t =
        subst (λ (s : State). served τ l s ≡ true) (same ∙ ap (λ (r : RanTo). r.state) (stopped (suc m) τ l first.state [] t)) all
    on false t =
        let full = run_full n τ l (fresh τ) [] t in
        let more = ap (λ (r : RanTo). r.cycles) (going m τ l first.state [] t) in
        absurd (omega (arith, full, more, cycles, h))

-- a run to the end that is not refused writes the built schedule and reports the last command's cycle plus one, 0 for an empty list
pub fresh_ends : (τ : Table) → Accepted τ → (l : List Transaction) → list_fits τ l ≡ true → (rs : List Command) → Built τ l rs
    → (n : ℕ) → next_cycle (onto rs []) ≤ n → (b : List ℕ) (x : RunReport) → (run_controller (fresh_controller τ) τ l n b).told.answer ≡ Ok x
    → ((run_controller (fresh_controller τ) τ l n b).buffer ≡ over (bytes_of_all rs) b) × (x.commands ≡ length rs) × (x.cycles ≡ next_cycle (onto rs []))
fresh_ends τ acc l fit rs built n h b x e =
    let p = ran τ l (fresh_controller τ) n b x e in
    let q = promised τ acc l fit rs built in
    let r = q.running n (serves_by τ l rs q n 100000000 (omega arith) h) in
    let t : lent_run n τ l (tells (fresh_controller τ)) ≡ lend_ran (length l) (run n τ l (fresh τ) []) =
    ap (λ (s : State). lent_run n τ l s) (fresh_told τ) ∙ run_lent n (length l) τ l (fresh τ) [] in (
      ap (λ (w : RunLeft). w.buffer) p.1 ∙ (ap (λ (y : RanTo). over (written y.history) b) t ∙ ap (λ (y : List Command). over (bytes_of_all y) b) r.0),
      p.2 ∙ (ap (λ (y : RanTo). length y.history) t ∙ (sym (length_turn (run n τ l (fresh τ) []).history) ∙ ap length r.0)),
      p.3 ∙ (ap (λ (y : RanTo). y.cycles) t ∙ r.1),
    )
