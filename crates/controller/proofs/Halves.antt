-- n cycles of the controller and then m, by way of its numbers, are n + m at once.
-- Assumes nothing.
use Rattle.std.specs.Prelude.{Ok, Err}
use Prim.Native.Nat.{ℕ, ◌+◌, ◌<◌}
use native.Mathlib.Omega.{arith}
use mathlib.Core.Bool.{Bool, true, false, ◌||◌}
use mathlib.Core.Path.{◌≡◌, refl, sym, ap, ◌∙◌, subst}
use mathlib.Core.List.{List, [], ◌++◌}
use lib.Dec.{leb, eqb}
use lib.ListN.{length, length-append}
use borrow.Author.Tests.{leb-false, eq-eqb}
use Rattle.records.specs.Tests.{pick}
use Rattle.records.specs.declared.refusal.Refusal.{Refusal}
use Rattle.records.specs.declared.table.Table.{Table}
use Rattle.records.specs.declared.transaction.Transaction.{Transaction}
use Rattle.records.specs.declared.command.Command.{Command}
use Rattle.records.proofs.Laws.{answered}
use Rattle.rules.specs.declared.state.State.{State}
use Rattle.rules.specs.State.{after}
use Rattle.rules.specs.CycleRule.{goes}
use Rattle.rules.specs.Run.{served, stops, Ran as RanTo, run}
use Rattle.rules.specs.Pieces.{lend, lent_run}
use Rattle.rules.proofs.laws.TestLaws.{on_map}
use Rattle.rules.proofs.queues.Counts.{after_size, after_groups}
use Rattle.rules.proofs.runs.Lent.{lent_kept}
use Rattle.controller.specs.declared.controller.Controller.{Controller}
use Rattle.controller.specs.declared.run.RunReport.{RunReport}
use Rattle.controller.specs.Controller.{tells, kept, Ranged}
use Rattle.sound.specs.Refused.{run_refusal}
use Rattle.controller.specs.Run.{RunLeft, ran_left, refused_left, run_controller}
use Rattle.controller.specs.Promise.{Together}
use Rattle.sound.proofs.StoredKept.{stored_after, goes_now, next_cycle_lem, run_keeps}
use Rattle.controller.proofs.Inverse.{Held, held_lent, tells_kept, told_held}
use Rattle.controller.proofs.Written.{written_append, written_at}

-- a run that goes on is before cycle 100,000,000
pub not_over_lem : (x : Bool) (c : ℕ) → (x || leb 100000000 c) ≡ false → c < 100000000
not_over_lem false c e = leb-false 100000000 c e
not_over_lem true c e = let z : ◌≡◌ {A = ℕ} 0 1 = cc in absurd (omega arith)

module _ (τ : Table) (l : List Transaction) where
  -- a run leaves a state that 32 bits hold
  pub run_held : (n : ℕ) (s : State) (h : List Command) → Held s → Held (run n τ l s h).state
  run_held n s h q = run_keeps τ l Held step n s h q
    where
      step : (s : State) → stops τ l s ≡ false → Held s → Held (after τ s (goes τ l s))
      step s e q =
          let b : s.cycle < 100000000 = not_over_lem (served τ l s) s.cycle e in
          record {
            cycle = omega (arith, next_cycle_lem τ l s (goes τ l s) (goes_now τ l s));
            places = after_size τ s (goes τ l s) ∙ q.places;
            group_places = after_groups τ s (goes τ l s) ∙ q.group_places;
            stored = stored_after τ 4294967295 16 8 s (goes τ l s)
                (on_map {P = λ c. c.cycle ≡ s.cycle} {Q = λ c. c.cycle < 4294967295} (goes τ l s) (λ c z. omega arith) (goes_now τ l s)) q.stored;
          }

  pub lent_held : (n : ℕ) (s : State) → Held s → Held (lent_run n τ l s).state
  lent_held n s q = run_held n (lend (length l) s) [] (held_lent (length l) s q)

  -- what an answer that is no refusal tells
  pub ran : (c : Controller) (n : ℕ) (b : List ℕ) (x : RunReport) → (run_controller c τ l n b).told.answer ≡ Ok x
      → (run_refusal τ l (tells c) n (length b) ≡ 0)
      × (run_controller c τ l n b ≡ ran_left τ.edition (lent_run n τ l (tells c)) b)
      × (x.commands ≡ length (lent_run n τ l (tells c)).history)
      × (x.cycles ≡ (lent_run n τ l (tells c)).cycles)
  unfolding run_controller
  ran c n b x e =
      let z = run_refusal τ l (tells c) n (length b) in
      let r = lent_run n τ l (tells c) in
      let k = answered (λ (w : RunLeft). w.told.answer) z (ran_left τ.edition r b) (refused_left τ.edition z c b) (Ok x) e
      (λ f. let y : ◌≡◌ {A = ℕ} 0 1 = cc in absurd (omega arith)) in
      let j : Ok (record { edition = τ.edition; commands = length r.history; cycles = r.cycles }) ≡ Ok x = k.1 in (
        k.0,
        rw (eq-eqb z 0 k.0),
        cc,
        cc,
      )

  -- a refusal leaves the controller and the buffer as they stood
  pub refused : (c : Controller) (n : ℕ) (b : List ℕ) (x : Refusal) → (run_controller c τ l n b).told.answer ≡ Err x
      → run_controller c τ l n b ≡ refused_left τ.edition (run_refusal τ l (tells c) n (length b)) c b
  unfolding run_controller
  refused c n b x e = on (eqb (run_refusal τ l (tells c) n (length b)) 0) e
    where
      r : RunLeft
      r = ran_left τ.edition (lent_run n τ l (tells c)) b

      z : RunLeft
      z = refused_left τ.edition (run_refusal τ l (tells c) n (length b)) c b

      on : (t : Bool) → (pick t r z).told.answer ≡ Err x → pick t r z ≡ z
      on true e = let y : ◌≡◌ {A = ℕ} 0 1 = cc in absurd (omega arith)
      on false e = refl

  module _ (c : Controller) (rg : Ranged c) (n m : ℕ) (b₁ b₂ b : List ℕ) (x y z : RunReport) where
    abbrev r₁ : RanTo
    r₁ = lent_run n τ l (tells c)

    abbrev r₂ : RanTo
    r₂ = lent_run m τ l r₁.state

    pub together : (run_controller c τ l n b₁).told.answer ≡ Ok x
        → (run_controller (run_controller c τ l n b₁).told.controller τ l m b₂).told.answer ≡ Ok y
        → (run_controller c τ l (n + m) b).told.answer ≡ Ok z
        → Together (run_controller c τ l n b₁) (run_controller (run_controller c τ l n b₁).told.controller τ l m b₂) (run_controller c τ l (n + m) b) x y z b
    together e₁ e₂ e =
        let p₁ = ran c n b₁ x e₁ in
        let mid : (run_controller c τ l n b₁).told.controller ≡ kept r₁.state = ap (λ (w : RunLeft). w.told.controller) p₁.1 in
        let e₂' = subst (λ (d : Controller). (run_controller d τ l m b₂).told.answer ≡ Ok y) mid e₂ in
        let p₂ = subst (λ (s : State). (run_controller (kept r₁.state) τ l m b₂ ≡ ran_left τ.edition (lent_run m τ l s) b₂) × (y.commands ≡ length (lent_run m τ l s).history) × (y.cycles ≡ (lent_run m τ l s).cycles))
        (tells_kept r₁.state (lent_held n (tells c) (told_held c rg)))
        (let q = ran (kept r₁.state) m b₂ y e₂' in (q.1, q.2, q.3)) in
        let p = ran c (n + m) b z e in
        let s = (lent_kept τ l).splits n m (tells c) in
        subst (λ (d : Controller). Together (run_controller c τ l n b₁) (run_controller d τ l m b₂) (run_controller c τ l (n + m) b) x y z b) (sym mid)
        (record {
          controller = ap (λ (w : RunLeft). w.told.controller) (p.1 ∙ ap (λ (r : RanTo). ran_left τ.edition r b) s) ∙ sym (ap (λ (w : RunLeft). w.told.controller) p₂.0);
          commands = p.2 ∙ (ap (λ (r : RanTo). length r.history) s ∙ omega (arith, length-append r₂.history r₁.history, p₁.2, p₂.1));
          cycles = p.3 ∙ (ap (λ (r : RanTo). r.cycles) s ∙ omega (arith, p₁.3, p₂.2));
          buffer = ap (λ (w : RunLeft). w.buffer) (p.1 ∙ ap (λ (r : RanTo). ran_left τ.edition r b) s)
              ∙ rw (
                p₁.1,
                p₂.0,
                p₁.2,
                p₂.1,
                written_append r₂.history r₁.history,
                written_at r₁.history b₁,
                written_at r₂.history b₂,
              );
        })
