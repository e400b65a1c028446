-- No run takes the controller that a refused start hands out.
-- Assumes nothing.
use Rattle.std.specs.Prelude.{Result, Ok, Err}
use Prim.Native.Nat.{ℕ, ◌+◌, ◌*◌, ◌≤◌, min}
use native.Mathlib.Omega.{arith}
use mathlib.Core.Bool.{Bool, true, false, not, ◌&&◌}
use mathlib.Core.Path.{◌≡◌, refl, sym, ap, ◌∙◌, subst}
use mathlib.Core.List.{List, [], ◌∷◌}
use lib.Dec.{leb, ltb, eqb}
use lib.ListN.{length}
use borrow.Author.Tests.{leb-true, le-ltb, ne_eqb}
use Rattle.records.specs.declared.table.Table.{Table}
use Rattle.records.specs.declared.transaction.Transaction.{Transaction}
use Rattle.records.specs.declared.refusal.Refusal.{Refusal}
use Rattle.records.specs.Tests.{all_of, every, within}
use Rattle.records.specs.Table.{timings, groups_in_range, Accepted}
use Rattle.records.proofs.Laws.{and_left}
use Rattle.rules.specs.declared.state.State.{State}
use Rattle.rules.specs.Queues.{act_queue, data_queue}
use Rattle.engine.specs.Run.{commands_left}
use Rattle.rules.specs.Pieces.{over_lent}
use Rattle.sound.specs.Refused.{banks_before, groups_before, last_before, gone_backed, sound, run_refusal}
use Rattle.controller.specs.Controller.{tells, kept}
use Rattle.controller.specs.Run.{run_controller}
use Rattle.promises.specs.Admit.{admitted}
use Rattle.promises.specs.Running.{no_controller, starting, runs_checked, running}
use Rattle.demands.specs.Runs.{NeverRuns}
use Rattle.promises.proofs.Laws.{read_accepted}

-- no accepted table has edition 0
some_edition : (τ : Table) → Accepted τ → 1 ≤ τ.edition
some_edition τ acc =
    let rest = within 1 16 τ.banks && (leb 2 τ.ccd && (leb τ.b τ.ccd && (leb τ.rfc 1023 && (groups_in_range τ && every (within 1 1023) (timings τ))))) in
    leb-true 1 τ.edition (and_left (leb 1 τ.edition) (leb τ.edition 65535) (and_left (within 1 65535 τ.edition) rest acc))

edition_0 : (tells no_controller).edition ≡ 0
unfolding tells kept
edition_0 = refl

-- nothing has left a queue
nothing_gone : (τ : Table) (l : List Transaction) → commands_left τ l (tells no_controller) ≡ length (act_queue τ l) + length (data_queue τ l)
unfolding tells kept
nothing_gone τ l = omega arith

second_false : (a b c : Bool) → b ≡ false → (a && (b && c)) ≡ false
second_false true false c e = refl
second_false false b c e = refl
second_false true true c e = let z : ◌≡◌ {A = ℕ} 0 1 = cc in absurd (omega arith)

module _ (τ : Table) (acc : Accepted τ) (l : List Transaction) where
  -- number 9 refuses a state of edition 0
  no_edition : (s : State) → s.edition ≡ 0 → sound τ l s ≡ false
  unfolding sound
  no_edition s e =
      second_false (ltb s.cycle 100000000) (eqb s.edition τ.edition)
      (all_of (banks_before s.cycle τ.banks s.banks ∷ groups_before s.cycle τ.groups s.groups ∷ last_before s.cycle s ∷ leb s.acts (length (act_queue τ l)) ∷ gone_backed τ l s.acts s.datas ∷ not (over_lent l s) ∷ []))
      (ne_eqb s.edition τ.edition (λ k. omega (arith, some_edition τ acc, e, k)))

  unsound : sound τ l (tells no_controller) ≡ false
  unsound = no_edition (tells no_controller) edition_0

  by_nine : (n room : ℕ) → 8 * min n (length (act_queue τ l) + length (data_queue τ l)) ≤ room → run_refusal τ l (tells no_controller) n room ≡ 9
  unfolding run_refusal
  by_nine n room h =
      let left = commands_left τ l (tells no_controller) in
      let enough : 8 * min n left ≤ room = subst (λ (k : ℕ). 8 * min n k ≤ room) (sym (nothing_gone τ l)) h in
      rw (le-ltb room (8 * min n left) enough, unsound) refl

never : NeverRuns no_controller
unfolding running runs_checked run_controller
never expected table τ read check l fine n b h =
    ap (λ (a : Result Table Refusal). running check a no_controller l n b) read
    ∙ (ap (λ (d : Result Unit Refusal). runs_checked d no_controller τ l n b) fine ∙ rw (by_nine τ (read_accepted expected table τ read) l n (length b) h) refl)

pub refused_start : (e : ℕ) (t : List ℕ) (x : Refusal) → (starting (admitted e t)).answer ≡ Err x → NeverRuns (starting (admitted e t)).controller
unfolding starting
refused_start e t x h = on (admitted e t) h
  where
    on : (a : Result Table Refusal) → (starting a).answer ≡ Err x → NeverRuns (starting a).controller
    on (Ok τ) k = let z : ◌≡◌ {A = ℕ} 0 1 = cc in absurd (omega arith)
    on (Err y) k = never
