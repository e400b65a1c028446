-- A run of the controller that is not refused: what it leaves is not refused but for its cycle; what lies past the table's banks is
-- neither read nor changed.
-- Assumes nothing.
use Rattle.std.specs.Prelude.{Ok}
use Prim.Native.Nat.{ℕ, zero, suc, ◌<◌}
use mathlib.Core.Bool.{Bool, true, false}
use mathlib.Core.Path.{◌≡◌, refl, sym, ap, ◌∙◌, subst}
use mathlib.Core.List.{List, [], ◌∷◌, map}
use lib.Dec.{eqb}
use lib.ListN.{length, drop, length-map}
use Rattle.records.specs.Tests.{pick}
use Rattle.records.specs.Table.{Accepted}
use Rattle.records.specs.Transaction.{list_fits}
use Rattle.records.specs.declared.table.Table.{Table}
use Rattle.records.specs.declared.transaction.Transaction.{Transaction}
use Rattle.rules.specs.declared.state.State.{State}
use Rattle.rules.specs.Pieces.{lend, lent_run}
use Rattle.rules.specs.Promise.{SameTold}
use Rattle.rules.proofs.shown.Promises.{runs_kept}
use Rattle.rules.proofs.runs.Lent.{lent_is}
use Rattle.controller.specs.declared.controller.Controller.{Controller}
use Rattle.controller.specs.declared.run.RunReport.{RunReport}
use Rattle.controller.specs.Controller.{bank_tells, bank_kept, group_tells, group_kept, tells, kept, Ranged}
use Rattle.sound.specs.Refused.{sound, run_refusal}
use Rattle.controller.specs.Run.{RunLeft, ran_left, refused_left, run_controller}
use Rattle.controller.specs.Promise.{Keeps, SameRuns}
use Rattle.controller.proofs.NotRefused.{not_refused}
use Rattle.controller.proofs.Inverse.{banks_back, groups_back, tells_kept, told_held}
use Rattle.refusals.proofs.SoundKept.{run_sound, lend_sound}
use Rattle.controller.proofs.Halves.{lent_held, ran}

drop_map : {A B : Type 0} (f : A → B) (n : ℕ) (l : List A) → drop n (map f l) ≡ map f (drop n l)
drop_map f zero l = refl
drop_map f (suc n) [] = refl
drop_map f (suc n) (x ∷ l) = drop_map f n l

module _ (τ : Table) (l : List Transaction) where
  module _ (acc : Accepted τ) (fit : list_fits τ l ≡ true) where
    pub keeps : (c : Controller) → Ranged c → (n : ℕ) (b : List ℕ) (x : RunReport) → (run_controller c τ l n b).told.answer ≡ Ok x
        → Keeps τ l c (run_controller c τ l n b).told.controller
    unfolding tells kept
    keeps c rg n b x e =
        let p = ran τ l c n b x e in
        let u = lend (length l) (tells c) in
        let s = (lent_run n τ l (tells c)).state in
        let k = runs_kept τ acc l fit in
        let t = tells_kept s (lent_held τ l n (tells c) (told_held c rg)) in
        let back : map bank_kept (map bank_tells c.banks) ≡ c.banks = banks_back c.banks rg.banks in
        subst (λ (d : Controller). Keeps τ l c d) (sym (ap (λ (w : RunLeft). w.told.controller) p.1))
        (record {
          sound = λ h. subst (λ (u : State). sound τ l u ≡ true) (sym t)
              (run_sound τ l n u [] (lend_sound τ l (tells c) (not_refused τ l (tells c) n (length b) p.0).1) (subst (λ (u : State). u.cycle < 100000000) t h));
          edition = k.edition n u;
          past_banks = drop_map bank_kept τ.banks s.banks
              ∙ (ap (map bank_kept) (k.past_kept n u) ∙ (sym (drop_map bank_kept τ.banks (map bank_tells c.banks)) ∙ ap (drop τ.banks) back));
          places = length-map s.banks bank_kept ∙ (k.size n u ∙ length-map c.banks bank_tells);
          past_groups = drop_map group_kept τ.groups s.groups
              ∙ (ap (map group_kept) (k.groups_kept n u) ∙ (sym (drop_map group_kept τ.groups (map group_tells c.groups)) ∙ ap (drop τ.groups) (groups_back c.groups rg.groups)));
          group_places = length-map s.groups group_kept ∙ (k.group_size n u ∙ length-map c.groups group_tells);
          lent = lent_is n τ l (tells c);
        })

  refusal_same : (s u : State) (count room : ℕ) → SameTold τ s u → s.edition ≡ u.edition → s.lent ≡ u.lent
      → run_refusal τ l s count room ≡ run_refusal τ l u count room
  unfolding run_refusal sound
  refusal_same s u count room q e f = rw (q.acts, q.datas, q.cycle, e, f, q.banks, q.a1, q.a2, q.a3, q.a4, q.groups, q.refresh)

  -- the list is lent to both
  same_lent : (s u : State) → SameTold τ s u → SameTold τ (lend (length l) s) (lend (length l) u)
  same_lent s u q =
      record {
        cycle = q.cycle;
        acts = q.acts;
        datas = q.datas;
        banks = q.banks;
        a1 = q.a1;
        a2 = q.a2;
        a3 = q.a3;
        a4 = q.a4;
        groups = q.groups;
        refresh = q.refresh;
      }

  module _ (acc : Accepted τ) (fit : list_fits τ l ≡ true) where
    pub past_unread_lem : (c d : Controller) → Ranged c → Ranged d → SameTold τ (tells c) (tells d) → c.edition ≡ d.edition → c.lent ≡ d.lent → (n : ℕ) (b : List ℕ)
        → SameRuns τ (run_controller c τ l n b) (run_controller d τ l n b)
    unfolding run_controller tells
    past_unread_lem c d rc rd q e f n b =
        rw (refusal_same (tells c) (tells d) n (length b) q e f) (on (eqb z 0))
      where
        z : ℕ
        z = run_refusal τ l (tells d) n (length b)

        on : (t : Bool)
            → SameRuns τ (pick t (ran_left τ.edition (lent_run n τ l (tells c)) b) (refused_left τ.edition z c b))
            (pick t (ran_left τ.edition (lent_run n τ l (tells d)) b) (refused_left τ.edition z d b))
        on true =
            let k = (runs_kept τ acc l fit).past_unread n (lend (length l) (tells c)) (lend (length l) (tells d)) (same_lent (tells c) (tells d) q) in
            record {
              answer = rw (k.0, k.1);
              buffer = rw k.0;
              told = rw (
                tells_kept (lent_run n τ l (tells c)).state (lent_held τ l n (tells c) (told_held c rc)),
                tells_kept (lent_run n τ l (tells d)).state (lent_held τ l n (tells d) (told_held d rd)),
              ) k.2;
            }
        on false = record { answer = refl; buffer = refl; told = q }
