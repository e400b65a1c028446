-- Runs of the public calls are the runs of the controller: n cycles and then m, and to the end.
-- Assumes nothing.
use Rattle.std.specs.Prelude.{Result, Ok}
use Rattle.records.specs.declared.refusal.Refusal.{Refusal}
use Prim.Native.Nat.{ℕ, ◌%◌}
use mathlib.Core.Bool.{Bool, true, false}
use mathlib.Core.Path.{◌≡◌, refl, sym, ap, ◌∙◌, subst}
use mathlib.Core.Option.{none}
use mathlib.Core.List.{List, [], ◌∷◌}
use lib.ListN.{length, get_elem?}
use Rattle.records.specs.declared.table.Table.{Table}
use Rattle.records.specs.declared.transaction.Transaction.{Transaction}
use Rattle.records.specs.Transaction.{record_size, list_of, list_fits}
use Rattle.rules.specs.Pieces.{is_late}
use Rattle.rules.proofs.runs.Lent.{lent_is}
use Rattle.lists.specs.Check.{check_list, check_bytes}
use Rattle.lists.proofs.Checks.{fits_fine, bytes_list}
use Rattle.controller.specs.declared.controller.Controller.{Controller}
use Rattle.controller.specs.declared.run.RunReport.{RunReport}
use Rattle.controller.specs.Controller.{tells, kept, fresh_controller}
use Rattle.controller.specs.Run.{RunLeft, run_controller}
use Rattle.controller.proofs.Halves.{ran, together}
use Rattle.controller.proofs.Fresh.{fresh_ends}
use Rattle.promises.specs.Admit.{admitted}
use Rattle.promises.specs.Running.{starting, runs_checked, running}
use Rattle.demands.specs.Runs.{RunsOn}
use Rattle.promises.proofs.Laws.{read_accepted}

at_end : (l : List Transaction) → get_elem? l (length l) ≡ none
at_end [] = refl
at_end (x ∷ l) = at_end l

module _ (expected : ℕ) (table : List ℕ) (τ : Table) (read : admitted expected table ≡ Ok τ) where
  fresh : (starting (admitted expected table)).controller ≡ fresh_controller τ
  unfolding starting
  fresh = ap (λ (a : Result Table Refusal). (starting a).controller) read

  -- of a list that fits, which the check finds fine
  module _ (check : Table → Result Unit Refusal) (l : List Transaction) (fit : list_fits τ l ≡ true) (fine : check τ ≡ Ok tt) where
    same : (c : Controller) (n : ℕ) (b : List ℕ) → run_controller c τ l n b ≡ running check (admitted expected table) c l n b
    unfolding running runs_checked
    same c n b = ap (λ (d : Result Unit Refusal). runs_checked d c τ l n b) (sym fine) ∙ ap (λ (a : Result Table Refusal). running check a c l n b) (sym read)

    -- a run that is not refused lent the list
    lent_left : (c : Controller) (n : ℕ) (b : List ℕ) (x : RunReport) → (run_controller c τ l n b).told.answer ≡ Ok x
        → ((run_controller c τ l n b).told.controller.lent ≡ length l) × (is_late l (tells (run_controller c τ l n b).told.controller) ≡ false)
    unfolding tells kept
    lent_left c n b x e =
        subst (λ (w : RunLeft). (w.told.controller.lent ≡ length l) × (is_late l (tells w.told.controller) ≡ false)) (sym (ran τ l c n b x e).1)
        (lent_is n τ l (tells c), rw (lent_is n τ l (tells c), at_end l))

    pub by_check : RunsOn expected table τ check l
    by_check =
        record {
          left = λ c n b. run_controller c τ l n b;
          is_left = same;
          halves = λ c rg n m b₁ b₂ b x y z. together τ l c rg n m b₁ b₂ b x y z;
          lent = λ c n b x e. (lent_left c n b x e).0;
          not_late = λ c n b x e. (lent_left c n b x e).1;
          to_end = λ rs built n h b x. rw fresh (fresh_ends τ (read_accepted expected table τ read) l fit rs built n h b x);
        }

  -- of a lent run of records, and of a list's bytes
  pub runs_on : (l : List Transaction) → list_fits τ l ≡ true → RunsOn expected table τ (λ τ. check_list τ l) l
  runs_on l fit = by_check (λ τ. check_list τ l) l fit (fits_fine τ l fit)

  pub runs_on_bytes : (later : Bool) (s : List ℕ) → length s % record_size later ≡ 0 → list_fits τ (list_of later s) ≡ true
      → RunsOn expected table τ (λ τ. check_bytes later τ s) (list_of later s)
  runs_on_bytes later s whole fit = by_check (λ τ. check_bytes later τ s) (list_of later s) fit (bytes_list later τ s whole ∙ fits_fine τ (list_of later s) fit)
