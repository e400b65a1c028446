-- What the judges accept, and what is scheduled and run, keeps the data pins.
-- Assumes nothing.
use Rattle.std.specs.Prelude.{Result, Ok, Err}
use Rattle.records.specs.declared.refusal.Refusal.{Refusal}
use Prim.Native.Nat.{ℕ}
use native.Mathlib.Omega.{arith}
use mathlib.Core.Bool.{Bool, true}
use mathlib.Core.Path.{◌≡◌, refl, sym, ap, ◌∙◌, subst}
use mathlib.Core.List.{List}
use Rattle.records.specs.declared.table.Table.{Table}
use Rattle.records.specs.declared.transaction.Transaction.{Transaction}
use Rattle.records.specs.Transaction.{list_of, list_fits}
use Rattle.records.specs.Command.{commands_in}
use Rattle.records.specs.Table.{Accepted}
use Rattle.rules.specs.declared.verdict.Verdict.TheVariants.{Accepted as Passed}
use Rattle.rules.specs.declared.verdict.PatternVerdict.TheVariants.{Accepted as AllPassed}
use Rattle.rules.specs.Pattern.{end_to_end, EveryNumberLegal}
use Rattle.rules.specs.Verdict.{Legal}
use Rattle.rules.proofs.pins.Pins.{legal_pins, pins_shown}
use Rattle.judge.proofs.Accepts.{judge_accepts}
use Rattle.lists.specs.Check.{check_list, check_bytes}
use Rattle.lists.proofs.Checks.{into_256, into_list, fine_fits}
use Rattle.controller.specs.declared.controller.Controller.{Controller}
use Rattle.controller.specs.declared.run.RunReport.{RunReport}
use Rattle.controller.specs.Run.{RunLeft}
use Rattle.promises.specs.Admit.{admitted}
use Rattle.promises.specs.Judging.{judging, PatternTold}
use Rattle.promises.specs.Schedules.{BuildsChecked, Schedules}
use Rattle.promises.specs.Running.{starting, runs_checked, running}
use Rattle.promises.proofs.Laws.{read_accepted}
use Rattle.demands.specs.Pins.{StartKept, RunKept, PinsOfCalls}
use Rattle.demands.proofs.Judges.{demand_2}
use Rattle.demands.proofs.RunsOn.{by_check}
use Rattle.demands.proofs.Traces.{traces}

module _ (τ : Table) (s : List ℕ) where
  accepted_legal : judging (Ok τ) s ≡ Ok (τ.edition, Passed) → Legal τ (commands_in s)
  unfolding judging
  accepted_legal e = ((judge_accepts τ s).0 e).1

  all_legal : (L : ℕ) → PatternTold (Ok τ) s L (Ok (τ.edition, AllPassed)) → EveryNumberLegal τ L (commands_in s)
  unfolding PatternTold
  all_legal L p = p.2

  pub bytes_fit : (later : Bool) → check_bytes later τ s ≡ Ok tt → list_fits τ (list_of later s) ≡ true
  bytes_fit later e = fine_fits τ (list_of later s) (into_list later τ s 256 (into_256 later τ s ∙ e))

-- ---- a list of which a schedule or a run was answered was found fine

module _ (τ : Table) (l : List Transaction) where
  fine_built : (b₀ b f₀ f : List ℕ) (e n : ℕ) (c : Result Unit Refusal) → BuildsChecked c τ l b₀ b f₀ f (Ok (e, n)) → c ≡ Ok tt
  unfolding BuildsChecked
  fine_built b₀ b f₀ f e n (Ok _) h = refl
  fine_built b₀ b f₀ f e n (Err x) h = let y : ◌≡◌ {A = ℕ} 0 1 = let k = h.0 in cc in absurd (omega arith)

  pub built_fine : (check : Table → Result Unit Refusal) (b₀ b f₀ f : List ℕ) (e n : ℕ) → Schedules check (Ok τ) l b₀ b f₀ f (Ok (e, n)) → check τ ≡ Ok tt
  unfolding Schedules
  built_fine check b₀ b f₀ f e n h = fine_built b₀ b f₀ f e n (check τ) h

  fine_ran : (k : Controller) (n : ℕ) (b : List ℕ) (x : RunReport) (c : Result Unit Refusal) → (runs_checked c k τ l n b).told.answer ≡ Ok x → c ≡ Ok tt
  unfolding runs_checked
  fine_ran k n b x (Ok _) h = refl
  fine_ran k n b x (Err y) h = let z : ◌≡◌ {A = ℕ} 0 1 = cc in absurd (omega arith)

  ran_fine : (check : Table → Result Unit Refusal) (k : Controller) (n : ℕ) (b : List ℕ) (x : RunReport) → (running check (Ok τ) k l n b).told.answer ≡ Ok x → check τ ≡ Ok tt
  unfolding running
  ran_fine check k n b x h = fine_ran k n b x (check τ) h

-- ---- of a table that is admitted, and a list that fits where its check finds it fine

module _ (expected : ℕ) (table : List ℕ) (τ : Table) (read : admitted expected table ≡ Ok τ) where
  acc : Accepted τ
  acc = read_accepted expected table τ read

  module _ (check : Table → Result Unit Refusal) (l : List Transaction) (fit : check τ ≡ Ok tt → list_fits τ l ≡ true) where
    built_kept : (b₀ b f₀ f : List ℕ) (e n : ℕ) → Schedules check (admitted expected table) l b₀ b f₀ f (Ok (e, n)) → StartKept τ n b
    built_kept b₀ b f₀ f e n h =
        let fine = built_fine τ l check b₀ b f₀ f e n (subst (λ (a : Result Table Refusal). Schedules check a l b₀ b f₀ f (Ok (e, n))) read h) in
        let k = (demand_2 expected table τ read).built check l b₀ b f₀ f e n h in
        (k.0, k.2, k.3, pins_shown.built τ acc l (fit fine) k.0 k.1)

    run_kept : RunKept expected table τ check l
    run_kept rs built n h b x e =
        let c = (starting (admitted expected table)).controller in
        let fine = ran_fine τ l check c n b x (subst (λ (a : Result Table Refusal). (running check a c l n b).told.answer ≡ Ok x) read e) in
        let on = by_check expected table τ read check l (fit fine) fine in
        let k = on.to_end rs built n h b x (ap (λ (w : RunLeft). w.told.answer) (on.is_left c n b) ∙ e) in
        (sym (ap (λ (w : RunLeft). w.buffer) (on.is_left c n b)) ∙ k.0, pins_shown.built τ acc l (fit fine) rs built)

  pub pins_of_calls : PinsOfCalls expected table τ
  pins_of_calls =
      record {
        judge = λ s e. legal_pins τ acc (commands_in s) (accepted_legal τ s (subst (λ (a : Result Table Refusal). judging a s ≡ Ok (τ.edition, Passed)) read e));
        pattern = λ s L p n.
            legal_pins τ acc (end_to_end L (commands_in s) n 0)
            (all_legal τ s L (subst (λ (a : Result Table Refusal). PatternTold a s L (Ok (τ.edition, AllPassed))) read p) n);
        capture = λ s b e n y h.
            let k = (traces expected table τ read).shown s b e n Passed y h in (k.0, k.2, k.4, legal_pins τ acc k.0 (sym k.3));
        schedule = λ l. built_kept (λ τ. check_list τ l) l (fine_fits τ l);
        schedule_bytes = λ later s. built_kept (λ τ. check_bytes later τ s) (list_of later s) (bytes_fit τ s later);
        run = λ l. run_kept (λ τ. check_list τ l) l (fine_fits τ l);
        run_bytes = λ later s. run_kept (λ τ. check_bytes later τ s) (list_of later s) (bytes_fit τ s later);
      }
