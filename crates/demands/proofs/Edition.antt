-- Demand 1: a refused call leaves everything as it stood, and every answer names the table's edition.
-- Assumes nothing.
use Rattle.std.specs.Prelude.{Result, Ok, Err}
use Rattle.rules.specs.declared.verdict.Verdict.{Verdict}
use Rattle.rules.specs.declared.verdict.PatternVerdict.{PatternVerdict}
use Rattle.serves.specs.declared.answer.Served.{Served}
use Rattle.controller.specs.declared.run.RunReport.{RunReport}
use Prim.Native.Nat.{ℕ}
use mathlib.Core.Bool.{Bool, true, false, not}
use mathlib.Core.Path.{◌≡◌, refl, sym, ap, ◌∙◌}
use mathlib.Core.Logic.{◌⊎◌, inl, inr, ⊎_elim}
use mathlib.Core.List.{List, [], ◌∷◌}
use native.Mathlib.Omega.{arith}
use lib.Dec.{eqb}
use lib.ListN.{length}
use borrow.Author.Tests.{eqb-false}
use Rattle.records.specs.declared.table.Table.{Table}
use Rattle.records.specs.declared.transaction.Transaction.{Transaction}
use Rattle.records.specs.declared.refusal.Refusal.{Refusal}
use Rattle.records.specs.Tests.{pick}
use Rattle.records.specs.Told.{refusal, first_failed}
use Rattle.records.specs.Table.{table_at, in_range, table_size, table_refusal, read_table, Accepted}
use Rattle.records.specs.Transaction.{list_of}
use Rattle.records.specs.Command.{commands_in}
use Rattle.records.proofs.Laws.{read_was, table_size_lem}
use Rattle.rules.specs.Verdict.{judge}
use Rattle.rules.specs.Bound.{bound}
use Rattle.rules.specs.Pieces.{lent_run}
use Rattle.judge.specs.Answer.{schedule_refusal, judged}
use Rattle.builder.specs.Bound.{bound_refusal, bound_told}
use Rattle.lists.specs.Check.{check_list, check_bytes, check_into}
use Rattle.lists.specs.Decode.{decoded_by, decoding}
use Rattle.controller.specs.declared.controller.Controller.{Controller}
use Rattle.controller.specs.Controller.{tells}
use Rattle.sound.specs.Refused.{run_refusal}
use Rattle.controller.specs.Run.{RunLeft, ran_left, refused_left, run_controller}
use Rattle.controller.proofs.Halves.{refused}
use Rattle.promises.specs.Admit.{expecting, admitted, edition_of}
use Rattle.promises.specs.Judging.{judging, PatternTold}
use Rattle.promises.specs.Tracing.{capturing}
use Rattle.promises.specs.Bounds.{bounding}
use Rattle.promises.specs.Transactions.{reading}
use Rattle.promises.specs.Schedules.{BuildsChecked, Schedules}
use Rattle.promises.specs.Running.{starting, runs_checked, running}
use Rattle.promises.specs.Serving.{ServesChecked, Serving}
use Rattle.promises.specs.Numbers.{judged_numbers, pattern_numbers, capture_numbers, bound_numbers, read_numbers, build_numbers, start_numbers, run_numbers, serves_numbers}
use Rattle.demands.specs.Demands.{EitherSize, NotAdmitted, Demand1}
use Rattle.promises.proofs.Laws.{expected_read, read_accepted}
use Rattle.demands.proofs.Sizes.{either_size, neither_size}
use Rattle.demands.proofs.Names.{list_names, bytes_names, into_names, NamesIts}
use Rattle.demands.proofs.Causes.{causes}
use Rattle.demands.proofs.RecordCauses.{record_causes_lem}
use Rattle.demands.proofs.Stood.{unread, unbuilt, unrun, table_unwritten_lem, group_table_unwritten_lem, transaction_unwritten_lem, later_unwritten_lem, command_unwritten_lem, capture_unwritten_lem}
use Rattle.demands.proofs.Captures.{uncaptured, capture_names, capture_names_refused}

-- ---- the table

-- why the reader refuses a table
abbrev NotRead : List ℕ → Refusal → Type 0
NotRead s x = ((x ≡ refusal 1 0 0) × (EitherSize s → ⊥)) ⊎ ((x ≡ refusal 2 0 0) × EitherSize s × (in_range (table_at s) ≡ false))

-- a table is refused by the first of numbers 1 and 2 that fails
read_refused : (s : List ℕ) (x : Refusal) → read_table s ≡ Err x → NotRead s x
unfolding read_table
read_refused s x r = on (table_size (length s)) refl (in_range (table_at s)) refl r
  where
    by : Bool → Bool → ℕ
    by one two = first_failed ((1, not one) ∷ (2, not two) ∷ [])

    on : (a : Bool) → table_size (length s) ≡ a → (b : Bool) → in_range (table_at s) ≡ b
        → pick (eqb (by a b) 0) (Ok (table_at s)) (Err (refusal (by a b) 0 0)) ≡ Err x → NotRead s x
    on false p b q e = inl (cc, neither_size s p)
    on true p false q e = inr (cc, either_size s p, q)
    on true p true q e = let z : ◌≡◌ {A = ℕ} 0 1 = cc in absurd (omega arith)

-- the three ways in which a table is not admitted
refused_by : (e : ℕ) (s : List ℕ) (x : Refusal) → admitted e s ≡ Err x → NotAdmitted e s x
unfolding admitted
refused_by e s x h = on (read_table s) refl h
  where
    other : (τ : Table) → read_table s ≡ Ok τ → (b : Bool) → eqb τ.edition e ≡ b
        → pick b (Ok τ) (Err (refusal 10 τ.edition τ.edition)) ≡ Err x → NotAdmitted e s x
    other τ q true t h = let z : ◌≡◌ {A = ℕ} 0 1 = cc in absurd (omega arith)
    other τ q false t h = let w : refusal 10 τ.edition τ.edition ≡ x = cc in inr (inr (τ, q, eqb-false τ.edition e t, sym w))

    on : (a : Result Table Refusal) → read_table s ≡ a → expecting e a ≡ Err x → NotAdmitted e s x
    on (Ok τ) q h = other τ q (eqb τ.edition e) refl h
    on (Err y) q h = ⊎_elim (λ k. inl k) (λ k. inr (inl k)) (read_refused s x (q ∙ h))

-- what a refusal by the table, or an answer, names: the table's own edition
abbrev pub told : Result Table Refusal → ℕ
told (Ok τ) = τ.edition
told (Err x) = x.edition

pub own : (e : ℕ) (s : List ℕ) → told (admitted e s) ≡ edition_of (read_table s)
unfolding admitted
own e s = on (read_table s) refl
  where
    same : (τ : Table) (b : Bool) → told (pick b (Ok τ) (Err (refusal 10 τ.edition τ.edition))) ≡ τ.edition
    same τ true = refl
    same τ false = refl

    -- "Refusals 1 and 2 name edition 0"
    on : (a : Result Table Refusal) → read_table s ≡ a → told (expecting e a) ≡ edition_of a
    on (Ok τ) q = same τ (eqb τ.edition e)
    on (Err x) q = ⊎_elim (λ k. ap (λ (y : Refusal). y.edition) k.0) (λ k. ap (λ (y : Refusal). y.edition) k.0) (read_refused s x q)

admits : (e : ℕ) (s : List ℕ) (τ : Table) → admitted e s ≡ Ok τ → EitherSize s × (τ ≡ table_at s) × Accepted τ × (τ.edition ≡ e)
unfolding read_table
admits e s τ r =
    let p = expected_read e s τ r in
    let w = read_was table_refusal table_at Ok (λ n. Err (refusal n 0 0)) s τ (λ n k. let y : ◌≡◌ {A = ℕ} 0 1 = cc in omega arith) p.0 in
    let q : table_at s ≡ τ = let k = w.1 in cc in
    (either_size s (table_size_lem (length s) (table_at s) w.0), sym q, read_accepted e s τ r, p.1)

-- ---- what each answer names, by what `admit` answered

abbrev judged_names : Result (ℕ × Verdict) Refusal → ℕ
judged_names r = (judged_numbers r).edition

abbrev pattern_names : Result (ℕ × PatternVerdict) Refusal → ℕ
pattern_names r = (pattern_numbers r).edition

abbrev bound_names : Result (ℕ × ℕ) Refusal → ℕ
bound_names r = (bound_numbers r).edition

abbrev read_names : Result (ℕ × ℕ) Refusal → ℕ
read_names r = (read_numbers r).edition

abbrev build_names : Result (ℕ × ℕ) Refusal → ℕ
build_names r = (build_numbers r).edition

abbrev serves_names : Result (ℕ × Served) Refusal → ℕ
serves_names r = (serves_numbers r).edition

abbrev start_names : Result ℕ Refusal → ℕ
start_names r = (start_numbers r).edition

abbrev run_names : Result RunReport Refusal → ℕ
run_names r = (run_numbers r).edition

-- an answer and a refusal that name the same
either : {A : Type 0} (names : A → ℕ) (b : Bool) (x y : A) (e : ℕ) → names x ≡ e → names y ≡ e → names (pick b x y) ≡ e
either names true x y e p q = p
either names false x y e p q = q

judge_names : (a : Result Table Refusal) → (s : List ℕ) → judged_names (judging a s) ≡ told a
unfolding judging judged
judge_names (Ok τ) s =
    let z = schedule_refusal (length s) in
    either judged_names (eqb z 0) (Ok (τ.edition, judge τ (commands_in s))) (Err (refusal z 0 τ.edition)) τ.edition refl refl
judge_names (Err x) s = refl

pattern_names_lem : (a : Result Table Refusal) → (s : List ℕ) (L : ℕ) (r : Result (ℕ × PatternVerdict) Refusal) → PatternTold a s L r → pattern_names r ≡ told a
unfolding PatternTold
pattern_names_lem (Ok τ) s L (Ok (e, v)) p = p.1
pattern_names_lem (Ok τ) s L (Err x) p = ap (λ (y : Refusal). y.edition) p.1
pattern_names_lem (Err x) s L r p = ap pattern_names p

capture_told : (a : Result Table Refusal) (s b : List ℕ) → (capture_numbers (capturing a s b).answer).edition ≡ told a
capture_told (Ok τ) s b = capture_names τ s b
capture_told (Err x) s b = capture_names_refused x s b

bound_names_lem : (a : Result Table Refusal) → (bi bc : ℕ) → bound_names (bounding a bi bc) ≡ told a
unfolding bounding bound_told
bound_names_lem (Ok τ) bi bc =
    let z = bound_refusal τ.banks bi bc in
    either bound_names (eqb z 0) (Ok (τ.edition, bound τ bi bc)) (Err (refusal z 0 τ.edition)) τ.edition refl refl
bound_names_lem (Err x) bi bc = refl

read_names_lem : (a : Result Table Refusal) (later : Bool) (s : List ℕ) (l : List Transaction) → read_names (reading later a s l).answer ≡ told a
unfolding reading decoding
read_names_lem (Ok τ) later s l = on (check_into later τ s (length l)) (λ x. into_names τ x later s (length l))
  where
    on : (c : Result Unit Refusal) → ((x : Refusal) → c ≡ Err x → x.edition ≡ τ.edition) → read_names (decoded_by c later τ s l).answer ≡ τ.edition
    on (Ok _) n = refl
    on (Err x) n = n x refl
read_names_lem (Err x) later s l = refl

module _ (l : List Transaction) (b₀ b f₀ f : List ℕ) where
  builds_names : (τ : Table) (c : Result Unit Refusal) → ((x : Refusal) → c ≡ Err x → x.edition ≡ τ.edition)
      → (r : Result (ℕ × ℕ) Refusal) → BuildsChecked c τ l b₀ b f₀ f r → build_names r ≡ τ.edition
  unfolding BuildsChecked
  builds_names τ (Ok _) n (Ok (e, k)) p = p.1
  builds_names τ (Ok _) n (Err x) p = ap (λ (y : Refusal). y.edition) p.1
  builds_names τ (Err x) n r p = ap build_names p.0 ∙ n x refl

  schedule_names : (check : Table → Result Unit Refusal) → NamesIts check → (a : Result Table Refusal)
      → (r : Result (ℕ × ℕ) Refusal) → Schedules check a l b₀ b f₀ f r → build_names r ≡ told a
  unfolding Schedules
  schedule_names check n (Ok τ) r p = builds_names τ (check τ) (n τ) r p
  schedule_names check n (Err x) r p = ap build_names p.0

module _ (l : List Transaction) (s : List ℕ) where
  serves_names_lem : (τ : Table) (c : Result Unit Refusal) → ((x : Refusal) → c ≡ Err x → x.edition ≡ τ.edition)
      → (r : Result (ℕ × Served) Refusal) → ServesChecked c τ l s r → serves_names r ≡ τ.edition
  unfolding ServesChecked
  serves_names_lem τ (Ok _) n (Ok (e, v)) p = p.1
  serves_names_lem τ (Ok _) n (Err x) p = ap (λ (y : Refusal). y.edition) p.1
  serves_names_lem τ (Err x) n r p = ap serves_names p ∙ n x refl

  serving_names : (check : Table → Result Unit Refusal) → NamesIts check → (a : Result Table Refusal) (r : Result (ℕ × Served) Refusal) → Serving check a l s r → serves_names r ≡ told a
  unfolding Serving
  serving_names check n (Ok τ) r p = serves_names_lem τ (check τ) (n τ) r p
  serving_names check n (Err x) r p = ap serves_names p

start_names_lem : (a : Result Table Refusal) → start_names (starting a).answer ≡ told a
unfolding starting
start_names_lem (Ok τ) = refl
start_names_lem (Err x) = refl

module _ (c : Controller) (l : List Transaction) (n : ℕ) (b : List ℕ) where
  -- what a run's answer names
  abbrev left_names : RunLeft → ℕ
  left_names w = run_names w.told.answer

  runs_names : (τ : Table) (d : Result Unit Refusal) → ((x : Refusal) → d ≡ Err x → x.edition ≡ τ.edition) → left_names (runs_checked d c τ l n b) ≡ τ.edition
  unfolding runs_checked run_controller
  runs_names τ (Ok tt) k =
      let z = run_refusal τ l (tells c) n (length b) in
      either left_names (eqb z 0) (ran_left τ.edition (lent_run n τ l (tells c)) b) (refused_left τ.edition z c b) τ.edition refl refl
  runs_names τ (Err x) k = k x refl

  run_names_lem : (check : Table → Result Unit Refusal) → NamesIts check → (a : Result Table Refusal) → left_names (running check a c l n b) ≡ told a
  unfolding running
  run_names_lem check k (Ok τ) = runs_names τ (check τ) (k τ)
  run_names_lem check k (Err x) = refl

-- ---- the demand

pub demand_1 : (expected : ℕ) (table : List ℕ) → Demand1 expected table
demand_1 expected table =
    let a = admitted expected table in
    let e = own expected table in
    record {
      refused = refused_by expected table;
      admits = admits expected table;
      causes = causes expected table;
      record_causes = record_causes_lem;
      unread = λ later. unread later a;
      unbuilt = λ check l b₀ b f₀ f x. unbuilt l b₀ b f₀ f x check a;
      unrun = λ check c l n b x. unrun c l n b x check a;
      uncaptured = uncaptured a;
      table_unwritten = table_unwritten_lem;
      group_table_unwritten = group_table_unwritten_lem;
      transaction_unwritten = transaction_unwritten_lem;
      later_unwritten = later_unwritten_lem;
      command_unwritten = command_unwritten_lem;
      capture_unwritten = capture_unwritten_lem;
      judge = λ s. judge_names a s ∙ e;
      pattern = λ s L r p. pattern_names_lem a s L r p ∙ e;
      capture = λ s b. capture_told a s b ∙ e;
      bound = λ bi bc. bound_names_lem a bi bc ∙ e;
      read = λ later s l. read_names_lem a later s l ∙ e;
      schedule = λ l b₀ b f₀ f r p. schedule_names l b₀ b f₀ f (λ τ. check_list τ l) (λ τ x. list_names τ x l) a r p ∙ e;
      schedule_bytes = λ later s b₀ b f₀ f r p. schedule_names (list_of later s) b₀ b f₀ f (λ τ. check_bytes later τ s) (λ τ x. bytes_names τ x later s) a r p ∙ e;
      serves = λ l s r p. serving_names l s (λ τ. check_list τ l) (λ τ x. list_names τ x l) a r p ∙ e;
      serves_bytes = λ later b s r p. serving_names (list_of later b) s (λ τ. check_bytes later τ b) (λ τ x. bytes_names τ x later b) a r p ∙ e;
      start = start_names_lem a ∙ e;
      run = λ c l n b. run_names_lem c l n b (λ τ. check_list τ l) (λ τ x. list_names τ x l) a ∙ e;
      run_bytes = λ later c s n b. run_names_lem c (list_of later s) n b (λ τ. check_bytes later τ s) (λ τ x. bytes_names τ x later s) a ∙ e;
    }
