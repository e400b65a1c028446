-- Each call tells the first row of document 01's table that applies.
-- Assumes nothing.
use Rattle.std.specs.Prelude.{Result, Ok, Err}
use Rattle.rules.specs.declared.verdict.PatternVerdict.{PatternVerdict}
use Rattle.serves.specs.declared.answer.Served.{Served}
use Prim.Native.Nat.{ℕ, ◌+◌, ◌-◌, ◌*◌, min}
use mathlib.Core.Bool.{Bool, not, ◌&&◌}
use mathlib.Core.Path.{◌≡◌, refl, sym, ap, ◌∙◌, subst}
use mathlib.Core.List.{List, [], ◌∷◌}
use lib.Dec.{leb, ltb, eqb}
use lib.ListN.{length}
use Rattle.records.specs.declared.table.Table.{Table}
use Rattle.records.specs.declared.transaction.Transaction.{Transaction}
use Rattle.records.specs.declared.refusal.Refusal.{Refusal}
use Rattle.records.specs.Tests.{within}
use Rattle.records.specs.Told.{refusal}
use Rattle.records.specs.Table.{table_at}
use Rattle.records.specs.Transaction.{record_count, list_of}
use Rattle.records.specs.Command.{commands_in}
use Rattle.rules.specs.Queues.{act_queue, data_queue}
use Rattle.rules.specs.Verdict.{judge}
use Rattle.rules.specs.Bound.{bound}
use Rattle.rules.specs.Pieces.{is_late, lent_run}
use Rattle.judge.specs.Answer.{not_a_schedule, schedule_refusal, judged}
use Rattle.builder.specs.Bound.{bound_refusal, bound_told}
use Rattle.lists.specs.Check.{check_sized, check_list, check_bytes, check_into}
use Rattle.lists.specs.Decode.{decoded_by, decoding}
use Rattle.controller.specs.declared.controller.Controller.{Controller}
use Rattle.controller.specs.Controller.{tells}
use Rattle.controller.specs.Run.{RunLeft, ran_left, refused_left, run_controller}
use Rattle.sound.specs.Refused.{sound, run_refusal}
use Rattle.promises.specs.Admit.{admitted}
use Rattle.promises.specs.Judging.{judging, PatternTold}
use Rattle.promises.specs.Tracing.{capturing}
use Rattle.promises.specs.Bounds.{bounding}
use Rattle.promises.specs.Transactions.{reading}
use Rattle.promises.specs.Schedules.{BuildsChecked, Schedules}
use Rattle.promises.specs.Running.{starting, runs_checked, running}
use Rattle.promises.specs.Serving.{ServesChecked, Serving}
use Rattle.promises.specs.Numbers.{Numbers, telling, refusing, judged_numbers, pattern_numbers, capture_numbers, bound_numbers, read_numbers, build_numbers, start_numbers, run_numbers, serves_numbers}
use Rattle.demands.specs.Causes.{Row, row, FirstRow, table_rows, list_rows, few_bytes, few_into, build_rows, run_rows, schedule_row, capture_rows, Causes}
use Rattle.demands.proofs.Captures.{capture_rows_lem}
use Rattle.demands.proofs.FirstRows.{one, two, three, tells_same, by_number, by_table, by_list}

-- the checks of a list by its size
list_sized : (τ : Table) (l : List Transaction) → check_list τ l ≡ check_sized τ (leb (length l) 256) l
unfolding check_list
list_sized τ l = refl

bytes_sized : (later : Bool) (τ : Table) (s : List ℕ) → check_bytes later τ s ≡ check_sized τ (few_bytes later s) (list_of later s)
unfolding check_bytes
bytes_sized later τ s = refl

into_sized : (later : Bool) (τ : Table) (s : List ℕ) (places : ℕ) → check_into later τ s places ≡ check_sized τ (few_into later s places) (list_of later s)
unfolding check_into
into_sized later τ s places = refl

-- ---- of a table that is admitted

judge_rows : (τ : Table) (s : List ℕ) → FirstRow (schedule_row s ∷ []) (judged_numbers (judging (Ok τ) s))
unfolding judging judged
judge_rows τ s =
    let z = schedule_refusal (length s) in
    one 7 (not_a_schedule (length s)) (judged_numbers (judging (Ok τ) s))
    (by_number judged_numbers z (Ok (τ.edition, judge τ (commands_in s))) (Err (refusal z 0 τ.edition)) (refl, refl) (refl, refl))

pattern_rows : (τ : Table) (s : List ℕ) (L : ℕ) (r : Result (ℕ × PatternVerdict) Refusal) → PatternTold (Ok τ) s L r → FirstRow (schedule_row s ∷ row 8 0 (eqb L 0) ∷ []) (pattern_numbers r)
unfolding PatternTold
pattern_rows τ s L (Ok (e, v)) p = two 7 8 (not_a_schedule (length s)) (eqb L 0) (pattern_numbers (Ok (e, v))) (sym p.0, refl)
pattern_rows τ s L (Err x) p =
    two 7 8 (not_a_schedule (length s)) (eqb L 0) (refusing x) (ap (λ (y : Refusal). y.number) p.1, ap (λ (y : Refusal). y.position) p.1)

bound_rows : (τ : Table) (bi bc : ℕ) → FirstRow (row 4 0 (not (within 1 16 bi && (within 1 16 bc && leb bi τ.banks))) ∷ []) (bound_numbers (bounding (Ok τ) bi bc))
unfolding bounding bound_told
bound_rows τ bi bc =
    let z = bound_refusal τ.banks bi bc in
    one 4 (not (within 1 16 bi && (within 1 16 bc && leb bi τ.banks))) (bound_numbers (bounding (Ok τ) bi bc))
    (by_number bound_numbers z (Ok (τ.edition, bound τ bi bc)) (Err (refusal z 0 τ.edition)) (refl, refl) (refl, refl))

module _ (τ : Table) (l : List Transaction) (b₀ b f₀ f : List ℕ) where
  -- the numbers that a build may tell, by what the check of the list finds
  abbrev BuildTells : Result Unit Refusal → Numbers → Type 0
  BuildTells c a = (r : Result (ℕ × ℕ) Refusal) × BuildsChecked c τ l b₀ b f₀ f r × (a ≡ build_numbers r)

  build_rows_lem : (a : Numbers) → BuildTells (Ok tt) a → FirstRow (build_rows τ l (length b₀) (length f₀)) a
  unfolding BuildsChecked
  build_rows_lem a (r, h, e) = subst (FirstRow (build_rows τ l (length b₀) (length f₀))) (sym e) (by_answer r h)
    where
      short : Bool
      short = ltb (length b₀) (8 * (length (act_queue τ l) + length (data_queue τ l)))

      by_answer : (r : Result (ℕ × ℕ) Refusal) → BuildsChecked (Ok tt) τ l b₀ b f₀ f r → FirstRow (build_rows τ l (length b₀) (length f₀)) (build_numbers r)
      by_answer (Ok (e, n)) h = two 5 6 short (ltb (length f₀) (length l)) (build_numbers (Ok (e, n))) (sym h.0, refl)
      by_answer (Err x) h =
          two 5 6 short (ltb (length f₀) (length l)) (refusing x) (ap (λ (y : Refusal). y.number) h.1, ap (λ (y : Refusal). y.position) h.1)

  build_gives : (x : Refusal) (a : Numbers) → BuildTells (Err x) a → a ≡ refusing x
  unfolding BuildsChecked
  build_gives x a (r, h, e) = e ∙ ap build_numbers h.0

module _ (τ : Table) (l : List Transaction) (s : List ℕ) where
  -- the numbers that may be told of a list and a schedule, by what the check of the list finds
  abbrev ServesTells : Result Unit Refusal → Numbers → Type 0
  ServesTells c a = (r : Result (ℕ × Served) Refusal) × ServesChecked c τ l s r × (a ≡ serves_numbers r)

  serves_rows : (a : Numbers) → ServesTells (Ok tt) a → FirstRow (schedule_row s ∷ []) a
  unfolding ServesChecked
  serves_rows a (r, h, e) = subst (FirstRow (schedule_row s ∷ [])) (sym e) (by_answer r h)
    where
      by_answer : (r : Result (ℕ × Served) Refusal) → ServesChecked (Ok tt) τ l s r → FirstRow (schedule_row s ∷ []) (serves_numbers r)
      by_answer (Ok (e, v)) h = one 7 (not_a_schedule (length s)) (serves_numbers (Ok (e, v))) (sym h.0, refl)
      by_answer (Err x) h =
          one 7 (not_a_schedule (length s)) (refusing x) (ap (λ (y : Refusal). y.number) h.1, ap (λ (y : Refusal). y.position) h.1)

  serves_gives : (x : Refusal) (a : Numbers) → ServesTells (Err x) a → a ≡ refusing x
  unfolding ServesChecked
  serves_gives x a (r, h, e) = e ∙ ap serves_numbers h

module _ (τ : Table) (c : Controller) (l : List Transaction) (n : ℕ) (b : List ℕ) where
  run_rows_lem : FirstRow (run_rows τ l c n (length b)) (run_numbers (runs_checked (Ok tt) c τ l n b).told.answer)
  unfolding runs_checked run_controller run_refusal tells
  run_rows_lem =
      let z = run_refusal τ l (tells c) n (length b) in
      let a = run_numbers (runs_checked (Ok tt) c τ l n b).told.answer in
      let short = ltb (length b) (8 * min n ((length (act_queue τ l) - c.acts) + (length (data_queue τ l) - c.datas))) in
      let rows : row 5 0 short ∷ row 9 0 (not (sound τ l (tells c))) ∷ row 12 0 (is_late l (tells c)) ∷ [] ≡ run_rows τ l c n (length b) = refl in
      subst (λ (rs : List Row). FirstRow rs a) rows
      (three 5 9 12 short (not (sound τ l (tells c))) (is_late l (tells c)) a
      (by_number (λ (w : RunLeft). run_numbers w.told.answer) z (ran_left τ.edition (lent_run n τ l (tells c)) b) (refused_left τ.edition z c b) (refl, refl) (refl, refl)))

-- ---- all of them

module _ (expected : ℕ) (table : List ℕ) where
  abbrev t : Table
  t = table_at table

  judge_told : (s : List ℕ) → FirstRow (table_rows expected table (schedule_row s ∷ [])) (judged_numbers (judging (admitted expected table) s))
  unfolding judging
  judge_told s =
      by_table expected table (λ a n. n ≡ judged_numbers (judging a s)) (schedule_row s ∷ []) (λ x a e. e)
      (λ a e. subst (FirstRow (schedule_row s ∷ [])) (sym e) (judge_rows t s)) (judged_numbers (judging (admitted expected table) s)) refl

  pattern_told : (s : List ℕ) (L : ℕ) (r : Result (ℕ × PatternVerdict) Refusal) → PatternTold (admitted expected table) s L r
      → FirstRow (table_rows expected table (schedule_row s ∷ row 8 0 (eqb L 0) ∷ [])) (pattern_numbers r)
  unfolding PatternTold
  pattern_told s L r p =
      by_table expected table (λ a n. (v : Result (ℕ × PatternVerdict) Refusal) × PatternTold a s L v × (n ≡ pattern_numbers v)) rows
      (λ x a h. h.2 ∙ ap pattern_numbers h.1) (λ a h. subst (FirstRow rows) (sym h.2) (pattern_rows t s L h.0 h.1)) (pattern_numbers r) (r, p, refl)
    where
      rows : List Row
      rows = schedule_row s ∷ row 8 0 (eqb L 0) ∷ []

  bound_said : (bi bc : ℕ) → FirstRow (table_rows expected table (row 4 0 (not (within 1 16 bi && (within 1 16 bc && leb bi t.banks))) ∷ []))
      (bound_numbers (bounding (admitted expected table) bi bc))
  unfolding bounding
  bound_said bi bc =
      by_table expected table (λ a n. n ≡ bound_numbers (bounding a bi bc)) rows (λ x a e. e)
      (λ a e. subst (FirstRow rows) (sym e) (bound_rows t bi bc)) (bound_numbers (bounding (admitted expected table) bi bc)) refl
    where
      rows : List Row
      rows = row 4 0 (not (within 1 16 bi && (within 1 16 bc && leb bi t.banks))) ∷ []

  read_told : (later : Bool) (s : List ℕ) (l : List Transaction)
      → FirstRow (table_rows expected table (list_rows t (few_into later s (length l)) (list_of later s) [])) (read_numbers (reading later (admitted expected table) s l).answer)
  unfolding reading decoding
  read_told later s l =
      by_table expected table (λ a n. n ≡ read_numbers (reading later a s l).answer) (list_rows t (few_into later s (length l)) (list_of later s) []) (λ x a e. e)
      (λ a e. by_list t (λ c n. n ≡ read_numbers (decoded_by c later t s l).answer) [] a (λ x e. e) (tells_same a (telling t.edition (record_count later (length s) ∷ [])))
      (few_into later s (length l)) (list_of later s) (check_into later t s (length l)) (into_sized later t s (length l)) e)
      (read_numbers (reading later (admitted expected table) s l).answer) refl

  start_told : FirstRow (table_rows expected table []) (start_numbers (starting (admitted expected table)).answer)
  unfolding starting
  start_told =
      by_table expected table (λ a n. n ≡ start_numbers (starting a).answer) [] (λ x a e. e) (λ a. tells_same a (telling t.edition []))
      (start_numbers (starting (admitted expected table)).answer) refl

  -- by a check that goes by the list's size
  module _ (check : Table → Result Unit Refusal) (good : Bool) (l : List Transaction) (sized : check t ≡ check_sized t good l) where
    build_told : (b₀ b f₀ f : List ℕ) (r : Result (ℕ × ℕ) Refusal) → Schedules check (admitted expected table) l b₀ b f₀ f r
        → FirstRow (table_rows expected table (list_rows t good l (build_rows t l (length b₀) (length f₀)))) (build_numbers r)
    unfolding Schedules
    build_told b₀ b f₀ f r h =
        by_table expected table (λ a n. (v : Result (ℕ × ℕ) Refusal) × Schedules check a l b₀ b f₀ f v × (n ≡ build_numbers v)) (list_rows t good l rows)
        (λ x a k. k.2 ∙ ap build_numbers k.1.0)
        (λ a k. by_list t (BuildTells t l b₀ b f₀ f) rows a (λ x. build_gives t l b₀ b f₀ f x a) (build_rows_lem t l b₀ b f₀ f a) good l (check t) sized k)
        (build_numbers r) (r, h, refl)
      where
        rows : List Row
        rows = build_rows t l (length b₀) (length f₀)

    serves_told : (s : List ℕ) (r : Result (ℕ × Served) Refusal) → Serving check (admitted expected table) l s r
        → FirstRow (table_rows expected table (list_rows t good l (schedule_row s ∷ []))) (serves_numbers r)
    unfolding Serving
    serves_told s r h =
        by_table expected table (λ a n. (v : Result (ℕ × Served) Refusal) × Serving check a l s v × (n ≡ serves_numbers v)) (list_rows t good l (schedule_row s ∷ []))
        (λ x a k. k.2 ∙ ap serves_numbers k.1)
        (λ a k. by_list t (ServesTells t l s) (schedule_row s ∷ []) a (λ x. serves_gives t l s x a) (serves_rows t l s a) good l (check t) sized k)
        (serves_numbers r) (r, h, refl)

    run_told : (c : Controller) (n : ℕ) (b : List ℕ)
        → FirstRow (table_rows expected table (list_rows t good l (run_rows t l c n (length b)))) (run_numbers (running check (admitted expected table) c l n b).told.answer)
    unfolding running runs_checked
    run_told c n b =
        by_table expected table (λ a m. m ≡ run_numbers (running check a c l n b).told.answer) (list_rows t good l rows) (λ x a e. e)
        (λ a e. by_list t (λ d m. m ≡ run_numbers (runs_checked d c t l n b).told.answer) rows a (λ x e. e)
        (λ e. subst (FirstRow rows) (sym e) (run_rows_lem t c l n b)) good l (check t) sized e)
        (run_numbers (running check (admitted expected table) c l n b).told.answer) refl
      where
        rows : List Row
        rows = run_rows t l c n (length b)

  capture_told : (s b : List ℕ) → FirstRow (table_rows expected table (capture_rows s (length b))) (capture_numbers (capturing (admitted expected table) s b).answer)
  unfolding capturing
  capture_told s b =
      by_table expected table (λ a n. n ≡ capture_numbers (capturing a s b).answer) (capture_rows s (length b)) (λ x a e. e)
      (λ a e. subst (FirstRow (capture_rows s (length b))) (sym e) (capture_rows_lem t s b)) (capture_numbers (capturing (admitted expected table) s b).answer) refl

  pub causes : Causes expected table
  causes =
      record {
        judge = judge_told;
        judge_pattern = pattern_told;
        judge_capture = capture_told;
        bound = bound_said;
        read_transactions = read_told;
        schedule = λ l. build_told (λ τ. check_list τ l) (leb (length l) 256) l (list_sized t l);
        schedule_bytes = λ later s. build_told (λ τ. check_bytes later τ s) (few_bytes later s) (list_of later s) (bytes_sized later t s);
        serves = λ l. serves_told (λ τ. check_list τ l) (leb (length l) 256) l (list_sized t l);
        serves_bytes = λ later b. serves_told (λ τ. check_bytes later τ b) (few_bytes later b) (list_of later b) (bytes_sized later t b);
        start = start_told;
        run = λ c l. run_told (λ τ. check_list τ l) (leb (length l) 256) l (list_sized t l) c;
        run_bytes = λ later c s. run_told (λ τ. check_bytes later τ s) (few_bytes later s) (list_of later s) (bytes_sized later t s) c;
      }
