-- Demand 3: for every accepted table and list that fits, with room for the result, the schedule is built, it stands in the buffer, it passes the
-- judge as it stands there, it serves every transaction within its bound, and transactions added at the end move nothing.
-- Assumes nothing.
use Rattle.std.specs.Prelude.{Result, Ok, Err}
use Rattle.records.specs.declared.refusal.Refusal.{Refusal}
use Prim.Native.Nat.{ℕ, suc, ◌+◌, ◌*◌, ◌/◌, ◌%◌, ◌≤◌, ◌<◌}
use mathlib.Core.Bool.{Bool, true, false}
use mathlib.Core.Path.{◌≡◌, refl, sym, ap, ◌∙◌, subst}
use mathlib.Core.Option.{some}
use mathlib.Core.List.{List}
use native.Mathlib.Omega.{arith}
use native.Mathlib.Nat.{zero-add}
use lib.ListN.{length, get_elem?, get_or, take, drop, take-append-drop, get_or-append}
use lib.Seq.{drop_at}
use borrow.Author.Tests.{le-leb, le-ltb, eq-eqb}
use Rattle.records.specs.declared.table.Table.{Table}
use Rattle.records.specs.declared.transaction.Transaction.{Transaction}
use Rattle.records.specs.declared.command.Command.{Command}
use Rattle.records.specs.Told.{over}
use Rattle.records.specs.Table.{Accepted}
use Rattle.records.specs.Transaction.{record_size, list_of, is_refresh, fits, list_fits}
use Rattle.records.specs.Command.{commands_in, bytes_of_all}
use Rattle.records.proofs.Arrivals.{few_listed, each_listed}
use Rattle.records.proofs.Written.{length_bytes, bytes_stand, read_whole}
use Rattle.rules.specs.declared.verdict.Verdict.TheVariants.{Accepted as Passed}
use Rattle.rules.specs.Queues.{act_queue, data_queue}
use Rattle.rules.specs.Verdict.{Legal}
use Rattle.rules.specs.Finish.{finish_of, count_from, finish}
use Rattle.rules.specs.Bound.{bound, span, start_at}
use Rattle.rules.specs.Promise.{cycle_of, Kept, last_command_cycle}
use Rattle.rules.proofs.laws.TestLaws.{OnSome, every_at}
use Rattle.rules.proofs.queues.Fit.{is_fit, plain_fit, all_fit}
use Rattle.rules.proofs.queues.Queue.{act_length, data_length}
use Rattle.rules.proofs.laws.Ranges.{ranges}
use Rattle.rules.proofs.shown.Promises.{kept}
use Rattle.heads.proofs.Laws.{acts_most, datas_most}
use Rattle.judge.specs.Answer.{schedule_refusal}
use Rattle.judge.proofs.Accepts.{judge_accepts}
use Rattle.engine.specs.Build.{finishes_from}
use Rattle.engine.proofs.Schedule.{ours, readable, finishes_length, finish_at_lem}
use Rattle.builder.specs.Bound.{bound_told}
use Rattle.builder.specs.Build.{build_refusal, LeavesBuild}
use Rattle.lists.specs.Check.{check_list, check_bytes}
use Rattle.lists.proofs.Checks.{bytes_list, fits_fine}
use Rattle.promises.specs.Admit.{admitted}
use Rattle.promises.specs.Judging.{judging}
use Rattle.promises.specs.Bounds.{bounding}
use Rattle.promises.specs.Schedules.{BuildsChecked, Schedules}
use Rattle.demands.specs.Demands.{Demand3, Room}
use Rattle.promises.proofs.Laws.{read_accepted, schedules_same}

-- ---- the built schedule's bytes pass the judge

-- no list that fits puts more commands into the queues than the judge takes
few_due : (τ : Table) → Accepted τ → (l : List Transaction) → list_fits τ l ≡ true → length (act_queue τ l) + length (data_queue τ l) ≤ 69632
few_due τ acc l fit =
    let each = all_fit τ (ranges τ acc).banks.least l (each_listed τ l fit) in
    omega (arith, act_length τ l, data_length τ l, acts_most τ l each, datas_most τ l each, few_listed τ l fit)

-- number 7 does not refuse so many records
few_judged : (size n : ℕ) → size ≡ 8 * n → n ≤ 69632 → schedule_refusal size ≡ 0
few_judged size n e h = rw (eq-eqb (size % 8) 0 (omega arith), le-ltb 69632 (size / 8) (omega arith))

module _ (τ : Table) (acc : Accepted τ) (l : List Transaction) (fit : list_fits τ l ≡ true) (rs : List Command) (q : Kept τ l rs) where
  pub bytes_taken : schedule_refusal (length (bytes_of_all rs)) ≡ 0
  bytes_taken = few_judged (length (bytes_of_all rs)) (length rs) (length_bytes rs) (omega (arith, q.count, few_due τ acc l fit))

  pub bytes_same : commands_in (bytes_of_all rs) ≡ rs
  bytes_same = read_whole rs (readable l rs (ours τ l rs q.built) q.early)

  bytes_pass : judging (Ok τ) (bytes_of_all rs) ≡ Ok (τ.edition, Passed)
  unfolding judging
  bytes_pass = (judge_accepts τ (bytes_of_all rs)).1 (bytes_taken, subst (Legal τ) (sym bytes_same) q.passes)

-- ---- the finishing cycles

module _ (τ : Table) (l : List Transaction) (rs : List Command) (f₀ f : List ℕ) (e : f ≡ over (finishes_from τ l 0 rs) f₀) where
  finish_stands : (k : ℕ) (x : Transaction) → get_elem? l k ≡ some x → get_or f k 0 ≡ cycle_of (finish τ x k rs)
  finish_stands k x h =
      let w = finish_at_lem τ l 0 rs k x h in
      let new = finishes_from τ l 0 rs in
      ap (λ (s : List ℕ). get_or s k 0) e
      ∙ (get_or-append new (drop (length new) f₀) 0 k (omega (arith, w.1, finishes_length τ l 0 rs))
      ∙ (w.0 ∙ ap (λ (i : ℕ). cycle_of (finish τ x i rs)) (zero-add k)))

  finish_later : drop (length l) f ≡ drop (length l) f₀
  finish_later =
      let new = finishes_from τ l 0 rs in
      ap (drop (length l)) e
      ∙ (drop_at new (drop (length new) f₀) (length l) (finishes_length τ l 0 rs) ∙ ap (λ (n : ℕ). drop n f₀) (finishes_length τ l 0 rs))

-- ---- the bound of a read or a write that fits

bound_told_lem : (τ : Table) → Accepted τ → (x : Transaction) → fits τ x ≡ true → is_refresh x ≡ false → bounding (Ok τ) x.bi x.bc ≡ Ok (τ.edition, bound τ x.bi x.bc)
unfolding bounding bound_told
bound_told_lem τ acc x e er =
    let k = plain_fit τ x (is_fit τ (ranges τ acc).banks.least x e) er in
    rw (
      le-leb 1 x.bi k.one_i,
      le-leb x.bi 16 k.max_i,
      le-leb 1 x.bc k.one,
      le-leb x.bc 16 k.max_c,
      le-leb x.bi τ.banks (omega (arith, k.room)),
    )

-- ---- the demand

-- neither 5 nor 6 refuses
room_enough : (τ : Table) (l : List Transaction) (b₀ f₀ : List ℕ) → Room τ l b₀ f₀ → build_refusal τ l (length b₀) (length f₀) ≡ 0
room_enough τ l b₀ f₀ h =
    rw (le-ltb (length b₀) (8 * (length (act_queue τ l) + length (data_queue τ l))) h.commands, le-ltb (length f₀) (length l) h.finishes)

module _ (expected : ℕ) (table : List ℕ) (τ : Table) (read : admitted expected table ≡ Ok τ) (l : List Transaction) (fit : list_fits τ l ≡ true)
    (b₀ b f₀ f : List ℕ) (room : Room τ l b₀ f₀) where
  acc : Accepted τ
  acc = read_accepted expected table τ read

  -- what holds of the table read holds of its bytes
  of_bytes : (P : Result Table Refusal → Type 0) → P (Ok τ) → P (admitted expected table)
  of_bytes P p = subst P (sym read) p

  serves : (r : Result (ℕ × ℕ) Refusal) → LeavesBuild τ l b₀ b f₀ f r → Demand3 expected table τ l b₀ b f₀ f r
  serves (Err x) h = absurd (h.0 (room_enough τ l b₀ f₀ room))
  serves (Ok (e, n)) h =
      let k = h.2 in
      let rs = k.schedule in
      let q = kept τ acc l fit rs k.built in
      let at = bytes_stand rs b₀ b k.buffer in
      let stands = finish_stands τ l rs f₀ f k.finishes in
      record {
        schedule = rs;
        built = k.built;
        answer = ap (λ (z : ℕ). Ok (z, n)) h.1 ∙ ap (λ (z : ℕ). Ok (τ.edition, z)) k.count;
        bytes = at;
        beyond = ap (drop (8 * length rs)) k.buffer
            ∙ (drop_at (bytes_of_all rs) (drop (length (bytes_of_all rs)) b₀) (8 * length rs) (length_bytes rs) ∙ ap (λ (m : ℕ). drop m b₀) (length_bytes rs));
        passes = ap (judging (admitted expected table)) at
            ∙ of_bytes (λ (a : Result Table Refusal). judging a (bytes_of_all rs) ≡ Ok (τ.edition, Passed)) (bytes_pass τ acc l fit rs q);
        finishes = stands;
        later = finish_later τ l rs f₀ f k.finishes;
        served = q.finishes;
        not_before = q.not_before;
        first = q.first_in;
        next = q.next_in;
        first_finish = λ x at. subst (λ (z : ℕ). z ≤ finish_of τ x (start_at x 0 + span τ x)) (sym (stands 0 x at)) (q.first_finish x at);
        next_finish = λ j w x was at.
            subst (λ (z : ℕ). z ≤ finish_of τ x (start_at x (count_from τ w (last_command_cycle j rs)) + span τ x)) (sym (stands (suc j) x at)) (q.next_finish j w x was at);
        fits = λ j x at. subst (λ (z : ℕ). z < 4294967296) (sym (stands j x at)) (q.finish_fits j x at);
        told = λ j x at er. (
          rw er,
          of_bytes (λ (a : Result Table Refusal). bounding a x.bi x.bc ≡ Ok (τ.edition, bound τ x.bi x.bc))
              (bound_told_lem τ acc x (subst (OnSome (λ y. fits τ y ≡ true)) at (every_at (fits τ) l j (each_listed τ l fit))) er),
        );
        unmoved = λ j. q.unmoved (take j l) (drop j l) (sym (take-append-drop j l));
      }

-- a list that fits is checked, and built
fits_builds : (τ : Table) (l : List Transaction) → list_fits τ l ≡ true → (b₀ b f₀ f : List ℕ) (r : Result (ℕ × ℕ) Refusal)
    → Schedules (λ τ. check_list τ l) (Ok τ) l b₀ b f₀ f r → LeavesBuild τ l b₀ b f₀ f r
unfolding Schedules BuildsChecked
fits_builds τ l fit b₀ b f₀ f r h = subst (λ (c : Result Unit Refusal). BuildsChecked c τ l b₀ b f₀ f r) (fits_fine τ l fit) h

pub demand_3 : (expected : ℕ) (table : List ℕ) (τ : Table) → admitted expected table ≡ Ok τ → (l : List Transaction) → list_fits τ l ≡ true → (b₀ b f₀ f : List ℕ) → Room τ l b₀ f₀
    → (r : Result (ℕ × ℕ) Refusal) → Schedules (λ τ. check_list τ l) (admitted expected table) l b₀ b f₀ f r → Demand3 expected table τ l b₀ b f₀ f r
demand_3 expected table τ read l fit b₀ b f₀ f room r h =
    serves expected table τ read l fit b₀ b f₀ f room r
    (fits_builds τ l fit b₀ b f₀ f r (subst (λ (a : Result Table Refusal). Schedules (λ τ. check_list τ l) a l b₀ b f₀ f r) read h))

-- the same of a list's bytes, records of 8 where `later`, else of 4
pub demand_3_bytes : (expected : ℕ) (table : List ℕ) (τ : Table) → admitted expected table ≡ Ok τ → (later : Bool) (s : List ℕ) → length s % record_size later ≡ 0
    → list_fits τ (list_of later s) ≡ true → (b₀ b f₀ f : List ℕ) → Room τ (list_of later s) b₀ f₀
    → (r : Result (ℕ × ℕ) Refusal) → Schedules (λ τ. check_bytes later τ s) (admitted expected table) (list_of later s) b₀ b f₀ f r → Demand3 expected table τ (list_of later s) b₀ b f₀ f r
demand_3_bytes expected table τ read later s whole fit b₀ b f₀ f room r h =
    demand_3 expected table τ read (list_of later s) fit b₀ b f₀ f room r
    (schedules_same (λ τ. check_bytes later τ s) (λ τ. check_list τ (list_of later s)) (admitted expected table) (list_of later s) (list_of later s) b₀ b f₀ f r
    (λ τ. bytes_list later τ s whole) refl h)
