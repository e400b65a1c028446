-- The commands of a built schedule, of a capture and of a pattern are counted in 32 bits.
-- Assumes nothing.
use Rattle.std.specs.Prelude.{Result, Ok, Err}
use Prim.Native.Nat.{ℕ, ◌+◌, ◌≤◌, ◌<◌}
use mathlib.Core.Bool.{Bool, true, false}
use mathlib.Core.Path.{◌≡◌, refl, ◌∙◌}
use mathlib.Core.List.{List}
use native.Mathlib.Omega.{arith}
use lib.Dec.{eqb}
use lib.ListN.{length}
use borrow.Author.Tests.{eqb-true}
use Rattle.records.specs.declared.table.Table.{Table}
use Rattle.records.specs.declared.transaction.Transaction.{Transaction}
use Rattle.records.specs.declared.refusal.Refusal.{Refusal}
use Rattle.records.specs.Tests.{pick}
use Rattle.records.specs.Told.{refusal, over}
use Rattle.records.specs.Table.{Accepted}
use Rattle.records.specs.Transaction.{list_of, list_fits}
use Rattle.records.specs.Command.{bytes_of_all}
use Rattle.records.proofs.Arrivals.{few_listed}
use Rattle.rules.specs.Verdict.{judge}
use Rattle.rules.specs.Queues.{act_queue, data_queue}
use Rattle.rules.proofs.queues.Queue.{act_length, data_length}
use Rattle.rules.proofs.shown.Built.{each_fits, built_count}
use Rattle.heads.proofs.Laws.{acts_most, datas_most}
use Rattle.capture.specs.Answer.{commands_seen, capture_refusal, position_of, Captured, captured}
use Rattle.capture.proofs.Refusals.{taken}
use Rattle.lists.specs.Check.{check_list, check_bytes}
use Rattle.lists.proofs.Checks.{into_256, into_list, fine_fits}
use Rattle.builder.specs.Build.{LeavesBuild}
use Rattle.promises.specs.Admit.{admitted}
use Rattle.promises.specs.Schedules.{NothingBuilt, BuildsChecked, Schedules}
use Rattle.promises.specs.Tracing.{capturing}
use Rattle.promises.specs.Patterns.{ShortestTold}
use Rattle.promises.proofs.Room.{shortest_few}
use Rattle.promises.proofs.Laws.{read_accepted}
use Rattle.answers.specs.Answers.{count_of, records_found}
use Rattle.verdict_answers.specs.Verdicts.{commands_written}

module _ (l : List Transaction) (b₀ b f₀ f : List ℕ) where
  -- 256 transactions of at most 16 ACTs and 256 data commands
  due_few : (τ : Table) → Accepted τ → list_fits τ l ≡ true → length (act_queue τ l) + length (data_queue τ l) ≤ 69632
  due_few τ acc fit =
      let each = each_fits τ acc l fit in
      omega (arith, few_listed τ l fit, act_length τ l, data_length τ l, acts_most τ l each, datas_most τ l each)

  leaves_few : (τ : Table) → Accepted τ → list_fits τ l ≡ true → (v : Result (ℕ × ℕ) Refusal) → LeavesBuild τ l b₀ b f₀ f v → count_of v ≤ 69632
  leaves_few τ acc fit (Ok (e, n)) h =
      omega (arith, h.2.count, built_count τ acc l fit h.2.schedule h.2.built, due_few τ acc fit)
  leaves_few τ acc fit (Err x) h = omega arith

  nothing_few : (x : Refusal) (v : Result (ℕ × ℕ) Refusal) → NothingBuilt x b₀ b f₀ f v → count_of v ≤ 69632
  nothing_few x v h = rw h.0 (omega arith)

  checked_few : (τ : Table) → Accepted τ → (c : Result Unit Refusal) → (c ≡ Ok tt → list_fits τ l ≡ true) → (v : Result (ℕ × ℕ) Refusal) → BuildsChecked c τ l b₀ b f₀ f v → count_of v ≤ 69632
  unfolding BuildsChecked
  checked_few τ acc (Ok _) fit v h = leaves_few τ acc (fit refl) v h
  checked_few τ acc (Err x) fit v h = nothing_few x v h

  schedules_few : (check : Table → Result Unit Refusal) → ((τ : Table) → check τ ≡ Ok tt → list_fits τ l ≡ true) → (a : Result Table Refusal) → ((τ : Table) → a ≡ Ok τ → Accepted τ)
      → (v : Result (ℕ × ℕ) Refusal) → Schedules check a l b₀ b f₀ f v → count_of v ≤ 69632
  unfolding Schedules
  schedules_few check fit (Ok τ) acc v h = checked_few τ (acc τ refl) (check τ) (fit τ) v h
  schedules_few check fit (Err x) acc v h = nothing_few x v h

-- of the list's bytes s, records of 8 where `later`, else of 4, and of a list l
module _ (expected : ℕ) (table b₀ b f₀ f : List ℕ) (v : Result (ℕ × ℕ) Refusal) where
  pub few_of_bytes : (later : Bool) (s : List ℕ) → Schedules (λ τ. check_bytes later τ s) (admitted expected table) (list_of later s) b₀ b f₀ f v → count_of v < 4294967296
  few_of_bytes later s h =
      let few = schedules_few (list_of later s) b₀ b f₀ f (λ τ. check_bytes later τ s)
      (λ τ e. fine_fits τ (list_of later s) (into_list later τ s 256 (into_256 later τ s ∙ e))) (admitted expected table) (read_accepted expected table) v h in
      omega (arith, few)

  pub few_of_list : (l : List Transaction) → Schedules (λ τ. check_list τ l) (admitted expected table) l b₀ b f₀ f v → count_of v < 4294967296
  few_of_list l h =
      let few = schedules_few l b₀ b f₀ f (λ τ. check_list τ l) (λ τ. fine_fits τ l) (admitted expected table) (read_accepted expected table) v h in
      omega (arith, few)

-- a capture that is judged has at most 69,632 records
module _ (s b : List ℕ) where
  abbrev z : ℕ
  z = capture_refusal s (length b)

  captured_few : (τ : Table) → commands_written (captured τ s b).answer < 4294967296
  unfolding captured
  captured_few τ = on (eqb z 0) refl
    where
      on : (t : Bool) → eqb z 0 ≡ t → commands_written (pick {A = Captured} t
          (record { answer = Ok (τ.edition, length (commands_seen s), judge τ (commands_seen s)); buffer = over (bytes_of_all (commands_seen s)) b })
          (record { answer = Err (refusal z (position_of z s) τ.edition); buffer = b })).answer < 4294967296
      on true e = let k = taken s (length b) (eqb-true z 0 e) in omega (arith, k.few, k.commands)
      on false e = omega arith

  pub few_seen : (a : Result Table Refusal) → commands_written (capturing a s b).answer < 4294967296
  unfolding capturing
  few_seen (Ok τ) = captured_few τ
  few_seen (Err x) = omega arith

-- a pattern has at most 6 records
pub few_found : (a : Result Table Refusal) (type bi bc most : ℕ) (b₀ b : List ℕ) (v : Result (ℕ × ℕ × ℕ) Refusal) → ShortestTold a type bi bc most b₀ b v → records_found v < 4294967296
few_found a type bi bc most b₀ b (Ok (e, L, n)) h = omega (arith, shortest_few a type bi bc most b₀ b e L n h)
few_found a type bi bc most b₀ b (Err x) h = omega arith
