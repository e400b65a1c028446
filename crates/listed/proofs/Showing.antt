-- A listing shows a refusal, or the schedule of the cycle rule with its finishing cycles.
-- Assumes nothing.
use Rattle.std.specs.Prelude.{Result, Ok, Err}
use Rattle.records.specs.declared.refusal.Refusal.{Refusal}
use Prim.Native.Nat.{ℕ, ◌/◌}
use mathlib.Core.Path.{◌≡◌, refl, sym, ap, ◌∙◌}
use mathlib.Core.Bool.{true, false}
use mathlib.Core.Logic.{inl, inr}
use mathlib.Core.List.{List, []}
use native.Mathlib.Omega.{arith}
use lib.ListN.{length, take, drop, replicate}
use lib.Seq.{take_at}
use Rattle.records.specs.declared.table.Table.{Table}
use Rattle.records.specs.declared.transaction.Transaction.{Transaction}
use Rattle.records.specs.declared.command.Command.{Command}
use Rattle.records.specs.Table.{Accepted}
use Rattle.records.specs.Transaction.{transactions_in, list_fits}
use Rattle.records.specs.Command.{commands_from, bytes_of_all}
use Rattle.rules.proofs.shown.Promises.{kept}
use Rattle.records.proofs.Listed.{length_list}
use Rattle.engine.specs.Build.{finishes_from}
use Rattle.records.proofs.Written.{read_back}
use Rattle.engine.proofs.Schedule.{ours, readable, finishes_length}
use Rattle.builder.specs.Build.{Stands}
use Rattle.lists.specs.Check.{check_bytes}
use Rattle.lists.proofs.Checks.{into_256, into_list, fine_fits}
use Rattle.promises.specs.Admit.{admitted}
use Rattle.promises.specs.Schedules.{BuildsChecked, Schedules}
use Rattle.promises.proofs.Laws.{read_accepted}
use Rattle.lines.specs.Lines.{schedule_text}
use Rattle.listed.specs.Listing.{answer_text, ListsCall}
use Rattle.listed.specs.Shows.{ShowsSchedule, Shows}

-- what stands in the two buffers is the schedule, and its finishing cycles
module _ (τ : Table) (acc : Accepted τ) (l : List Transaction) (fit : list_fits τ l ≡ true) (b₀ b f₀ f : List ℕ) (n : ℕ) (x : Stands τ l b₀ b f₀ f n) where
  commands_back : commands_from b n 0 ≡ x.schedule
  commands_back =
      ap (λ (k : ℕ). commands_from b k 0) x.count ∙ ap (λ (s : List ℕ). commands_from s (length x.schedule) 0) x.buffer
      ∙ read_back [] x.schedule (drop (length (bytes_of_all x.schedule)) b₀) (readable l x.schedule (ours τ l x.schedule x.built) (kept τ acc l fit x.schedule x.built).early)

  finishes_back : (m : ℕ) → m ≡ length l → take m f ≡ finishes_from τ l 0 x.schedule
  finishes_back m e =
      ap (take m) x.finishes
      ∙ take_at (finishes_from τ l 0 x.schedule) (drop (length (finishes_from τ l 0 x.schedule)) f₀) m (finishes_length τ l 0 x.schedule ∙ sym e)

  text_back : (e m : ℕ) → m ≡ length l → e ≡ τ.edition
      → schedule_text e (commands_from b n 0) (take m f) ≡ schedule_text τ.edition x.schedule (finishes_from τ l 0 x.schedule)
  text_back e m p q =
      ap (λ (k : ℕ). schedule_text k (commands_from b n 0) (take m f)) q
      ∙ ap (λ (rs : List Command). schedule_text τ.edition rs (take m f)) commands_back
      ∙ ap (schedule_text τ.edition x.schedule) (finishes_back m p)

bytes_fit : (s : List ℕ) (τ : Table) → check_bytes false τ s ≡ Ok tt → list_fits τ (transactions_in s) ≡ true
bytes_fit s τ e = fine_fits τ (transactions_in s) (into_list false τ s 256 (into_256 false τ s ∙ e))

module _ (expected : ℕ) (table list : List ℕ) (b f text : List ℕ) (e n : ℕ) (is : text ≡ schedule_text e (commands_from b n 0) (take (length list / 4) f)) where
  by_check : (τ : Table) → admitted expected table ≡ Ok τ → (c : Result Unit Refusal) → check_bytes false τ list ≡ c
      → BuildsChecked c τ (transactions_in list) (replicate 65536 0) b (replicate 256 0) f (Ok (e, n)) → ShowsSchedule expected table list text
  unfolding BuildsChecked
  by_check τ r (Ok tt) k h =
      let x = h.2 in
      record {
        τ = τ;
        admits = r;
        schedule = x.schedule;
        built = x.built;
        is = is ∙ text_back τ (read_accepted expected table τ r) (transactions_in list) (bytes_fit list τ k) (replicate 65536 0) b (replicate 256 0) f n x e (length list / 4) (sym (length_list list false)) h.1;
      }
  by_check τ r (Err y) k h = let z = h.0 in let w : ◌≡◌ {A = ℕ} 0 1 = cc in absurd (omega arith)

  by_table : (a : Result Table Refusal) → admitted expected table ≡ a
      → Schedules (λ τ. check_bytes false τ list) a (transactions_in list) (replicate 65536 0) b (replicate 256 0) f (Ok (e, n)) → ShowsSchedule expected table list text
  unfolding Schedules
  by_table (Ok τ) r h = by_check τ r (check_bytes false τ list) refl h
  by_table (Err y) r h = let z = h.0 in let w : ◌≡◌ {A = ℕ} 0 1 = cc in absurd (omega arith)

pub shows : (expected : ℕ) (table list text : List ℕ) → ListsCall expected table list text → Shows expected table list text
unfolding answer_text
shows expected table list text c = by c.answer c.schedules c.is
  where
    by : (r : Result (ℕ × ℕ) Refusal) → Schedules (λ τ. check_bytes false τ list) (admitted expected table) (transactions_in list) (replicate 65536 0) c.room (replicate 256 0) c.finishes r
        → text ≡ answer_text r c.room (take (length list / 4) c.finishes) → Shows expected table list text
    by (Ok (e, n)) h is = inr (by_table expected table list c.room c.finishes text e n is (admitted expected table) refl h)
    by (Err x) h is = inl (x, is)
