-- Each public call's promise leaves one possible result and one possible content of each buffer it was lent, refused or not.
-- Assumes nothing.
use Rattle.std.specs.Prelude.{Result, Ok, Err}
use Rattle.rules.specs.declared.verdict.PatternVerdict.{PatternVerdict}
use Rattle.serves.specs.declared.answer.Served.{Served}
use Prim.Native.Nat.{ℕ}
use mathlib.Core.Bool.{Bool, true}
use mathlib.Core.Path.{◌≡◌, refl, ◌∙◌}
use mathlib.Core.List.{List}
use Rattle.records.specs.declared.table.Table.{Table}
use Rattle.records.specs.declared.transaction.Transaction.{Transaction}
use Rattle.records.specs.declared.refusal.Refusal.{Refusal}
use Rattle.records.specs.Table.{Accepted}
use Rattle.records.specs.Transaction.{list_of, list_fits}
use Rattle.records.proofs.Unique.{one_answer}
use Rattle.judge.proofs.Unique.{judge_pattern_only}
use Rattle.capture.proofs.Unique.{one_captured}
use Rattle.shortest.proofs.Unique.{shortest_only}
use Rattle.builder.proofs.Unique.{build_only}
use Rattle.serves.proofs.Unique.{serves_only}
use Rattle.lists.specs.Check.{check_list, check_bytes}
use Rattle.lists.proofs.Checks.{into_256, into_list, fine_fits}
use Rattle.promises.specs.Admit.{admitted}
use Rattle.promises.specs.Judging.{judging, PatternTold}
use Rattle.promises.specs.Tracing.{capturing}
use Rattle.promises.specs.Patterns.{ShortestTold}
use Rattle.promises.specs.Bounds.{bounding}
use Rattle.promises.specs.Transactions.{reading}
use Rattle.promises.specs.Schedules.{NothingBuilt, BuildsChecked, Schedules}
use Rattle.promises.specs.Running.{starting, running}
use Rattle.promises.specs.Serving.{ServesChecked, Serving}
use Rattle.promises.specs.Only.{Only}
use Rattle.promises.proofs.Laws.{read_accepted}

-- ---- by what `admit` answered

pattern_only : (a : Result Table Refusal) (s : List ℕ) (L : ℕ) (x y : Result (ℕ × PatternVerdict) Refusal) → PatternTold a s L x → PatternTold a s L y → x ≡ y
unfolding PatternTold
pattern_only (Ok τ) s L x y p q = judge_pattern_only τ s L x y p q
pattern_only (Err r) s L x y p q = one_answer (Err r) x y p q

least_only : (a : Result Table Refusal) (type bi bc most : ℕ) (b₀ : List ℕ) (x y : Result (ℕ × ℕ × ℕ) Refusal) (b d : List ℕ) → ShortestTold a type bi bc most b₀ b x
    → ShortestTold a type bi bc most b₀ d y → (x ≡ y) × (b ≡ d)
unfolding ShortestTold
least_only (Ok τ) type bi bc most b₀ x y b d p q = shortest_only τ type bi bc most b₀ b d x y p q
least_only (Err r) type bi bc most b₀ x y b d p q = (one_answer (Err r) x y p.0 q.0, one_answer b₀ b d p.1 q.1)

module _ (l : List Transaction) (b₀ f₀ : List ℕ) (x y : Result (ℕ × ℕ) Refusal) (b d f g : List ℕ) where
  -- a refusal by the table or by the check of the list
  nothing_only : (r : Refusal) → NothingBuilt r b₀ b f₀ f x → NothingBuilt r b₀ d f₀ g y → (x ≡ y) × (b ≡ d) × (f ≡ g)
  nothing_only r p q = (one_answer (Err r) x y p.0 q.0, one_answer b₀ b d p.1 q.1, one_answer f₀ f g p.2 q.2)

  builds_only : (τ : Table) → Accepted τ → (c : Result Unit Refusal) → (c ≡ Ok tt → list_fits τ l ≡ true)
      → BuildsChecked c τ l b₀ b f₀ f x → BuildsChecked c τ l b₀ d f₀ g y → (x ≡ y) × (b ≡ d) × (f ≡ g)
  unfolding BuildsChecked
  builds_only τ acc (Ok _) fit p q = build_only τ acc l (fit refl) b₀ f₀ x y b d f g p q
  builds_only τ acc (Err r) fit p q = nothing_only r p q

  -- a list of which the check finds nothing to refuse only where it fits
  schedules_only : (check : Table → Result Unit Refusal) → ((τ : Table) → check τ ≡ Ok tt → list_fits τ l ≡ true)
      → (a : Result Table Refusal) → ((τ : Table) → a ≡ Ok τ → Accepted τ)
      → Schedules check a l b₀ b f₀ f x → Schedules check a l b₀ d f₀ g y → (x ≡ y) × (b ≡ d) × (f ≡ g)
  unfolding Schedules
  schedules_only check fit (Ok τ) acc p q = builds_only τ (acc τ refl) (check τ) (fit τ) p q
  schedules_only check fit (Err r) acc p q = nothing_only r p q

module _ (l : List Transaction) (s : List ℕ) (x y : Result (ℕ × Served) Refusal) where
  checked_only : (τ : Table) (c : Result Unit Refusal) → ServesChecked c τ l s x → ServesChecked c τ l s y → x ≡ y
  unfolding ServesChecked
  checked_only τ (Ok _) p q = serves_only τ l s x y p q
  checked_only τ (Err r) p q = one_answer (Err r) x y p q

  serving_only : (check : Table → Result Unit Refusal) (a : Result Table Refusal) → Serving check a l s x → Serving check a l s y → x ≡ y
  unfolding Serving
  serving_only check (Ok τ) p q = checked_only τ (check τ) p q
  serving_only check (Err r) p q = one_answer (Err r) x y p q

-- ---- all of them

pub only : (expected : ℕ) (table : List ℕ) → Only expected table
only expected table =
    record {
      judge = λ s. one_answer (judging (admitted expected table) s);
      judge_pattern = pattern_only (admitted expected table);
      judge_capture = λ s b₀. one_captured (capturing (admitted expected table) s b₀);
      shortest_pattern = least_only (admitted expected table);
      bound = λ bi bc. one_answer (bounding (admitted expected table) bi bc);
      read_transactions = λ later s l x y b d p q.
          let w = reading later (admitted expected table) s l in
          (one_answer w.answer x y p.0 q.0, one_answer w.list b d p.1 q.1);
      schedule = λ l b₀ f₀ x y b d f g.
          schedules_only l b₀ f₀ x y b d f g (λ τ. check_list τ l) (λ τ. fine_fits τ l) (admitted expected table) (read_accepted expected table);
      schedule_bytes = λ later s b₀ f₀ x y b d f g.
          schedules_only (list_of later s) b₀ f₀ x y b d f g (λ τ. check_bytes later τ s) (bytes_fit later s) (admitted expected table) (read_accepted expected table);
      serves = λ l s x y. serving_only l s x y (λ τ. check_list τ l) (admitted expected table);
      serves_bytes = λ later b s x y. serving_only (list_of later b) s x y (λ τ. check_bytes later τ b) (admitted expected table);
      start = one_answer (starting (admitted expected table));
      run = λ c₀ l n b₀ x y c e b d p q.
          let w = running (λ τ. check_list τ l) (admitted expected table) c₀ l n b₀ in
          (one_answer w.told.answer x y p.0 q.0, one_answer w.told.controller c e p.1 q.1, one_answer w.buffer b d p.2 q.2);
      run_bytes = λ later c₀ s n b₀ x y b d p q.
          let w = running (λ τ. check_bytes later τ s) (admitted expected table) c₀ (list_of later s) n b₀ in
          (one_answer w.told x y p.0 q.0, one_answer w.buffer b d p.1 q.1);
    }
  where
    bytes_fit : (later : Bool) (s : List ℕ) (τ : Table) → check_bytes later τ s ≡ Ok tt → list_fits τ (list_of later s) ≡ true
    bytes_fit later s τ e = fine_fits τ (list_of later s) (into_list later τ s 256 (into_256 later τ s ∙ e))
