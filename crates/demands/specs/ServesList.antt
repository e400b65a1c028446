-- Document 02, request 10, "Does it serve the list?", of the public calls `serves`, `serves_bytes` and `serves_later_bytes`, with a table that is
-- admitted. What it is to do the work, and to be at fault, stands in `Serves` of the crate `serves`.
use Rattle.std.specs.Prelude.{ℕ, ◌*◌, Bool, ◌≡◌, ◌↔◌, ◌⊎◌, List, [], ◌∷◌, length, take, Result, Ok}
use Rattle.serves.specs.declared.answer.Served.{Served}
use Rattle.records.specs.declared.refusal.Refusal.{Refusal}
use Rattle.records.specs.declared.table.Table.{Table}
use Rattle.records.specs.declared.transaction.Transaction.{Transaction}
use Rattle.records.specs.Transaction.{list_of}
use Rattle.records.specs.Command.{commands_in}
use Rattle.rules.specs.declared.verdict.Verdict.TheVariants.{Accepted as Passed}
use Rattle.judge.specs.Answer.{schedule_refusal}
use Rattle.serves.specs.declared.answer.Served.TheVariants.{Serves}
use Rattle.serves.specs.Serves.{NoneOutside, OneOutside, DoesTheWork, NoneBelow, Lowest}
use Rattle.lists.specs.Check.{check_list, check_bytes}
use Rattle.promises.specs.Admit.{admitted}
use Rattle.promises.specs.Judging.{judging}
use Rattle.promises.specs.Schedules.{Schedules}
use Rattle.promises.specs.Serving.{Serving}
use Rattle.promises.specs.Numbers.{telling, judged_numbers, serves_numbers}

-- of a list in which numbers 3 and 4 find nothing to refuse, a schedule's bytes s, whose size number 7 lets pass, and what is answered
pub record ServesOn (expected : ℕ) (table : List ℕ) (τ : Table) (l : List Transaction) (s : List ℕ) (r : Result (ℕ × Served) Refusal) : Type 0 where
  -- "Yes exactly when ..", the request's own conjunction: the edition alone is told
  pub exactly : (serves_numbers r ≡ telling τ.edition []) ↔ DoesTheWork τ l (commands_in s)
  -- which is: the call `judge` accepts, nothing is numbered outside the list, and nobody is at fault
  pub nobody : DoesTheWork τ l (commands_in s)
      ↔ ((judging (admitted expected table) s ≡ Ok (τ.edition, Passed)) × NoneOutside l (commands_in s) × NoneBelow τ l (commands_in s) (length l))
  -- "Otherwise the judge's verdict comes first": rule n and record i are told exactly where the call `judge` tells them
  pub verdict : (e n i : ℕ) → (serves_numbers r ≡ telling e (n ∷ i ∷ [])) ↔ (judged_numbers (judging (admitted expected table) s) ≡ telling e (n ∷ i ∷ []))
  -- "then the lowest transaction at fault. .. If none is, the list's length is given": transaction x is told exactly where the judge accepts and x is at
  -- fault and none below it is, or x is the list's length, nobody is at fault and a record is numbered outside
  pub names : (x : ℕ) → (serves_numbers r ≡ telling τ.edition (x ∷ []))
      ↔ ((judging (admitted expected table) s ≡ Ok (τ.edition, Passed))
      × (Lowest τ l (commands_in s) x ⊎ ((x ≡ length l) × NoneBelow τ l (commands_in s) (length l) × OneOutside l (commands_in s))))

-- the n commands that stand at a buffer's start serve the list: that is answered, nothing else may be, and they do the work. `check` is that of the
-- list's records, or of its bytes, records of 4 or of 8
pub record StartServes (expected : ℕ) (table : List ℕ) (τ : Table) (check : Table → Result Unit Refusal) (l : List Transaction) (n : ℕ) (b : List ℕ) : Type 0 where
  pub answered : Serving check (admitted expected table) l (take (8 * n) b) (Ok (τ.edition, Serves))
  pub alone : (r : Result (ℕ × Served) Refusal) → Serving check (admitted expected table) l (take (8 * n) b) r → serves_numbers r ≡ telling τ.edition []
  pub does : DoesTheWork τ l (commands_in (take (8 * n) b))

-- of a table that is admitted, of 32 bytes or of 40. Bytes of a list are records of 8 where `later`, else of 4
pub record ServesOfCalls (expected : ℕ) (table : List ℕ) (τ : Table) : Type 0 where
  pub lent : (l : List Transaction) (s : List ℕ) (r : Result (ℕ × Served) Refusal) → check_list τ l ≡ Ok tt → schedule_refusal (length s) ≡ 0
      → Serving (λ τ. check_list τ l) (admitted expected table) l s r → ServesOn expected table τ l s r
  pub bytes : (later : Bool) (b s : List ℕ) (r : Result (ℕ × Served) Refusal) → check_bytes later τ b ≡ Ok tt → schedule_refusal (length s) ≡ 0
      → Serving (λ τ. check_bytes later τ b) (admitted expected table) (list_of later b) s r → ServesOn expected table τ (list_of later b) s r
  -- "Schedules we build must pass": what `schedule`, `schedule_bytes` and `schedule_later_bytes` leave in the buffer b, of every list that they build,
  -- with refreshes, groups and arrivals
  pub schedule : (l : List Transaction) (b₀ b f₀ f : List ℕ) (e n : ℕ) → Schedules (λ τ. check_list τ l) (admitted expected table) l b₀ b f₀ f (Ok (e, n))
      → StartServes expected table τ (λ τ. check_list τ l) l n b
  pub schedule_bytes : (later : Bool) (s b₀ b f₀ f : List ℕ) (e n : ℕ)
      → Schedules (λ τ. check_bytes later τ s) (admitted expected table) (list_of later s) b₀ b f₀ f (Ok (e, n))
      → StartServes expected table τ (λ τ. check_bytes later τ s) (list_of later s) n b
