-- Decoding a list's bytes, records of 8 where `later`, else of 4, into a lent run of records.
use Rattle.std.specs.Prelude.{ℕ, Bool, ◌≡◌, List, ◌++◌, length, take, drop, Result, Ok, Err}
use Rattle.records.specs.declared.refusal.Refusal.{Refusal}
use Rattle.records.specs.declared.table.Table.{Table}
use Rattle.records.specs.declared.transaction.Transaction.{Transaction}
use Rattle.records.specs.Transaction.{record_count, list_of}
use Rattle.lists.specs.declared.decode.Plan.{Plan}
use Rattle.lists.specs.Check.{check_into}

-- "Success writes each result from its buffer's start and leaves all beyond as it stood": the first n of xs
abbrev pub stored : List Transaction → ℕ → List Transaction → List Transaction
stored xs n l = take n xs ++ drop n l

-- what a decoding leaves: its answer, and the list
pub record Decoding : Type 0 where
  pub answer : Result (ℕ × ℕ) Refusal
  pub list : List Transaction

-- by what the check finds; where it refuses, "no buffer or state changes"
abbrev pub decoded_by : Result Unit Refusal → Bool → Table → List ℕ → List Transaction → Decoding
decoded_by (Ok tt) later τ s l =
    record {
      answer = Ok (τ.edition, record_count later (length s));
      list = stored (list_of later s) (record_count later (length s)) l;
    }
decoded_by (Err r) later τ s l = record { answer = Err r; list = l }

unfoldable pub decoding : Bool → Table → List ℕ → List Transaction → Decoding
decoding later τ s l = decoded_by (check_into later τ s (length l)) later τ s l

-- the promise of the call: r is its answer, l what the list holds as it returns
abbrev pub Decodes : Decoding → Result (ℕ × ℕ) Refusal → List Transaction → Type 0
Decodes d r l = (r ≡ d.answer) × (l ≡ d.list)

-- how many are stored, and the answer, for so many places
abbrev pub plan_by : Result Unit Refusal → Bool → Table → List ℕ → Plan
plan_by (Ok _) later τ s = record { n = record_count later (length s); answer = Ok (τ.edition, record_count later (length s)) }
plan_by (Err r) later τ s = record { n = 0; answer = Err r }

unfoldable pub plan : Bool → Table → List ℕ → ℕ → Plan
plan later τ s places = plan_by (check_into later τ s places) later τ s
