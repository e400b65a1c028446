-- Document 01, "What the caller is told", numbers 7 and 8, and what the judges answer.
use Rattle.std.specs.Prelude.{ℕ, ◌%◌, ◌/◌, Bool, not, ◌||◌, ◌≡◌, List, [], ◌∷◌, ltb, eqb, length, Result, Ok, Err}
use Rattle.rules.specs.declared.verdict.Verdict.{Verdict}
use Rattle.records.specs.declared.refusal.Refusal.{Refusal}
use Rattle.records.specs.Tests.{pick}
use Rattle.records.specs.Told.{refusal, first_failed}
use Rattle.records.specs.Command.{commands_in}
use Rattle.records.specs.declared.table.Table.{Table}
use Rattle.records.specs.declared.command.Command.{Command}
use Rattle.rules.specs.declared.verdict.PatternVerdict.{PatternVerdict}
use Rattle.rules.specs.declared.verdict.PatternVerdict.TheVariants.{Accepted, Refused as RefusedAt}
use Rattle.rules.specs.Verdict.{judge}
use Rattle.rules.specs.Pattern.{EveryNumberLegal, copies}

-- number 7: "schedule bytes not a multiple of 8, or over 69,632 records"
abbrev pub not_a_schedule : ℕ → Bool
not_a_schedule size = not (eqb (size % 8) 0) || ltb 69632 (size / 8)

abbrev pub schedule_refusal : ℕ → ℕ
schedule_refusal size = first_failed ((7, not_a_schedule size) ∷ [])

-- number 8: "pattern length 0"
abbrev pub pattern_refusal : ℕ → ℕ → ℕ
pattern_refusal size L = first_failed ((7, not_a_schedule size) ∷ (8, eqb L 0) ∷ [])

-- what the judge answers on bytes: the table's edition with the verdict, or with the refusal, whose position is 0
unfoldable pub judged : Table → List ℕ → Result (ℕ × Verdict) Refusal
judged τ s =
    let z = schedule_refusal (length s) in
    pick (eqb z 0) (Ok (τ.edition, judge τ (commands_in s))) (Err (refusal z 0 τ.edition))

-- what a verdict on a pattern says of every number of copies. Accepted: "every number of copies, set end to end, is a legal schedule".
-- Refused: "The verdict names the lowest copy, then the record within it"; fewer copies are accepted, and from that copy on all are refused alike
abbrev pub PatternSays : Table → ℕ → List Command → PatternVerdict → Type 0
PatternSays τ L p Accepted = EveryNumberLegal τ L p
PatternSays τ L p (RefusedAt x c i) = (n : ℕ) → copies τ L p n ≡ pick (ltb n c) Accepted (RefusedAt x c i)

-- what the judge of patterns answers: a verdict that says so with the table's edition, where neither 7 nor 8 fails, and else the refusal
abbrev pub PatternAnswers : Table → List ℕ → ℕ → Result (ℕ × PatternVerdict) Refusal → Type 0
PatternAnswers τ s L (Ok (e, v)) = (pattern_refusal (length s) L ≡ 0) × (e ≡ τ.edition) × PatternSays τ L (commands_in s) v
PatternAnswers τ s L (Err x) =
    (pattern_refusal (length s) L ≡ 0 → ⊥) × (x ≡ refusal (pattern_refusal (length s) L) 0 τ.edition)
