-- Document 01, "What the caller is told".
use Rattle.std.specs.Prelude.{ℕ, ◌+◌, Bool, ◌≡◌, List, [], ◌∷◌, ◌++◌, length, take, drop, eqb, Result, Ok, Err}
use Rattle.records.specs.declared.refusal.Refusal.{Refusal}
use Rattle.records.specs.Tests.{pick}

-- a refusal tells its number, the position and the edition
abbrev pub refusal : ℕ → ℕ → ℕ → Refusal
refusal n p e = record { number = n; position = p; edition = e }

-- "Checks go in the order of these numbers": the number of the first check that fails, 0 where none does
abbrev pub first_failed : List (ℕ × Bool) → ℕ
first_failed [] = 0
first_failed (c ∷ l) = pick c.1 c.0 (first_failed l)

-- what a check by such a number finds: nothing to refuse where it is 0, else the refusal
abbrev pub checked : ℕ → ℕ → ℕ → Result Unit Refusal
checked z p e = pick (eqb z 0) (Ok tt) (Err (refusal z p e))

-- "Success writes each result from its buffer's start and leaves all beyond as it stood."
abbrev pub over : List ℕ → List ℕ → List ℕ
over new s = new ++ drop (length new) s

-- the same from a place on
abbrev pub put_at : List ℕ → ℕ → List ℕ → List ℕ
put_at s at new = take at s ++ new ++ drop (at + length new) s

-- what a call that writes one record leaves: its answer, and the buffer
pub record Wrote : Type 0 where
  pub answer : Result ℕ Refusal
  pub buffer : List ℕ

-- the promise of such a call: r is its answer, b what the buffer holds as it returns
abbrev pub Leaves : Wrote → Result ℕ Refusal → List ℕ → Type 0
Leaves w r b = (r ≡ w.answer) × (b ≡ w.buffer)
