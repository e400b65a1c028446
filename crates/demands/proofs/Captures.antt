-- Captures: the first row that applies, the edition, and what a refused call leaves.
-- Assumes nothing.
use Rattle.std.specs.Prelude.{Result, Ok, Err}
use Prim.Native.Nat.{ℕ, ◌*◌}
use mathlib.Core.Path.{◌≡◌, refl}
use mathlib.Core.Bool.{Bool, true, false}
use mathlib.Core.List.{List, [], ◌∷◌}
use native.Mathlib.Omega.{arith}
use lib.Dec.{ltb, eqb}
use lib.ListN.{length}
use Rattle.records.specs.declared.table.Table.{Table}
use Rattle.records.specs.declared.refusal.Refusal.{Refusal}
use Rattle.records.specs.Tests.{pick}
use Rattle.records.specs.Told.{refusal, first_failed, over}
use Rattle.records.specs.Command.{bytes_of_all}
use Rattle.rules.specs.Verdict.{judge}
use Rattle.stamps.specs.Capture.{timed_in, lowest}
use Rattle.capture.specs.Answer.{not_a_capture, capture_count, commands_seen, capture_refusal, position_of, Captured, captured}
use Rattle.promises.specs.Tracing.{capturing}
use Rattle.promises.specs.Numbers.{capture_numbers}
use Rattle.demands.specs.Causes.{row, FirstRow, capture_rows}

module _ (τ : Table) (s b : List ℕ) where
  abbrev pub said : Captured
  said = record {
    answer = Ok (τ.edition, length (commands_seen s), judge τ (commands_seen s));
    buffer = over (bytes_of_all (commands_seen s)) b;
  }

  abbrev pub refused : ℕ → Captured
  refused z = record { answer = Err (refusal z (position_of z s) τ.edition); buffer = b }

  -- by the number z
  abbrev pub by : ℕ → Captured
  by z = pick (eqb z 0) said (refused z)

  first_row : (x y z : Bool) → FirstRow (row 7 0 x ∷ row 11 (lowest (timed_in s)) y ∷ row 5 0 z ∷ []) (capture_numbers (by (first_failed ((7, x) ∷ (11, y) ∷ (5, z) ∷ []))).answer)
  first_row true y z = (refl, refl)
  first_row false true z = (refl, refl)
  first_row false false true = (refl, refl)
  first_row false false false = (refl, refl)

  stood : (t : Bool) (z : ℕ) (x : Refusal) → (pick t said (refused z)).answer ≡ Err x → (pick t said (refused z)).buffer ≡ b
  stood true z x h = let y : ◌≡◌ {A = ℕ} 0 1 = cc in absurd (omega arith)
  stood false z x h = refl

  names : (t : Bool) (z : ℕ) → (capture_numbers (pick t said (refused z)).answer).edition ≡ τ.edition
  names true z = refl
  names false z = refl

pub capture_rows_lem : (τ : Table) (s b : List ℕ) → FirstRow (capture_rows s (length b)) (capture_numbers (capturing (Ok τ) s b).answer)
unfolding capturing captured capture_refusal
capture_rows_lem τ s b = first_row τ s b (not_a_capture (length s)) (ltb (lowest (timed_in s)) (capture_count s)) (ltb (length b) (8 * length (commands_seen s)))

-- a refused call leaves the buffer
pub uncaptured : (a : Result Table Refusal) (s b : List ℕ) (x : Refusal) → (capturing a s b).answer ≡ Err x → (capturing a s b).buffer ≡ b
unfolding capturing captured
uncaptured (Ok τ) s b x h = stood τ s b (eqb (capture_refusal s (length b)) 0) (capture_refusal s (length b)) x h
uncaptured (Err y) s b x h = refl

-- and every answer names the edition
pub capture_names : (τ : Table) (s b : List ℕ) → (capture_numbers (capturing (Ok τ) s b).answer).edition ≡ τ.edition
unfolding capturing captured
capture_names τ s b = names τ s b (eqb (capture_refusal s (length b)) 0) (capture_refusal s (length b))

pub capture_names_refused : (x : Refusal) (s b : List ℕ) → (capture_numbers (capturing (Err x) s b).answer).edition ≡ x.edition
unfolding capturing
capture_names_refused x s b = refl
