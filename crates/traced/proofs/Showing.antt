-- A trace shows the table's refusal, number 7 or 11 of the capture, or its commands and the judge's verdict on them.
-- Assumes nothing.
use Rattle.std.specs.Prelude.{Result, Ok, Err}
use Rattle.records.specs.declared.refusal.Refusal.{Refusal}
use Prim.Native.Nat.{ℕ, ◌*◌, ◌≤◌}
use mathlib.Core.Path.{◌≡◌, refl, ap, sym}
use mathlib.Core.Bool.{Bool, true, false}
use mathlib.Core.Logic.{◌⊎◌, inl, inr}
use mathlib.Core.List.{List, [], ◌∷◌}
use native.Mathlib.Omega.{arith}
use lib.Dec.{ltb, eqb}
use lib.ListN.{length}
use borrow.Author.Tests.{ltb-true, ltb-false}
use Rattle.records.specs.Tests.{pick}
use Rattle.records.specs.Told.{refusal, first_failed, over}
use Rattle.records.specs.declared.table.Table.{Table}
use Rattle.records.specs.declared.command.Command.{Command}
use Rattle.records.specs.Command.{bytes_of_all}
use Rattle.rules.specs.Verdict.{judge}
use Rattle.stamps.specs.Capture.{timed_in, lowest}
use Rattle.capture.specs.Answer.{not_a_capture, capture_count, commands_seen, capture_refusal, position_of, Captured, captured}
use Rattle.capture.proofs.Refusals.{few_records, few_commands, at_most, stand_seen}
use Rattle.promises.specs.Admit.{admitted}
use Rattle.promises.specs.Tracing.{capturing}
use Rattle.traced.specs.Trace.{trace_text, answer_text, left_text, empty_room, call_text}
use Rattle.traced.proofs.Telling.{room_size}
use Rattle.traced.specs.Shows.{Shows7, Shows11, ShowsVerdict, Shows}

module _ (τ : Table) (s b : List ℕ) (room : 557056 ≤ length b) where
  abbrev late : Bool
  late = ltb (lowest (timed_in s)) (capture_count s)

  abbrev tight : Bool
  tight = ltb (length b) (8 * length (commands_seen s))

  -- what is left where the refusal's number is z
  abbrev left : ℕ → Captured
  left z =
      pick (eqb z 0)
      (record {
        answer = Ok (τ.edition, length (commands_seen s), judge τ (commands_seen s));
        buffer = over (bytes_of_all (commands_seen s)) b;
      })
      (record { answer = Err (refusal z (position_of z s) τ.edition); buffer = b })

  abbrev Told : List ℕ → Type 0
  Told text = Shows7 τ s text ⊎ (Shows11 τ s text ⊎ ShowsVerdict τ s text)

  by : (x y z : Bool) → not_a_capture (length s) ≡ x → late ≡ y → tight ≡ z → Told (left_text (left (first_failed ((7, x) ∷ (11, y) ∷ (5, z) ∷ []))))
  unfolding answer_text
  by true y z p q r = inl (record { size = p; is = refl })
  by false true z p q r = inr (inl (record { size = p; low = ltb-true (lowest (timed_in s)) (capture_count s) q; is = refl }))
  by false false true p q r =
      absurd (omega (arith, ltb-true (length b) (8 * length (commands_seen s)) r, few_records (length s) p, few_commands s (length b)))
  by false false false p q r =
      inr (inr (record { size = p; none = none; is = ap (λ (l : List Command). trace_text τ.edition l (judge τ (commands_seen s))) (stand_seen s b none) }))
    where
      none : lowest (timed_in s) ≡ capture_count s
      none = omega (arith, at_most s (length b), ltb-false (lowest (timed_in s)) (capture_count s) q)

  told : Told (left_text (captured τ s b))
  unfolding captured capture_refusal
  told = by (not_a_capture (length s)) late tight refl refl refl

enough : (n : ℕ) → n ≡ 557056 → 557056 ≤ n
enough n e = omega arith

pub shows : (expected : ℕ) (table capture : List ℕ) → Shows expected table capture (call_text expected table capture)
unfolding call_text capturing answer_text
shows expected table capture = on (admitted expected table) refl
  where
    on : (a : Result Table Refusal) → admitted expected table ≡ a → Shows expected table capture (left_text (capturing a capture empty_room))
    on (Ok τ) e = inr (τ, e, told τ capture empty_room (enough (length empty_room) (sym (room_size empty_room refl))))
    on (Err x) e = inl (x, e, refl)
