-- Of any capture: its commands, stamped again, are its records without the ticks.
-- Assumes nothing.
use Prim.Native.Nat.{ℕ, zero, suc, ◌+◌, ◌/◌, ◌%◌, ◌<◌}
use native.Mathlib.Omega.{arith}
use mathlib.Core.Path.{◌≡◌, refl, sym, ap, ◌∙◌}
use mathlib.Core.Bool.{Bool, true, false}
use mathlib.Core.List.{List, [], ◌∷◌}
use lib.ListN.{length}
use Rattle.records.specs.Tests.{pick}
use Rattle.records.specs.declared.command.Command.{Command}
use Rattle.records.specs.Command.{kind_of, kind_number}
use Rattle.records.proofs.Inverse.{Bytes, kind_number_lem}
use Rattle.rules.specs.Verdict.{unnumbered}
use Rattle.stamps.specs.declared.one_record.CaptureRecord.{CaptureRecord}
use Rattle.stamps.specs.Record.{capture_record}
use Rattle.stamps.specs.Capture.{records_from, records_in, Timed, timed, timed_after, timed_of, timed_in, gap, is_tick, command_of, commands_of}
use Rattle.capture.specs.Answer.{commands_seen}
use Rattle.capture.specs.Written.{stamped, all_stamped, without_ticks, NothingLost}

-- stamps of 16 bits
abbrev Stamps : List CaptureRecord → Type 0
Stamps [] = Unit {0}
Stamps (x ∷ l) = (x.stamp < 65536) × Stamps l

stamps_from : (s : List ℕ) → Bytes s → (n at : ℕ) → Stamps (records_from s n at)
unfolding records_from
stamps_from s y zero at = tt
stamps_from s y (suc n) at = (omega (arith, y at, y (at + 1)), stamps_from s y n (at + 4))

-- the true cycle has the stamp for its last 16 bits
last_bits : (c q : ℕ) → q < 65536 → (c + gap (c % 65536) q) % 65536 ≡ q
unfolding gap
last_bits c q h = omega arith

-- a record that is no tick is its command's
stamped_back : (c : ℕ) (x : CaptureRecord) → c % 65536 ≡ x.stamp → stamped (command_of (timed c x)) ≡ x
stamped_back c x e = ap (λ (t : ℕ). capture_record t (kind_number (kind_of x.kind)) x.bank) e ∙ ap (λ (k : ℕ). capture_record x.stamp k x.bank) (kind_number_lem x.kind)

one_more_lem : (c : ℕ) (x : CaptureRecord) (l : List Timed) (m : List CaptureRecord) → c % 65536 ≡ x.stamp → all_stamped (commands_of l) ≡ without_ticks m
    → all_stamped (commands_of (timed c x ∷ l)) ≡ without_ticks (x ∷ m)
unfolding commands_of
one_more_lem c x l m e k = on (is_tick x)
  where
    on : (b : Bool) → all_stamped (pick b (commands_of l) (command_of (timed c x) ∷ commands_of l)) ≡ pick b (without_ticks m) (x ∷ without_ticks m)
    on true = k
    on false = ap (λ (y : CaptureRecord). y ∷ all_stamped (commands_of l)) (stamped_back c x e) ∙ ap (λ (r : List CaptureRecord). x ∷ r) k

after : (p c : ℕ) (l : List CaptureRecord) → p ≡ c % 65536 → Stamps l → all_stamped (commands_of (timed_after p c l)) ≡ without_ticks l
unfolding commands_of
after p c [] e h = refl
after p c (x ∷ l) e h =
    one_more_lem (c + gap p x.stamp) x (timed_after x.stamp (c + gap p x.stamp) l) l here (after x.stamp (c + gap p x.stamp) l (sym here) h.1)
  where
    here : (c + gap p x.stamp) % 65536 ≡ x.stamp
    here = ap (λ (q : ℕ). (c + gap q x.stamp) % 65536) e ∙ last_bits c x.stamp h.0

all : (l : List CaptureRecord) → Stamps l → all_stamped (commands_of (timed_of l)) ≡ without_ticks l
unfolding commands_of
all [] h = refl
all (x ∷ l) h = let e : x.stamp % 65536 ≡ x.stamp = omega (arith, h.0) in one_more_lem x.stamp x (timed_after x.stamp x.stamp l) l e (after x.stamp x.stamp l (sym e) h.1)

numbers_0 : (l : List Timed) → unnumbered (commands_of l) ≡ commands_of l
unfolding commands_of
numbers_0 [] = refl
numbers_0 (x ∷ l) = on (is_tick x.seen) (numbers_0 l)
  where
    on : (b : Bool) → unnumbered (commands_of l) ≡ commands_of l → unnumbered (pick b (commands_of l) (command_of x ∷ commands_of l)) ≡ pick b (commands_of l) (command_of x ∷ commands_of l)
    on true k = k
    on false k = ap (λ (r : List Command). command_of x ∷ r) k

pub nothing_lost : (s : List ℕ) → Bytes s → NothingLost s
unfolding commands_seen timed_in
nothing_lost s y = record { records = all (records_in s) (stamps_from s y (length s / 4) 0); numbers = numbers_0 (timed_of (records_in s)) }
