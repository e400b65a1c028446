-- The worked captures follow from the definitions.
-- Assumes nothing.
use Prim.Native.Nat.{ℕ, zero, suc, ◌+◌, ◌≤◌, ◌<◌}
use native.Mathlib.Omega.{arith}
use mathlib.Core.Path.{◌≡◌, refl, sym, ◌∙◌, subst}
use mathlib.Core.Logic.{◌⊎◌, inl, inr, ⊎_elim}
use mathlib.Core.Option.{some, none-ne-some, some-injective}
use mathlib.Core.List.{List, [], ◌∷◌}
use lib.ListN.{get_elem?}
use Rattle.records.specs.declared.command.Command.{Command}
use Rattle.records.specs.Command.{command}
use Rattle.records.specs.declared.command.Kind.TheVariants.{Act, Rda}
use Rattle.stamps.specs.Capture.{records_from, gap, timed_in, lowest, commands_of}
use Rattle.capture.specs.Answer.{commands_seen, capture_refusal, captured}
use Rattle.capture.specs.Written.{Sent, sends, ticks, cycle_of, commands_sent, WrittenAs}
use Rattle.capture.specs.Worked.{wrapped, Worked}

-- what holds of each of a list, and of neighbours
abbrev All : {A : Type 0} → (A → Type 0) → List A → Type 0
All P [] = Unit {0}
All P (a ∷ l) = P a × All P l

abbrev Pairs : (Sent → Sent → Type 0) → List Sent → Type 0
Pairs P [] = Unit {0}
Pairs P (a ∷ []) = Unit {0}
Pairs P (a ∷ b ∷ l) = P a b × Pairs P (b ∷ l)

at : {A : Type 0} (P : A → Type 0) (l : List A) → All P l → (i : ℕ) (a : A) → get_elem? l i ≡ some a → P a
at P [] k i a e = absurd (none-ne-some a e)
at P (x ∷ l) k zero a e = subst P (some-injective x a e) k.0
at P (x ∷ l) k (suc i) a e = at P l k.1 i a e

next : (P : Sent → Sent → Type 0) (l : List Sent) → Pairs P l → (i : ℕ) (a b : Sent) → get_elem? l i ≡ some a → get_elem? l (suc i) ≡ some b → P a b
next P [] k i a b e f = absurd (none-ne-some a e)
next P (x ∷ []) k zero a b e f = absurd (none-ne-some b f)
next P (x ∷ []) k (suc i) a b e f = absurd (none-ne-some a e)
next P (x ∷ y ∷ l) k zero a b e f = subst (P a) (some-injective y b f) (subst (λ (z : Sent). P z y) (some-injective x a e) k.0)
next P (x ∷ y ∷ l) k (suc i) a b e f = next P (y ∷ l) k.1 i a b e f

no_command : {A : Type 0} (r : Command) (c : ℕ) → sends r ≡ ticks c → A
no_command r c e = let z : ◌≡◌ {A = ℕ} 0 1 = cc in absurd (omega arith)

-- where the ticks stand
tick_at : (i c : ℕ) → get_elem? wrapped i ≡ some (ticks c) → ((i ≡ 0) × (c ≡ 100)) ⊎ ((i ≡ 3) × (c ≡ 100000))
tick_at zero c e = let k = some-injective (ticks 100) (ticks c) e in let z : 100 ≡ c = cc in inl (refl, sym z)
tick_at (suc zero) c e = no_command (command 65530 Act 0 3) c (some-injective _ (ticks c) e)
tick_at (suc (suc zero)) c e = no_command (command 65540 Rda 0 3) c (some-injective _ (ticks c) e)
tick_at (suc (suc (suc zero))) c e = let k = some-injective (ticks 100000) (ticks c) e in let z : 100000 ≡ c = cc in inr (refl, sym z)
tick_at (suc (suc (suc (suc i)))) c e = absurd (none-ne-some (ticks c) e)

once : (i j c : ℕ) → get_elem? wrapped i ≡ some (ticks c) → get_elem? wrapped j ≡ some (ticks c) → i ≡ j
once i j c e f =
    ⊎_elim
    (λ a. ⊎_elim (λ b. a.0 ∙ sym b.0) (λ b. absurd (omega (arith, a.1, b.1))) (tick_at j c f))
    (λ a. ⊎_elim (λ b. absurd (omega (arith, a.1, b.1))) (λ b. a.0 ∙ sym b.0) (tick_at j c f))
    (tick_at i c e)

-- a command's cycle is no tick's
abbrev Between : Command → Type 0
Between r = (100 < r.cycle) × (r.cycle < 100000)

between : (j : ℕ) (r : Command) → get_elem? (commands_sent wrapped) j ≡ some r → Between r
between j r f = at Between (commands_sent wrapped) ((omega arith, omega arith), ((omega arith, omega arith), tt)) j r f

written : WrittenAs (commands_sent wrapped) wrapped
written = record {
  schedule = refl;
  cycles = λ i r e. let b = between i r e in omega (arith, b.1);
  few = omega arith;
  order = next (λ a b. cycle_of a ≤ cycle_of b) wrapped (omega arith, (omega arith, (omega arith, tt)));
  apart = λ i j c r e f g.
      let b = between j r f in ⊎_elim (λ a. omega (arith, a.1, b.0, g)) (λ a. omega (arith, a.1, b.1, g)) (tick_at i c e);
  once = once;
  low = λ i c e. ⊎_elim (λ a. omega (arith, a.1)) (λ a. omega (arith, a.1)) (tick_at i c e);
  first = λ a e. at (λ x. cycle_of x < 65536) (ticks 100 ∷ []) (omega arith, tt) 0 a e;
  near = next (λ a b. cycle_of b < cycle_of a + 65536) wrapped (omega arith, (omega arith, (omega arith, tt)));
}

pub worked : Worked
unfolding records_from gap timed_in lowest commands_of commands_seen capture_refusal captured
worked = record {
  bytes = refl;
  legal = refl;
  written = written;
  accepted = refl;
  tight = refl;
  equal = refl;
  size = refl;
  bank = refl;
  late = refl;
  last = refl;
}
