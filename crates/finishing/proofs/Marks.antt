-- The pass over written commands: what it leaves at each number.
-- Assumes nothing.
use Rattle.std.specs.Prelude.{Some}
use Prim.Native.Nat.{ℕ, zero, suc, ◌+◌, ◌*◌, ◌<◌}
use native.Mathlib.Omega.{arith}
use mathlib.Core.Path.{◌≡◌, refl, sym, ap, ◌∙◌, subst}
use mathlib.Core.Logic.{⊎_elim}
use mathlib.Core.Bool.{Bool, true, false, ◌&&◌}
use mathlib.Core.List.{List, [], ◌∷◌, ◌++◌}
use lib.Dec.{ltb, eqb}
use lib.ListN.{length, get_or, set, length-set}
use lib.Seq.{get_or-set_same, get_or-set_other}
use borrow.Author.Tests.{ltb-true, eq-eqb, ne_eqb}
use Rattle.records.specs.Tests.{pick, every}
use Rattle.records.specs.declared.command.Command.{Command}
use Rattle.records.specs.Command.{command_at, commands_from}
use Rattle.rules.specs.Kinds.{can_end}
use Rattle.rules.specs.Pattern.{onto}
use Rattle.rules.specs.Finish.{last_command_in, last_command}
use Rattle.rules.proofs.laws.TestLaws.{and_fst, and_snd}
use Rattle.rules.proofs.laws.Numbers.{same?}
use Rattle.finishing.specs.Finish.{cycle_or, Marked}

-- ---- one command more

onto_last : (cs : List Command) (c : Command) (h : List Command) → onto (cs ++ (c ∷ [])) h ≡ c ∷ onto cs h
onto_last [] c h = refl
onto_last (r ∷ cs) c h = onto_last cs c (r ∷ h)

last_more : (k : ℕ) (cs : List Command) (c : Command)
    → last_command k (cs ++ (c ∷ [])) ≡ pick (eqb c.number k && can_end c.kind) (Some c.cycle) (last_command k cs)
last_more k cs c = ap (last_command_in k) (onto_last cs c [])

and_false : (x : Bool) → (x && false) ≡ false
and_false true = refl
and_false false = refl

module _ (cs : List Command) (f₀ f : List ℕ) (m : Marked cs f₀ f) (c : Command) where
  -- a data command, or a REF, is stored at its number
  pub marks : can_end c.kind ≡ true → c.number < length f → Marked (cs ++ (c ∷ [])) f₀ (set f c.number c.cycle)
  marks e p = record { size = length-set f c.number c.cycle ∙ m.size; each = λ k. ⊎_elim (here k) (there k) (same? k c.number) }
    where
      at_last : (k : ℕ) (b : Bool) → eqb c.number k ≡ b → last_command k (cs ++ (c ∷ [])) ≡ pick b (Some c.cycle) (last_command k cs)
      at_last k true q = last_more k cs c ∙ rw (q, e)
      at_last k false q = last_more k cs c ∙ rw (q)

      here : (k : ℕ) → k ≡ c.number → get_or (set f c.number c.cycle) k 0 ≡ cycle_or (get_or f₀ k 0) (last_command k (cs ++ (c ∷ [])))
      here k q =
          ap (λ (i : ℕ). get_or (set f c.number c.cycle) i 0) q
          ∙ (get_or-set_same f c.number c.cycle 0 p ∙ sym (ap (cycle_or (get_or f₀ k 0)) (at_last k true (eq-eqb c.number k (sym q)))))

      there : (k : ℕ) → (k ≡ c.number → ⊥) → get_or (set f c.number c.cycle) k 0 ≡ cycle_or (get_or f₀ k 0) (last_command k (cs ++ (c ∷ [])))
      there k q =
          get_or-set_other f c.number k c.cycle 0 q
          ∙ (m.each k ∙ sym (ap (cycle_or (get_or f₀ k 0)) (at_last k false (ne_eqb c.number k (λ z. q (sym z))))))

  -- an ACT changes nothing
  pub passes : can_end c.kind ≡ false → Marked (cs ++ (c ∷ [])) f₀ f
  passes e = record { size = m.size; each = λ k. m.each k ∙ sym (ap (cycle_or (get_or f₀ k 0)) (same k)) }
    where
      same : (k : ℕ) → last_command k (cs ++ (c ∷ [])) ≡ last_command k cs
      same k = last_more k cs c ∙ rw (e, and_false (eqb c.number k))

-- ---- the commands of bytes

from_more : (s : List ℕ) (j at : ℕ) → commands_from s (suc j) at ≡ commands_from s j at ++ (command_at s (at + 8 * j) ∷ [])
unfolding commands_from
from_more s zero at = let e : at + 8 * 0 ≡ at = omega arith in rw e
from_more s (suc j) at =
    let e : at + 8 + 8 * j ≡ at + 8 * suc j = omega arith in
    ap (λ (l : List Command). command_at s at ∷ l) (from_more s j (at + 8) ∙ ap (λ (i : ℕ). commands_from s j (at + 8) ++ (command_at s i ∷ [])) e)

one_more_lem : (s : List ℕ) (j : ℕ) → commands_from s (j + 1) 0 ≡ commands_from s j 0 ++ (command_at s (8 * j) ∷ [])
one_more_lem s j =
    let e : j + 1 ≡ suc j = omega arith in
    let z : 0 + 8 * j ≡ 8 * j = omega arith in
    ap (λ (i : ℕ). commands_from s i 0) e ∙ (from_more s j 0 ∙ ap (λ (i : ℕ). commands_from s j 0 ++ (command_at s i ∷ [])) z)

none_from : (s : List ℕ) → commands_from s 0 0 ≡ []
unfolding commands_from
none_from s = refl

-- each of the first m passes a test that all pass
each_passes : (f : Command → Bool) (s : List ℕ) (m at j : ℕ) → every f (commands_from s m at) ≡ true → j < m → f (command_at s (at + 8 * j)) ≡ true
unfolding commands_from
each_passes f s zero at j e h = absurd (omega arith)
each_passes f s (suc m) at zero e h =
    let z : at + 8 * 0 ≡ at = omega arith in rw z (and_fst (f (command_at s at)) (every f (commands_from s m (at + 8))) e)
each_passes f s (suc m) at (suc j) e h =
    let z : at + 8 + 8 * j ≡ at + 8 * suc j = omega arith in
    subst (λ (i : ℕ). f (command_at s i) ≡ true) z
    (each_passes f s m (at + 8) j (and_snd (f (command_at s at)) (every f (commands_from s m (at + 8))) e) (omega arith))

number_at : (s : List ℕ) (m j n : ℕ) → every (λ c. ltb c.number n) (commands_from s m 0) ≡ true → j < m → (command_at s (8 * j)).number < n
number_at s m j n e h =
    let z : 0 + 8 * j ≡ 8 * j = omega arith in
    ltb-true (command_at s (8 * j)).number n (subst (λ (i : ℕ). ltb (command_at s i).number n ≡ true) z (each_passes (λ c. ltb c.number n) s m 0 j e h))

pub unmarked : (s f : List ℕ) → Marked (commands_from s 0 0) f f
unmarked s f = rw (none_from s) (record { size = refl; each = λ k. refl })

-- a turn of the pass: command j is c
module _ (s : List ℕ) (m j : ℕ) (f₀ f : List ℕ) (h : Marked (commands_from s j 0) f₀ f)
    (e : every (λ c. ltb c.number (length f₀)) (commands_from s m 0) ≡ true) (p : j < m) (c : Command) (q : c ≡ command_at s (8 * j)) where
  pub in_range_lem : c.number < length f
  in_range_lem = omega (arith, number_at s m j (length f₀) e p, ap (λ (y : Command). y.number) q, h.size)

  module _ (d : Bool) (z : d ≡ can_end c.kind) where
    pub stores : d ≡ true → Marked (commands_from s (j + 1) 0) f₀ (set f c.number c.cycle)
    stores y = rw (one_more_lem s j, ← q) (marks (commands_from s j 0) f₀ f h c (sym z ∙ y) in_range_lem)

    pub skips : d ≡ false → Marked (commands_from s (j + 1) 0) f₀ f
    skips y = rw (one_more_lem s j, ← q) (passes (commands_from s j 0) f₀ f h c (sym z ∙ y))
