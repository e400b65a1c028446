-- The records that the judge has seen are those of the pattern's copies, and it can count them.
-- Assumes nothing.
use Prim.Native.Nat.{ℕ, zero, suc, ◌+◌, ◌*◌, ◌≤◌, ◌<◌}
use native.Mathlib.Nat.{add-zero, mul-le-mul}
use native.Mathlib.Omega.{arith}
use mathlib.Core.Path.{◌≡◌, refl, sym, ap, ◌∙◌}
use mathlib.Core.Bool.{Bool, true, false}
use mathlib.Core.List.{List, [], ◌∷◌}
use lib.ListN.{length}
use Rattle.records.specs.declared.table.Table.{Table}
use Rattle.records.specs.declared.command.Command.{Command}
use Rattle.records.specs.Command.{command, command_at, commands_from, commands_in}
use Rattle.rules.specs.declared.state.State.{State}
use Rattle.rules.specs.Kinds.{is_data, in_act_queue}
use Rattle.rules.specs.State.{add_if}
use Rattle.rules.specs.CycleRule.{acts_in, datas_in}
use Rattle.rules.specs.Pattern.{moved, copy, onto}
use Rattle.rules.proofs.history.Link.{Sums}
use Rattle.copies.specs.Seen.{record_count, record_in, before, whole}

-- a schedule is its copy 0 cycles later
pub moved_none : (rs : List Command) → moved 0 rs ≡ rs
moved_none [] = refl
moved_none (r ∷ rs) = rw (add-zero r.cycle, moved_none rs)

-- record i of a copy, as the code reads it
pub record_read : (s : List ℕ) (d i : ℕ) (r : Command) (shift : ℕ) → r ≡ command_at s (i * 8) → shift ≡ d
    → record_in s d i ≡ command (r.cycle + shift) r.kind r.bank r.number
unfolding record_in
record_read s d i r shift e f = rw (e, f)

-- n records of a copy d cycles later that are left from number i on
abbrev pub left : List ℕ → ℕ → ℕ → ℕ → List Command
left s d n i = moved d (commands_from s n (i * 8))

module _ (s : List ℕ) (d : ℕ) where
  pub left_none : (i : ℕ) → left s d 0 i ≡ []
  unfolding commands_from
  left_none i = refl

  pub left_next : (n i : ℕ) → left s d (suc n) i ≡ record_in s d i ∷ left s d n (suc i)
  unfolding record_in commands_from
  left_next n i =
      let z : i * 8 + 8 ≡ suc i * 8 = omega arith in
      ap (λ (m : ℕ). record_in s d i ∷ moved d (commands_from s n m)) z

  onto_left : (n i : ℕ) (h : List Command) → onto (left s d n i) (before s d i h) ≡ before s d (i + n) h
  onto_left zero i h = ap (λ (l : List Command). onto l (before s d i h)) (left_none i) ∙ sym (ap (λ (m : ℕ). before s d m h) (add-zero i))
  onto_left (suc n) i h =
      let z : suc i + n ≡ i + suc n = omega arith in
      ap (λ (l : List Command). onto l (before s d i h)) (left_next n i) ∙ (onto_left n (suc i) h ∙ ap (λ (m : ℕ). before s d m h) z)

  length_before : (n : ℕ) (h : List Command) → length (before s d n h) ≡ n + length h
  length_before zero h = omega arith
  length_before (suc n) h = omega (arith, length_before n h)

  pub onto_copy : (n : ℕ) (h : List Command) → onto (left s d n 0) h ≡ before s d n h
  onto_copy n h =
      let z : 0 + n ≡ n = omega arith in
      onto_left n 0 h ∙ ap (λ (m : ℕ). before s d m h) z

pub whole_next : (L : ℕ) (s : List ℕ) (k : ℕ) → onto (copy L (commands_in s) k) (whole L s k) ≡ whole L s (suc k)
whole_next L s k = onto_copy s (L * k) (record_count s) (whole L s k)

length_whole : (L : ℕ) (s : List ℕ) (k : ℕ) → length (whole L s k) ≡ k * record_count s
length_whole L s zero = omega arith
length_whole L s (suc k) = omega (arith, length_before s (L * k) (record_count s) (whole L s k), length_whole L s k)

count_few : (p : Command → Bool) (f : List Command → ℕ) → f [] ≡ 0 → ((r : Command) (h : List Command) → f (r ∷ h) ≡ add_if (p r) (f h)) → (h : List Command) → f h ≤ length h
count_few p f z n [] = omega (arith, z)
count_few p f z n (r ∷ h) = on (p r) (n r h) (count_few p f z n h)
  where
    on : (b : Bool) → f (r ∷ h) ≡ add_if b (f h) → f h ≤ length h → f (r ∷ h) ≤ suc (length h)
    on true e l = omega arith
    on false e l = omega arith

-- k copies, and i records of the next
abbrev seen : ℕ → List ℕ → ℕ → ℕ → List Command
seen L s k i = before s (L * k) i (whole L s k)

-- a state that sums up what was seen has counted to less than 32 bits hold
pub room : (L : ℕ) (s : List ℕ) (k i : ℕ) {τ : Table} {st : State} → k < 5 → i ≤ record_count s → record_count s ≤ 69632 → Sums τ (seen L s k i) st
    → (st.acts < 4294967295) × (st.datas < 4294967295)
room L s k i k5 low few q =
    let copies : k * record_count s ≤ 4 * 69632 = mul-le-mul {n₁ = k} {m₁ = record_count s} {n₂ = 4} {m₂ = 69632} (omega arith) few in
    let all : length (seen L s k i) ≤ 348160 = omega (arith, length_before s (L * k) i (whole L s k), length_whole L s k) in (
      omega (arith, q.acts, count_few (λ r. in_act_queue r.kind) acts_in refl (λ r h. refl) (seen L s k i)),
      omega (arith, q.datas, count_few (λ r. is_data r.kind) datas_in refl (λ r h. refl) (seen L s k i)),
    )
