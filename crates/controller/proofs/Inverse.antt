-- The controller's numbers and the state that they tell, there and back.
-- Assumes nothing.
use Rattle.std.specs.Prelude.{Some, None}
use Rattle.rules.specs.Types.{Stamp}
use Prim.Native.Nat.{ℕ, zero, suc, ◌+◌, min, ◌≤◌}
use native.Mathlib.Omega.{arith}
use native.Mathlib.Nat.{min-eq_left}
use mathlib.Core.Bool.{Bool, true, false}
use mathlib.Core.Path.{◌≡◌, refl, sym, ◌∙◌}
use mathlib.Core.List.{List, [], ◌∷◌, map}
use lib.Dec.{eqb}
use lib.ListN.{length, get_or, get_elem?, length-map}
use lib.Seq.{take_all}
use borrow.Author.Tests.{eqb-true, eqb-false, ne_eqb, leb-true, le-leb}
use Rattle.records.specs.Tests.{pick, every}
use Rattle.rules.specs.declared.state.Bank.{Bank}
use Rattle.rules.specs.declared.state.Group.{Group}
use Rattle.rules.specs.declared.state.State.{State}
use Rattle.rules.specs.Pieces.{lend}
use Rattle.rules.proofs.laws.TestLaws.{and_fst, and_snd, OnSome, every_at}
use Rattle.controller.specs.declared.controller.HostBank.{HostBank}
use Rattle.controller.specs.declared.controller.HostGroup.{HostGroup}
use Rattle.controller.specs.declared.controller.Controller.{Controller}
use Rattle.controller.specs.Controller.{stamp_of, number_of, bank_tells, bank_kept, group_tells, group_kept, tells, kept, in32, Ranged}
use Rattle.sound.specs.Refused.{before, bank_stamps, group_stamps, last_stamps, bank_before, group_before}
use Rattle.sound.proofs.StoredKept.{Stored}

-- ---- from the controller: every number is as it was

number_stamp : (x : ℕ) → in32 x ≡ true → number_of (stamp_of x) ≡ x
number_stamp x h = on (eqb x 4294967295) refl
  where
    on : (b : Bool) → eqb x 4294967295 ≡ b → number_of (pick b None (Some x)) ≡ x
    on true e = sym (eqb-true x 4294967295 e)
    on false e = min-eq_left (leb-true x 4294967295 h)

abbrev numbers : HostBank → List ℕ
numbers k = k.act ∷ k.rd ∷ k.wr ∷ []

pub banks_back : (ks : List HostBank) → every (λ k. every in32 (numbers k)) ks ≡ true → map bank_kept (map bank_tells ks) ≡ ks
banks_back [] h = refl
banks_back (k ∷ ks) h =
    let e = and_fst (every in32 (numbers k)) (every (λ k. every in32 (numbers k)) ks) h in
    rw (
      number_stamp k.act (every_at in32 (numbers k) 0 e),
      number_stamp k.rd (every_at in32 (numbers k) 1 e),
      number_stamp k.wr (every_at in32 (numbers k) 2 e),
      banks_back ks (and_snd (every in32 (numbers k)) (every (λ k. every in32 (numbers k)) ks) h),
    )

abbrev group_numbers : HostGroup → List ℕ
group_numbers k = k.act ∷ k.rd ∷ k.wr ∷ []

pub groups_back : (ks : List HostGroup) → every (λ k. every in32 (group_numbers k)) ks ≡ true → map group_kept (map group_tells ks) ≡ ks
groups_back [] h = refl
groups_back (k ∷ ks) h =
    let e = and_fst (every in32 (group_numbers k)) (every (λ k. every in32 (group_numbers k)) ks) h in
    rw (
      number_stamp k.act (every_at in32 (group_numbers k) 0 e),
      number_stamp k.rd (every_at in32 (group_numbers k) 1 e),
      number_stamp k.wr (every_at in32 (group_numbers k) 2 e),
      groups_back ks (and_snd (every in32 (group_numbers k)) (every (λ k. every in32 (group_numbers k)) ks) h),
    )

four_back : (l : List ℕ) → length l ≡ 4 → every in32 l ≡ true
    → number_of (stamp_of (get_or l 0 0)) ∷ number_of (stamp_of (get_or l 1 0)) ∷ number_of (stamp_of (get_or l 2 0)) ∷ number_of (stamp_of (get_or l 3 0)) ∷ [] ≡ l
four_back (a ∷ b ∷ c ∷ d ∷ []) e h =
    rw (
      number_stamp a (every_at in32 (a ∷ b ∷ c ∷ d ∷ []) 0 h),
      number_stamp b (every_at in32 (a ∷ b ∷ c ∷ d ∷ []) 1 h),
      number_stamp c (every_at in32 (a ∷ b ∷ c ∷ d ∷ []) 2 h),
      number_stamp d (every_at in32 (a ∷ b ∷ c ∷ d ∷ []) 3 h),
    )
four_back [] e h = absurd (omega arith)
four_back (a ∷ []) e h = absurd (omega arith)
four_back (a ∷ b ∷ []) e h = absurd (omega arith)
four_back (a ∷ b ∷ c ∷ []) e h = absurd (omega arith)
four_back (a ∷ b ∷ c ∷ d ∷ x ∷ l) e h = absurd (omega arith)

pub kept_tells : (c : Controller) → Ranged c → kept (tells c) ≡ c
unfolding tells kept
kept_tells c h =
    rw (
      min-eq_left h.cycle,
      banks_back c.banks h.banks,
      four_back c.last h.four h.last,
      groups_back c.groups h.groups,
      number_stamp c.refresh (le-leb c.refresh 4294967295 h.refresh),
    )

-- ---- from a state whose stamps are below 4294967295

stamp_number : (s : Stamp) → before 4294967295 s ≡ true → stamp_of (number_of s) ≡ s
stamp_number None h = refl
stamp_number (Some c) h =
    let p : c + 1 ≤ 4294967295 = leb-true (c + 1) 4294967295 h in
    let m : min c 4294967295 ≡ c = min-eq_left (omega arith) in
    rw (m, ne_eqb c 4294967295 (λ e. omega arith))

banks_there : (ks : List Bank) → every (bank_before 4294967295) ks ≡ true → map bank_tells (map bank_kept ks) ≡ ks
banks_there [] h = refl
banks_there (k ∷ ks) h =
    let e = and_fst (bank_before 4294967295 k) (every (bank_before 4294967295) ks) h in
    rw (
      stamp_number k.act (every_at (before 4294967295) (bank_stamps k) 0 e),
      stamp_number k.rd (every_at (before 4294967295) (bank_stamps k) 1 e),
      stamp_number k.wr (every_at (before 4294967295) (bank_stamps k) 2 e),
      banks_there ks (and_snd (bank_before 4294967295 k) (every (bank_before 4294967295) ks) h),
    )

groups_there : (ks : List Group) → every (group_before 4294967295) ks ≡ true → map group_tells (map group_kept ks) ≡ ks
groups_there [] h = refl
groups_there (k ∷ ks) h =
    let e = and_fst (group_before 4294967295 k) (every (group_before 4294967295) ks) h in
    rw (
      stamp_number k.act (every_at (before 4294967295) (group_stamps k) 0 e),
      stamp_number k.rd (every_at (before 4294967295) (group_stamps k) 1 e),
      stamp_number k.wr (every_at (before 4294967295) (group_stamps k) 2 e),
      groups_there ks (and_snd (group_before 4294967295 k) (every (group_before 4294967295) ks) h),
    )

-- a state that 32 bits hold
pub record Held (s : State) : Type 0 where
  pub cycle : s.cycle ≤ 4294967295
  pub places : length s.banks ≡ 16
  pub group_places : length s.groups ≡ 8
  pub stored : Stored 4294967295 16 8 s

-- whatever was lent to it
pub held_lent : (n : ℕ) (s : State) → Held s → Held (lend n s)
held_lent n s h =
    record {
      cycle = h.cycle;
      places = h.places;
      group_places = h.group_places;
      stored = record { banks = h.stored.banks; groups = h.stored.groups; last = h.stored.last };
    }

pub tells_kept : (s : State) → Held s → tells (kept s) ≡ s
unfolding tells kept
tells_kept s h =
    rw (
      min-eq_left h.cycle,
      banks_there s.banks (rw (take_all 16 s.banks (omega (arith, h.places))) at h.stored.banks),
      groups_there s.groups (rw (take_all 8 s.groups (omega (arith, h.group_places))) at h.stored.groups),
      stamp_number s.a1 (at 0),
      stamp_number s.a2 (at 1),
      stamp_number s.a3 (at 2),
      stamp_number s.a4 (at 3),
      stamp_number s.refresh (at 4),
    )
  where
    at : (i : ℕ) → OnSome (λ x. before 4294967295 x ≡ true) (get_elem? (last_stamps s) i)
    at i = every_at (before 4294967295) (last_stamps s) i h.stored.last

-- ---- what any bit pattern tells is such a state

stamp_before : (x : ℕ) → in32 x ≡ true → before 4294967295 (stamp_of x) ≡ true
stamp_before x h = on (eqb x 4294967295) refl
  where
    on : (b : Bool) → eqb x 4294967295 ≡ b → before 4294967295 (pick b None (Some x)) ≡ true
    on true e = refl
    on false e = le-leb (x + 1) 4294967295 (below (leb-true x 4294967295 h) (eqb-false x 4294967295 e))
      where
        below : x ≤ 4294967295 → (x ≡ 4294967295 → ⊥) → x + 1 ≤ 4294967295
        below p n = omega arith

banks_told : (ks : List HostBank) → every (λ k. every in32 (numbers k)) ks ≡ true → every (bank_before 4294967295) (map bank_tells ks) ≡ true
banks_told [] h = refl
banks_told (k ∷ ks) h =
    let e = and_fst (every in32 (numbers k)) (every (λ k. every in32 (numbers k)) ks) h in
    rw (
      stamp_before k.act (every_at in32 (numbers k) 0 e),
      stamp_before k.rd (every_at in32 (numbers k) 1 e),
      stamp_before k.wr (every_at in32 (numbers k) 2 e),
    ) (banks_told ks (and_snd (every in32 (numbers k)) (every (λ k. every in32 (numbers k)) ks) h))

groups_told : (ks : List HostGroup) → every (λ k. every in32 (group_numbers k)) ks ≡ true → every (group_before 4294967295) (map group_tells ks) ≡ true
groups_told [] h = refl
groups_told (k ∷ ks) h =
    let e = and_fst (every in32 (group_numbers k)) (every (λ k. every in32 (group_numbers k)) ks) h in
    rw (
      stamp_before k.act (every_at in32 (group_numbers k) 0 e),
      stamp_before k.rd (every_at in32 (group_numbers k) 1 e),
      stamp_before k.wr (every_at in32 (group_numbers k) 2 e),
    ) (groups_told ks (and_snd (every in32 (group_numbers k)) (every (λ k. every in32 (group_numbers k)) ks) h))

number_at : (l : List ℕ) (i : ℕ) → every in32 l ≡ true → in32 (get_or l i 0) ≡ true
number_at [] i h = refl
number_at (x ∷ l) zero h = and_fst (in32 x) (every in32 l) h
number_at (x ∷ l) (suc i) h = number_at l i (and_snd (in32 x) (every in32 l) h)

pub told_held : (c : Controller) → Ranged c → Held (tells c)
unfolding tells
told_held c h =
    record {
      cycle = h.cycle;
      places = length-map c.banks bank_tells ∙ h.places;
      group_places = length-map c.groups group_tells ∙ h.group_places;
      stored = record {
        banks = rw (take_all 16 (map bank_tells c.banks) (omega (arith, length-map c.banks bank_tells, h.places))) (banks_told c.banks h.banks);
        groups = rw (take_all 8 (map group_tells c.groups) (omega (arith, length-map c.groups group_tells, h.group_places))) (groups_told c.groups h.groups);
        last = rw (
          stamp_before (get_or c.last 0 0) (number_at c.last 0 h.last),
          stamp_before (get_or c.last 1 0) (number_at c.last 1 h.last),
          stamp_before (get_or c.last 2 0) (number_at c.last 2 h.last),
          stamp_before (get_or c.last 3 0) (number_at c.last 3 h.last),
          stamp_before c.refresh (le-leb c.refresh 4294967295 h.refresh),
        );
      };
    }
