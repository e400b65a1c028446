-- Where cycles rise only the newest record of a class counts, so a few stamps decide rules 6, 7, 9 and 12.
-- Assumes nothing.
use Rattle.std.specs.Prelude.{Some, None}
use Rattle.rules.specs.Types.{Stamp}
use Prim.Native.Nat.{ℕ, zero, suc, ◌+◌, ◌≤◌, ◌<◌}
use native.Mathlib.Nat.{mod-lt}
use native.Mathlib.Omega.{arith}
use mathlib.Core.Path.{◌≡◌, refl, sym, ap, ◌∙◌}
use mathlib.Core.Bool.{Bool, true, false, not, ◌&&◌, ◌||◌, or-true, and-true}
use mathlib.Core.List.{List, [], ◌∷◌}
use lib.Dec.{T, leb, eqb, ltb→lt}
use borrow.Author.Tests.{le-leb, leb-true}
use Rattle.records.specs.Tests.{pick, every, every_below}
use Rattle.records.specs.declared.table.Table.{Table}
use Rattle.records.specs.declared.command.Kind.{Kind}
use Rattle.records.specs.declared.command.Command.{Command}
use Rattle.rules.specs.declared.state.Bank.{Bank}
use Rattle.rules.specs.Kinds.{is_act, is_rd, is_wr, is_ref}
use Rattle.rules.specs.Square.{group_of, rrd_of, from_rd, from_wr}
use Rattle.rules.specs.State.{past, shut, bank_after}
use Rattle.rules.specs.History.{later, act_back, fourth_act, far, near_to, far_act, far_data, far_refresh}
use Rattle.rules.proofs.laws.TestLaws.{and_both, and_left}
use Rattle.rules.proofs.laws.Below.{below_same, and_four, below_and, one_is}

-- the cycle of the n-th record back, from 0, of the kinds and banks p
abbrev pub back_in : (Kind → ℕ → Bool) → ℕ → List Command → Stamp
back_in p n [] = None
back_in p zero (r ∷ h) = pick (p r.kind r.bank) (Some r.cycle) (back_in p zero h)
back_in p (suc n) (r ∷ h) = pick (p r.kind r.bank) (back_in p n h) (back_in p (suc n) h)

abbrev pub last_in : (Kind → ℕ → Bool) → List Command → Stamp
last_in p h = back_in p 0 h

-- the kinds p, to any bank
abbrev pub any : (Kind → Bool) → Kind → ℕ → Bool
any p k b = p k

-- what records to a bank make of it
abbrev pub bank_on : ℕ → List Command → Bank → Bank
bank_on b [] k = k
bank_on b (r ∷ h) k = pick (eqb r.bank b) (bank_after r.kind r.cycle (bank_on b h k)) (bank_on b h k)

abbrev pub bank_in : ℕ → List Command → Bank
bank_in b h = bank_on b h shut

-- no record breaks rule 2
abbrev pub Rising : List Command → Type 0
Rising [] = Unit {0}
Rising (r ∷ h) = T (later r.cycle h) × Rising h

-- a stamp is below c
abbrev pub Below : ℕ → Stamp → Type 0
Below c None = Unit {0}
Below c (Some x) = x < c

-- every record is below c
abbrev pub AllBelow : ℕ → List Command → Type 0
AllBelow c [] = Unit {0}
AllBelow c (r ∷ h) = (r.cycle < c) × AllBelow c h

pub all_below_up : (c d : ℕ) → c ≤ d → (h : List Command) → AllBelow c h → AllBelow d h
all_below_up c d l [] q = tt
all_below_up c d l (r ∷ h) q = (omega (arith, q.0), all_below_up c d l h q.1)

pub rising_below : (c : ℕ) (h : List Command) → T (later c h) → Rising h → AllBelow c h
rising_below c [] l i = tt
rising_below c (r ∷ h) l i =
    let e : r.cycle < c = ltb→lt r.cycle c l in
    (e, all_below_up r.cycle c (omega arith) h (rising_below r.cycle h i.0 i.1))

pub past_below : (s : Stamp) (c d t : ℕ) → Below c s → leb (c + d) t ≡ true → past s d t ≡ true
past_below None c d t q e = refl
past_below (Some x) c d t q e = le-leb (x + d) t (omega (arith, leb-true (c + d) t e))

-- at least d before t, if of the class p
abbrev pub far_from : (Kind → ℕ → Bool) → ℕ → ℕ → Command → Bool
far_from p d t r = not (p r.kind r.bank) || leb (r.cycle + d) t

far_all : (p : Kind → ℕ → Bool) (d t c : ℕ) (h : List Command) → AllBelow c h → c + d ≤ t → every (far_from p d t) h ≡ true
far_all p d t c [] q l = refl
far_all p d t c (r ∷ h) q l =
    and_both (far_from p d t r) (every (far_from p d t) h)
    (rw (le-leb (r.cycle + d) t (omega (arith, q.0))) (or-true (not (p r.kind r.bank))))
    (far_all p d t c h q.1 l)

-- only the newest counts
pub newest : (p : Kind → ℕ → Bool) (d t : ℕ) (h : List Command) → Rising h → every (far_from p d t) h ≡ past (last_in p h) d t
newest p d t [] i = refl
newest p d t (r ∷ h) i = on (p r.kind r.bank) (newest p d t h i.1)
  where
    on : (b : Bool) → every (far_from p d t) h ≡ past (last_in p h) d t
        → ((not b || leb (r.cycle + d) t) && every (far_from p d t) h) ≡ past (pick b (Some r.cycle) (last_in p h)) d t
    on true ih =
        and_left (leb (r.cycle + d) t) (every (far_from p d t) h)
        (λ e. far_all p d t r.cycle h (rising_below r.cycle h i.0 i.1) (leb-true (r.cycle + d) t e))
    on false ih = ih

every_and : (f g : Command → Bool) (h : List Command) → every (λ r. f r && g r) h ≡ (every f h && every g h)
every_and f g [] = refl
every_and f g (r ∷ h) = rw (every_and f g h) (and_four (f r) (g r) (every f h) (every g h))

pub every_same : (f g : Command → Bool) (h : List Command) → ((r : Command) → f r ≡ g r) → every f h ≡ every g h
every_same f g [] e = refl
every_same f g (r ∷ h) e = rw (e r, every_same f g h e)

every_true : (h : List Command) → every (λ r. true) h ≡ true
every_true [] = refl
every_true (r ∷ h) = every_true h

every_below_lem : (n : ℕ) (f : ℕ → Command → Bool) (h : List Command) → every (λ r. every_below n (λ g. f g r)) h ≡ every_below n (λ g. every (f g) h)
every_below_lem zero f h = every_true h
every_below_lem (suc n) f h = every_and (f n) (λ r. every_below n (λ g. f g r)) h ∙ ap (λ (y : Bool). every (f n) h && y) (every_below_lem n f h)

-- the kinds p in the group g, and in the others
abbrev pub in_group : Table → (Kind → Bool) → ℕ → Kind → ℕ → Bool
in_group τ p g k b = p k && eqb (group_of τ b) g

abbrev pub outside : Table → (Kind → Bool) → ℕ → Kind → ℕ → Bool
outside τ p g k b = p k && not (eqb (group_of τ b) g)

-- a record of the kinds is in the group or outside it
in_or_out : (p e : Bool) (d : Bool → ℕ) (c t : ℕ)
    → (not p || leb (c + d e) t) ≡ ((not (p && e) || leb (c + d true) t) && (not (p && not e) || leb (c + d false) t))
in_or_out false e d c t = refl
in_or_out true true d c t = sym (and-true (leb (c + d true) t))
in_or_out true false d c t = refl

module _ (τ : Table) (b t : ℕ) (h : List Command) (i : Rising h) where
  -- far enough from each record of the kinds p: d true within the group of bank b, d false across
  abbrev far_of : (Kind → Bool) → (Bool → ℕ) → Command → Bool
  far_of p d r = far p (d (near_to τ b r)) t r

  -- the newest in the group and the newest outside it decide
  by_near : (p : Kind → Bool) (d : Bool → ℕ)
      → every (far_of p d) h ≡ (past (last_in (in_group τ p (group_of τ b)) h) (d true) t && past (last_in (outside τ p (group_of τ b)) h) (d false) t)
  by_near p d =
      every_same (far_of p d) (λ r. far_from (in_group τ p (group_of τ b)) (d true) t r && far_from (outside τ p (group_of τ b)) (d false) t r) h
      (λ r. in_or_out (p r.kind) (near_to τ b r) d r.cycle t)
      ∙ (every_and (far_from (in_group τ p (group_of τ b)) (d true) t) (far_from (outside τ p (group_of τ b)) (d false) t) h
      ∙ (ap (λ (y : Bool). y && every (far_from (outside τ p (group_of τ b)) (d false) t) h) (newest (in_group τ p (group_of τ b)) (d true) t h i)
      ∙ ap (λ (y : Bool). past (last_in (in_group τ p (group_of τ b)) h) (d true) t && y) (newest (outside τ p (group_of τ b)) (d false) t h i)))

  pub newest_act : every (far_act τ b t) h
      ≡ (past (last_in (in_group τ is_act (group_of τ b)) h) τ.rrdl t && past (last_in (outside τ is_act (group_of τ b)) h) τ.rrd t)
  newest_act = by_near is_act (rrd_of τ)

  split_data : (w : Bool) → every (far_data τ w b t) h ≡ (every (far_of is_rd (λ near. from_rd τ near w)) h && every (far_of is_wr (λ near. from_wr τ near w)) h)
  split_data w = every_and (far_of is_rd (λ near. from_rd τ near w)) (far_of is_wr (λ near. from_wr τ near w)) h

  pub newest_data : (w : Bool) → every (far_data τ w b t) h
      ≡ ((past (last_in (in_group τ is_rd (group_of τ b)) h) (from_rd τ true w) t && past (last_in (outside τ is_rd (group_of τ b)) h) (from_rd τ false w) t)
      && (past (last_in (in_group τ is_wr (group_of τ b)) h) (from_wr τ true w) t && past (last_in (outside τ is_wr (group_of τ b)) h) (from_wr τ false w) t))
  newest_data w =
      split_data w
      ∙ (ap (λ (y : Bool). y && every (far_of is_wr (λ near. from_wr τ near w)) h) (by_near is_rd (λ near. from_rd τ near w))
      ∙ ap (λ (y : Bool). (past (last_in (in_group τ is_rd (group_of τ b)) h) (from_rd τ true w) t && past (last_in (outside τ is_rd (group_of τ b)) h) (from_rd τ false w) t) && y)
      (by_near is_wr (λ near. from_wr τ near w)))

  pub newest_refresh : every (far_refresh τ t) h ≡ past (last_in (any is_ref) h) τ.rfc t
  newest_refresh = newest (any is_ref) τ.rfc t h i

  -- where there is a group, the newest of each group decide
  module _ (some : 1 ≤ τ.groups) where
    by_group : (p : Kind → Bool) (d : Bool → ℕ)
        → every (far_of p d) h ≡ every_below τ.groups (λ g. past (last_in (in_group τ p g) h) (d (eqb g (group_of τ b))) t)
    by_group p d =
        every_same (far_of p d) (λ r. every_below τ.groups (λ g. far_from (in_group τ p g) (d (eqb g (group_of τ b))) t r)) h
        (λ r. sym (one_is (p r.kind) (λ g. leb (r.cycle + d (eqb g (group_of τ b))) t) (group_of τ r.bank) τ.groups (mod-lt r.bank some)))
        ∙ (every_below_lem τ.groups (λ g. far_from (in_group τ p g) (d (eqb g (group_of τ b))) t) h
        ∙ below_same τ.groups (λ g. every (far_from (in_group τ p g) (d (eqb g (group_of τ b))) t) h) (λ g. past (last_in (in_group τ p g) h) (d (eqb g (group_of τ b))) t)
        (λ g l. newest (in_group τ p g) (d (eqb g (group_of τ b))) t h i))

    pub groups_act : every (far_act τ b t) h ≡ every_below τ.groups (λ g. past (last_in (in_group τ is_act g) h) (rrd_of τ (eqb g (group_of τ b))) t)
    groups_act = by_group is_act (rrd_of τ)

    pub groups_data : (w : Bool) → every (far_data τ w b t) h
        ≡ every_below τ.groups (λ g. past (last_in (in_group τ is_rd g) h) (from_rd τ (eqb g (group_of τ b)) w) t
        && past (last_in (in_group τ is_wr g) h) (from_wr τ (eqb g (group_of τ b)) w) t)
    groups_data w =
        split_data w
        ∙ (ap (λ (y : Bool). y && every (far_of is_wr (λ near. from_wr τ near w)) h) (by_group is_rd (λ near. from_rd τ near w))
        ∙ (ap (λ (y : Bool). every_below τ.groups (λ g. past (last_in (in_group τ is_rd g) h) (from_rd τ (eqb g (group_of τ b)) w) t) && y) (by_group is_wr (λ near. from_wr τ near w))
        ∙ below_and τ.groups (λ g. past (last_in (in_group τ is_rd g) h) (from_rd τ (eqb g (group_of τ b)) w) t)
        (λ g. past (last_in (in_group τ is_wr g) h) (from_wr τ (eqb g (group_of τ b)) w) t)))

pub back_same : (n : ℕ) (h : List Command) → act_back n h ≡ back_in (any is_act) n h
back_same n [] = refl
back_same zero (r ∷ h) = ap (pick (is_act r.kind) (Some r.cycle)) (back_same zero h)
back_same (suc n) (r ∷ h) = rw (back_same n h, back_same (suc n) h)

-- rule 7: "the fourth ACT before it"
pub fourth_same : (h : List Command) → fourth_act h ≡ back_in (any is_act) 3 h
fourth_same h = back_same 3 h
