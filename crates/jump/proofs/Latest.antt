-- Rules 6 and 9 over all groups, by the own group's latest commands and by those of all.
-- Assumes nothing.
use Prim.Native.Nat.{ℕ, zero, suc, ◌+◌, ◌≤◌, ◌<◌, max}
use native.Mathlib.Omega.{arith}
use native.Mathlib.Nat.{le-max_left, le-max_right, max-le}
use mathlib.Core.Path.{◌≡◌, refl, sym, ap, ◌∙◌, subst}
use mathlib.Core.Logic.{◌⊎◌, ⊎_elim}
use mathlib.Core.Bool.{Bool, true, false}
use mathlib.Core.List.{List, map}
use lib.Dec.{eqb}
use lib.ListN.{length, get_or, set}
use lib.Seq.{get_or-set_same, get_or-set_other}
use borrow.Author.Tests.{eq-eqb, eqb-true}
use Rattle.records.specs.Tests.{pick}
use Rattle.records.specs.declared.table.Table.{Table}
use Rattle.rules.specs.Square.{rrd_of, square, side, cell}
use Rattle.rules.proofs.laws.Numbers.{same?, from?}
use Rattle.rules.proofs.laws.Ranges.{Ranges}
use Rattle.timing.specs.declared.kept.KeptGroup.{KeptGroup}
use Rattle.timing.specs.Kept.{stamp_of, told_group, quiet_kept, group_opened, group_moved}
use Rattle.earliest.specs.Earliest.{limit, since, most_below, acts_from, far_from, datas_from}
use Rattle.soonest.specs.Earlier.{latest_of, six_from, nine_from}
use Rattle.soonest.proofs.Numbers.{most_same, most_one, acts_at, acts_told, acts_one, datas_at, datas_told, datas_one}

-- ---- the greatest of many

pub le_most : (n : ℕ) (f : ℕ → ℕ) (g : ℕ) → g < n → f g ≤ most_below n f
le_most zero f g h = absurd (omega arith)
le_most (suc n) f g h = ⊎_elim (λ l. omega (arith, le_most n f g l, le-max_right (f n) (most_below n f))) (λ l. last (omega (arith, l.1))) (from? g n)
  where
    last : g ≡ n → f g ≤ most_below (suc n) f
    last e = subst (λ (i : ℕ). f i ≤ most_below (suc n) f) (sym e) (le-max_left (f n) (most_below n f))

pub most_le : (n : ℕ) (f : ℕ → ℕ) (b : ℕ) → ((g : ℕ) → g < n → f g ≤ b) → most_below n f ≤ b
most_le zero f b h = omega arith
most_le (suc n) f b h = max-le (h n (omega arith)) (most_le n f b (λ g l. h g (omega arith)))

-- it is one of them
pub most_at : (n : ℕ) (f : ℕ → ℕ) → 0 < n → (g : ℕ) × (g < n) × (most_below n f ≡ f g)
most_at zero f h = absurd (omega arith)
most_at (suc zero) f h = (0, omega arith, omega arith)
most_at (suc (suc n)) f h = on (from? (f (suc n)) (most_below (suc n) f)) (most_at (suc n) f (omega arith))
  where
    on : (f (suc n) < most_below (suc n) f) ⊎ ((d : ℕ) × (f (suc n) ≡ most_below (suc n) f + d)) → (g : ℕ) × (g < suc n) × (most_below (suc n) f ≡ f g)
        → (g : ℕ) × (g < suc (suc n)) × (most_below (suc (suc n)) f ≡ f g)
    on c z = ⊎_elim (λ l. (z.0, omega (arith, z.1), omega (arith, z.2))) (λ l. (suc n, omega arith, omega (arith, l.1))) c

most_max : (n : ℕ) (f h : ℕ → ℕ) → most_below n (λ g. max (f g) (h g)) ≡ max (most_below n f) (most_below n h)
most_max n f h =
    omega (
      arith,
      most_le n (λ g. max (f g) (h g)) (max (most_below n f) (most_below n h)) (λ g l. max-le (up (le_most n f g l) (le-max_left (most_below n f) (most_below n h))) (up (le_most n h g l) (le-max_right (most_below n f) (most_below n h)))),
      most_le n f (most_below n (λ g. max (f g) (h g))) (λ g l. up (le-max_left (f g) (h g)) (le_most n (λ i. max (f i) (h i)) g l)),
      most_le n h (most_below n (λ g. max (f g) (h g))) (λ g l. up (le-max_right (f g) (h g)) (le_most n (λ i. max (f i) (h i)) g l)),
    )
  where
    up : {a b c : ℕ} → a ≤ b → b ≤ c → a ≤ c
    up p q = omega arith

-- ---- one distance within the own group, a shorter one across

pub since_more : (s u d e : ℕ) → s ≤ u → d ≤ e → since (stamp_of s) d ≤ since (stamp_of u) e
since_more zero u d e p q = omega arith
since_more (suc s) zero d e p q = absurd (omega arith)
since_more (suc s) (suc u) d e p q = omega arith

module _ (n own : ℕ) (o : own < n) (v : ℕ → ℕ) (long short : ℕ) (le : short ≤ long) where
  abbrev at : ℕ → ℕ
  at g = since (stamp_of (v g)) (pick (eqb g own) long short)

  abbrev both : ℕ
  both = max (since (stamp_of (v own)) long) (since (stamp_of (most_below n v)) short)

  up : (g : ℕ) → g < n → at g ≤ both
  up g l = on (eqb g own) refl
    where
      on : (b : Bool) → eqb g own ≡ b → since (stamp_of (v g)) (pick b long short) ≤ both
      on true e = subst (λ (i : ℕ). since (stamp_of (v i)) long ≤ both) (sym (eqb-true g own e)) (le-max_left (since (stamp_of (v own)) long) (since (stamp_of (most_below n v)) short))
      on false e = omega (arith, since_more (v g) (most_below n v) short short (le_most n v g l) (omega arith), le-max_right (since (stamp_of (v own)) long) (since (stamp_of (most_below n v)) short))

  short_le : (b : Bool) → short ≤ pick b long short
  short_le true = le
  short_le false = omega arith

  pub apart : most_below n at ≡ both
  apart = omega (arith, most_le n at both up, max-le near far)
    where
      near : since (stamp_of (v own)) long ≤ most_below n at
      near = subst (λ (b : Bool). since (stamp_of (v own)) (pick b long short) ≤ most_below n at) (eq-eqb own own refl) (le_most n at own o)

      far : since (stamp_of (most_below n v)) short ≤ most_below n at
      far =
          let z = most_at n v (omega arith) in
          omega (arith, since_more (most_below n v) (v z.0) short (pick (eqb z.0 own) long short) (omega (arith, z.2)) (short_le (eqb z.0 own)), le_most n at z.0 z.1)

-- ---- the two rules

module _ (τ : Table) (gs : List KeptGroup) (own : ℕ) (o : own < τ.groups) (r : Ranges τ) where
  pub six_is : six_from τ (get_or gs own quiet_kept).act (latest_of τ.groups gs).act ≡ acts_from τ (map told_group gs) own
  six_is = on (eqb τ.groups 1) refl
    where
      on : (b : Bool) → eqb τ.groups 1 ≡ b
          → pick b (since (stamp_of (latest_of τ.groups gs).act) τ.rrdl) (max (since (stamp_of (get_or gs own quiet_kept).act) τ.rrdl) (since (stamp_of (latest_of τ.groups gs).act) τ.rrd))
          ≡ acts_from τ (map told_group gs) own
      on true e =
          let z = eqb-true τ.groups 1 e in
          ap (λ (m : ℕ). since (stamp_of m) τ.rrdl) (sym (most_one τ.groups own (λ g. (get_or gs g quiet_kept).act) z o)) ∙ acts_one gs own τ z o
      on false e = sym (apart τ.groups own o (λ g. (get_or gs g quiet_kept).act) τ.rrdl τ.rrd r.rrdl.least) ∙ acts_told gs own τ

  -- the short distances are no longer than the long ones
  shorter : (w : Bool) → (cell (square τ false) 0 (side w) ≤ cell (square τ true) 0 (side w)) × (cell (square τ false) 1 (side w) ≤ cell (square τ true) 1 (side w))
  shorter true = (omega (arith, r.ccdl.least), r.ccdl.least)
  shorter false = (r.ccdl.least, omega (arith, r.ccdl.least, r.wtrl.least))

  module _ (near away : List (List ℕ)) (en : near ≡ square τ true) (ea : away ≡ square τ false) (w : Bool) where
    cells : (b : Bool) (i : ℕ) → cell (pick b near away) i (side w) ≡ pick b (cell near i (side w)) (cell away i (side w))
    cells true i = refl
    cells false i = refl

    abbrev rds : ℕ → ℕ
    rds g = (get_or gs g quiet_kept).rd

    abbrev wrs : ℕ → ℕ
    wrs g = (get_or gs g quiet_kept).wr

    swap : (a b c d : ℕ) → max (max a b) (max c d) ≡ max (max a c) (max b d)
    swap a b c d = omega arith

    two : most_below τ.groups (datas_at gs own near away w) ≡ max (far_from near (stamp_of (rds own)) (stamp_of (wrs own)) w) (far_from away (stamp_of (most_below τ.groups rds)) (stamp_of (most_below τ.groups wrs)) w)
    two =
        most_same τ.groups (datas_at gs own near away w)
        (λ g. max (since (stamp_of (rds g)) (pick (eqb g own) (cell near 0 (side w)) (cell away 0 (side w)))) (since (stamp_of (wrs g)) (pick (eqb g own) (cell near 1 (side w)) (cell away 1 (side w)))))
        (λ g. rw (cells (eqb g own) 0, cells (eqb g own) 1))
        ∙ (most_max τ.groups (λ g. since (stamp_of (rds g)) (pick (eqb g own) (cell near 0 (side w)) (cell away 0 (side w)))) (λ g. since (stamp_of (wrs g)) (pick (eqb g own) (cell near 1 (side w)) (cell away 1 (side w))))
        ∙ (rw (apart τ.groups own o rds (cell near 0 (side w)) (cell away 0 (side w)) (rw (en, ea) (shorter w).0), apart τ.groups own o wrs (cell near 1 (side w)) (cell away 1 (side w)) (rw (en, ea) (shorter w).1))
        (swap (since (stamp_of (rds own)) (cell near 0 (side w))) (since (stamp_of (most_below τ.groups rds)) (cell away 0 (side w))) (since (stamp_of (wrs own)) (cell near 1 (side w))) (since (stamp_of (most_below τ.groups wrs)) (cell away 1 (side w))))))

    pub nine_is : nine_from τ.groups near away (get_or gs own quiet_kept).rd (get_or gs own quiet_kept).wr (latest_of τ.groups gs) w ≡ datas_from τ (map told_group gs) own w
    nine_is = on (eqb τ.groups 1) refl
      where
        on : (b : Bool) → eqb τ.groups 1 ≡ b
            → pick b (far_from near (stamp_of (most_below τ.groups rds)) (stamp_of (most_below τ.groups wrs)) w)
            (max (far_from near (stamp_of (rds own)) (stamp_of (wrs own)) w) (far_from away (stamp_of (most_below τ.groups rds)) (stamp_of (most_below τ.groups wrs)) w))
            ≡ datas_from τ (map told_group gs) own w
        on true e =
            let z = eqb-true τ.groups 1 e in
            ap (λ (m : ℕ). far_from near (stamp_of m) (stamp_of (most_below τ.groups wrs)) w) (sym (most_one τ.groups own rds z o))
            ∙ (ap (λ (m : ℕ). far_from near (stamp_of (rds own)) (stamp_of m) w) (sym (most_one τ.groups own wrs z o)) ∙ datas_one gs own τ z o near en w)
        on false e = sym two ∙ datas_told gs own near away w τ en ea

-- ---- the latest after a command

-- a cycle that is past rule 6, or past rule 9, is past every group's latest
past_stamp : (v d t : ℕ) → t < limit → since (stamp_of v) d ≤ t → v ≤ t + 1
past_stamp zero d t h p = omega arith
past_stamp (suc c) d t h p = omega arith

pub acts_past : (τ : Table) (gs : List KeptGroup) (own t : ℕ) → t < limit → acts_from τ (map told_group gs) own ≤ t → (latest_of τ.groups gs).act ≤ t + 1
acts_past τ gs own t h p =
    most_le τ.groups (λ g. (get_or gs g quiet_kept).act) (t + 1)
    (λ g l. past_stamp (get_or gs g quiet_kept).act (rrd_of τ (eqb g own)) t h (omega (arith, le_most τ.groups (acts_at gs own τ) g l, acts_told gs own τ, p)))

pub datas_past : (τ : Table) (gs : List KeptGroup) (own : ℕ) (w : Bool) (t : ℕ) → t < limit → datas_from τ (map told_group gs) own w ≤ t
    → ((latest_of τ.groups gs).rd ≤ t + 1) × ((latest_of τ.groups gs).wr ≤ t + 1)
datas_past τ gs own w t h p = (
  most_le τ.groups (λ g. (get_or gs g quiet_kept).rd) (t + 1) (λ g l. past_stamp (get_or gs g quiet_kept).rd (cell (sq g) 0 (side w)) t h (omega (arith, le-max_left (near g) (far g), each g l))),
  most_le τ.groups (λ g. (get_or gs g quiet_kept).wr) (t + 1) (λ g l. past_stamp (get_or gs g quiet_kept).wr (cell (sq g) 1 (side w)) t h (omega (arith, le-max_right (near g) (far g), each g l))),
)
  where
    sq : ℕ → List (List ℕ)
    sq g = pick (eqb g own) (square τ true) (square τ false)

    near : ℕ → ℕ
    near g = since (stamp_of (get_or gs g quiet_kept).rd) (cell (sq g) 0 (side w))

    far : ℕ → ℕ
    far g = since (stamp_of (get_or gs g quiet_kept).wr) (cell (sq g) 1 (side w))

    each : (g : ℕ) → g < τ.groups → max (near g) (far g) ≤ t
    each g l = omega (arith, le_most τ.groups (datas_at gs own (square τ true) (square τ false) w) g l, datas_told gs own (square τ true) (square τ false) w τ refl refl, p)

-- a number that is stored at a place, and is no less than any before, is the greatest
module _ (n : ℕ) (f f' : ℕ → ℕ) (g next : ℕ) (l : g < n) (here : f' g ≡ next) (others : (i : ℕ) → (i ≡ g → ⊥) → f' i ≡ f i) (past : most_below n f ≤ next) where
  pub most_stored : most_below n f' ≡ next
  most_stored = omega (arith, most_le n f' next (λ i q. ⊎_elim (λ e. at i e) (λ e. omega (arith, others i e, le_most n f i q, past)) (same? i g)), le_most n f' g l, here)
    where
      at : (i : ℕ) → i ≡ g → f' i ≤ next
      at i e = omega (arith, ap f' e, here)

module _ (n : ℕ) (gs : List KeptGroup) (g next : ℕ) (l : g < n) (h : g < length gs) where
  module _ (kg : KeptGroup) where
    there : get_or (set gs g kg) g quiet_kept ≡ kg
    there = get_or-set_same gs g kg quiet_kept h

    others : (i : ℕ) → (i ≡ g → ⊥) → get_or (set gs g kg) i quiet_kept ≡ get_or gs i quiet_kept
    others i e = get_or-set_other gs g i kg quiet_kept e

    -- what a store leaves as it is
    kept : (f : KeptGroup → ℕ) → f kg ≡ f (get_or gs g quiet_kept) → most_below n (λ i. f (get_or (set gs g kg) i quiet_kept)) ≡ most_below n (λ i. f (get_or gs i quiet_kept))
    kept f e = most_same n (λ i. f (get_or (set gs g kg) i quiet_kept)) (λ i. f (get_or gs i quiet_kept)) (λ i. ⊎_elim (at i) (λ q. ap f (others i q)) (same? i g))
      where
        at : (i : ℕ) → i ≡ g → f (get_or (set gs g kg) i quiet_kept) ≡ f (get_or gs i quiet_kept)
        at i q = ap (λ (j : ℕ). f (get_or (set gs g kg) j quiet_kept)) q ∙ (ap f there ∙ (e ∙ ap (λ (j : ℕ). f (get_or gs j quiet_kept)) (sym q)))

    new : (f : KeptGroup → ℕ) → f kg ≡ next → most_below n (λ i. f (get_or gs i quiet_kept)) ≤ next → most_below n (λ i. f (get_or (set gs g kg) i quiet_kept)) ≡ next
    new f e p = most_stored n (λ i. f (get_or gs i quiet_kept)) (λ i. f (get_or (set gs g kg) i quiet_kept)) g next l (ap f there ∙ e) (λ i q. ap f (others i q)) p

  pub latest_opened : (kg m : KeptGroup) → kg ≡ group_opened (get_or gs g quiet_kept) next → (latest_of n gs).act ≤ next → m ≡ group_opened (latest_of n gs) next → m ≡ latest_of n (set gs g kg)
  latest_opened kg m e p em =
      em ∙ is next (latest_of n gs).rd (latest_of n gs).wr (sym (new kg (λ x. x.act) (ap (λ (x : KeptGroup). x.act) e) p)) (sym (kept kg (λ x. x.rd) (ap (λ (x : KeptGroup). x.rd) e))) (sym (kept kg (λ x. x.wr) (ap (λ (x : KeptGroup). x.wr) e)))
    where
      is : (a r w : ℕ) → a ≡ (latest_of n (set gs g kg)).act → r ≡ (latest_of n (set gs g kg)).rd → w ≡ (latest_of n (set gs g kg)).wr → record { act = a; rd = r; wr = w } ≡ latest_of n (set gs g kg)
      is a r w ea er ew = rw (ea, er, ew)

  pub latest_moved : (w : Bool) (kg m : KeptGroup) → kg ≡ group_moved (get_or gs g quiet_kept) w next → ((latest_of n gs).rd ≤ next) × ((latest_of n gs).wr ≤ next) → m ≡ group_moved (latest_of n gs) w next
      → m ≡ latest_of n (set gs g kg)
  latest_moved w kg m e p em = em ∙ on w e
    where
      is : (a r v : ℕ) → a ≡ (latest_of n (set gs g kg)).act → r ≡ (latest_of n (set gs g kg)).rd → v ≡ (latest_of n (set gs g kg)).wr → record { act = a; rd = r; wr = v } ≡ latest_of n (set gs g kg)
      is a r v ea er ew = rw (ea, er, ew)

      on : (w : Bool) → kg ≡ group_moved (get_or gs g quiet_kept) w next → group_moved (latest_of n gs) w next ≡ latest_of n (set gs g kg)
      on true e =
          is (latest_of n gs).act (latest_of n gs).rd next (sym (kept kg (λ x. x.act) (ap (λ (x : KeptGroup). x.act) e))) (sym (kept kg (λ x. x.rd) (ap (λ (x : KeptGroup). x.rd) e)))
          (sym (new kg (λ x. x.wr) (ap (λ (x : KeptGroup). x.wr) e) p.1))
      on false e =
          is (latest_of n gs).act next (latest_of n gs).wr (sym (kept kg (λ x. x.act) (ap (λ (x : KeptGroup). x.act) e)))
          (sym (new kg (λ x. x.rd) (ap (λ (x : KeptGroup). x.rd) e) p.0)) (sym (kept kg (λ x. x.wr) (ap (λ (x : KeptGroup). x.wr) e)))
