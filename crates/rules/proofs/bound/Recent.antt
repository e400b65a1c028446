-- Stamps, and what the state says of the latest commands of the groups: rules 6, 7 and 9 are read off it.
-- Assumes nothing.
use Rattle.std.specs.Prelude.{Some, None}
use Rattle.rules.specs.Types.{Stamp}
use Prim.Native.Nat.{ℕ, ◌+◌, ◌≤◌, ◌<◌}
use native.Mathlib.Nat.{mod-lt}
use native.Mathlib.Omega.{arith}
use mathlib.Core.Path.{◌≡◌, refl, sym, ap, ◌∙◌}
use mathlib.Core.Logic.{◌≢◌}
use mathlib.Core.Bool.{Bool, true, false, and-false}
use lib.Dec.{leb, eqb}
use lib.ListN.{length, length-set, length-replicate}
use lib.Seq.{get_or-set_same}
use borrow.Author.Tests.{le-leb, lt-leb, leb-true, eq-eqb, ne_eqb}
use Rattle.records.specs.declared.table.Table.{Table}
use Rattle.records.specs.declared.command.Kind.{Kind}
use Rattle.records.specs.declared.command.Kind.TheVariants.{Act, Ref}
use Rattle.rules.specs.declared.state.Group.{Group}
use Rattle.rules.specs.declared.state.State.{State}
use Rattle.records.specs.Tests.{pick}
use Rattle.rules.specs.Square.{group_of, ccd_of, rrd_of, square, from_rd, from_wr}
use Rattle.rules.specs.State.{past, quiet, group_at, far_by, rule6, rule9, fresh, group_after, note, idle}
use Rattle.rules.specs.Queues.{data_kind}
use Rattle.rules.specs.Bound.{most_rrd, most_from_rd, most_from_wr}
use Rattle.rules.proofs.laws.TestLaws.{and_both}
use Rattle.rules.proofs.laws.Ranges.{Ranges}
use Rattle.rules.proofs.laws.Below.{below_all, below_not}
use Rattle.rules.proofs.bound.Groups.{all_quiet, set_all}
use Rattle.rules.proofs.bound.Due.{rrd_long, ccd_short, rd_long, wr_long}
use Rattle.rules.proofs.laws.DataKinds.{no_act}

-- a stamp with d added is at most c
abbrev pub Upto : ℕ → ℕ → Stamp → Type 0
Upto d c None = Unit {0}
Upto d c (Some x) = x + d ≤ c

pub upto_map : (d c d' c' : ℕ) (s : Stamp) → ((x : ℕ) → x + d ≤ c → x + d' ≤ c') → Upto d c s → Upto d' c' s
upto_map d c d' c' None f q = tt
upto_map d c d' c' (Some x) f q = f x q

pub upto_up : (d c c' : ℕ) (s : Stamp) → c ≤ c' → Upto d c s → Upto d c' s
upto_up d c c' s h q = upto_map d c d c' s (λ x k. omega arith) q

pub past_upto : (d t : ℕ) (s : Stamp) → past s d t ≡ true → Upto d t s
past_upto d t None e = tt
past_upto d t (Some x) e = leb-true (x + d) t e

pub upto_past : (d t : ℕ) (s : Stamp) → Upto d t s → past s d t ≡ true
upto_past d t None q = refl
upto_past d t (Some x) q = le-leb (x + d) t q

-- the stamp is the cycle of an ACT at least j back from number a; `A i x` says that number i went as an ACT at cycle x
abbrev pub Back : (ℕ → ℕ → Type 0) → ℕ → ℕ → Stamp → Type 0
Back A a j None = Unit {0}
Back A a j (Some x) = (i : ℕ) × (i + j + 1 ≤ a) × A i x

-- ta, with t at n
abbrev pub ext : (ℕ → ℕ) → ℕ → ℕ → ℕ → ℕ
ext ta n t i = pick (eqb i n) t (ta i)

pub ext_same : (ta : ℕ → ℕ) (n t : ℕ) → ext ta n t n ≡ t
ext_same ta n t = rw (eq-eqb n n refl)

pub ext_eq : (ta : ℕ → ℕ) (n t i : ℕ) → i ≡ n → ext ta n t i ≡ t
ext_eq ta n t i e = rw (eq-eqb i n e)

pub ext_other : (ta : ℕ → ℕ) (n t i : ℕ) → i ≢ n → ext ta n t i ≡ ta i
ext_other ta n t i h = rw (ne_eqb i n h)

back_next : (A A' : ℕ → ℕ → Type 0) (a j : ℕ) (s : Stamp) → ((i x : ℕ) → i < a → A i x → A' i x) → Back A a j s → Back A' (a + 1) (j + 1) s
back_next A A' a j None f q = tt
back_next A A' a j (Some x) f q = (q.0, omega (arith, q.1), f q.0 x (omega (arith, q.1)) q.2)

back_still : (A A' : ℕ → ℕ → Type 0) (a j : ℕ) (s : Stamp) → ((i x : ℕ) → i < a → A i x → A' i x) → Back A a j s → Back A' (a + 1) j s
back_still A A' a j None f q = tt
back_still A A' a j (Some x) f q = (q.0, omega (arith, q.1), f q.0 x (omega (arith, q.1)) q.2)

-- every RD kept (every WR kept), with d added, is at most c
abbrev pub RdUp : ℕ → ℕ → State → Type 0
RdUp d c s = (g : ℕ) → Upto d c (group_at s g).rd

abbrev pub WrUp : ℕ → ℕ → State → Type 0
WrUp d c s = (g : ℕ) → Upto d c (group_at s g).wr

pub rd_map : (d c d' c' : ℕ) (s : State) → ((x : ℕ) → x + d ≤ c → x + d' ≤ c') → RdUp d c s → RdUp d' c' s
rd_map d c d' c' s f q g = upto_map d c d' c' (group_at s g).rd f (q g)

pub wr_map : (d c d' c' : ℕ) (s : State) → ((x : ℕ) → x + d ≤ c → x + d' ≤ c') → WrUp d c s → WrUp d' c' s
wr_map d c d' c' s f q g = upto_map d c d' c' (group_at s g).wr f (q g)

-- a data command keeps that, if its own kind's is kept by it
pub rd_data : (τ : Table) (s : State) (t b : ℕ) (w z : Bool) (d c c' : ℕ) → c ≤ c' → RdUp d c s → (w ≡ false → t + d ≤ c')
    → RdUp d c' (note τ s t (data_kind w z) b)
rd_data τ s t b w z d c c' g q h =
    set_all (λ x. Upto d c' x.rd) s.groups (group_of τ b) (group_after (data_kind w z) t (group_at s (group_of τ b))) up (on w z h)
  where
    up : RdUp d c' s
    up = rd_map d c d c' s (λ x k. omega arith) q

    on : (w z : Bool) → (w ≡ false → t + d ≤ c') → Upto d c' (group_after (data_kind w z) t (group_at s (group_of τ b))).rd
    on true true h = up (group_of τ b)
    on true false h = up (group_of τ b)
    on false true h = h refl
    on false false h = h refl

pub wr_data : (τ : Table) (s : State) (t b : ℕ) (w z : Bool) (d c c' : ℕ) → c ≤ c' → WrUp d c s → (w ≡ true → t + d ≤ c')
    → WrUp d c' (note τ s t (data_kind w z) b)
wr_data τ s t b w z d c c' g q h =
    set_all (λ x. Upto d c' x.wr) s.groups (group_of τ b) (group_after (data_kind w z) t (group_at s (group_of τ b))) up (on w z h)
  where
    up : WrUp d c' s
    up = wr_map d c d c' s (λ x k. omega arith) q

    on : (w z : Bool) → (w ≡ true → t + d ≤ c') → Upto d c' (group_after (data_kind w z) t (group_at s (group_of τ b))).wr
    on true true h = h refl
    on true false h = h refl
    on false true h = up (group_of τ b)
    on false false h = up (group_of τ b)

-- an ACT keeps it
pub rd_act : (τ : Table) (s : State) (t b d c : ℕ) → RdUp d c s → RdUp d c (note τ s t Act b)
rd_act τ s t b d c q = set_all (λ x. Upto d c x.rd) s.groups (group_of τ b) (group_after Act t (group_at s (group_of τ b))) q (q (group_of τ b))

pub wr_act : (τ : Table) (s : State) (t b d c : ℕ) → WrUp d c s → WrUp d c (note τ s t Act b)
wr_act τ s t b d c q = set_all (λ x. Upto d c x.wr) s.groups (group_of τ b) (group_after Act t (group_at s (group_of τ b))) q (q (group_of τ b))

-- what the bound's proof keeps of them: a have gone from the ACT queue, no stamp is past c
pub record Recent (τ : Table) (A : ℕ → ℕ → Type 0) (a c : ℕ) (s : State) : Type 0 where
  pub back1 : Back A a 0 s.a1
  pub back2 : Back A a 1 s.a2
  pub back3 : Back A a 2 s.a3
  pub back4 : Back A a 3 s.a4
  pub group_size : length s.groups ≡ 8
  pub backs : (g : ℕ) → Back A a 0 (group_at s g).act
  pub rds : RdUp 0 c s
  pub wrs : WrUp 0 c s

module _ (τ : Table) where
  pub recent_up : (A : ℕ → ℕ → Type 0) (a c c' : ℕ) (s : State) → c ≤ c' → Recent τ A a c s → Recent τ A a c' s
  recent_up A a c c' s h q =
      record {
        back1 = q.back1;
        back2 = q.back2;
        back3 = q.back3;
        back4 = q.back4;
        group_size = q.group_size;
        backs = q.backs;
        rds = rd_map 0 c 0 c' s (λ x k. omega arith) q.rds;
        wrs = wr_map 0 c 0 c' s (λ x k. omega arith) q.wrs;
      }

  pub recent_idle : (A : ℕ → ℕ → Type 0) (a c : ℕ) (s : State) → Recent τ A a c s → Recent τ A a c (idle s)
  recent_idle A a c s q =
      record {
        back1 = q.back1;
        back2 = q.back2;
        back3 = q.back3;
        back4 = q.back4;
        group_size = q.group_size;
        backs = q.backs;
        rds = q.rds;
        wrs = q.wrs;
      }

  pub recent_fresh : (A : ℕ → ℕ → Type 0) → Recent τ A 0 0 (fresh τ)
  recent_fresh A =
      record {
        back1 = tt;
        back2 = tt;
        back3 = tt;
        back4 = tt;
        group_size = length-replicate 8 quiet;
        backs = λ g. all_quiet (λ x. Back A 0 0 x.act) tt 8 g;
        rds = λ g. all_quiet (λ x. Upto 0 0 x.rd) tt 8 g;
        wrs = λ g. all_quiet (λ x. Upto 0 0 x.wr) tt 8 g;
      }

  module _ (A : ℕ → ℕ → Type 0) (a c : ℕ) (s : State) (q : Recent τ A a c s) (t : ℕ) (ct : c ≤ t) where
    -- the group of bank b
    module _ (b : ℕ) where
      -- after a command of a kind, what is said of its stamps
      noted : (P : Group → Type 0) (k : Kind) → ((g : ℕ) → P (group_at s g)) → P (group_after k t (group_at s (group_of τ b))) → (g : ℕ) → P (group_at (note τ s t k b) g)
      noted P k f p = set_all P s.groups (group_of τ b) (group_after k t (group_at s (group_of τ b))) f p

      sized : (k : Kind) → length (note τ s t k b).groups ≡ 8
      sized k = length-set s.groups (group_of τ b) (group_after k t (group_at s (group_of τ b))) ∙ q.group_size

    rds' : RdUp 0 t s
    rds' = rd_map 0 c 0 t s (λ x k. omega arith) q.rds

    wrs' : WrUp 0 t s
    wrs' = wr_map 0 c 0 t s (λ x k. omega arith) q.wrs

    module _ (A' : ℕ → ℕ → Type 0) (f : (i x : ℕ) → i < a → A i x → A' i x) where
      backs' : (g : ℕ) → Back A' (a + 1) 0 (group_at s g).act
      backs' g = back_still A A' a 0 (group_at s g).act f (q.backs g)

      pub recent_act : (b : ℕ) → A' a t → Recent τ A' (a + 1) t (note τ s t Act b)
      recent_act b new =
          record {
            back1 = (a, omega arith, new);
            back2 = back_next A A' a 0 s.a1 f q.back1;
            back3 = back_next A A' a 1 s.a2 f q.back2;
            back4 = back_next A A' a 2 s.a3 f q.back3;
            group_size = sized b Act;
            backs = noted b (λ x. Back A' (a + 1) 0 x.act) Act backs' (a, omega arith, new);
            rds = noted b (λ x. Upto 0 t x.rd) Act rds' (rds' (group_of τ b));
            wrs = noted b (λ x. Upto 0 t x.wr) Act wrs' (wrs' (group_of τ b));
          }

      -- a REF takes a number and no stamp
      pub recent_ref : (b : ℕ) → Recent τ A' (a + 1) t (note τ s t Ref b)
      recent_ref b =
          record {
            back1 = back_still A A' a 0 s.a1 f q.back1;
            back2 = back_still A A' a 1 s.a2 f q.back2;
            back3 = back_still A A' a 2 s.a3 f q.back3;
            back4 = back_still A A' a 3 s.a4 f q.back4;
            group_size = sized b Ref;
            backs = noted b (λ x. Back A' (a + 1) 0 x.act) Ref backs' (backs' (group_of τ b));
            rds = noted b (λ x. Upto 0 t x.rd) Ref rds' (rds' (group_of τ b));
            wrs = noted b (λ x. Upto 0 t x.wr) Ref wrs' (wrs' (group_of τ b));
          }

    pub recent_data : (b : ℕ) (w z : Bool) → Recent τ A a t (note τ s t (data_kind w z) b)
    recent_data b w z =
        record {
          back1 = rw (no_act w z) q.back1;
          back2 = rw (no_act w z) q.back2;
          back3 = rw (no_act w z) q.back3;
          back4 = rw (no_act w z) q.back4;
          group_size = sized b (data_kind w z);
          backs = noted b (λ x. Back A a 0 x.act) (data_kind w z) q.backs (rw (no_act w z) (q.backs (group_of τ b)));
          rds = rd_data τ s t b w z 0 c t ct q.rds (λ e. omega arith);
          wrs = wr_data τ s t b w z 0 c t ct q.wrs (λ e. omega arith);
        }

-- rules 6 and 9 hold once the greatest distance is past, and rule 9 does not right after a data command of the kind
module _ (τ : Table) (rng : Ranges τ) (s : State) where
  pub six_ready : (A : ℕ → ℕ → Type 0) (a c t b : ℕ) → Recent τ A a c s → ((d : ℕ) (st : Stamp) → d ≤ most_rrd τ → Back A a 0 st → Upto d t st) → rule6 τ s t b ≡ true
  six_ready A a c t b q near =
      below_all τ.groups _ (λ g l.
      let d = rrd_of τ (eqb g (group_of τ b)) in
      upto_past d t (group_at s g).act (near d (group_at s g).act (rrd_long τ rng (eqb g (group_of τ b))) (q.backs g)))

  pub nine_ready : (w : Bool) (t b : ℕ) → RdUp (most_from_rd τ w) t s → WrUp (most_from_wr τ w) t s → rule9 τ s w t b ≡ true
  nine_ready w t b x y =
      below_all τ.groups _ (λ g l.
      let e = eqb g (group_of τ b) in
      and_both _ _
      (upto_past (from_rd τ e w) t (group_at s g).rd (upto_map (most_from_rd τ w) t (from_rd τ e w) t (group_at s g).rd (λ y k. omega (arith, rd_long τ rng e w)) (x g)))
      (upto_past (from_wr τ e w) t (group_at s g).wr (upto_map (most_from_wr τ w) t (from_wr τ e w) t (group_at s g).wr (λ y k. omega (arith, wr_long τ rng e w)) (y g))))

  pub nine_blocked : (A : ℕ → ℕ → Type 0) (a c : ℕ) → Recent τ A a c s → (t b b' : ℕ) (w z : Bool) → rule9 τ (note τ s t (data_kind w z) b) w (t + 1) b' ≡ false
  nine_blocked A a c q t b b' w z = sym (below_not τ.groups _ (group_of τ b) (mod-lt b rng.groups.least) (ap (λ (x : Group). far_by (square τ e) x.rd x.wr w (t + 1)) here ∙ on w z))
    where
      e : Bool
      e = eqb (group_of τ b) (group_of τ b')

      here : group_at (note τ s t (data_kind w z) b) (group_of τ b) ≡ group_after (data_kind w z) t (group_at s (group_of τ b))
      here = get_or-set_same s.groups (group_of τ b) (group_after (data_kind w z) t (group_at s (group_of τ b))) quiet
          (omega (arith, q.group_size, mod-lt b rng.groups.least, rng.groups.most))

      too_near : leb (t + ccd_of τ e) (t + 1) ≡ false
      too_near = lt-leb (t + ccd_of τ e) (t + 1) (omega (arith, rng.two, ccd_short τ rng e))

      on : (w z : Bool) → far_by (square τ e) (group_after (data_kind w z) t (group_at s (group_of τ b))).rd (group_after (data_kind w z) t (group_at s (group_of τ b))).wr w (t + 1) ≡ false
      on true true = rw too_near (and-false (past (group_at s (group_of τ b)).rd (from_rd τ e true) (t + 1)))
      on true false = rw too_near (and-false (past (group_at s (group_of τ b)).rd (from_rd τ e true) (t + 1)))
      on false true = rw too_near
      on false false = rw too_near
