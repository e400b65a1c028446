-- What the numbers of an accepted table are.
-- Assumes nothing.
use Prim.Native.Nat.{ℕ, ◌≤◌}
use mathlib.Core.Path.{◌≡◌}
use mathlib.Core.Bool.{Bool, true}
use mathlib.Core.List.{List, [], ◌∷◌}
use lib.Dec.{leb}
use lib.ListN.{get_or, get_elem?}
use borrow.Author.Tests.{leb-true}
use Rattle.records.specs.Tests.{within, every}
use Rattle.records.specs.declared.table.Table.{Table}
use Rattle.records.specs.Table.{timings, groups_in_range, Accepted}
use Rattle.rules.proofs.laws.TestLaws.{and_fst, and_snd, and_at, OnSome, on_map, every_at}
use Rattle.rules.specs.State.{Held}

pub record Within (lo hi x : ℕ) : Type 0 where
  pub least : lo ≤ x
  pub most : x ≤ hi

pub record Ranges (τ : Table) : Type 0 where
  pub banks : Within 1 16 τ.banks
  pub two : 2 ≤ τ.ccd
  pub burst : τ.b ≤ τ.ccd
  pub b : Within 1 1023 τ.b
  pub ccd : Within 1 1023 τ.ccd
  pub rcd : Within 1 1023 τ.rcd
  pub rp : Within 1 1023 τ.rp
  pub ras : Within 1 1023 τ.ras
  pub rc : Within 1 1023 τ.rc
  pub rrd : Within 1 1023 τ.rrd
  pub faw : Within 1 1023 τ.faw
  pub rl : Within 1 1023 τ.rl
  pub wl : Within 1 1023 τ.wl
  pub rtp : Within 1 1023 τ.rtp
  pub wr : Within 1 1023 τ.wr
  pub wtr : Within 1 1023 τ.wtr
  pub rfc : τ.rfc ≤ 1023
  pub groups : Within 1 8 τ.groups
  pub group_banks : τ.groups ≤ τ.banks
  pub ccdl : Within τ.ccd 1023 τ.ccdl
  pub rrdl : Within τ.rrd 1023 τ.rrdl
  pub wtrl : Within τ.wtr 1023 τ.wtrl

pub held : (τ : Table) → Ranges τ → Held τ
held τ rng = record { banks = rng.banks.most; some = rng.groups.least; groups = rng.groups.most }

pub is_within : (lo hi x : ℕ) → within lo hi x ≡ true → Within lo hi x
is_within lo hi x e =
    record { least = leb-true lo x (and_fst (leb lo x) (leb x hi) e); most = leb-true x hi (and_snd (leb lo x) (leb x hi) e) }

-- the tests of a table before that of its timing numbers
abbrev first_tests : Table → List Bool
first_tests τ = within 1 65535 τ.edition ∷ within 1 16 τ.banks ∷ leb 2 τ.ccd ∷ leb τ.b τ.ccd ∷ leb τ.rfc 1023 ∷ groups_in_range τ ∷ []

-- those of its groups, before that of long WTR
abbrev group_tests : Table → List Bool
group_tests τ = within 1 8 τ.groups ∷ leb τ.groups τ.banks ∷ within τ.ccd 1023 τ.ccdl ∷ within τ.rrd 1023 τ.rrdl ∷ []

module _ (τ : Table) (e : Accepted τ) where
  test : (i : ℕ) → get_or (first_tests τ) i (every (within 1 1023) (timings τ)) ≡ true
  test i = and_at (first_tests τ) (every (within 1 1023) (timings τ)) i e

  group : (i : ℕ) → get_or (group_tests τ) i (within τ.wtr 1023 τ.wtrl) ≡ true
  group i = and_at (group_tests τ) (within τ.wtr 1023 τ.wtrl) i (test 5)

  timing : (i : ℕ) → OnSome (Within 1 1023) (get_elem? (timings τ) i)
  timing i = on_map (get_elem? (timings τ) i) (is_within 1 1023) (every_at (within 1 1023) (timings τ) i (test 6))

  pub ranges : Ranges τ
  ranges =
      record {
        banks = is_within 1 16 τ.banks (test 1);
        two = leb-true 2 τ.ccd (test 2);
        burst = leb-true τ.b τ.ccd (test 3);
        b = timing 0;
        ccd = timing 1;
        rcd = timing 2;
        rp = timing 3;
        ras = timing 4;
        rc = timing 5;
        rrd = timing 6;
        faw = timing 7;
        rl = timing 8;
        wl = timing 9;
        rtp = timing 10;
        wr = timing 11;
        wtr = timing 12;
        rfc = leb-true τ.rfc 1023 (test 4);
        groups = is_within 1 8 τ.groups (group 0);
        group_banks = leb-true τ.groups τ.banks (group 1);
        ccdl = is_within τ.ccd 1023 τ.ccdl (group 2);
        rrdl = is_within τ.rrd 1023 τ.rrdl (group 3);
        wtrl = is_within τ.wtr 1023 τ.wtrl (group 4);
      }
