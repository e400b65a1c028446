-- The earliest cycles as code computes them from a state in plain numbers.
-- Assumes nothing.
use Prim.Native.Nat.{ℕ, zero, suc, ◌+◌, ◌-◌, ◌≤◌, ◌<◌, min, max}
use native.Mathlib.Omega.{arith}
use native.Mathlib.Nat.{max-zero}
use native.Mathlib.Numerals.{add-one}
use mathlib.Core.Path.{◌≡◌, refl, sym, ap, ◌∙◌}
use mathlib.Core.Bool.{Bool, true, false}
use mathlib.Core.List.{List, map}
use lib.Dec.{eqb}
use lib.ListN.{get_or, get_or-map}
use borrow.Author.Tests.{eq-eqb}
use Rattle.records.specs.Tests.{pick}
use Rattle.rules.specs.Types.{Stamp}
use Rattle.records.specs.declared.table.Table.{Table}
use Rattle.rules.specs.declared.state.Group.{Group}
use Rattle.rules.specs.Square.{rrd_of, square}
use Rattle.rules.specs.State.{bank_of, quiet}
use Rattle.timing.specs.declared.kept.KeptGroup.{KeptGroup}
use Rattle.timing.specs.declared.kept.Kept.{Kept}
use Rattle.timing.specs.Kept.{stamp_of, told_bank, told_group, told, shut_kept, quiet_kept}
use Rattle.timing.proofs.Telling.{stamp_some, told_at}
use Rattle.earliest.specs.Earliest.{limit, since, most_below, acts_from, far_from, datas_from, rest_from, rests_from}
use Rattle.earliest.specs.Jump.{left_of}

pub since_never : (s d : ℕ) → s ≡ 0 → 0 ≡ since (stamp_of s) d
since_never s d e = rw e

pub since_at : (s d : ℕ) → (s ≡ 0 → ⊥) → min limit (s - 1) + d ≡ since (stamp_of s) d
since_at s d ne = sym (ap (λ (x : Stamp). since x d) (stamp_some s ne))

-- where a run ends
pub end_served : (c n : ℕ) (b : Bool) → b ≡ true → c ≡ max c (min limit (c + left_of b n))
end_served c n b e = rw e (omega arith)

pub end_late : (c n : ℕ) (b : Bool) → b ≡ false → limit ≤ c → c ≡ max c (min limit (c + left_of b n))
end_late c n b e h = rw e (omega arith)

pub end_count : (c n : ℕ) (b : Bool) → b ≡ false → c < limit → min limit (c + n) ≡ max c (min limit (c + left_of b n))
end_count c n b e h = rw e (omega arith)

-- ---- the greatest of many, as a loop finds it

pub most_same : (n : ℕ) (f g : ℕ → ℕ) → ((b : ℕ) → f b ≡ g b) → most_below n f ≡ most_below n g
most_same zero f g h = refl
most_same (suc n) f g h = rw (h n, most_same n f g h)

pub most_turn : (f : ℕ → ℕ) (g x v r : ℕ) → x ≡ most_below g f → v ≡ f g → r ≡ max v x → r ≡ most_below (g + 1) f
most_turn f g x v r p q e = rw (add-one g, ← p, ← q) e

pub most_one : (n own : ℕ) (f : ℕ → ℕ) → n ≡ 1 → own < n → f own ≡ most_below n f
most_one n own f e l =
    let z : own ≡ 0 = omega arith in
    ap f z ∙ (sym (max-zero (f 0)) ∙ ap (λ (m : ℕ). most_below m f) (sym e))

module _ (gs : List KeptGroup) (own : ℕ) where
  abbrev pub acts_at : Table → ℕ → ℕ
  acts_at τ g = since (stamp_of (get_or gs g quiet_kept).act) (rrd_of τ (eqb g own))

  pub acts_told : (τ : Table) → most_below τ.groups (acts_at τ) ≡ acts_from τ (map told_group gs) own
  acts_told τ =
      most_same τ.groups (acts_at τ) (λ g. since (get_or (map told_group gs) g quiet).act (rrd_of τ (eqb g own)))
      (λ g. ap (λ (x : Group). since x.act (rrd_of τ (eqb g own))) (sym (get_or-map told_group gs g quiet_kept)))

  module _ (near away : List (List ℕ)) (w : Bool) where
    abbrev pub datas_at : ℕ → ℕ
    datas_at g = far_from (pick (eqb g own) near away) (stamp_of (get_or gs g quiet_kept).rd) (stamp_of (get_or gs g quiet_kept).wr) w

    pub datas_told : (τ : Table) → near ≡ square τ true → away ≡ square τ false → most_below τ.groups datas_at ≡ datas_from τ (map told_group gs) own w
    datas_told τ p q =
        most_same τ.groups datas_at (λ g. far_from (square τ (eqb g own)) (get_or (map told_group gs) g quiet).rd (get_or (map told_group gs) g quiet).wr w)
        (λ g. ap (λ (z : List (List ℕ)). far_from z (stamp_of (get_or gs g quiet_kept).rd) (stamp_of (get_or gs g quiet_kept).wr) w) (squares (eqb g own))
        ∙ ap (λ (x : Group). far_from (square τ (eqb g own)) x.rd x.wr w) (sym (get_or-map told_group gs g quiet_kept)))
      where
        squares : (e : Bool) → pick e near away ≡ square τ e
        squares true = p
        squares false = q

  -- a table of one group asks its group alone
  module _ (τ : Table) (e : τ.groups ≡ 1) (l : own < τ.groups) where
    pub acts_one : since (stamp_of (get_or gs own quiet_kept).act) τ.rrdl ≡ acts_from τ (map told_group gs) own
    acts_one =
        ap (λ (b : Bool). since (stamp_of (get_or gs own quiet_kept).act) (rrd_of τ b)) (sym (eq-eqb own own refl))
        ∙ (most_one τ.groups own (acts_at τ) e l ∙ acts_told τ)

    pub datas_one : (near : List (List ℕ)) → near ≡ square τ true → (w : Bool)
        → far_from near (stamp_of (get_or gs own quiet_kept).rd) (stamp_of (get_or gs own quiet_kept).wr) w ≡ datas_from τ (map told_group gs) own w
    datas_one near p w =
        ap (λ (b : Bool). far_from (pick b near (square τ false)) (stamp_of (get_or gs own quiet_kept).rd) (stamp_of (get_or gs own quiet_kept).wr) w) (sym (eq-eqb own own refl))
        ∙ (most_one τ.groups own (datas_at near (square τ false) w) e l ∙ datas_told near (square τ false) w τ p refl)

module _ (τ : Table) (s : Kept) where
  abbrev pub rests_at : ℕ → ℕ
  rests_at b = rest_from τ (told_bank (get_or s.banks b shut_kept))

  pub rests_told : most_below τ.banks rests_at ≡ rests_from τ (told s)
  rests_told = most_same τ.banks rests_at (λ b. rest_from τ (bank_of (told s) b)) (λ b. ap (rest_from τ) (sym (told_at s b)))
