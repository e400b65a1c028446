-- Rules 6 and 9 over the groups that a state in plain numbers keeps.
-- Assumes nothing.
use Prim.Native.Nat.{ℕ, ◌<◌}
use native.Mathlib.Omega.{arith}
use mathlib.Core.Path.{◌≡◌, refl, sym, ap, ◌∙◌}
use mathlib.Core.Logic.{◌⊎◌, inl, inr}
use mathlib.Core.Bool.{Bool, true, false, not, ◌&&◌, and-true}
use mathlib.Core.List.{List, [], ◌∷◌, map}
use lib.Dec.{eqb}
use lib.ListN.{get_or, get_or-map}
use borrow.Author.Tests.{eq-eqb}
use Rattle.std.proofs.Math.Bool.{and_comm}
use Rattle.records.specs.Tests.{pick, all_of, every_below}
use Rattle.records.specs.declared.table.Table.{Table}
use Rattle.rules.specs.declared.state.Bank.{Bank}
use Rattle.rules.specs.declared.state.Group.{Group}
use Rattle.rules.specs.Square.{rrd_of, square}
use Rattle.rules.specs.State.{past, is_open, quiet, charged, acts_far, far_by, data_far, act_tests_of, data_tests_of}
use Rattle.rules.proofs.laws.Below.{below_not, below_same}
use Rattle.timing.specs.declared.kept.KeptGroup.{KeptGroup}
use Rattle.timing.specs.Kept.{stamp_of, told_group, quiet_kept}

-- the tests that code makes, group by group
module _ (gs : List KeptGroup) (own t : ℕ) where
  abbrev pub acts_at : Table → ℕ → Bool
  acts_at τ g = past (stamp_of (get_or gs g quiet_kept).act) (rrd_of τ (eqb g own)) t

  pub acts_told : (τ : Table) → every_below τ.groups (acts_at τ) ≡ acts_far τ (map told_group gs) own t
  acts_told τ =
      below_same τ.groups (acts_at τ) (λ g. past (get_or (map told_group gs) g quiet).act (rrd_of τ (eqb g own)) t)
      (λ g l. ap (λ (x : Group). past x.act (rrd_of τ (eqb g own)) t) (sym (get_or-map told_group gs g quiet_kept)))

  module _ (near away : List (List ℕ)) (w : Bool) where
    abbrev pub data_at : ℕ → Bool
    data_at g = far_by (pick (eqb g own) near away) (stamp_of (get_or gs g quiet_kept).rd) (stamp_of (get_or gs g quiet_kept).wr) w t

    pub data_told : (τ : Table) → near ≡ square τ true → away ≡ square τ false → every_below τ.groups data_at ≡ data_far τ (map told_group gs) own w t
    data_told τ p q =
        below_same τ.groups data_at (λ g. far_by (square τ (eqb g own)) (get_or (map told_group gs) g quiet).rd (get_or (map told_group gs) g quiet).wr w t)
        (λ g l. ap (λ (z : List (List ℕ)). far_by z (stamp_of (get_or gs g quiet_kept).rd) (stamp_of (get_or gs g quiet_kept).wr) w t) (squares (eqb g own))
        ∙ ap (λ (x : Group). far_by (square τ (eqb g own)) x.rd x.wr w t) (sym (get_or-map told_group gs g quiet_kept)))
      where
        squares : (e : Bool) → pick e near away ≡ square τ e
        squares true = p
        squares false = q

-- the own group is asked first, and all of them after it, but where there is one alone
abbrev pub Rest : ℕ → Bool → Bool → Type 0
Rest n y all = ((n ≡ 1) × (y ≡ true)) ⊎ (y ≡ all)

own_first : (n own : ℕ) (f : ℕ → Bool) → own < n → (y : Bool) → Rest n y (every_below n f) → (f own && y) ≡ every_below n f
own_first n own f l y (inl (e, p)) =
    let z : own ≡ 0 = omega arith in
    ap (λ (b : Bool). f own && b) p ∙ (ap (λ (i : ℕ). f i && true) z ∙ ap (λ (m : ℕ). every_below m f) (sym e))
own_first n own f l y (inr p) = ap (λ (b : Bool). f own && b) p ∙ on (f own) refl
  where
    on : (x : Bool) → f own ≡ x → (x && every_below n f) ≡ every_below n f
    on true q = refl
    on false q = below_not n f own l q

-- a test made after all others is a part of the rule it belongs to
act_and : (o h c d f g y : Bool) → (all_of (not o ∷ h ∷ c ∷ d ∷ f ∷ true ∷ true ∷ true ∷ g ∷ []) && y) ≡ all_of (not o ∷ h ∷ c ∷ (d && y) ∷ f ∷ true ∷ true ∷ true ∷ g ∷ [])
act_and true h c d f g y = refl
act_and false false c d f g y = refl
act_and false true false d f g y = refl
act_and false true true false f g y = refl
act_and false true true true f g y = and_comm (f && (g && true)) y

data_and : (o c f y : Bool) → (all_of (o ∷ true ∷ true ∷ true ∷ true ∷ c ∷ f ∷ []) && y) ≡ all_of (o ∷ true ∷ true ∷ true ∷ true ∷ c ∷ (f && y) ∷ [])
data_and false c f y = refl
data_and true false f y = refl
data_and true true f y = ap (λ (b : Bool). b && y) (and-true f) ∙ sym (and-true (f && y))

module _ (τ : Table) (gs : List Group) (own t : ℕ) (l : own < τ.groups) (y : Bool) where
  pub acts_first : Rest τ.groups y (acts_far τ gs own t) → (past (get_or gs own quiet).act τ.rrdl t && y) ≡ acts_far τ gs own t
  acts_first r =
      ap (λ (e : Bool). past (get_or gs own quiet).act (rrd_of τ e) t && y) (sym (eq-eqb own own refl))
      ∙ own_first τ.groups own (λ g. past (get_or gs g quiet).act (rrd_of τ (eqb g own)) t) l y r

  pub data_first : (w : Bool) → Rest τ.groups y (data_far τ gs own w t)
      → (far_by (square τ true) (get_or gs own quiet).rd (get_or gs own quiet).wr w t && y) ≡ data_far τ gs own w t
  data_first w r =
      ap (λ (e : Bool). far_by (square τ e) (get_or gs own quiet).rd (get_or gs own quiet).wr w t && y) (sym (eq-eqb own own refl))
      ∙ own_first τ.groups own (λ g. far_by (square τ (eqb g own)) (get_or gs g quiet).rd (get_or gs g quiet).wr w t) l y r

  -- all that is asked of an ACT, and of a data command, to bank k: with the own group, and then of the groups
  module _ (k : Bank) where
    pub act_rest : (f g : Bool) → Rest τ.groups y (acts_far τ gs own t)
        → (all_of (act_tests_of τ k (past (get_or gs own quiet).act τ.rrdl t) f g t) && y) ≡ all_of (act_tests_of τ k (acts_far τ gs own t) f g t)
    act_rest f g r =
        act_and (is_open k) (charged τ k t) (past k.act τ.rc t) (past (get_or gs own quiet).act τ.rrdl t) f g y
        ∙ ap (λ (d : Bool). all_of (act_tests_of τ k d f g t)) (acts_first r)

    pub data_rest : (w : Bool) → Rest τ.groups y (data_far τ gs own w t)
        → (all_of (data_tests_of τ k (far_by (square τ true) (get_or gs own quiet).rd (get_or gs own quiet).wr w t) t) && y) ≡ all_of (data_tests_of τ k (data_far τ gs own w t) t)
    data_rest w r =
        data_and (is_open k) (past k.act τ.rcd t) (far_by (square τ true) (get_or gs own quiet).rd (get_or gs own quiet).wr w t) y
        ∙ ap (λ (d : Bool). all_of (data_tests_of τ k d t)) (data_first w r)
