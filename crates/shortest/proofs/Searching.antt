-- One turn of the loop over the choices of a cycle, over plain values.
-- Assumes nothing.
use Rattle.std.specs.Prelude.{Option, Some, None}
use Prim.Native.Nat.{ℕ, suc, ◌+◌, ◌-◌, ◌*◌, ◌/◌, ◌%◌, ◌≤◌, ◌<◌}
use native.Mathlib.Omega.{arith}
use mathlib.Core.Path.{◌≡◌, refl, sym, ap, ◌∙◌, subst}
use mathlib.Core.Bool.{Bool, true, false, ◌&&◌}
use mathlib.Core.List.{List}
use lib.Dec.{leb, ltb, eqb}
use lib.ListN.{length, set, take}
use borrow.Author.Tests.{lt-ltb, le-leb, eq-eqb, ltb-true, leb-true, eqb-true}
use Rattle.records.specs.Tests.{pick}
use Rattle.records.specs.declared.table.Table.{Table}
use Rattle.records.specs.declared.command.Kind.{Kind}
use Rattle.records.specs.declared.command.Command.{Command}
use Rattle.records.specs.Command.{command}
use Rattle.rules.specs.Pattern.{EveryNumberLegal}
use Rattle.rules.proofs.laws.TestLaws.{true_false, and_both, and_fst, and_snd}
use Rattle.shortest.specs.Shortest.{kind_at}
use Rattle.shortest.specs.Search.{tally, class, choice, Shaped, Tried, Nothing, Best, Hopeless, Searched}
use Rattle.shortest.proofs.Steps.{tried_start, tried_skip, tried_hopeless, tried_nothing, best_here, nothing_now, best_later, nothing_left}
use Rattle.shortest.proofs.Leaf.{leaf_best, leaf_nothing, shaped_next}

-- the choices before number m are tried, at the first of the cycles that are left
pub record Choosing (τ : Table) (w : Bool) (bi bc L left k : ℕ) (x : List Command) (m : ℕ) : Type 0 where
  pub few : bi ≤ 3
  pub low : k < bi * suc bc
  pub room : k < length x
  pub more : 0 < k
  pub some : 0 < left
  pub inside : left ≤ L
  pub shaped : Shaped w bi bc L k x
  pub upto : m ≤ 9
  pub tried : Tried τ w bi bc L k x (L - left) m

-- the choice number m, and what the code has read for it
pub record Chosen (w : Bool) (bi bc k : ℕ) (x : List Command) (m step : ℕ) (kind : Kind) (cl : ℕ) (y : Bool) : Type 0 where
  pub steps : step ≡ tally (m % 3) x k
  pub kinds : kind ≡ kind_at w bc step
  pub classes : cl ≡ class kind
  pub fits : y ≡ (ltb (m % 3) bi && (leb step bc && eqb cl (m / 3)))

pub turn_start : (τ : Table) (w : Bool) (bi bc L left k : ℕ) (x : List Command) → bi ≤ 3 → k < bi * suc bc → k < length x → 0 < k → 0 < left → left ≤ L
    → Shaped w bi bc L k x → Choosing τ w bi bc L left k x 0
turn_start τ w bi bc L left k x a b c d e f g =
    record {
      few = a;
      low = b;
      room = c;
      more = d;
      some = e;
      inside = f;
      shaped = g;
      upto = omega arith;
      tried = tried_start τ w bi bc L a k x (L - left) b c;
    }

module _ {τ : Table} {w : Bool} {bi bc L left k : ℕ} {x : List Command} {m : ℕ} (q : Choosing τ w bi bc L left k x m) where
  abbrev t : ℕ
  t = L - left

  step_is : L - (left - 1) ≡ t + 1
  step_is = omega (arith, q.some, q.inside)

  module _ (l : m < 9) {step : ℕ} {kind : Kind} {cl : ℕ} {y : Bool} (c : Chosen w bi bc k x m step kind cl y) where
    next : Tried τ w bi bc L k x t (m + 1) → Choosing τ w bi bc L left k x (m + 1)
    next g =
        record {
          few = q.few;
          low = q.low;
          room = q.room;
          more = q.more;
          some = q.some;
          inside = q.inside;
          shaped = q.shaped;
          upto = omega arith;
          tried = g;
        }

    em : m ≡ m / 3 * 3 + m % 3
    em = omega arith

    lb : m % 3 < 3
    lb = omega arith

    same : kind ≡ kind_at w bc (tally (m % 3) x k)
    same = c.kinds ∙ ap (kind_at w bc) c.steps

    pub turn_skip : y ≡ false → Choosing τ w bi bc L left k x (m + 1)
    turn_skip e =
        next (tried_skip τ w bi bc L q.few k x t q.low q.room m (m / 3) (m % 3) em lb q.tried
        (λ a b d. true_false y (c.fits ∙ and_both (ltb (m % 3) bi) _ (lt-ltb (m % 3) bi a)
        (and_both (leb step bc) (eqb cl (m / 3)) (le-leb step bc (omega (arith, c.steps))) (eq-eqb cl (m / 3) (c.classes ∙ (ap class same ∙ d))))) e))

    -- the records with this choice
    module _ {z : List Command} (placed : z ≡ set x k (command t kind (m % 3) 0)) (e : y ≡ true) where
      is : z ≡ set x k (choice w bc k x t (m % 3))
      is = placed ∙ ap (λ (h : Kind). set x k (command t h (m % 3) 0)) same

      all : (ltb (m % 3) bi && (leb step bc && eqb cl (m / 3))) ≡ true
      all = sym c.fits ∙ e

      kind_class : class (kind_at w bc (tally (m % 3) x k)) ≡ m / 3
      kind_class = sym (c.classes ∙ ap class same) ∙ eqb-true cl (m / 3) (and_snd (leb step bc) (eqb cl (m / 3)) (and_snd (ltb (m % 3) bi) _ all))

      pub turn_shaped : Shaped w bi bc L (k + 1) z
      turn_shaped =
          subst (Shaped w bi bc L (k + 1)) (sym is)
          (shaped_next q.shaped q.more q.room t (m % 3) (omega (arith, q.some, q.inside)) (ltb-true (m % 3) bi (and_fst (ltb (m % 3) bi) _ all))
          (omega (arith, c.steps, leb-true step bc (and_fst (leb step bc) (eqb cl (m / 3)) (and_snd (ltb (m % 3) bi) _ all)))))

      pub turn_hopeless : Hopeless τ w bi bc L (k + 1) (k + 1) z → Choosing τ w bi bc L left k x (m + 1)
      turn_hopeless g =
          next (tried_hopeless τ w bi bc L q.few k x t q.low q.room m (m / 3) (m % 3) em lb q.tried (subst (Hopeless τ w bi bc L (k + 1) (k + 1)) is g))

      pub turn_nothing : Nothing τ w bi bc L (k + 1) z (L - (left - 1)) → Choosing τ w bi bc L left k x (m + 1)
      turn_nothing g =
          next (tried_nothing τ w bi bc L q.few k x t q.low q.room m (m / 3) (m % 3) em lb q.tried
          (subst (λ (h : List Command). Nothing τ w bi bc L (k + 1) h (t + 1)) is (subst (Nothing τ w bi bc L (k + 1) z) step_is g)))

      pub turn_found : (u : List Command) → Best τ w bi bc L (k + 1) z (L - (left - 1)) (take (bi * suc bc) u) → Best τ w bi bc L k x t (take (bi * suc bc) u)
      turn_found u g =
          best_here τ w bi bc L q.few k x t q.low q.room m (m / 3) (m % 3) em lb q.tried (take (bi * suc bc) u) kind_class
          (subst (λ (h : List Command). Best τ w bi bc L (k + 1) h (t + 1) (take (bi * suc bc) u)) is
          (subst (λ (h : ℕ). Best τ w bi bc L (k + 1) z h (take (bi * suc bc) u)) step_is g))

  -- every choice was tried
  all_tried : 9 ≤ m → Tried τ w bi bc L k x t 9
  all_tried l = let e : m ≡ 9 = omega (arith, q.upto) in subst (Tried τ w bi bc L k x t) e q.tried

  pub turn_end : 9 ≤ m → (o : Option (List Command)) → Searched τ w bi bc L k x (L - (left - 1)) o → Searched τ w bi bc L k x t o
  turn_end l (Some u) s =
      best_later τ w bi bc L q.few k x t q.low q.room (all_tried l) (take (bi * suc bc) u)
      (subst (λ (h : ℕ). Best τ w bi bc L k x h (take (bi * suc bc) u)) step_is s)
  turn_end l None s = nothing_now τ w bi bc L q.few k x t q.low q.room (all_tried l) (subst (Nothing τ w bi bc L k x) step_is s)

-- no cycle is left
pub turn_none : (τ : Table) (w : Bool) (bi bc L left k : ℕ) (x : List Command) → bi ≤ 3 → k < bi * suc bc → k < length x → left ≡ 0
    → Nothing τ w bi bc L k x (L - left)
turn_none τ w bi bc L left k x few low room e = nothing_left τ w bi bc L few k x (L - left) low room (omega arith)

-- all records are placed
module _ {τ : Table} {w : Bool} {bi bc L k n : ℕ} {x : List Command} (t : ℕ) (e : k ≡ n) (f : n ≡ bi * suc bc) (more : 0 < k) (q : Shaped w bi bc L k x) where
  pub leaf_found : EveryNumberLegal τ L (take n x) → Best τ w bi bc L k x t (take (bi * suc bc) x)
  leaf_found g =
      subst (λ (m : ℕ). Best τ w bi bc L k x t (take m x)) (e ∙ f)
      (leaf_best q τ t (e ∙ f) more (subst (λ (m : ℕ). EveryNumberLegal τ L (take m x)) (sym e) g))

  pub leaf_none : (EveryNumberLegal τ L (take n x) → ⊥) → Nothing τ w bi bc L k x t
  leaf_none g = leaf_nothing q τ t (e ∙ f) (λ v. g (subst (λ (m : ℕ). EveryNumberLegal τ L (take m x)) e v))

-- the same of what is answered there: the records where they are legal, nothing where they are not
pub search_leaf : (τ : Table) (w : Bool) (bi bc L k n : ℕ) (x : List Command) (t : ℕ) (ok : Bool) → k ≡ n → n ≡ bi * suc bc → 0 < k → Shaped w bi bc L k x
    → (ok ≡ true → EveryNumberLegal τ L (take n x)) × (ok ≡ false → EveryNumberLegal τ L (take n x) → ⊥)
    → Searched τ w bi bc L k x t (pick ok (Some x) None)
search_leaf τ w bi bc L k n x t true e f more q g = leaf_found t e f more q (g.0 refl)
search_leaf τ w bi bc L k n x t false e f more q g = leaf_none t e f more q (g.1 refl)
