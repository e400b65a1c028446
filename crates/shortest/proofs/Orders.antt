-- An order of the commands that are left, one command more: if no bank can come next there is no hope.
-- Assumes nothing.
use Prim.Native.Nat.{ℕ, suc, ◌+◌, ◌*◌, ◌≤◌, ◌<◌}
use native.Mathlib.Omega.{arith}
use mathlib.Core.Path.{◌≡◌, refl, sym, ap, ◌∙◌, subst}
use mathlib.Core.Bool.{Bool, true, false}
use mathlib.Core.List.{List}
use lib.Dec.{ltb, eqb}
use lib.ListN.{length, set}
use lib.Seq.{get_or-set_same, get_or-set_other}
use borrow.Author.Tests.{ltb-true, ltb-false, eqb-true, eqb-false}
use Rattle.records.specs.declared.table.Table.{Table}
use Rattle.records.specs.declared.command.Kind.{Kind}
use Rattle.records.specs.declared.command.Command.{Command}
use Rattle.records.specs.Command.{command}
use Rattle.shortest.specs.Shortest.{kind_at, IsPattern}
use Rattle.shortest.specs.Search.{nil, nth, tally, choice, Below, Under, Capped, Hopeless, HopelessTo}
use Rattle.shortest.proofs.Shape.{tally_same, pattern_length, pattern_bank, pattern_step, pattern_kind}

-- record m comes next, and no bank below b gives hope
pub record Ordering (τ : Table) (w : Bool) (bi bc L k m : ℕ) (x : List Command) (b : ℕ) : Type 0 where
  pub placed : k ≤ m
  pub low : m < bi * suc bc
  pub room : m < length x
  pub none : HopelessTo τ w bi bc L k m x b

pub order_start : (τ : Table) (w : Bool) (bi bc L k m : ℕ) (x : List Command) → k ≤ m → m < bi * suc bc → m < length x → Ordering τ w bi bc L k m x 0
order_start τ w bi bc L k m x a c d = record { placed = a; low = c; room = d; none = λ p q u v l. omega arith }

module _ {τ : Table} {w : Bool} {bi bc L k m : ℕ} {x : List Command} {b : ℕ} (o : Ordering τ w bi bc L k m x b) where
  one_more_lem : ((p : List Command) → IsPattern τ w bi bc L p → Under m x p → Capped k x p → (nth p m).bank ≡ b → ⊥) → Ordering τ w bi bc L k m x (b + 1)
  one_more_lem g = record { placed = o.placed; low = o.low; room = o.room; none = more }
    where
      more : HopelessTo τ w bi bc L k m x (b + 1)
      more p q u v l = on (ltb (nth p m).bank b) refl
        where
          on : (c : Bool) → ltb (nth p m).bank b ≡ c → ⊥
          on true c = o.none p q u v (ltb-true (nth p m).bank b c)
          on false c = g p q u v (omega (arith, ltb-false (nth p m).bank b c))

  -- as many of the pattern's records are to bank b
  same : (p : List Command) → Under m x p → (nth p m).bank ≡ b → tally (nth p m).bank p m ≡ tally b x m
  same p u e = ap (λ (c : ℕ). tally c p m) e ∙ tally_same b p x m (λ i l. sym (u i l).1)

  -- the bank has had all its commands
  pub order_full : bc < tally b x m → Ordering τ w bi bc L k m x (b + 1)
  order_full g = one_more_lem (λ p q u v e. omega (arith, same p u e, pattern_step q m (omega (arith, pattern_length q, o.low))))

  -- its next command, put there by the code, gives no hope
  module _ {step : ℕ} {kind : Kind} {z : List Command} (es : step ≡ tally b x m) (ek : kind ≡ kind_at w bc step) (ez : z ≡ set x m (command 0 kind b 0)) where
    pub order_is : z ≡ set x m (choice w bc m x 0 b)
    order_is = ez ∙ ap (λ (h : Kind). set x m (command 0 h b 0)) (ek ∙ ap (kind_at w bc) es)

    pub order_next : Hopeless τ w bi bc L k (m + 1) z → Ordering τ w bi bc L k m x (b + 1)
    order_next g = one_more_lem (λ p q u v e. subst (Hopeless τ w bi bc L k (m + 1)) order_is g p q (under p q u e) (capped p v))
      where
        under : (p : List Command) → IsPattern τ w bi bc L p → Under m x p → (nth p m).bank ≡ b → Under (m + 1) (set x m (choice w bc m x 0 b)) p
        under p q u e i l = on (eqb i m) refl
          where
            on : (c : Bool) → eqb i m ≡ c → Below (nth (set x m (choice w bc m x 0 b)) i) (nth p i)
            on true c =
                subst (λ (i : ℕ). Below (nth (set x m (choice w bc m x 0 b)) i) (nth p i)) (sym (eqb-true i m c))
                (subst (λ (g : Command). Below g (nth p m)) (sym (get_or-set_same x m (choice w bc m x 0 b) nil o.room))
                (ap (kind_at w bc) (sym (same p u e)) ∙ sym (pattern_kind q m (omega (arith, pattern_length q, o.low))), sym e, omega arith))
            on false c =
                subst (λ (g : Command). Below g (nth p i)) (sym (get_or-set_other x m i (choice w bc m x 0 b) nil (eqb-false i m c)))
                (u i (omega (arith, eqb-false i m c)))

        capped : (p : List Command) → Capped k x p → Capped k (set x m (choice w bc m x 0 b)) p
        capped p v i l =
            subst (λ (g : Command). (nth p i).cycle ≤ g.cycle) (sym (get_or-set_other x m i (choice w bc m x 0 b) nil (λ e. omega (arith, o.placed)))) (v i l)

  pub order_end : bi ≤ b → Hopeless τ w bi bc L k m x
  order_end l p q u v = o.none p q u v (omega (arith, pattern_bank q m (omega (arith, pattern_length q, o.low))))
