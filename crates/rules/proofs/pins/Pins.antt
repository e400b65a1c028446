-- No two bursts meet on the data pins, and two cycles are free between a read's burst and a later write's.
-- Assumes nothing.
use Prim.Native.Nat.{ℕ, zero, suc, ◌+◌, ◌≤◌, ◌<◌}
use native.Mathlib.Omega.{arith}
use mathlib.Core.Path.{◌≡◌, refl, sym, ◌∙◌, subst}
use mathlib.Core.Logic.{⊎_elim}
use mathlib.Core.Bool.{Bool, true, false, ◌||◌}
use mathlib.Core.Option.{Option, none, some}
use mathlib.Core.List.{List, [], ◌∷◌}
use lib.ListN.{get_elem?}
use Rattle.records.specs.Table.{Accepted}
use Rattle.records.specs.declared.table.Table.{Table}
use Rattle.records.specs.declared.command.Command.{Command}
use Rattle.rules.specs.Kinds.{is_rd, is_wr, is_data}
use Rattle.rules.specs.Verdict.{Legal}
use Rattle.rules.specs.Pattern.{end_to_end}
use Rattle.rules.specs.Pins.{holds_from, holds_until, holds_at, busy, Free, ShareACycle, TwoFreeBetween, PinsKept, PinsShown}
use Rattle.rules.proofs.laws.TestLaws.{true_false}
use Rattle.rules.proofs.laws.Numbers.{same?, from?}
use Rattle.rules.proofs.laws.Ranges.{ranges}
use Rattle.rules.proofs.shown.Promises.{kept as of-built}
use Rattle.rules.proofs.shown.Demands.{demand_2}
use Rattle.rules.proofs.pins.Bursts.{InOrder, TurnOrder, moves, begun, on, read_data, write_data, in_order, turn_order}

-- where no record holds them the cycle is free
none_free : (τ : Table) (rs : List Command) (t : ℕ) → ((i : ℕ) (r : Command) → get_elem? rs i ≡ some r → holds_at τ r t ≡ true → ⊥) → Free τ rs t
none_free τ [] t f = refl
none_free τ (r ∷ rs) t f = at (holds_at τ r t) refl (none_free τ rs t (λ i x e. f (suc i) x e))
  where
    at : (b : Bool) → holds_at τ r t ≡ b → Free τ rs t → (b || busy τ rs t) ≡ false
    at true e ih = absurd (f 0 r refl e)
    at false e ih = ih

-- ---- a schedule whose bursts stand in order

module _ (τ : Table) (rs : List Command) (order : InOrder τ rs) (turns : TurnOrder τ rs) where
  one_record : (i : ℕ) (x y : Command) → get_elem? rs i ≡ some x → get_elem? rs i ≡ some y → x ≡ y
  one_record i x y ex ey = let p : some x ≡ some y = sym ex ∙ ey in cc

  alone_at : (i j : ℕ) (x y : Command) → i < j → get_elem? rs i ≡ some x → get_elem? rs j ≡ some y → ShareACycle τ x y → ⊥
  alone_at i j x y l ex ey (t, hx, hy) = absurd (omega (arith, order i j x y l ex ey (moves τ x t hx) (moves τ y t hy), on τ x t hx, begun τ y t hy))

  -- between a read and a write with no data command between them no burst is on
  module _ (m c : ℕ) (v z : Command) (l : m < c) (ev : get_elem? rs m ≡ some v) (ez : get_elem? rs c ≡ some z) (r : is_rd v.kind ≡ true) (w : is_wr z.kind ≡ true)
      (no_data : (p : ℕ) (u : Command) → m < p → p < c → get_elem? rs p ≡ some u → is_data u.kind ≡ false) where
    unheld : (t : ℕ) → holds_until τ v ≤ t → t < holds_until τ v + 2 → (p : ℕ) (u : Command) → get_elem? rs p ≡ some u → holds_at τ u t ≡ true → ⊥
    unheld t a b p u eu hu = ⊎_elim before (λ k. ⊎_elim at_m (λ k'. after_m (omega (arith, k.1, k'))) (same? p m)) (from? p m)
      where
        turn : holds_until τ v + 2 ≤ holds_from τ z
        turn = turns m c v z l ev ez r w

        before : p < m → ⊥
        before k = absurd (omega (arith, order p m u v k eu ev (moves τ u t hu) (read_data v.kind r), on τ u t hu))

        at_m : p ≡ m → ⊥
        at_m k =
            let same : u ≡ v = one_record m u v (subst (λ (n : ℕ). get_elem? rs n ≡ some u) k eu) ev in
            absurd (omega (arith, a, subst (λ (q : Command). t < holds_until τ q) same (on τ u t hu)))

        after_m : m < p → ⊥
        after_m k = ⊎_elim (λ k'. true_false (is_data u.kind) (moves τ u t hu) (no_data p u k k' eu)) (λ k'. ⊎_elim at_c (λ k''. after_c (omega (arith, k'.1, k''))) (same? p c)) (from? p c)
          where
            at_c : p ≡ c → ⊥
            at_c k' =
                let same : u ≡ z = one_record c u z (subst (λ (n : ℕ). get_elem? rs n ≡ some u) k' eu) ez in
                absurd (omega (arith, b, turn, subst (λ (q : Command). holds_from τ q ≤ t) same (begun τ u t hu)))

            after_c : c < p → ⊥
            after_c k' = absurd (omega (arith, b, turn, order c p z u k' ez eu (write_data z.kind w) (moves τ u t hu), begun τ u t hu))

    free_from_lem : (t : ℕ) → holds_until τ v ≤ t → t < holds_until τ v + 2 → Free τ rs t
    free_from_lem t a b = none_free τ rs t (unheld t a b)

  -- the last read before the write that comes first after it
  module _ (j : ℕ) (x y : Command) (ey : get_elem? rs j ≡ some y) (wy : is_wr y.kind ≡ true) where
    abbrev Turn : Type 0
    Turn = TwoFreeBetween τ rs x y

    -- m is the place of a read v, and no data command stands between it and c
    pub record Seen (m c : ℕ) (v : Command) : Type 0 where
      pub lt : m < c
      pub at : get_elem? rs m ≡ some v
      pub reads : is_rd v.kind ≡ true
      pub past : holds_until τ x ≤ holds_until τ v
      pub none : (p : ℕ) (u : Command) → m < p → p < c → get_elem? rs p ≡ some u → is_data u.kind ≡ false

    -- a write at c
    found : (m c : ℕ) (v z : Command) → Seen m c v → get_elem? rs c ≡ some z → is_wr z.kind ≡ true → holds_from τ z ≤ holds_from τ y → Turn
    found m c v z q ez w l =
        let turn = turns m c v z q.lt q.at ez q.reads w in (
          holds_until τ v,
          q.past,
          omega (arith, turn, l),
          free_from_lem m c v z q.lt q.at ez q.reads w q.none (holds_until τ v) (omega arith) (omega arith),
          free_from_lem m c v z q.lt q.at ez q.reads w q.none (holds_until τ v + 1) (omega arith) (omega arith),
        )

    further : (m c : ℕ) (v : Command) → Seen m c v → ((u : Command) → get_elem? rs c ≡ some u → is_data u.kind ≡ false) → Seen m (c + 1) v
    further m c v q f =
        record {
          lt = omega (arith, q.lt);
          at = q.at;
          reads = q.reads;
          past = q.past;
          none = λ p u a b e. ⊎_elim (λ k. f u (subst (λ (n : ℕ). get_elem? rs n ≡ some u) k e)) (λ k. q.none p u a (omega (arith, k)) e) (same? p c);
        }

    walk : (n c : ℕ) → c + n ≡ j → (m : ℕ) (v : Command) → Seen m c v → Turn
    walk zero c e m v q = found m c v y q (subst (λ (n : ℕ). get_elem? rs n ≡ some y) (omega arith) ey) wy (omega arith)
    walk (suc n) c e m v q = on_at (get_elem? rs c) refl (λ m' v' q'. walk n (c + 1) (omega arith) m' v' q')
      where
        on_at : (o : Option Command) → get_elem? rs c ≡ o → ((m' : ℕ) (v' : Command) → Seen m' (c + 1) v' → Turn) → Turn
        on_at none ec ih = ih m v (further m c v q (λ u eu. let k : none ≡ some u = sym ec ∙ eu in let z : ◌≡◌ {A = ℕ} 0 1 = cc in absurd (omega arith)))
        on_at (some z) ec ih = on_kind (is_rd z.kind) refl (is_wr z.kind) refl
          where
            on_kind : (a : Bool) → is_rd z.kind ≡ a → (b : Bool) → is_wr z.kind ≡ b → Turn
            on_kind true ea b eb =
                ih c z (record {
                  lt = omega arith;
                  at = ec;
                  reads = ea;
                  past = omega (arith, q.past, order m c v z q.lt q.at ec (read_data v.kind q.reads) (read_data z.kind ea));
                  none = λ p u k k' eu. absurd (omega arith);
                })
            on_kind false ea true eb =
                found m c v z q ec eb (omega (arith, order c j z y (omega arith) ec ey (write_data z.kind eb) (write_data y.kind wy)))
            on_kind false ea false eb =
                ih m v (further m c v q (λ u eu. let same : z ≡ u = one_record c z u ec eu in subst (λ (k : Command). is_data k.kind ≡ false) same (rw (ea, eb))))

  kept : PinsKept τ rs
  kept =
      record {
        alone = alone_at;
        order = order;
        turn = λ i j x y l ex ey r w. walk j x y ey w (gap i j l).0 (i + 1) (omega (arith, (gap i j l).1)) i x
            (record { lt = omega arith; at = ex; reads = r; past = omega arith; none = λ p u k k' eu. absurd (omega arith) });
      }
    where
      gap : (i j : ℕ) → i < j → (n : ℕ) × (j ≡ i + 1 + n)
      gap i j l = ⊎_elim (λ k. absurd (omega arith)) (λ k. k) (from? j (i + 1))

pub legal_pins : (τ : Table) → Accepted τ → (rs : List Command) → Legal τ rs → PinsKept τ rs
legal_pins τ acc rs k =
    let fine = ((demand_2.accepts τ rs).0 k).0 in
    kept τ rs (in_order τ (ranges τ acc) rs fine) (turn_order τ (ranges τ acc) rs fine)

pub pins_shown : PinsShown
pins_shown =
    record {
      schedules = legal_pins;
      patterns = λ τ acc L p e n. legal_pins τ acc (end_to_end L p n 0) ((demand_2.pattern τ L p).0 e n);
      built = λ τ acc l fit rs b. legal_pins τ acc rs (of-built τ acc l fit rs b).passes;
    }
