-- What stands at each place of the data queue, and the key by which the places are ordered: the transaction, the bank, whether it is the last there.
-- Assumes nothing.
use Prim.Native.Nat.{ℕ, zero, suc, ◌+◌, ◌-◌, ◌*◌, ◌/◌, ◌%◌, ◌≤◌, ◌<◌}
use native.Mathlib.Omega.{arith}
use native.Mathlib.Nat.{mod-lt, div-add-mod', mul-le-mul_right, div-lt_iff_lt-mul}
use mathlib.Core.Path.{◌≡◌, refl, sym, ap, ◌∙◌, subst}
use mathlib.Core.Logic.{◌⊎◌, inl, inr}
use mathlib.Core.Bool.{Bool, true, false}
use mathlib.Core.Option.{some, map-eq-some_iff}
use mathlib.Core.List.{List, [], ◌∷◌}
use lib.Dec.{ltb, eqb}
use lib.ListN.{length, get_elem?, take}
use borrow.Author.Tests.{ltb-true, ltb-false, ne_eqb}
use Rattle.records.specs.declared.table.Table.{Table}
use Rattle.records.specs.declared.transaction.Transaction.{Transaction}
use Rattle.records.specs.Tests.{pick}
use Rattle.records.specs.Transaction.{is_write}
use Rattle.rules.specs.Queues.{Due, bank_at, data_kind, act_count, data_queue}
use Rattle.rules.proofs.laws.TestLaws.{OnSome, on_pick_lem, on_map}
use Rattle.rules.proofs.laws.Numbers.{from?}
use Rattle.rules.proofs.queues.Queue.{Place, data_count, place_of, find, data_place, data_due, sum, act_sum, data_head}
use Rattle.rules.proofs.queues.Fit.{Fit, Fits, AllFit, data_fit}
use Rattle.serves.proofs.Tests.{same_some, none_some}
use Rattle.serves.proofs.Alike.{Alike}

pub fit_at : (τ : Table) (l : List Transaction) → AllFit τ l → (y : ℕ) (x : Transaction) → get_elem? l y ≡ some x → Fits τ x
fit_at τ [] v y x e = none_some x e
fit_at τ (w ∷ l) v zero x e = subst (Fits τ) (same_some (some w) w x refl e) v.0
fit_at τ (w ∷ l) v (suc y) x e = fit_at τ l v.1 y x e

pub below_length : (l : List Transaction) (y : ℕ) (x : Transaction) → get_elem? l y ≡ some x → y < length l
below_length [] y x e = none_some x e
below_length (w ∷ l) zero x e = omega arith
below_length (w ∷ l) (suc y) x e = omega (arith, below_length l y x e)

-- ---- a place of a queue: the transaction's number y, and the offset in it

pub record Spot (f : Transaction → ℕ) (l : List Transaction) (i a n : ℕ) (p : Place) : Type 0 where
  pub y : ℕ
  pub ahead : p.before ≡ a + act_sum (take y l)
  pub number : p.number ≡ i + y
  pub listed : get_elem? l y ≡ some p.transaction
  pub count : n ≡ sum f (take y l) + p.offset
  pub in' : p.offset < f p.transaction

pub spot : (f : Transaction → ℕ) (l : List Transaction) (i a n : ℕ) → OnSome (Spot f l i a n) (find f l i a n)
spot f [] i a n = tt
spot f (x ∷ l) i a n =
    on_pick_lem (Spot f (x ∷ l) i a n) (ltb n (f x)) (place_of x i a n) (find f l (suc i) (a + act_count x) (n - f x))
    (λ e. record { y = 0; ahead = omega arith; number = omega arith; listed = refl; count = omega arith; in' = ltb-true n (f x) e })
    (λ e. on_map {P = Spot f l (suc i) (a + act_count x) (n - f x)} {Q = Spot f (x ∷ l) i a n} (find f l (suc i) (a + act_count x) (n - f x))
    (λ p s. record {
      y = suc s.y;
      ahead = omega (arith, s.ahead);
      number = omega (arith, s.number);
      listed = s.listed;
      count = omega
          (arith, s.count, ltb-false n (f x) e);
      in' = s.in';
    })
    (spot f l (suc i) (a + act_count x) (n - f x)))

pub sum_up : (f : Transaction → ℕ) (l : List Transaction) (y z : ℕ) (x : Transaction) → get_elem? l y ≡ some x → y < z → sum f (take y l) + f x ≤ sum f (take z l)
sum_up f [] y z x e h = none_some x e
sum_up f (w ∷ l) y zero x e h = absurd (omega arith)
sum_up f (w ∷ l) zero (suc z) x e h = omega (arith, ap f (same_some (some w) w x refl e))
sum_up f (w ∷ l) (suc y) (suc z) x e h = omega (arith, sum_up f l y z x e (omega arith))

-- ---- the offset: the bank's index and whether it is the last there

abbrev pub last_one : ℕ → ℕ → Bool
last_one bc o = eqb (o % bc + 1) bc

module _ (bc o o' : ℕ) (one : 1 ≤ bc) (h : o < o') where
  split : o / bc * bc + o % bc ≡ o
  split = div-add-mod' o bc

  split' : o' / bc * bc + o' % bc ≡ o'
  split' = div-add-mod' o' bc

  -- a command further on is at a later bank, or the last at the same one, or alike
  offsets : (o / bc < o' / bc) ⊎ ((o / bc ≡ o' / bc) × (last_one bc o ≡ false))
  offsets = on (from? (o / bc) (o' / bc))
    where
      same_bank : o / bc ≡ o' / bc → (o / bc < o' / bc) ⊎ ((o / bc ≡ o' / bc) × (last_one bc o ≡ false))
      same_bank e = inr (e, ne_eqb (o % bc + 1) bc (λ z. omega (arith, z, split, split', h, ap (λ (y : ℕ). y * bc) e, mod-lt o' one)))

      on : (o / bc < o' / bc) ⊎ ((d : ℕ) × (o / bc ≡ o' / bc + d)) → (o / bc < o' / bc) ⊎ ((o / bc ≡ o' / bc) × (last_one bc o ≡ false))
      on (inl z) = inl z
      on (inr (zero, z)) = same_bank (omega (arith, z))
      on (inr (suc d, z)) =
          let big : (o' / bc + 1) * bc ≤ o / bc * bc = mul-le-mul_right bc (omega (arith, z)) in
          absurd (omega (arith, big, split, split', h, mod-lt o' one))

-- ---- keys

abbrev pub key_at : ℕ → ℕ → Bool → ℕ
key_at y j z = y * 32 + j * 2 + pick z 1 0

key_lt : (y j : ℕ) (z : Bool) (y' j' : ℕ) (z' : Bool) → j < 16 → y < y' → key_at y j z < key_at y' j' z'
key_lt y j true y' j' z' h e = omega arith
key_lt y j false y' j' z' h e = omega arith

key_same : (y j : ℕ) (z : Bool) (y' j' : ℕ) (z' : Bool) → y ≡ y' → j < j' → key_at y j z < key_at y' j' z'
key_same y j true y' j' z' e h = omega (arith, e)
key_same y j false y' j' z' e h = omega (arith, e)

module _ (τ : Table) (l : List Transaction) (v : AllFit τ l) where
  -- what a command of the data queue is
  pub record Entry (n : ℕ) (d : Due) : Type 0 where
    pub y : ℕ
    pub x : Transaction
    pub o : ℕ
    pub listed : get_elem? l y ≡ some x
    pub fit : Fit τ x
    pub count : n ≡ sum data_count (take y l) + o
    pub in' : o < data_count x
    pub index : o / x.bc < x.bi
    pub kind : d.kind ≡ data_kind (is_write x) (last_one x.bc o)
    pub bank : d.bank ≡ bank_at τ x (o / x.bc)
    pub number : d.number ≡ y
    pub act : d.act ≡ act_sum (take y l) + o / x.bc

  pub entry : (n : ℕ) (d : Due) → get_elem? (data_queue τ l) n ≡ some d → Entry n d
  entry n d e = on ((map-eq-some_iff (data_due τ) (data_place l n)).0 (sym (data_head τ l n) ∙ e))
    where
      of : (p : Place) → data_place l n ≡ some p → Spot data_count l 0 0 n p
      of p q = subst (OnSome (Spot data_count l 0 0 n)) q (spot data_count l 0 0 n)

      on : ((p : Place) × (data_place l n ≡ some p) × (data_due τ p ≡ d)) → Entry n d
      on (p, q, r) =
          let s = of p q in
          let ok = data_fit τ p.transaction (fit_at τ l v s.y p.transaction s.listed) p.offset s.in' in
          record {
            y = s.y;
            x = p.transaction;
            o = p.offset;
            listed = s.listed;
            fit = ok;
            count = s.count;
            in' = s.in';
            index = (div-lt_iff_lt-mul {k = p.transaction.bc} {x = p.offset} {y = p.transaction.bi} ok.one).1 s.in';
            kind = ap (λ (z : Due). z.kind) (sym r);
            bank = ap (λ (z : Due). z.bank) (sym r);
            number = ap (λ (z : Due). z.number) (sym r) ∙ (s.number ∙ omega arith);
            act = ap (λ (z : Due). z.act) (sym r) ∙ omega (arith, s.ahead);
          }

  abbrev pub entry_key : (n : ℕ) (d : Due) → Entry n d → ℕ
  entry_key n d e = key_at e.y (e.o / e.x.bc) (last_one e.x.bc e.o)

  -- of two places the later has the greater key, or the commands there are alike
  pub entries : (n n' : ℕ) (d d' : Due) (e : Entry n d) (e' : Entry n' d') → n < n'
      → (entry_key n d e < entry_key n' d' e') ⊎ Alike d.kind d.bank d.number d'.kind d'.bank d'.number
  entries n n' d d' e e' h = on (from? e.y e'.y)
    where
      R : Type 0
      R = (entry_key n d e < entry_key n' d' e') ⊎ Alike d.kind d.bank d.number d'.kind d'.bank d'.number

      small : e.o / e.x.bc < 16
      small = omega (arith, e.index, e.fit.max_i)

      same_y : e.y ≡ e'.y → R
      same_y ey = within (same_some (get_elem? l e.y) e.x e'.x e.listed (subst (λ (y : ℕ). get_elem? l y ≡ some e'.x) (sym ey) e'.listed))
        where
          within : e.x ≡ e'.x → R
          within ex = split_o (offsets e.x.bc e.o e'.o e.fit.one (omega (arith, e.count, e'.count, h, ap (λ (y : ℕ). sum data_count (take y l)) ey)))
            where
              bc : e.x.bc ≡ e'.x.bc
              bc = ap (λ (x : Transaction). x.bc) ex

              j' : e'.o / e.x.bc ≡ e'.o / e'.x.bc
              j' = ap (λ (c : ℕ). e'.o / c) bc

              last_or : (z' : Bool) → last_one e'.x.bc e'.o ≡ z' → e.o / e.x.bc ≡ e'.o / e.x.bc → last_one e.x.bc e.o ≡ false → R
              last_or true ez' ej ez =
                  inl (subst (λ (z : Bool). key_at e.y (e.o / e.x.bc) z < key_at e'.y (e'.o / e'.x.bc) (last_one e'.x.bc e'.o)) (sym ez)
                  (subst (λ (z : Bool). key_at e.y (e.o / e.x.bc) false < key_at e'.y (e'.o / e'.x.bc) z) (sym ez') (omega (arith, ey, ej, j'))))
              last_or false ez' ej ez =
                  inr (record {
                    kind =
                        e.kind ∙ (ap (data_kind (is_write e.x)) (ez ∙ sym ez')
                        ∙ (ap (λ (x : Transaction). data_kind (is_write x) (last_one e'.x.bc e'.o)) ex ∙ sym e'.kind));
                    bank = e.bank ∙ (ap (bank_at τ e.x) (ej ∙ j') ∙ (ap (λ (x : Transaction). bank_at τ x (e'.o / e'.x.bc)) ex ∙ sym e'.bank));
                    number = e.number ∙ (ey ∙ sym e'.number);
                  })

              split_o : (e.o / e.x.bc < e'.o / e.x.bc) ⊎ ((e.o / e.x.bc ≡ e'.o / e.x.bc) × (last_one e.x.bc e.o ≡ false)) → R
              split_o (inl z) =
                  inl (key_same e.y (e.o / e.x.bc) (last_one e.x.bc e.o) e'.y (e'.o / e'.x.bc) (last_one e'.x.bc e'.o) ey
                  (omega (arith, z, j')))
              split_o (inr (ej, ez)) = last_or (last_one e'.x.bc e'.o) refl ej ez

      on : (e.y < e'.y) ⊎ ((d : ℕ) × (e.y ≡ e'.y + d)) → R
      on (inl z) = inl (key_lt e.y (e.o / e.x.bc) (last_one e.x.bc e.o) e'.y (e'.o / e'.x.bc) (last_one e'.x.bc e'.o) small z)
      on (inr (zero, z)) = same_y (omega (arith, z))
      on (inr (suc m, z)) =
          absurd (omega (arith, sum_up data_count l e'.y e.y e'.x e'.listed (omega (arith, z)), e.count, e'.count, e'.in', h))
