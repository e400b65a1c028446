-- The data command after the head of the data queue: at the same bank, at the next, or of a later transaction.
-- Assumes nothing.
use Prim.Native.Nat.{ℕ, ◌+◌, ◌-◌, ◌*◌, ◌/◌, ◌%◌, ◌≤◌, ◌<◌}
use native.Mathlib.Omega.{arith}
use native.Mathlib.Nat.{div-mul-le_self, lt-div-mul-add, div-eq_of_lt-le, mod-eq-sub-div-mul, mul-le-mul, mul-le-mul_right, lt_of_mul-lt-mul_right}
use mathlib.Core.Path.{◌≡◌, refl, sym, ap, ◌∙◌}
use mathlib.Core.Logic.{⊎_elim}
use mathlib.Core.Bool.{Bool, true, false}
use mathlib.Core.Option.{none, some, none-ne-some, some-injective}
use mathlib.Core.List.{List}
use lib.Dec.{eqb}
use lib.ListN.{length}
use borrow.Author.Tests.{eq-eqb, ne_eqb, eqb-true, eqb-false}
use Rattle.records.specs.Tests.{pick}
use Rattle.records.specs.declared.table.Table.{Table}
use Rattle.records.specs.declared.transaction.Transaction.{Transaction}
use Rattle.records.specs.declared.command.Kind.{Kind}
use Rattle.records.specs.Transaction.{is_write, later_at}
use Rattle.rules.specs.Queues.{Due, bank_at, data_kind, data_queue, head_after}
use Rattle.rules.proofs.laws.Numbers.{from?}
use Rattle.rules.proofs.queues.Queue.{place_of, data_due}
use Rattle.rules.proofs.queues.Fit.{Fit, data_fit}
use Rattle.heads.specs.declared.head.Head.{Head}
use Rattle.heads.specs.declared.queue.Place.{Place}
use Rattle.heads.specs.declared.queue.Queue.{Queue}
use Rattle.heads.specs.Head.{head_of}
use Rattle.heads.specs.Queue.{Listed, left_at, Found}
use Rattle.heads.proofs.Laws.{here, first, fits_at, fit_at, head_here, head_past}
use Rattle.heads.proofs.Standing.{in_bank, asked, stands_here, by_itself, stands}
use Rattle.rules.specs.Kinds.{is_closing}
use Rattle.soonest.specs.Next.{Stood}

-- ---- numbers

eqb_iff : (a b x y : ℕ) → (a ≡ b → x ≡ y) → (x ≡ y → a ≡ b) → eqb a b ≡ eqb x y
eqb_iff a b x y f g = on (eqb a b) refl
  where
    on : (z : Bool) → eqb a b ≡ z → z ≡ eqb x y
    on true e = sym (eq-eqb x y (f (eqb-true a b e)))
    on false e = sym (ne_eqb x y (λ p. eqb-false a b e (g p)))

-- m is the k-th burst's, of c each, and m + 1 is it too, or is the first of the next
module _ (m c k : ℕ) (one : 0 < c) (e : k ≡ m / c) where
  pub low : k * c ≤ m
  low = omega (arith, div-mul-le_self m c, ap (λ (i : ℕ). i * c) e)

  pub high : m < (k + 1) * c
  high = omega (arith, lt-div-mul-add {a = m} {b = c} one, ap (λ (i : ℕ). i * c) e)

  rest : (x q r : ℕ) → q ≡ x / c → x ≡ q * c + r → x % c ≡ r
  rest x q r p w = mod-eq-sub-div-mul x c ∙ omega (arith, w, ap (λ (i : ℕ). i * c) p)

  module _ (h : m + 1 < (k + 1) * c) where
    pub same_div : (m + 1) / c ≡ k
    same_div = div-eq_of_lt-le c (omega (arith, low)) h

    pub same_last : eqb ((m + 1) % c + 1) c ≡ eqb (m + 1 + 1) ((k + 1) * c)
    same_last =
        ap (λ (r : ℕ). eqb (r + 1) c) (rest (m + 1) k (m + 1 - k * c) (sym same_div) (omega (arith, low)))
        ∙ eqb_iff (m + 1 - k * c + 1) c (m + 1 + 1) ((k + 1) * c) (λ z. omega (arith, low)) (λ z. omega (arith, low))

  module _ (h : (k + 1) * c ≤ m + 1) where
    at_end : m + 1 ≡ (k + 1) * c
    at_end = omega (arith, high)

    pub next_div : (m + 1) / c ≡ k + 1
    next_div = div-eq_of_lt-le c (omega (arith, at_end)) (omega (arith, at_end))

    pub next_last : eqb ((m + 1) % c + 1) c ≡ eqb c 1
    next_last =
        ap (λ (r : ℕ). eqb (r + 1) c) (rest (m + 1) (k + 1) 0 (sym next_div) (omega (arith, at_end)))
        ∙ eqb_iff (0 + 1) c c 1 (λ z. omega arith) (λ z. omega arith)

    -- the burst's last closes its bank
    pub was_last : eqb (m % c + 1) c ≡ true
    was_last = ap (λ (r : ℕ). eqb (r + 1) c) (rest m k (c - 1) e (omega (arith, at_end))) ∙ eq-eqb (c - 1 + 1) c (omega arith)

-- ---- the command after the head

module _ {τ : Table} {bs : List ℕ} {n : ℕ} (h : Listed τ bs n) (q : Queue) (st : Stood τ bs n (left_at τ bs true q.place) q) (is-there : q.head.there ≡ true) where
  abbrev p : Place
  p = q.place

  abbrev x : Transaction
  x = later_at bs (8 * p.number)

  abbrev on : Place
  on = record { number = p.number; offset = p.offset + 1; before = p.before }

  -- the place is inside a transaction
  pub in_list : p.number < n
  in_list = ⊎_elim (λ l. l) (λ l. absurd (out l)) (from? p.number n)
    where
      out : ((d : ℕ) × (p.number ≡ n + d)) → ⊥
      out l =
          let e : p.number ≡ n = omega (arith, l.1, st.found.placed.within) in
          none-ne-some (here q.head) (sym (ap (λ (b : Bool). pick b (some (here q.head)) none) (sym is-there) ∙ (st.stands.head
          ∙ (ap (λ (m : ℕ). head_after (data_queue τ (first bs n)) (length (data_queue τ (first bs m)) + p.offset)) e ∙ head_past true τ (first bs n) p.offset))))

  pub inside : p.offset < x.bi * x.bc
  inside = st.found.inside in_list

  pub fit : Fit τ x
  fit = data_fit τ x (fit_at h p.number in_list) p.offset inside

  -- and the head is what stands there
  pub head_is : here q.head ≡ data_due τ (place_of x p.number p.before p.offset)
  head_is =
      some-injective (here q.head) (data_due τ (place_of x p.number p.before p.offset)) (ap (λ (b : Bool). pick b (some (here q.head)) none) (sym is-there) ∙ (st.stands.head
      ∙ (head_here true τ bs n p.number p.offset in_list inside ∙ ap (λ (a : ℕ). some (data_due τ (place_of x p.number a p.offset))) (sym st.found.placed.before))))

  pub act_is : q.head.act ≡ p.before + p.offset / x.bc
  act_is = ap (λ (d : Due). d.act) head_is

  pub bank_place : p.offset / x.bc < x.bi
  bank_place = (in_bank τ h.table x p.offset (fits_at h p.number in_list) inside).1

  -- the numbers are few
  pub before_few : p.before ≤ 4096
  before_few = let z = asked h (by_itself st.found) x refl in_list true refl in omega (arith, z.3, z.4)

  pub offset_few : p.offset < 256
  offset_few = omega (arith, inside, mul-le-mul {n₁ = x.bi} {m₁ = x.bc} {n₂ = 16} {m₂ = 16} fit.max_i fit.max_c)

  -- inside the same transaction: what stands one further
  module _ (more : p.offset + 1 < x.bi * x.bc) (r : Head) (e : r ≡ head_of (data_due τ (place_of x p.number p.before (p.offset + 1)))) where
    pub further : Stood τ bs n (left_at τ bs true p + 1) (record { place = on; head = r })
    further = record { stands = stands found (stands_here h (by_itself found) x refl in_list r e); found = found }
      where
        found : Found τ bs n true (left_at τ bs true p + 1) on
        found =
            record {
              placed = record { within = st.found.placed.within; before = st.found.placed.before };
              left = omega arith;
              inside = λ l. more;
            }

  module _ (k : ℕ) (ek : k ≡ q.head.act - p.before) where
    k_is : k ≡ p.offset / x.bc
    k_is = omega (arith, ek, act_is)

    pub k_few : k < 16
    k_few = omega (arith, k_is, bank_place, fit.max_i)

    pub ends_few : (k + 1) * x.bc ≤ 256
    ends_few = mul-le-mul {n₁ = k + 1} {m₁ = x.bc} {n₂ = 16} {m₂ = 16} (omega (arith, k_few)) fit.max_c

    -- to the same bank
    module _ (low_end : p.offset + 1 < (k + 1) * x.bc) where
      same_in : p.offset + 1 < x.bi * x.bc
      same_in = omega (arith, low_end, mul-le-mul_right {m = k + 1} {n = x.bi} x.bc (omega (arith, k_is, bank_place)))

      pub to_same : (w : Kind) → w ≡ data_kind (is_write x) (eqb (p.offset + 1 + 1) ((k + 1) * x.bc))
          → Stood τ bs n (left_at τ bs true p + 1)
          (record { place = on; head = record { there = true; kind = w; bank = q.head.bank; number = q.head.number; act = q.head.act; arrival = q.head.arrival } })
      to_same w e = further same_in _ (is q.head.bank q.head.number q.head.act q.head.arrival w (ap (λ (d : Due). d.bank) head_is) (ap (λ (d : Due). d.number) head_is) act_is (ap (λ (d : Due). d.arrival) head_is) e)
        where
          is : (b i a v : ℕ) (w : Kind) → b ≡ bank_at τ x (p.offset / x.bc) → i ≡ p.number → a ≡ p.before + p.offset / x.bc → v ≡ x.arrival
              → w ≡ data_kind (is_write x) (eqb (p.offset + 1 + 1) ((k + 1) * x.bc))
              → record { there = true; kind = w; bank = b; number = i; act = a; arrival = v } ≡ head_of (data_due τ (place_of x p.number p.before (p.offset + 1)))
          is b i a v w eb ei ea ev ew =
              rw (eb, ei, ea, ev, ew, same_div p.offset x.bc k fit.one k_is low_end, same_last p.offset x.bc k fit.one k_is low_end, k_is)

    -- to the next
    module _ (over-end : (k + 1) * x.bc ≤ p.offset + 1) (more : p.offset + 1 < x.bi * x.bc) where
      pub next_in_lem : k + 1 < x.bi
      next_in_lem = lt_of_mul-lt-mul_right x.bc {m = k + 1} {n = x.bi} (omega (arith, over-end, more))

      pub to_next : (w : Kind) (b : ℕ) → w ≡ data_kind (is_write x) (eqb x.bc 1) → b ≡ bank_at τ x (k + 1)
          → Stood τ bs n (left_at τ bs true p + 1)
          (record { place = on; head = record { there = true; kind = w; bank = b; number = q.head.number; act = q.head.act + 1; arrival = q.head.arrival } })
      to_next w b ew eb = further more _ (is q.head.number q.head.act q.head.arrival (ap (λ (d : Due). d.number) head_is) act_is (ap (λ (d : Due). d.arrival) head_is))
        where
          is : (i a v : ℕ) → i ≡ p.number → a ≡ p.before + p.offset / x.bc → v ≡ x.arrival
              → record { there = true; kind = w; bank = b; number = i; act = a + 1; arrival = v } ≡ head_of (data_due τ (place_of x p.number p.before (p.offset + 1)))
          is i a v ei ea ev =
              let z : p.before + p.offset / x.bc + 1 ≡ p.before + (k + 1) = omega (arith, k_is) in
              rw (eb, ei, ea, ev, ew, next_div p.offset x.bc k fit.one k_is over-end, next_last p.offset x.bc k fit.one k_is over-end, z)

    -- the last to its bank closes it
    pub closes_last : (k + 1) * x.bc ≤ p.offset + 1 → is_closing q.head.kind ≡ true
    closes_last l = ap is_closing (ap (λ (d : Due). d.kind) head_is) ∙ (ap (λ (b : Bool). is_closing (data_kind (is_write x) b)) (was_last p.offset x.bc k fit.one k_is l) ∙ closing (is_write x))
      where
        closing : (w : Bool) → is_closing (data_kind w true) ≡ true
        closing true = refl
        closing false = refl
