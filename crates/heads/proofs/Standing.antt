-- What the proofs of the heads cite: what stands at a place that was found.
-- Assumes nothing.
use Prim.Native.Nat.{ℕ, ◌+◌, ◌-◌, ◌*◌, ◌/◌, ◌≤◌, ◌<◌}
use native.Mathlib.Omega.{arith}
use native.Mathlib.Nat.{div-lt_iff_lt-mul, mod-eq_of_lt}
use mathlib.Core.Path.{◌≡◌, refl, sym, ap, ◌∙◌, subst}
use mathlib.Core.Logic.{⊎_elim}
use mathlib.Core.Bool.{Bool, true, false}
use mathlib.Core.Option.{some}
use mathlib.Core.List.{List}
use lib.ListN.{length}
use borrow.Author.Tests.{ne_eqb}
use Rattle.records.specs.Tests.{pick}
use Rattle.records.specs.declared.table.Table.{Table}
use Rattle.records.specs.declared.transaction.Transaction.{Transaction}
use Rattle.records.specs.Table.{Accepted}
use Rattle.records.specs.Transaction.{later_at, fits}
use Rattle.rules.specs.Queues.{bank_at, act_count, act_queue, head_after}
use Rattle.rules.proofs.laws.Numbers.{round}
use Rattle.rules.proofs.laws.Ranges.{ranges}
use Rattle.rules.proofs.queues.Fit.{Fit, Inside, is_fit, data_fit, bank_fit, act_bank_lem, data_bank}
use Rattle.rules.proofs.queues.Queue.{place_of, act_length}
use Rattle.rules.proofs.queues.Queue as Q
use Rattle.heads.specs.declared.head.Head.{Head}
use Rattle.heads.specs.declared.queue.Place.{Place}
use Rattle.heads.specs.Head.{no_head, head_of, due_of}
use Rattle.heads.specs.declared.queue.Queue.{Queue}
use Rattle.heads.specs.Queue.{Listed, queue_of, left_at, Placed, Found, Stands}
use Rattle.heads.proofs.Laws.{first, few, fits_at, fit_at, acts_few, count_most, count_in, due_in, size_is, queue_sum, sum_none, head_here, head_past}

-- the bank of a data command is one of its transaction's
pub in_bank : (τ : Table) → Accepted τ → (x : Transaction) (m : ℕ) → fits τ x ≡ true → m < x.bi * x.bc → (0 < x.bc) × (m / x.bc < x.bi)
in_bank τ acc x m e h =
    let v = data_fit τ x (is_fit τ (ranges τ acc).banks.least x e) m h in
    (v.one, (div-lt_iff_lt-mul {k = x.bc} {x = m} {y = x.bi} v.one).1 h)

-- a transaction puts few commands into the ACT queue, as many as it has banks if it is no refresh
pub few_acts : (τ : Table) → Accepted τ → (x : Transaction) → fits τ x ≡ true → act_count x ≤ 16
few_acts τ acc x e = count_most τ x (is_fit τ (ranges τ acc).banks.least x e)

pub plain_bank : (x : Transaction) (k : ℕ) → (x.kind ≡ 2 → ⊥) → k < act_count x → k < x.bi
plain_bank x k n h = rw (ne_eqb x.kind 2 n) at h

due_bank : (b : Bool) (τ : Table) (p : Q.Place) → Inside τ (count_in b) p → (due_in b τ p).bank < τ.banks
due_bank true τ p k = data_bank τ p k
due_bank false τ p k = act_bank_lem τ p k

module _ {τ : Table} {bs : List ℕ} {n : ℕ} (h : Listed τ bs n) {b : Bool} {p : Place} (f : Found τ bs n b (left_at τ bs b p) p) where
  -- what the functions that make a head ask for
  pub asked : (x : Transaction) → x ≡ later_at bs (8 * p.number) → p.number < n → (b' : Bool) → b ≡ b'
      → Accepted τ × (fits τ x ≡ true) × (p.offset < pick b' (x.bi * x.bc) (act_count x)) × (p.number < 256) × (p.before ≤ 16 * p.number)
  asked x e k b' d = (
    h.table,
    rw e (fits_at h p.number k),
    rw (e, ← d) (f.inside k),
    omega (arith, few h),
    omega (arith, f.placed.before, act_length τ (first bs p.number), acts_few h p.number f.placed.within),
  )

  -- and what they make
  pub stands_here : (x : Transaction) → x ≡ later_at bs (8 * p.number) → p.number < n → (r : Head) → r ≡ head_of (due_in b τ (place_of x p.number p.before p.offset))
      → (due_of r ≡ head_after (queue_of b τ (first bs n)) (left_at τ bs b p)) × (r.bank < 16)
  stands_here x e k r q = (
    ap due_of q ∙ sym (head_here b τ bs n p.number p.offset k inside ∙ same),
    omega (arith, ap (λ (y : Head). y.bank) q, due_bank b τ (place_of x p.number p.before p.offset) (record { fit = rw e (fit_at h p.number k); inside = rw e inside }), (ranges τ h.table).banks.most),
  )
    where
      inside : p.offset < count_in b (later_at bs (8 * p.number))
      inside = subst (λ (m : ℕ). p.offset < m) (size_is b (later_at bs (8 * p.number))) (f.inside k)

      same : some (due_in b τ (place_of (later_at bs (8 * p.number)) p.number (length (act_queue τ (first bs p.number))) p.offset))
          ≡ some (due_in b τ (place_of x p.number p.before p.offset))
      same = rw (← f.placed.before, ← e)

  pub nothing_here : n ≤ p.number → (r : Head) → r ≡ no_head → (due_of r ≡ head_after (queue_of b τ (first bs n)) (left_at τ bs b p)) × (r.bank < 16)
  nothing_here k r q =
      let e : p.number ≡ n = omega (arith, f.placed.within) in (
        ap due_of q ∙ sym (ap (λ (m : ℕ). head_after (queue_of b τ (first bs n)) (length (queue_of b τ (first bs m)) + p.offset)) e ∙ head_past b τ (first bs n) p.offset),
        omega (arith, ap (λ (y : Head). y.bank) q),
      )

module _ {τ : Table} {bs : List ℕ} {n : ℕ} {b : Bool} where
  pub by_itself : {count : ℕ} {p : Place} → Found τ bs n b count p → Found τ bs n b (left_at τ bs b p) p
  by_itself f = record { placed = f.placed; left = refl; inside = f.inside }

  pub stands : {count : ℕ} {p : Place} {r : Head} → Found τ bs n b count p
      → (due_of r ≡ head_after (queue_of b τ (first bs n)) (left_at τ bs b p)) × (r.bank < 16) → Stands τ bs n b count (record { place = p; head = r })
  stands f d =
      record {
        placed = f.placed;
        left = f.left;
        head = d.0 ∙ ap (head_after (queue_of b τ (first bs n))) f.left;
        bank = d.1;
      }

  -- as many have left, counted otherwise
  pub recount : {m k : ℕ} {q : Queue} → m ≡ k → Stands τ bs n b m q → Stands τ bs n b k q
  recount {q = q} e s = subst (λ (i : ℕ). Stands τ bs n b i q) e s

-- at the start of a queue
pub start_placed : (τ : Table) (bs : List ℕ) (n count : ℕ) → Placed τ bs n (record { number = 0; offset = count; before = 0 })
start_placed τ bs n count = record { within = omega arith; before = omega (arith, act_length τ (first bs 0), sum_none act_count bs) }

pub start_left : (τ : Table) (bs : List ℕ) (b : Bool) (count : ℕ) → length (queue_of b τ (first bs 0)) + count ≡ count
start_left τ bs b count = omega (arith, queue_sum b τ (first bs 0), sum_none (count_in b) bs)

-- a transaction with a bank is a read or a write; the bank that comes k-th, by a subtraction at most
pub fit_bank : (τ : Table) → Accepted τ → (x : Transaction) (k : ℕ) → fits τ x ≡ true → k < x.bi → Fit τ x
fit_bank τ acc x k e low = bank_fit τ x (is_fit τ (ranges τ acc).banks.least x e) k low

module _ (τ : Table) (x : Transaction) (k : ℕ) (fit : Fit τ x) (low : k < x.bi) where
  pub bank_on_lem : x.start + k < τ.banks → x.start + k ≡ bank_at τ x k
  bank_on_lem l = sym (mod-eq_of_lt l)

  pub bank_round : τ.banks ≤ x.start + k → x.start + k - τ.banks ≡ bank_at τ x k
  bank_round l = ⊎_elim (λ y. absurd (omega (arith, y.0))) (λ y. omega (arith, y)) (round τ.banks (x.start + k) (omega (arith, fit.first, fit.room)))
