-- What the proofs cite: where the transactions before a place end, and what stands there.
-- Assumes nothing.
use Prim.Native.Nat.{ℕ, zero, suc, ◌+◌, ◌-◌, ◌*◌, ◌≤◌, ◌<◌}
use native.Mathlib.Omega.{arith}
use native.Mathlib.Nat.{mul-le-mul}
use mathlib.Core.Path.{◌≡◌, refl, sym, ap, ◌∙◌}
use mathlib.Core.Logic.{inl, inr}
use mathlib.Core.Bool.{Bool, true, false}
use mathlib.Core.Option.{none, some, map}
use mathlib.Core.List.{List, [], ◌∷◌, ◌++◌}
use lib.ListN.{length}
use Rattle.records.specs.Tests.{pick, every}
use Rattle.records.specs.declared.table.Table.{Table}
use Rattle.records.specs.declared.transaction.Transaction.{Transaction}
use Rattle.records.specs.Transaction.{later_at, later_from, fits}
use Rattle.records.proofs.Arrivals.{few_listed, each_listed}
use Rattle.rules.specs.Queues.{Due, act_count, act_queue, data_queue, head_after}
use Rattle.rules.proofs.laws.Ranges.{ranges}
use Rattle.rules.proofs.laws.TestLaws.{and_fst, and_snd}
use Rattle.rules.proofs.queues.Fit.{Fits, AllFit, is_fit, all_fit, plain_count}
use Rattle.rules.proofs.queues.Queue.{Place, data_count, place_of, find, act_due, data_due, sum, act_sum, act_head, data_head, act_length, data_length, at_own, find_end, sum_append}
use Rattle.heads.specs.declared.head.Head.{Head}
use Rattle.heads.specs.Queue.{Listed, queue_of, Placed, Found}

-- what a head stands for, where one does
abbrev pub here : Head → Due
here h = record { kind = h.kind; bank = h.bank; number = h.number; act = h.act; arrival = h.arrival }

-- the first k transactions
abbrev pub first : List ℕ → ℕ → List Transaction
first bs k = later_from bs k 0

from_split : (s : List ℕ) (a b at : ℕ) → later_from s (a + b) at ≡ later_from s a at ++ later_from s b (at + 8 * a)
unfolding later_from
from_split s zero b at = let e : 0 + b ≡ b = omega arith in let f : at + 8 * 0 ≡ at = omega arith in rw (e, f)
from_split s (suc a) b at =
    let e : suc a + b ≡ suc (a + b) = omega arith in
    let f : at + 8 + 8 * a ≡ at + 8 * suc a = omega arith in
    rw (e, ← f) (ap (λ (l : List Transaction). later_at s at ∷ l) (from_split s a b (at + 8)))

pub length_from : (s : List ℕ) (n at : ℕ) → length (later_from s n at) ≡ n
unfolding later_from
length_from s zero at = refl
length_from s (suc n) at = ap suc (length_from s n (at + 8))

one_from : (s : List ℕ) (n m at : ℕ) → n ≡ suc m → later_from s n at ≡ later_at s at ∷ later_from s m (at + 8)
unfolding later_from
one_from s n m at e = rw e

none_from : (s : List ℕ) (at : ℕ) → later_from s 0 at ≡ []
unfolding later_from
none_from s at = refl

-- the list, where it has a transaction k
pub whole : (s : List ℕ) (n k : ℕ) → k < n → first s n ≡ first s k ++ later_at s (8 * k) ∷ later_from s (n - (k + 1)) (8 * k + 8)
whole s n k h =
    let e : n ≡ k + (n - k) = omega arith in
    let f : 0 + 8 * k ≡ 8 * k = omega arith in
    ap (first s) e ∙ (from_split s k (n - k) 0 ∙ ap (λ (l : List Transaction). first s k ++ l) (ap (later_from s (n - k)) f ∙ one_from s (n - k) (n - (k + 1)) (8 * k) (omega arith)))

pub one_more_lem : (s : List ℕ) (k : ℕ) → first s (k + 1) ≡ first s k ++ (later_at s (8 * k) ∷ [])
one_more_lem s k =
    whole s (k + 1) k (omega arith)
    ∙ ap (λ (l : List Transaction). first s k ++ later_at s (8 * k) ∷ l) (ap (λ (m : ℕ). later_from s m (8 * k + 8)) (omega arith) ∙ none_from s (8 * k + 8))

pub sum_more : (f : Transaction → ℕ) (s : List ℕ) (k : ℕ) → sum f (first s (k + 1)) ≡ sum f (first s k) + f (later_at s (8 * k))
sum_more f s k =
    ap (sum f) (one_more_lem s k) ∙ (sum_append f (first s k) (later_at s (8 * k) ∷ []) ∙ omega arith)

pub sum_none : (f : Transaction → ℕ) (s : List ℕ) → sum f (first s 0) ≡ 0
sum_none f s = ap (sum f) (none_from s 0)

-- ---- what fits

every_front : (f : Transaction → Bool) (p q : List Transaction) → every f (p ++ q) ≡ true → every f p ≡ true
every_front f [] q e = refl
every_front f (x ∷ p) q e = rw (and_fst (f x) (every f (p ++ q)) e) (every_front f p q (and_snd (f x) (every f (p ++ q)) e))

every_back : (f : Transaction → Bool) (p q : List Transaction) → every f (p ++ q) ≡ true → every f q ≡ true
every_back f [] q e = e
every_back f (x ∷ p) q e = every_back f p q (and_snd (f x) (every f (p ++ q)) e)

pub count_most : (τ : Table) (x : Transaction) → Fits τ x → act_count x ≤ 16
count_most τ x (inl w) = rw w.refresh (omega arith)
count_most τ x (inr w) = omega (arith, plain_count τ x w, w.max_i)

pub acts_most : (τ : Table) (l : List Transaction) → AllFit τ l → sum act_count l ≤ 16 * length l
acts_most τ [] v = omega arith
acts_most τ (x ∷ l) v = omega (arith, count_most τ x v.0, acts_most τ l v.1)

pub size_most : (τ : Table) (x : Transaction) → Fits τ x → data_count x ≤ 256
size_most τ x (inl w) = mul-le-mul {n₁ = x.bi} {m₁ = x.bc} {n₂ = 16} {m₂ = 16} (omega (arith, w.no_i)) (omega (arith, w.no_c))
size_most τ x (inr w) = mul-le-mul {n₁ = x.bi} {m₁ = x.bc} {n₂ = 16} {m₂ = 16} w.max_i w.max_c

pub datas_most : (τ : Table) (l : List Transaction) → AllFit τ l → sum data_count l ≤ 256 * length l
datas_most τ [] v = omega arith
datas_most τ (x ∷ l) v = omega (arith, size_most τ x v.0, datas_most τ l v.1)

module _ {τ : Table} {bs : List ℕ} {n : ℕ} (h : Listed τ bs n) where
  each : every (fits τ) (first bs n) ≡ true
  each = each_listed τ (first bs n) h.fit

  pub few : n ≤ 256
  few = omega (arith, few_listed τ (first bs n) h.fit, length_from bs n 0)

  pub fits_at : (k : ℕ) → k < n → fits τ (later_at bs (8 * k)) ≡ true
  fits_at k p =
      let r = later_at bs (8 * k) ∷ later_from bs (n - (k + 1)) (8 * k + 8) in
      and_fst (fits τ (later_at bs (8 * k))) _ (every_back (fits τ) (first bs k) r (rw (whole bs n k p) at each))

  one : 1 ≤ τ.banks
  one = (ranges τ h.table).banks.least

  pub fit_at : (k : ℕ) → k < n → Fits τ (later_at bs (8 * k))
  fit_at k p = is_fit τ one (later_at bs (8 * k)) (fits_at k p)

  pub first_fits : (k : ℕ) → k ≤ n → AllFit τ (first bs k)
  first_fits k p =
      let e : n ≡ k + (n - k) = omega arith in
      all_fit τ one (first bs k) (every_front (fits τ) (first bs k) (later_from bs (n - k) (0 + 8 * k)) (rw (ap (first bs) e ∙ from_split bs k (n - k) 0) at each))

  pub acts_few : (k : ℕ) → k ≤ n → sum act_count (first bs k) ≤ 16 * k
  acts_few k p = omega (arith, acts_most τ (first bs k) (first_fits k p), length_from bs k 0)

  pub datas_few : (k : ℕ) → k ≤ n → sum data_count (first bs k) ≤ 256 * k
  datas_few k p = omega (arith, datas_most τ (first bs k) (first_fits k p), length_from bs k 0)

  -- no more than so many commands are due
  pub acts_due : length (act_queue τ (first bs n)) ≤ 4096
  acts_due = omega (arith, act_length τ (first bs n), acts_few n (omega arith), few)

  pub datas_due : length (data_queue τ (first bs n)) ≤ 65536
  datas_due = omega (arith, data_length τ (first bs n), datas_few n (omega arith), few)

-- ---- both queues alike

abbrev pub count_in : Bool → Transaction → ℕ
count_in true = data_count
count_in false = act_count

abbrev pub due_in : Bool → Table → Place → Due
due_in true τ = data_due τ
due_in false τ = act_due τ

pub size_is : (b : Bool) (x : Transaction) → pick b (x.bi * x.bc) (act_count x) ≡ count_in b x
size_is true x = refl
size_is false x = refl

pub queue_sum : (b : Bool) (τ : Table) (l : List Transaction) → length (queue_of b τ l) ≡ sum (count_in b) l
queue_sum true τ l = data_length τ l
queue_sum false τ l = act_length τ l

head_in : (b : Bool) (τ : Table) (l : List Transaction) (n : ℕ) → head_after (queue_of b τ l) n ≡ map (due_in b τ) (find (count_in b) l 0 0 n)
head_in true τ l n = data_head τ l n
head_in false τ l n = act_head τ l n

-- what stands in a queue m commands after the first of transaction k
pub head_here : (b : Bool) (τ : Table) (bs : List ℕ) (n k m : ℕ) → k < n → m < count_in b (later_at bs (8 * k))
    → head_after (queue_of b τ (first bs n)) (length (queue_of b τ (first bs k)) + m)
    ≡ some (due_in b τ (place_of (later_at bs (8 * k)) k (length (act_queue τ (first bs k))) m))
head_here b τ bs n k m h p =
    head_in b τ (first bs n) (length (queue_of b τ (first bs k)) + m) ∙ ap (map (due_in b τ)) there
  where
    x : Transaction
    x = later_at bs (8 * k)

    there : find (count_in b) (first bs n) 0 0 (length (queue_of b τ (first bs k)) + m) ≡ some (place_of x k (length (act_queue τ (first bs k))) m)
    there =
        rw (queue_sum b τ (first bs k), whole bs n k h, act_length τ (first bs k))
        (at_own (count_in b) x (later_from bs (n - (k + 1)) (8 * k + 8)) (first bs k) m p
        ∙ ap (λ (i : ℕ). some (place_of x i (act_sum (first bs k)) m)) (length_from bs k 0))

pub head_past : (b : Bool) (τ : Table) (l : List Transaction) (m : ℕ) → head_after (queue_of b τ l) (length (queue_of b τ l) + m) ≡ none
head_past b τ l m =
    head_in b τ l (length (queue_of b τ l) + m)
    ∙ ap (map (due_in b τ)) (find_end (count_in b) l 0 0 (length (queue_of b τ l) + m) (omega (arith, queue_sum b τ l)))

-- ---- the search

-- where it stands that began at transaction k₀: as many have left, and the commands of the ACT queue are counted on
pub record Sought (bs : List ℕ) (n : ℕ) (b : Bool) (k₀ off₀ a₀ k off a : ℕ) : Type 0 where
  pub within : k ≤ n
  pub left : sum (count_in b) (first bs k) + off ≡ sum (count_in b) (first bs k₀) + off₀
  pub before : a + sum act_count (first bs k₀) ≡ a₀ + sum act_count (first bs k)

module _ {bs : List ℕ} {n : ℕ} {b : Bool} {k₀ off₀ a₀ k off a : ℕ} (h : Sought bs n b k₀ off₀ a₀ k off a) where
  pub sought_on : k < n → (x : Transaction) → x ≡ later_at bs (8 * k) → (m w : ℕ) → m ≡ pick b (x.bi * x.bc) (act_count x) → w ≡ act_count x → m ≤ off
      → Sought bs n b k₀ off₀ a₀ (k + 1) (off - m) (a + w)
  sought_on p x e m w f g q =
      record {
        within = omega arith;
        left = omega (arith, h.left, f, size_is b x, ap (count_in b) e, sum_more (count_in b) bs k);
        before = omega (arith, h.before, g, ap act_count e, sum_more act_count bs k);
      }

  module _ {τ : Table} (placed : Placed τ bs n (record { number = k₀; offset = off₀; before = a₀ })) where
    pub before_is : a ≡ sum act_count (first bs k)
    before_is = omega (arith, h.before, placed.before, act_length τ (first bs k₀))

    pub sought : (k < n → off < pick b ((later_at bs (8 * k)).bi * (later_at bs (8 * k)).bc) (act_count (later_at bs (8 * k))))
        → Found τ bs n b (length (queue_of b τ (first bs k₀)) + off₀) (record { number = k; offset = off; before = a })
    sought i =
        record {
          placed = record { within = h.within; before = before_is ∙ sym (act_length τ (first bs k)) };
          left = omega (arith, h.left, queue_sum b τ (first bs k), queue_sum b τ (first bs k₀));
          inside = i;
        }

-- a count of what the first transactions put into a queue, with transaction k
pub count_on : (b : Bool) (bs : List ℕ) (k : ℕ) (x : Transaction) → x ≡ later_at bs (8 * k) → (a m : ℕ) → a ≡ sum (count_in b) (first bs k)
    → m ≡ pick b (x.bi * x.bc) (act_count x) → a + m ≡ sum (count_in b) (first bs (k + 1))
count_on b bs k x e a m p q = omega (arith, p, q, size_is b x, ap (count_in b) e, sum_more (count_in b) bs k)
