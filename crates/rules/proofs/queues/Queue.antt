-- Where a transaction's commands stand in the two queues.
-- Assumes nothing.
use Prim.Native.Nat.{ℕ, zero, suc, ◌+◌, ◌-◌, ◌*◌, ◌/◌, ◌%◌, ◌≤◌, ◌<◌}
use native.Mathlib.Omega.{arith}
use native.Mathlib.Nat.{zero-add, div-eq_of_lt, mod-eq_of_lt, mod-eq-sub-mod, div-eq-sub-div, mod-lt}
use mathlib.Core.Path.{◌≡◌, refl, ap, ◌∙◌}
use mathlib.Core.Logic.{⊎_elim}
use mathlib.Core.Bool.{Bool, true, false, not}
use mathlib.Core.Option.{Option, none, some, map}
use mathlib.Core.List.{List, [], ◌∷◌, ◌++◌}
use lib.Dec.{ltb, eqb}
use lib.ListN.{length, get_elem?, length-append}
use borrow.Author.Tests.{ltb-true, ltb-false, lt-ltb, le-ltb}
use Rattle.records.specs.declared.table.Table.{Table}
use Rattle.records.specs.declared.transaction.Transaction.{Transaction}
use Rattle.records.specs.Tests.{pick}
use Rattle.records.specs.Transaction.{is_write, is_refresh}
use Rattle.rules.specs.Queues.{Due, bank_at, data_kind, numbered, joined, act_count, act_kind, act_bank_at, acts_of, bursts_of, datas_of, queue_from, act_queue, data_queue, head_after}
use Rattle.rules.proofs.laws.TestLaws.{OnSome, on_pick_lem, on_map}
use Rattle.rules.proofs.laws.Numbers.{from?}

-- a place in a queue: the transaction, its number, the place in it, and the number of commands before it in the ACT queue
pub record Place : Type 0 where
  pub number : ℕ
  pub transaction : Transaction
  pub offset : ℕ
  pub before : ℕ

-- how many commands a transaction puts into the data queue
abbrev pub data_count : Transaction → ℕ
data_count x = x.bi * x.bc

abbrev pub place_of : Transaction → ℕ → ℕ → ℕ → Place
place_of x i a n = record { number = i; transaction = x; offset = n; before = a }

-- the n-th place of a queue into which each transaction puts f commands, from transaction i on, before which a commands stand in the ACT queue
abbrev pub find : (Transaction → ℕ) → List Transaction → ℕ → ℕ → ℕ → Option Place
find f [] i a n = none
find f (x ∷ xs) i a n = pick (ltb n (f x)) (some (place_of x i a n)) (find f xs (suc i) (a + act_count x) (n - f x))

abbrev pub act_place : List Transaction → ℕ → Option Place
act_place l n = find act_count l 0 0 n

abbrev pub data_place : List Transaction → ℕ → Option Place
data_place l n = find data_count l 0 0 n

-- what stands there
abbrev pub act_due : Table → Place → Due
act_due τ p =
    record { kind = act_kind p.transaction; bank = act_bank_at τ p.transaction p.offset; number = p.number; act = p.before + p.offset; arrival = p.transaction.arrival }

abbrev pub data_due : Table → Place → Due
data_due τ p =
    record {
      kind = data_kind (is_write p.transaction) (eqb (p.offset % p.transaction.bc + 1) p.transaction.bc);
      bank = bank_at τ p.transaction (p.offset / p.transaction.bc);
      number = p.number;
      act = p.before + p.offset / p.transaction.bc;
      arrival = p.transaction.arrival;
    }

-- the bank of the n-th command of the ACT queue, and that it is an ACT
abbrev pub bank_of_place : Table → Option Place → ℕ
bank_of_place τ none = 0
bank_of_place τ (some p) = (act_due τ p).bank

abbrev pub act_bank : Table → List Transaction → ℕ → ℕ
act_bank τ l n = bank_of_place τ (act_place l n)

abbrev pub act_of_place : Option Place → Bool
act_of_place none = false
act_of_place (some p) = not (is_refresh p.transaction)

abbrev pub is_act_at : List Transaction → ℕ → Bool
is_act_at l n = act_of_place (act_place l n)

-- what the transactions put into a queue together
abbrev pub sum : (Transaction → ℕ) → List Transaction → ℕ
sum f [] = 0
sum f (x ∷ xs) = f x + sum f xs

abbrev pub act_sum : List Transaction → ℕ
act_sum l = sum act_count l

abbrev pub data_sum : List Transaction → ℕ
data_sum l = sum data_count l

-- lists by their places
get_left : (a b : List Due) (n : ℕ) → n < length a → get_elem? (a ++ b) n ≡ get_elem? a n
get_left [] b n h = absurd (omega arith)
get_left (x ∷ a) b zero h = refl
get_left (x ∷ a) b (suc n) h = get_left a b n (omega arith)

get_right : (a b : List Due) (n : ℕ) → length a ≤ n → get_elem? (a ++ b) n ≡ get_elem? b (n - length a)
get_right [] b n h = let e : n - 0 ≡ n = omega arith in rw e
get_right (x ∷ a) b zero h = absurd (omega arith)
get_right (x ∷ a) b (suc n) h = let e : suc n - suc (length a) ≡ n - length a = omega arith in rw e (get_right a b n (omega arith))

numbered_length : (f : ℕ → Due) (n k : ℕ) → length (numbered f n k) ≡ n
numbered_length f zero k = refl
numbered_length f (suc n) k = ap suc (numbered_length f n (suc k))

numbered_at : (f : ℕ → Due) (n k i : ℕ) → i < n → get_elem? (numbered f n k) i ≡ some (f (k + i))
numbered_at f zero k i h = absurd (omega arith)
numbered_at f (suc n) k zero h = let e : k + 0 ≡ k = omega arith in rw e
numbered_at f (suc n) k (suc i) h = let e : k + suc i ≡ suc k + i = omega arith in rw e (numbered_at f n (suc k) i (omega arith))

-- n lists of c commands each, end to end
module _ (g : ℕ → List Due) (c : ℕ) (each : (k : ℕ) → length (g k) ≡ c) where
  joined_length : (n k : ℕ) → length (joined (numbered g n k)) ≡ n * c
  joined_length zero k = omega arith
  joined_length (suc n) k = length-append (g k) (joined (numbered g n (suc k))) ∙ omega (arith, each k, joined_length n (suc k))

  joined_at : (n k m : ℕ) → m < n * c → get_elem? (joined (numbered g n k)) m ≡ get_elem? (g (k + m / c)) (m % c)
  joined_at zero k m h = absurd (omega arith)
  joined_at (suc n) k m h = ⊎_elim
      (λ z. let d : m / c ≡ 0 = div-eq_of_lt z in let e : m % c ≡ m = mod-eq_of_lt z in let z' : k + 0 ≡ k = omega arith in
      rw (d, e, z') (get_left (g k) (joined (numbered g n (suc k))) m (omega (arith, each k))))
      (λ z. further z (joined_at n (suc k) (m - c) (omega (arith, z.1)))) (from? m c)
    where
      further : ((d : ℕ) × (m ≡ c + d)) → get_elem? (joined (numbered g n (suc k))) (m - c) ≡ get_elem? (g (suc k + (m - c) / c)) ((m - c) % c)
          → get_elem? (joined (numbered g (suc n) k)) m ≡ get_elem? (g (k + m / c)) (m % c)
      further z ih =
          let c1 : 1 ≤ c = some_c c (omega arith) in
          let d : m / c ≡ (m - c) / c + 1 = div-eq-sub-div c1 (omega (arith, z.1)) in
          let e : m % c ≡ (m - c) % c = mod-eq-sub-mod (omega (arith, z.1)) in
          let w : k + ((m - c) / c + 1) ≡ suc k + (m - c) / c = omega arith in
          get_right (g k) (joined (numbered g n (suc k))) m (omega (arith, each k, z.1))
          ∙ (ap (λ (y : ℕ). get_elem? (joined (numbered g n (suc k))) (m - y)) (each k)
          ∙ rw (d, e, w) ih)
        where
          some_c : (y : ℕ) → m < suc n * y → 1 ≤ y
          some_c zero q = absurd (omega arith)
          some_c (suc y) q = omega arith

-- a queue into which each transaction puts f, which is cnt commands and d at each place
module _ (f : Transaction → ℕ → ℕ → List Due) (cnt : Transaction → ℕ) (d : Place → Due)
    (size : (x : Transaction) (i a : ℕ) → length (f x i a) ≡ cnt x)
    (place : (x : Transaction) (i a n : ℕ) → n < cnt x → get_elem? (f x i a) n ≡ some (d (place_of x i a n))) where
  queue_at : (l : List Transaction) (i a n : ℕ) → get_elem? (queue_from f l i a) n ≡ map d (find cnt l i a n)
  queue_at [] i a n = refl
  queue_at (x ∷ l) i a n = on (ltb n (cnt x)) refl (queue_at l (suc i) (a + act_count x) (n - cnt x))
    where
      on : (e : Bool) → ltb n (cnt x) ≡ e
          → get_elem? (queue_from f l (suc i) (a + act_count x)) (n - cnt x) ≡ map d (find cnt l (suc i) (a + act_count x) (n - cnt x))
          → get_elem? (f x i a ++ queue_from f l (suc i) (a + act_count x)) n
          ≡ map d (pick e (some (place_of x i a n)) (find cnt l (suc i) (a + act_count x) (n - cnt x)))
      on true e ih =
          let h : n < cnt x = ltb-true n (cnt x) e in
          get_left (f x i a) (queue_from f l (suc i) (a + act_count x)) n (omega (arith, size x i a)) ∙ place x i a n h
      on false e ih =
          get_right (f x i a) (queue_from f l (suc i) (a + act_count x)) n (omega (arith, size x i a, ltb-false n (cnt x) e))
          ∙ (ap (λ (y : ℕ). get_elem? (queue_from f l (suc i) (a + act_count x)) (n - y)) (size x i a) ∙ ih)

  queue_length : (l : List Transaction) (i a : ℕ) → length (queue_from f l i a) ≡ sum cnt l
  queue_length [] i a = refl
  queue_length (x ∷ l) i a =
      length-append (f x i a) (queue_from f l (suc i) (a + act_count x)) ∙ omega (arith, size x i a, queue_length l (suc i) (a + act_count x))

-- the two queues, by their places
module _ (τ : Table) where
  act_size : (x : Transaction) (i a : ℕ) → length (acts_of τ x i a) ≡ act_count x
  act_size x i a = numbered_length (λ k. record { kind = act_kind x; bank = act_bank_at τ x k; number = i; act = a + k; arrival = x.arrival }) (act_count x) 0

  act_place_lem : (x : Transaction) (i a n : ℕ) → n < act_count x → get_elem? (acts_of τ x i a) n ≡ some (act_due τ (place_of x i a n))
  act_place_lem x i a n h =
      numbered_at (λ k. record { kind = act_kind x; bank = act_bank_at τ x k; number = i; act = a + k; arrival = x.arrival }) (act_count x) 0 n h
      ∙ ap (λ (k : ℕ). some (act_due τ (place_of x i a k))) (zero-add n)

  burst_size : (x : Transaction) (i a k : ℕ) → length (bursts_of τ x i a k) ≡ x.bc
  burst_size x i a k =
      numbered_length (λ m. record { kind = data_kind (is_write x) (eqb (m + 1) x.bc); bank = bank_at τ x k; number = i; act = a + k; arrival = x.arrival }) x.bc 0

  data_size : (x : Transaction) (i a : ℕ) → length (datas_of τ x i a) ≡ data_count x
  data_size x i a = joined_length (bursts_of τ x i a) x.bc (burst_size x i a) x.bi 0

  data_place_lem : (x : Transaction) (i a n : ℕ) → n < data_count x → get_elem? (datas_of τ x i a) n ≡ some (data_due τ (place_of x i a n))
  data_place_lem x i a n h =
      joined_at (bursts_of τ x i a) x.bc (burst_size x i a) x.bi 0 n h
      ∙ (ap (λ (k : ℕ). get_elem? (bursts_of τ x i a k) (n % x.bc)) (zero-add (n / x.bc))
      ∙ (numbered_at bursts x.bc 0 (n % x.bc) (mod_lt' x.bc refl)
      ∙ ap (λ (m : ℕ). some (bursts m)) (zero-add (n % x.bc))))
    where
      bursts : ℕ → Due
      bursts m =
          record { kind = data_kind (is_write x) (eqb (m + 1) x.bc); bank = bank_at τ x (n / x.bc); number = i; act = a + n / x.bc; arrival = x.arrival }

      mod_lt' : (c : ℕ) → c ≡ x.bc → n % x.bc < x.bc
      mod_lt' zero e = absurd (omega (arith, ap (λ (y : ℕ). x.bi * y) e))
      mod_lt' (suc c) e = mod-lt n (omega arith)

  pub act_head : (l : List Transaction) (n : ℕ) → head_after (act_queue τ l) n ≡ map (act_due τ) (act_place l n)
  unfolding act_queue
  act_head l n = queue_at (acts_of τ) act_count (act_due τ) act_size act_place_lem l 0 0 n

  pub data_head : (l : List Transaction) (n : ℕ) → head_after (data_queue τ l) n ≡ map (data_due τ) (data_place l n)
  unfolding data_queue
  data_head l n = queue_at (datas_of τ) data_count (data_due τ) data_size data_place_lem l 0 0 n

  pub act_length : (l : List Transaction) → length (act_queue τ l) ≡ act_sum l
  unfolding act_queue
  act_length l = queue_length (acts_of τ) act_count (act_due τ) act_size act_place_lem l 0 0

  pub data_length : (l : List Transaction) → length (data_queue τ l) ≡ data_sum l
  unfolding data_queue
  data_length l = queue_length (datas_of τ) data_count (data_due τ) data_size data_place_lem l 0 0

-- places of one transaction, and past the end
module _ (f : Transaction → ℕ) where
  find_own : (x : Transaction) (rest p : List Transaction) (i a m : ℕ) → m < f x
      → find f (p ++ x ∷ rest) i a (sum f p + m) ≡ some (place_of x (i + length p) (a + act_sum p) m)
  find_own x rest [] i a m h =
      let e : 0 + m ≡ m = omega arith in let e' : a + 0 ≡ a = omega arith in let e'' : i + 0 ≡ i = omega arith in rw (e, e', e'', lt-ltb m (f x) h)
  find_own x rest (y ∷ p) i a m h =
      let e : f y + sum f p + m - f y ≡ sum f p + m = omega arith in
      let e' : a + (act_count y + act_sum p) ≡ a + act_count y + act_sum p = omega arith in
      let e'' : i + suc (length p) ≡ suc i + length p = omega arith in
      rw (le-ltb (f y + sum f p + m) (f y) (omega arith), e, e', e'') (find_own x rest p (suc i) (a + act_count y) m h)

  pub at_own : (x : Transaction) (rest p : List Transaction) (m : ℕ) → m < f x
      → find f (p ++ x ∷ rest) 0 0 (sum f p + m) ≡ some (place_of x (length p) (act_sum p) m)
  at_own x rest p m h =
      find_own x rest p 0 0 m h ∙ (ap (λ (a : ℕ). some (place_of x a (0 + act_sum p) m)) (zero-add (length p))
      ∙ ap (λ (a : ℕ). some (place_of x (length p) a m)) (zero-add (act_sum p)))

  pub find_lt : (l : List Transaction) (i a n : ℕ) → OnSome (λ p. n < sum f l) (find f l i a n)
  find_lt [] i a n = tt
  find_lt (x ∷ xs) i a n =
      on_pick_lem (λ p. n < f x + sum f xs) (ltb n (f x)) (place_of x i a n) (find f xs (suc i) (a + act_count x) (n - f x))
      (λ e. omega (arith, ltb-true n (f x) e))
      (λ e. let g : f x ≤ n = ltb-false n (f x) e in
      on_map {P = λ p. n - f x < sum f xs} {Q = λ p. n < f x + sum f xs} (find f xs (suc i) (a + act_count x) (n - f x)) (λ p h. omega arith)
      (find_lt xs (suc i) (a + act_count x) (n - f x)))

  pub find_end : (l : List Transaction) (i a n : ℕ) → sum f l ≤ n → find f l i a n ≡ none
  find_end [] i a n h = refl
  find_end (x ∷ xs) i a n h = rw (le-ltb n (f x) (omega arith)) (find_end xs (suc i) (a + act_count x) (n - f x) (omega arith))

  pub sum_append : (p q : List Transaction) → sum f (p ++ q) ≡ sum f p + sum f q
  sum_append [] q = omega arith
  sum_append (x ∷ p) q = omega (arith, sum_append p q)
