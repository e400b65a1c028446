-- How many commands of a queue are one command: sums over the places of a queue.
-- Assumes nothing.
use Prim.Native.Nat.{ℕ, zero, suc, ◌+◌, ◌≤◌, ◌<◌}
use native.Mathlib.Omega.{arith}
use mathlib.Core.Path.{◌≡◌, refl, sym, ap, ◌∙◌, subst}
use mathlib.Core.Logic.{◌≢◌, ⊎_elim}
use mathlib.Core.Bool.{Bool, true, false}
use mathlib.Core.Option.{some}
use mathlib.Core.List.{List, [], ◌∷◌, ◌++◌}
use lib.Dec.{eqb}
use lib.ListN.{get_elem?}
use Rattle.records.specs.declared.transaction.Transaction.{Transaction}
use Rattle.records.specs.declared.command.Kind.{Kind}
use Rattle.rules.specs.State.{add_if}
use Rattle.rules.specs.Queues.{Due, numbered, joined, act_count, queue_from}
use Rattle.rules.proofs.laws.Numbers.{same?, from?}
use Rattle.serves.specs.Serves.{kind_code, is_the, dues_of}
use Rattle.serves.proofs.Tests.{same_some, none_some}
use Rattle.serves.proofs.Alike.{the_at, the_bank, the_number}

-- ---- sums

abbrev pub total : (ℕ → ℕ) → ℕ → ℕ → ℕ
total W zero i = 0
total W (suc n) i = W i + total W n (suc i)

pub total_none : (W : ℕ → ℕ) (n i : ℕ) → ((m : ℕ) → i ≤ m → m < i + n → W m ≡ 0) → total W n i ≡ 0
total_none W zero i f = refl
total_none W (suc n) i f = omega (arith, f i (omega arith) (omega arith), total_none W n (suc i) (λ m h h'. f m (omega (arith, h)) (omega (arith, h'))))

pub total_all : (W : ℕ → ℕ) (n i : ℕ) → ((m : ℕ) → i ≤ m → m < i + n → W m ≡ 1) → total W n i ≡ n
total_all W zero i f = refl
total_all W (suc n) i f = omega (arith, f i (omega arith) (omega arith), total_all W n (suc i) (λ m h h'. f m (omega (arith, h)) (omega (arith, h'))))

pub total_one : (W : ℕ → ℕ) (n i j : ℕ) → ((m : ℕ) → i ≤ m → m < i + n → m ≢ j → W m ≡ 0) → i ≤ j → j < i + n → total W n i ≡ W j
total_one W zero i j f h h' = absurd (omega arith)
total_one W (suc n) i j f h h' = ⊎_elim
    (λ e. omega (arith, ap W e, total_none W n (suc i) (λ m p q. f m (omega (arith, p)) (omega (arith, q)) (λ z. omega (arith, z, p, e)))))
    (λ e. omega (arith, f i (omega arith) (omega arith) e, total_one W n (suc i) j (λ m p q. f m (omega (arith, p)) (omega (arith, q))) (neq_lt e) (omega arith)))
    (same? i j)
  where
    neq_lt : i ≢ j → suc i ≤ j
    neq_lt e = ⊎_elim (λ z. omega (arith, z)) (λ (d, z). above d z) (from? i j)
      where
        above : (d : ℕ) → i ≡ j + d → suc i ≤ j
        above zero z = absurd (e (omega (arith, z)))
        above (suc d) z = absurd (omega (arith, z, h))

pub total_last : (W : ℕ → ℕ) (n i : ℕ) → total W (suc n) i ≡ total W n i + W (i + n)
total_last W zero i = let e : i + 0 ≡ i = omega arith in rw e (omega arith)
total_last W (suc n) i = let e : i + suc n ≡ suc i + n = omega arith in omega (arith, total_last W n (suc i), ap W e)

module _ (k : Kind) (b y : ℕ) where
  abbrev pub one : Due → ℕ
  one d = add_if (is_the d.kind d.bank d.number k b y) 0

  more : (e : Bool) (n : ℕ) → add_if e n ≡ add_if e 0 + n
  more true n = omega arith
  more false n = omega arith

  dues_append : (p q : List Due) → dues_of k b y (p ++ q) ≡ dues_of k b y p + dues_of k b y q
  dues_append [] q = omega arith
  dues_append (d ∷ p) q =
      let e = is_the d.kind d.bank d.number k b y in
      omega (arith, more e (dues_of k b y (p ++ q)), more e (dues_of k b y p), dues_append p q)

  pub numbered_dues : (g : ℕ → Due) (n i : ℕ) → dues_of k b y (numbered g n i) ≡ total (λ m. one (g m)) n i
  numbered_dues g zero i = refl
  numbered_dues g (suc n) i =
      omega (arith, more (is_the (g i).kind (g i).bank (g i).number k b y) (dues_of k b y (numbered g n (suc i))), numbered_dues g n (suc i))

  pub joined_dues : (h : ℕ → List Due) (n i : ℕ) → dues_of k b y (joined (numbered h n i)) ≡ total (λ m. dues_of k b y (h m)) n i
  joined_dues h zero i = refl
  joined_dues h (suc n) i = dues_append (h i) (joined (numbered h n (suc i))) ∙ ap (λ (z : ℕ). dues_of k b y (h i) + z) (joined_dues h n (suc i))

  pub one_bank : (d : Due) → (d.bank ≡ b → ⊥) → one d ≡ 0
  one_bank d f = rw (the_bank d.kind d.bank d.number k b y f)

  pub one_number : (d : Due) → (d.number ≡ y → ⊥) → one d ≡ 0
  one_number d f = rw (the_number d.kind d.bank d.number k b y f)

  pub one_at : (d : Due) → d.bank ≡ b → d.number ≡ y → one d ≡ add_if (eqb (kind_code d.kind) (kind_code k)) 0
  one_at d e e' = ap (λ (z : Bool). add_if z 0) (the_at d.kind d.bank d.number k b y e e')

-- ---- a queue: the commands of each transaction carry its number

module _ (k : Kind) (b : ℕ) (f : Transaction → ℕ → ℕ → List Due) (own : (x : Transaction) (i a y : ℕ) → (i ≡ y → ⊥) → dues_of k b y (f x i a) ≡ 0) where
  queue_before : (l : List Transaction) (i a y : ℕ) → y < i → dues_of k b y (queue_from f l i a) ≡ 0
  queue_before [] i a y h = refl
  queue_before (x ∷ l) i a y h =
      dues_append k b y (f x i a) (queue_from f l (suc i) (a + act_count x))
      ∙ omega (arith, own x i a y (λ e. omega (arith, e, h)), queue_before l (suc i) (a + act_count x) y (omega arith))

  pub queue_own : (l : List Transaction) (i a y : ℕ) (x : Transaction) (c : ℕ) → get_elem? l y ≡ some x → ((a : ℕ) → dues_of k b (i + y) (f x (i + y) a) ≡ c)
      → dues_of k b (i + y) (queue_from f l i a) ≡ c
  queue_own [] i a y x c e g = none_some x e
  queue_own (w ∷ l) i a zero x c e g =
      dues_append k b (i + 0) (f w i a) (queue_from f l (suc i) (a + act_count w))
      ∙ omega (arith, first, queue_before l (suc i) (a + act_count w) (i + 0) (omega arith))
    where
      z : i + 0 ≡ i
      z = omega arith

      first : dues_of k b (i + 0) (f w i a) ≡ c
      first = ap (λ (v : Transaction). dues_of k b (i + 0) (f v i a)) (same_some (some w) w x refl e) ∙ (ap (λ (j : ℕ). dues_of k b (i + 0) (f x j a)) (sym z) ∙ g a)
  queue_own (w ∷ l) i a (suc y) x c e g =
      let z : i + suc y ≡ suc i + y = omega arith in
      dues_append k b (i + suc y) (f w i a) (queue_from f l (suc i) (a + act_count w))
      ∙ omega (
        arith,
        own w i a (i + suc y) (λ q. omega (arith, q)),
        ap (λ (j : ℕ). dues_of k b j (queue_from f l (suc i) (a + act_count w))) z,
        queue_own l (suc i) (a + act_count w) y x c e (λ a'. subst (λ (j : ℕ). dues_of k b j (f x j a') ≡ c) z (g a')),
      )
