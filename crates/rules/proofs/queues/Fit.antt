-- What a list that fits the table gives, and the two laws of a transaction's banks.
-- Assumes nothing.
use Prim.Native.Nat.{ℕ, suc, ◌+◌, ◌-◌, ◌*◌, ◌/◌, ◌≤◌, ◌<◌}
use native.Mathlib.Omega.{arith}
use native.Mathlib.Nat.{mod-lt, div-lt_iff_lt-mul}
use mathlib.Core.Path.{◌≡◌, refl, ap}
use mathlib.Core.Logic.{◌⊎◌, inl, inr, ⊎_elim}
use mathlib.Core.Bool.{Bool, true, false, not, ◌||◌}
use mathlib.Core.List.{List, [], ◌∷◌}
use lib.Dec.{leb, ltb, eqb}
use lib.ListN.{get_or}
use borrow.Author.Tests.{ltb-true, leb-true, eqb-true, eqb-false, ne_eqb, not-true}
use Rattle.records.specs.declared.table.Table.{Table}
use Rattle.records.specs.declared.transaction.Transaction.{Transaction}
use Rattle.records.specs.Tests.{every, within}
use Rattle.records.specs.Transaction.{is_refresh, moves_data, refreshes, fits_in, fits}
use Rattle.rules.specs.Queues.{bank_at, act_count}
use Rattle.rules.proofs.laws.TestLaws.{true_false, and_fst, and_snd, and_at, OnSome, on_pick_lem}
use Rattle.rules.proofs.laws.Numbers.{round}
use Rattle.rules.proofs.laws.Ranges.{is_within}
use Rattle.rules.proofs.queues.Queue.{Place, data_count, place_of, find, act_due, data_due}

-- a read or a write that fits
pub record Fit (τ : Table) (x : Transaction) : Type 0 where
  pub plain : is_refresh x ≡ false
  pub first : x.start < τ.banks
  pub room : x.bi ≤ τ.banks
  pub one_i : 1 ≤ x.bi
  pub one : 1 ≤ x.bc
  pub max_i : x.bi ≤ 16
  pub max_c : x.bc ≤ 16

-- a refresh that fits
pub record Refreshing (τ : Table) (x : Transaction) : Type 0 where
  pub refresh : is_refresh x ≡ true
  pub rfc : 1 ≤ τ.rfc
  pub no_i : x.bi ≡ 0
  pub no_c : x.bc ≡ 0
  pub bank : 1 ≤ τ.banks

abbrev pub Fits : Table → Transaction → Type 0
Fits τ x = Refreshing τ x ⊎ Fit τ x

abbrev pub AllFit : Table → List Transaction → Type 0
AllFit τ [] = Unit {0}
AllFit τ (x ∷ l) = Fits τ x × AllFit τ l

abbrev fit_tests : Table → Transaction → List Bool
fit_tests τ x = leb x.kind 1 ∷ within 1 16 x.bi ∷ within 1 16 x.bc ∷ ltb x.start τ.banks ∷ []

pub moves_fit : (τ : Table) (x : Transaction) → moves_data τ.banks x ≡ true → Fit τ x
moves_fit τ x e =
    record {
      plain = ne_eqb x.kind 2 (λ k. omega (arith, leb-true x.kind 1 (test 0)));
      first = ltb-true x.start τ.banks (test 3);
      room = leb-true x.bi τ.banks (test 4);
      one_i = (is_within 1 16 x.bi (test 1)).least;
      one = (is_within 1 16 x.bc (test 2)).least;
      max_i = (is_within 1 16 x.bi (test 1)).most;
      max_c = (is_within 1 16 x.bc (test 2)).most;
    }
  where
    test : (i : ℕ) → get_or (fit_tests τ x) i (leb x.bi τ.banks) ≡ true
    test i = and_at (fit_tests τ x) (leb x.bi τ.banks) i e

abbrev refresh_first : Table → Transaction → List Bool
refresh_first τ x = is_refresh x ∷ not (eqb τ.rfc 0) ∷ eqb x.start 0 ∷ eqb x.bi 0 ∷ []

pub refresh_fit : (τ : Table) → 1 ≤ τ.banks → (x : Transaction) → refreshes τ.rfc x ≡ true → Refreshing τ x
refresh_fit τ one x e =
    record {
      refresh = test 0;
      rfc = omega (arith, eqb-false τ.rfc 0 (not-true (eqb τ.rfc 0) (test 1)));
      no_i = eqb-true x.bi 0 (test 3);
      no_c = eqb-true x.bc 0 (test 4);
      bank = one;
    }
  where
    test : (i : ℕ) → get_or (refresh_first τ x) i (eqb x.bc 0) ≡ true
    test i = and_at (refresh_first τ x) (eqb x.bc 0) i e

pub is_fit : (τ : Table) → 1 ≤ τ.banks → (x : Transaction) → fits τ x ≡ true → Fits τ x
is_fit τ one x e = on (refreshes τ.rfc x) refl (and_snd (leb x.arrival 20000000) (fits_in τ.banks τ.rfc x) e)
  where
    on : (b : Bool) → refreshes τ.rfc x ≡ b → (b || moves_data τ.banks x) ≡ true → Fits τ x
    on true p e = inl (refresh_fit τ one x p)
    on false p e = inr (moves_fit τ x e)

pub all_fit : (τ : Table) → 1 ≤ τ.banks → (l : List Transaction) → every (fits τ) l ≡ true → AllFit τ l
all_fit τ one [] e = tt
all_fit τ one (x ∷ l) e = (is_fit τ one x (and_fst (fits τ x) (every (fits τ) l) e), all_fit τ one l (and_snd (fits τ x) (every (fits τ) l) e))

-- and arrives in time
pub arrives : (τ : Table) (x : Transaction) → fits τ x ≡ true → x.arrival ≤ 20000000
arrives τ x e = leb-true x.arrival 20000000 (and_fst (leb x.arrival 20000000) (fits_in τ.banks τ.rfc x) e)

-- which of the two a transaction is; one with data commands, or with banks, is a read or a write
pub plain_fit : (τ : Table) (x : Transaction) → Fits τ x → is_refresh x ≡ false → Fit τ x
plain_fit τ x (inl w) e = true_false (is_refresh x) w.refresh e
plain_fit τ x (inr w) e = w

pub refresh_of : (τ : Table) (x : Transaction) → Fits τ x → is_refresh x ≡ true → Refreshing τ x
refresh_of τ x (inl w) e = w
refresh_of τ x (inr w) e = true_false (is_refresh x) e w.plain

pub data_fit : (τ : Table) (x : Transaction) → Fits τ x → (n : ℕ) → n < data_count x → Fit τ x
data_fit τ x (inl w) n h = absurd (omega (arith, ap (λ (y : ℕ). y * x.bc) w.no_i))
data_fit τ x (inr w) n h = w

pub bank_fit : (τ : Table) (x : Transaction) → Fits τ x → (k : ℕ) → k < x.bi → Fit τ x
bank_fit τ x (inl w) k h = absurd (omega (arith, w.no_i))
bank_fit τ x (inr w) k h = w

-- and puts BI commands into the ACT queue
pub plain_count : (τ : Table) (x : Transaction) → Fit τ x → act_count x ≡ x.bi
plain_count τ x ok = rw ok.plain

-- the bank that comes k-th is one of the table's, and two of them differ
pub bank_lt : (τ : Table) (x : Transaction) → Fit τ x → (k : ℕ) → k < x.bi → bank_at τ x k < τ.banks
bank_lt τ x ok k h = mod-lt (x.start + k) (omega (arith, ok.first))

pub bank_apart : (τ : Table) (x : Transaction) → Fit τ x → (k k' : ℕ) → k < x.bi → k' < x.bi → bank_at τ x k ≡ bank_at τ x k' → k ≡ k'
bank_apart τ x ok k k' h h' e =
    ⊎_elim (λ y. ⊎_elim (λ y'. omega (arith, e, y.1, y'.1)) (λ y'. omega (arith, e, y.0, y.1, y', ok.room)) once')
    (λ y. ⊎_elim (λ y'. omega (arith, e, y, y'.0, y'.1, ok.room)) (λ y'. omega (arith, e, y, y')) once')
    once
  where
    once : ((x.start + k < τ.banks) × (bank_at τ x k ≡ x.start + k)) ⊎ (bank_at τ x k + τ.banks ≡ x.start + k)
    once = round τ.banks (x.start + k) (omega (arith, ok.first, ok.room))

    once' : ((x.start + k' < τ.banks) × (bank_at τ x k' ≡ x.start + k')) ⊎ (bank_at τ x k' + τ.banks ≡ x.start + k')
    once' = round τ.banks (x.start + k') (omega (arith, ok.first, ok.room))

-- a place inside its transaction
pub record Inside (τ : Table) (f : Transaction → ℕ) (p : Place) : Type 0 where
  pub fit : Fits τ p.transaction
  pub inside : p.offset < f p.transaction

pub place_at : (τ : Table) (f : Transaction → ℕ) (l : List Transaction) → AllFit τ l → (i a k : ℕ) → OnSome (Inside τ f) (find f l i a k)
place_at τ f [] v i a k = tt
place_at τ f (x ∷ xs) v i a k =
    on_pick_lem (Inside τ f) (ltb k (f x)) (place_of x i a k) (find f xs (suc i) (a + act_count x) (k - f x))
    (λ e. record { fit = v.0; inside = ltb-true k (f x) e })
    (λ e. place_at τ f xs v.1 (suc i) (a + act_count x) (k - f x))

pub act_bank_lem : (τ : Table) (p : Place) → Inside τ act_count p → (act_due τ p).bank < τ.banks
act_bank_lem τ p k = on k.fit
  where
    on : Fits τ p.transaction → (act_due τ p).bank < τ.banks
    on (inl w) = rw w.refresh (omega (arith, w.bank))
    on (inr w) = rw w.plain (bank_lt τ p.transaction w p.offset (omega (arith, k.inside, plain_count τ p.transaction w)))

pub data_bank : (τ : Table) (p : Place) → Inside τ data_count p → (data_due τ p).bank < τ.banks
data_bank τ p k =
    let w = data_fit τ p.transaction k.fit p.offset k.inside in
    bank_lt τ p.transaction w (p.offset / p.transaction.bc)
    ((div-lt_iff_lt-mul {k = p.transaction.bc} {x = p.offset} {y = p.transaction.bi} w.one).1 k.inside)
