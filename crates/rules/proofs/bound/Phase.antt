-- While a transaction's data commands go: its ACTs and data commands leave in time.
-- Assumes nothing.
use Prim.Native.Nat.{ℕ, zero, suc, ◌+◌, ◌*◌, ◌≤◌, ◌<◌}
use native.Mathlib.Omega.{arith}
use mathlib.Core.Path.{◌≡◌, refl, sym, ap, ◌∙◌}
use mathlib.Core.Logic.{◌⊎◌, inl, inr, ⊎_elim}
use mathlib.Core.Bool.{Bool, true, false, ◌&&◌}
use mathlib.Core.Option.{some}
use mathlib.Core.List.{List}
use lib.Dec.{ltb}
use Rattle.records.specs.declared.table.Table.{Table}
use Rattle.records.specs.declared.transaction.Transaction.{Transaction}
use Rattle.rules.specs.declared.state.Bank.{Bank}
use Rattle.rules.specs.declared.state.State.{State}
use Rattle.records.specs.Transaction.{is_write}
use Rattle.rules.specs.State.{is_open, bank_of}
use Rattle.rules.specs.Queues.{bank_at}
use Rattle.rules.specs.Bound.{most_from_rd, most_from_wr, bound_s, bound_d}
use Rattle.rules.proofs.laws.Ranges.{Ranges}
use Rattle.rules.proofs.laws.Numbers.{from?}
use Rattle.rules.proofs.queues.Queue.{place_of, act_place, data_place, act_bank, is_act_at}
use Rattle.rules.proofs.queues.Fit.{Fit, bank_lt, bank_apart}
use Rattle.rules.proofs.queues.Heads.{data_ok}
use Rattle.rules.proofs.bound.Recent.{Upto, upto_up, RdUp, WrUp, rd_map, wr_map}
use Rattle.rules.proofs.bound.GoneActs.{Base, base_up}
use Rattle.rules.proofs.bound.Due.{S-one, X-rd, X-wr, due_by, due_X, due_act}

-- where a read or a write stands: A0 commands of the ACT queue and M0 data commands before it
pub record Spot (τ : Table) (l : List Transaction) (A0 M0 : ℕ) (x : Transaction) : Type 0 where
  pub K : ℕ
  pub ok : Fit τ x
  pub bank_k : (k : ℕ) → k < x.bi → act_bank τ l (A0 + k) ≡ bank_at τ x k
  pub act_k : (k : ℕ) → k < x.bi → act_place l (A0 + k) ≡ some (place_of x K A0 k)
  pub data_m : (m : ℕ) → m < x.bi * x.bc
      → data_place l (M0 + m) ≡ some (place_of x K A0 m)

-- a bank that the transaction has not opened yet
pub record Unopened (τ : Table) (F : ℕ) (k : Bank) : Type 0 where
  pub uShut : is_open k ≡ false
  pub uAct : Upto τ.rcd F k.act
  pub uRd : Upto 0 F k.rd
  pub uWr : Upto 0 F k.wr

-- the data command at the head, to bank j, has had its ACT and breaks no rule
abbrev pub head_test : Table → ℕ → Transaction → ℕ → State → Bool
head_test τ A0 x j s = ltb (A0 + j) s.acts && data_ok τ s (bank_at τ x j) (is_write x)

-- no data command of the kind may go
abbrev pub Blocked : Table → Bool → State → Type 0
Blocked τ w s = (b : ℕ) → data_ok τ s b w ≡ false

-- with the count started at F: the cycle by which ACT k leaves, and data command r of bank j
abbrev pub by_act : Table → ℕ → ℕ → ℕ
by_act τ F k = F + bound_s τ + k * (bound_d τ + 1)

abbrev pub by_data : Table → ℕ → Transaction → ℕ → ℕ → ℕ
by_data τ F x j r = F + due_by τ x.bc j r

-- the ACT k is not late: it has time left, or its last cycle has come and nothing can take it
abbrev pub InTime : Table → ℕ → Bool → State → ℕ → Type 0
InTime τ F w s k =
    (s.cycle < by_act τ F k)
    ⊎ ((s.cycle ≡ by_act τ F k) × ((k ≡ 0) ⊎ Blocked τ w s))

-- data command r of bank j is next; the count started at F
pub record Serving (τ : Table) (l : List Transaction) (A0 M0 : ℕ) (x : Transaction) (F : ℕ) (ta : ℕ → ℕ) (j r : ℕ) (s : State) : Type 0 where
  pub base : Base τ l (A0 + j) ta s.cycle s
  pub cnt : s.datas ≡ M0 + (j * x.bc + r)
  pub jIn : j < x.bi
  pub rIn : r < x.bc
  -- the ACTs of earlier transactions, of this one, and of those of its banks whose data commands have begun
  pub old : (i : ℕ) → i < A0 → is_act_at l i ≡ true → (ta i + τ.rcd ≤ F) × (ta i + τ.rcd ≤ s.cycle)
  pub own : (i : ℕ) → i < x.bi → A0 + i < s.acts → ta (A0 + i) ≤ by_act τ F i
  pub begun : (i : ℕ) → i < j → ta (A0 + i) + τ.rcd ≤ s.cycle
  -- the last REF lets an ACT go from F on, and did when the first of this transaction went
  pub refresh_f : Upto τ.rfc F s.refresh
  pub refresh_now : (s.acts ≡ A0) ⊎ Upto τ.rfc s.cycle s.refresh
  -- every RD and WR lets the data command go when it is due
  pub rd_due : RdUp (most_from_rd τ (is_write x)) (by_data τ F x j r) s
  pub wr_due : WrUp (most_from_wr τ (is_write x)) (by_data τ F x j r) s
  pub unop : (i : ℕ) → i < x.bi → s.acts ≤ A0 + i → Unopened τ F (bank_of s (bank_at τ x i))
  -- the next ACT is not late, and neither is the data command
  pub act_time : (k : ℕ) → s.acts ≡ A0 + k → k < x.bi → InTime τ F (is_write x) s k
  pub data_time : s.cycle ≤ by_data τ F x j r
  -- no count starts before the arrival
  pub arrived : x.arrival ≤ F

-- between transactions: A commands of the ACT queue and M data commands belong to those that are done, the last command went at c, and the next count starts at F
pub record Between (τ : Table) (l : List Transaction) (A M c F : ℕ) (ta : ℕ → ℕ) (s : State) : Type 0 where
  pub base : Base τ l A ta c s
  pub cnt : s.datas ≡ M
  pub old : (i : ℕ) → i < A → is_act_at l i ≡ true → ta i + τ.rcd ≤ c
  pub cf : c ≤ F
  pub lo : c ≤ s.cycle
  pub hi : s.cycle ≤ F + 1
  pub refresh_f : Upto τ.rfc F s.refresh
  pub refresh_now : (s.acts ≡ A) ⊎ Upto τ.rfc c s.refresh

-- a count may start later
pub between_later : (τ : Table) (l : List Transaction) (A M c F F' : ℕ) (ta : ℕ → ℕ) (s : State) → F ≤ F' → Between τ l A M c F ta s → Between τ l A M c F' ta s
between_later τ l A M c F F' ta s h q =
    record {
      base = q.base;
      cnt = q.cnt;
      old = q.old;
      cf = omega (arith, q.cf);
      lo = q.lo;
      hi = omega (arith, q.hi);
      refresh_f = upto_up τ.rfc F F' s.refresh h q.refresh_f;
      refresh_now = q.refresh_now;
    }

-- the next transaction begins
pub enter : (τ : Table) (rng : Ranges τ) (l : List Transaction) (A M : ℕ) (x : Transaction) (sp : Spot τ l A M x) (c F : ℕ) (ta : ℕ → ℕ) (s : State)
    → x.arrival ≤ F → Between τ l A M c F ta s → Serving τ l A M x F ta 0 0 s
enter τ rng l A M x sp c F ta s ar q =
    record {
      base = let e : A + 0 ≡ A = omega arith in rw e (base_up τ l A ta c s.cycle s q.lo q.base);
      cnt = omega (arith, q.cnt);
      jIn = sp.ok.one_i;
      rIn = sp.ok.one;
      old = λ i k a. (omega (arith, q.old i k a, q.cf), omega (arith, q.old i k a, q.lo));
      own = λ i k k'. omega (arith, q.base.now (A + i) k', q.cf);
      begun = λ i k. absurd (omega arith);
      refresh_f = q.refresh_f;
      refresh_now = ⊎_elim (λ y. inl y) (λ y. inr (upto_up τ.rfc c s.cycle s.refresh q.lo y)) q.refresh_now;
      rd_due = rd_map 0 F (most_from_rd τ (is_write x)) (by_data τ F x 0 0) s (λ y k. omega (arith, due_X τ x.bc 0 0, X-rd τ (is_write x))) bF.recent.rds;
      wr_due = wr_map 0 F (most_from_wr τ (is_write x)) (by_data τ F x 0 0) s (λ y k. omega (arith, due_X τ x.bc 0 0, X-wr τ (is_write x))) bF.recent.wrs;
      unop = λ i k k'. ⊎_elim
          (λ y. record { uShut = y.0; uAct = y.1; uRd = bF.rd_bank (bank_at τ x i) (bank_lt τ x sp.ok i k); uWr = bF.wr_bank (bank_at τ x i) (bank_lt τ x sp.ok i k) })
          (λ y. absurd (clash i k k' y.0 y.1 y.2 y.3))
          (bF.cold (bank_at τ x i) (bank_lt τ x sp.ok i k));
      act_time = λ k ek kl. time k;
      data_time = omega (arith, q.hi, due_act τ x.bc 0 0, S-one τ);
      arrived = ar;
    }
  where
    bF : Base τ l A ta F s
    bF = base_up τ l A ta c F s q.cf q.base

    clash : (i : ℕ) → i < x.bi → s.acts ≤ A + i → (i' : ℕ) → A ≤ i' → i' < s.acts → act_bank τ l i' ≡ bank_at τ x i → ⊥
    clash i k k' i' g g' e = on (from? i' A)
      where
        on : (i' < A) ⊎ ((d : ℕ) × (i' ≡ A + d)) → ⊥
        on (inl y) = omega arith
        on (inr y) =
            let h : y.0 < x.bi = omega (arith, y.1) in
            omega (arith, y.1, bank_apart τ x sp.ok i y.0 k h (sym e ∙ (ap (act_bank τ l) y.1 ∙ sp.bank_k y.0 h)))

    time : (k : ℕ) → InTime τ F (is_write x) s k
    time zero = ⊎_elim (λ y. inl (omega arith)) (λ y. inr (omega (arith, y.1, q.hi, S-one τ), inl refl)) (from? s.cycle (F + bound_s τ))
    time (suc k) = inl (omega (arith, q.hi, S-one τ))
