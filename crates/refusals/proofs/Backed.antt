-- The last data command gone decides whether each has had its ACT: places of ACTs ascend along the data queue.
-- Assumes nothing.
use Prim.Native.Nat.{ℕ, zero, suc, ◌+◌, ◌-◌, ◌≤◌, ◌<◌}
use native.Mathlib.Omega.{arith}
use mathlib.Core.Bool.{Bool, true, false, ◌&&◌, and-true}
use mathlib.Core.Path.{◌≡◌, refl, sym, ap, ◌∙◌, subst}
use mathlib.Core.Logic.{inl, inr}
use mathlib.Core.Option.{none, some}
use mathlib.Core.List.{List, [], ◌∷◌, ◌++◌}
use lib.Dec.{leb, ltb, eqb}
use lib.ListN.{length, get_elem?, take}
use borrow.Author.Tests.{ltb-true, lt-ltb, le-leb, lt-leb}
use Rattle.records.specs.Tests.{pick, every}
use Rattle.records.specs.Transaction.{is_write}
use Rattle.records.specs.declared.table.Table.{Table}
use Rattle.records.specs.declared.transaction.Transaction.{Transaction}
use Rattle.rules.specs.Queues.{Due, bank_at, data_kind, numbered, joined, act_count, bursts_of, datas_of, queue_from, data_queue, head_after}
use Rattle.rules.proofs.queues.Fit.{Fits, AllFit, plain_count}
use Rattle.rules.proofs.queues.Queue.{act_sum}
use Rattle.heads.specs.declared.head.Head.{Head}
use Rattle.heads.specs.Head.{due_of}
use Rattle.sound.specs.Refused.{gone_backed}

-- the places of the ACTs ascend from lo on, up to hi
abbrev Ascends : ℕ → ℕ → List Due → Type 0
Ascends lo hi [] = lo ≤ hi
Ascends lo hi (d ∷ q) = (lo ≤ d.act) × Ascends d.act hi q

from_lower : (lo m hi : ℕ) (q : List Due) → lo ≤ m → Ascends m hi q → Ascends lo hi q
from_lower lo m hi [] h u = omega arith
from_lower lo m hi (d ∷ q) h u = (omega (arith, u.0), u.1)

to_higher : (lo m hi : ℕ) (q : List Due) → m ≤ hi → Ascends lo m q → Ascends lo hi q
to_higher lo m hi [] h u = omega arith
to_higher lo m hi (d ∷ q) h u = (u.0, to_higher d.act m hi q h u.1)

one_after : (lo m hi : ℕ) (p q : List Due) → Ascends lo m p → Ascends m hi q → Ascends lo hi (p ++ q)
one_after lo m hi [] q u v = from_lower lo m hi q u v
one_after lo m hi (d ∷ p) q u v = (u.0, one_after d.act m hi p q u.1 v)

module _ (τ : Table) where
  bursts_ascend : (x : Transaction) (i a k n m : ℕ)
      → Ascends (a + k) (a + k) (numbered (λ m. record { kind = data_kind (is_write x) (eqb (m + 1) x.bc); bank = bank_at τ x k; number = i; act = a + k; arrival = x.arrival }) n m)
  bursts_ascend x i a k zero m = omega arith
  bursts_ascend x i a k (suc n) m = (omega arith, bursts_ascend x i a k n (suc m))

  datas_ascend : (x : Transaction) (i a n k : ℕ) → Ascends (a + k) (a + k + n) (joined (numbered (bursts_of τ x i a) n k))
  datas_ascend x i a zero k = omega arith
  datas_ascend x i a (suc n) k =
      one_after (a + k) (a + k) (a + k + suc n) (bursts_of τ x i a k) (joined (numbered (bursts_of τ x i a) n (suc k))) (bursts_ascend x i a k x.bc 0)
      (from_lower (a + k) (a + suc k) (a + k + suc n) (joined (numbered (bursts_of τ x i a) n (suc k))) (omega arith)
      (subst (λ (hi : ℕ). Ascends (a + suc k) hi (joined (numbered (bursts_of τ x i a) n (suc k)))) hi (datas_ascend x i a n (suc k))))
    where
      hi : a + suc k + n ≡ a + k + suc n
      hi = omega arith

  queue_ascends : (l : List Transaction) → AllFit τ l → (i a : ℕ) → Ascends a (a + act_sum l) (queue_from (datas_of τ) l i a)
  queue_ascends [] v i a = omega arith
  queue_ascends (x ∷ l) v i a =
      one_after a (a + act_count x) (a + (act_count x + act_sum l)) (datas_of τ x i a) (queue_from (datas_of τ) l (suc i) (a + act_count x))
      (to_higher a (a + x.bi) (a + act_count x) (datas_of τ x i a) (omega (arith, banks v.0))
      (subst (λ (lo : ℕ). Ascends lo (lo + x.bi) (datas_of τ x i a)) zero_more (datas_ascend x i a x.bi 0)))
      (subst (λ (hi : ℕ). Ascends (a + act_count x) hi (queue_from (datas_of τ) l (suc i) (a + act_count x))) hi (queue_ascends l v.1 (suc i) (a + act_count x)))
    where
      zero_more : a + 0 ≡ a
      zero_more = omega arith

      -- a refresh has none
      banks : Fits τ x → x.bi ≤ act_count x
      banks (inl w) = omega (arith, w.no_i)
      banks (inr w) = omega (arith, plain_count τ x w)

      hi : a + act_count x + act_sum l ≡ a + (act_count x + act_sum l)
      hi = omega arith

module _ (a : ℕ) where
  abbrev had : Due → Bool
  had d = ltb d.act a

  least : (lo hi : ℕ) (q : List Due) (k : ℕ) (d : Due) → Ascends lo hi q → get_elem? q k ≡ some d → lo ≤ d.act
  least lo hi [] k d u e = let z : ◌≡◌ {A = ℕ} 0 1 = cc in absurd (omega arith)
  least lo hi (x ∷ q) zero d u e = let z : x.act ≡ d.act = cc in omega (arith, u.0)
  least lo hi (x ∷ q) (suc k) d u e = omega (arith, u.0, least x.act hi q k d u.1 e)

  -- of the first k + 1, the last decides
  decides : (lo hi : ℕ) (q : List Due) (k : ℕ) (d : Due) → Ascends lo hi q → get_elem? q k ≡ some d → every had (take (suc k) q) ≡ had d
  decides lo hi [] k d u e = let z : ◌≡◌ {A = ℕ} 0 1 = cc in absurd (omega arith)
  decides lo hi (x ∷ q) zero d u e = let z : x ≡ d = cc in rw z (and-true (had d))
  decides lo hi (x ∷ q) (suc k) d u e =
      ap (λ (t : Bool). had x && t) (decides x.act hi q k d u.1 e)
      ∙ and_right (had x) (had d) (λ p. lt-ltb x.act a (omega (arith, ltb-true d.act a p, least x.act hi q k d u.1 e)))
    where
      and_right : (s t : Bool) → (t ≡ true → s ≡ true) → (s && t) ≡ t
      and_right true t f = refl
      and_right false true f = f refl
      and_right false false f = refl

pub in_list : (q : List Due) (k : ℕ) (d : Due) → get_elem? q k ≡ some d → k < length q
in_list [] k d e = let z : ◌≡◌ {A = ℕ} 0 1 = cc in absurd (omega arith)
in_list (x ∷ q) zero d e = omega arith
in_list (x ∷ q) (suc k) d e = omega (arith, in_list q k d e)

past_list : (q : List Due) (k : ℕ) → get_elem? q k ≡ none → length q ≤ k
past_list [] k e = omega arith
past_list (x ∷ q) zero e = let z : ◌≡◌ {A = ℕ} 0 1 = cc in absurd (omega arith)
past_list (x ∷ q) (suc k) e = omega (arith, past_list q k e)

-- "more commands gone from a queue than the list puts there, or a data command gone whose ACT hasn't", by what the code finds
module _ (τ : Table) (l : List Transaction) (v : AllFit τ l) (a datas : ℕ) where
  pub gone_none : datas ≡ 0 → true ≡ gone_backed τ l a datas
  gone_none z = rw (z, le-leb 0 (length (data_queue τ l)) (omega arith))

  -- h is what stands at the place of the last data command gone
  pub gone_last : (datas ≡ 0 → ⊥) → (h : Head) → due_of h ≡ head_after (data_queue τ l) (datas - 1) → (h.there && ltb h.act a) ≡ gone_backed τ l a datas
  unfolding data_queue
  gone_last z h e = rw k (on h.there (sym e))
    where
      q : List Due
      q = data_queue τ l

      k : datas ≡ suc (datas - 1)
      k = omega arith

      d : Due
      d = record { kind = h.kind; bank = h.bank; number = h.number; act = h.act; arrival = h.arrival }

      on : (b : Bool) → get_elem? q (datas - 1) ≡ pick b (some d) none
          → (b && ltb h.act a) ≡ (leb (suc (datas - 1)) (length q) && every (had a) (take (suc (datas - 1)) q))
      on true e = sym
          (ap (λ (t : Bool). t && every (had a) (take (suc (datas - 1)) q)) (le-leb (suc (datas - 1)) (length q) (omega (arith, in_list q (datas - 1) d e)))
          ∙ decides a 0 (0 + act_sum l) q (datas - 1) d (queue_ascends τ l v 0 0) e)
      on false e = sym
          (ap (λ (t : Bool). t && every (had a) (take (suc (datas - 1)) q)) (lt-leb (suc (datas - 1)) (length q) (omega (arith, past_list q (datas - 1) e))))
