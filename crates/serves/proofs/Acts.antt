-- The ACT queue by its places: numbers ascend, and the ACT of a data command is there.
-- Assumes nothing.
use Prim.Native.Nat.{ℕ, zero, suc, ◌+◌, ◌-◌, ◌/◌, ◌≤◌, ◌<◌}
use native.Mathlib.Omega.{arith}
use mathlib.Core.Path.{◌≡◌, refl, sym, ap, ◌∙◌, subst}
use mathlib.Core.Logic.{⊎_elim}
use mathlib.Core.Bool.{false}
use mathlib.Core.Option.{some, map, map-eq-some_iff}
use mathlib.Core.List.{List, [], ◌∷◌}
use lib.ListN.{length, get_elem?, get_or, take}
use borrow.Author.Tests.{lt-ltb, le-ltb}
use Rattle.records.specs.declared.table.Table.{Table}
use Rattle.records.specs.declared.transaction.Transaction.{Transaction}
use Rattle.records.specs.declared.command.Kind.TheVariants.{Act}
use Rattle.records.specs.Transaction.{transaction}
use Rattle.rules.specs.Kinds.{is_data}
use Rattle.rules.specs.Queues.{Due, act_count, act_kind, act_queue, data_queue}
use Rattle.rules.proofs.laws.TestLaws.{OnSome}
use Rattle.rules.proofs.laws.Numbers.{from?}
use Rattle.rules.proofs.queues.Queue.{Place, place_of, find, act_place, data_place, act_due, data_due, act_bank, sum, act_sum, data_sum, act_head, data_head, data_length}
use Rattle.rules.proofs.queues.Fit.{AllFit, plain_count}
use Rattle.rules.proofs.laws.DataKinds.{act_no_data}
use Rattle.rules.proofs.queues.Front.{act_of, Own, data_own}
use Rattle.serves.proofs.Tests.{same_some, none_some}
use Rattle.serves.proofs.Entries.{Spot, spot, sum_up, Entry, entry}

-- the transaction of a number
abbrev pub at_in : List Transaction → ℕ → Transaction
at_in l y = get_or l y (transaction 0 0 0 0)

pub at_in_lem : (l : List Transaction) (y : ℕ) → y < length l → get_elem? l y ≡ some (at_in l y)
at_in_lem [] y h = absurd (omega arith)
at_in_lem (x ∷ l) zero h = refl
at_in_lem (x ∷ l) (suc y) h = at_in_lem l y (omega arith)

pub in_length : (q : List Due) (p : ℕ) (d : Due) → get_elem? q p ≡ some d → p < length q
in_length [] p d e = none_some d e
in_length (w ∷ q) zero d e = omega arith
in_length (w ∷ q) (suc p) d e = omega (arith, in_length q p d e)

find_there : (f : Transaction → ℕ) (l : List Transaction) (i a y j : ℕ) (x : Transaction) → get_elem? l y ≡ some x → j < f x
    → find f l i a (sum f (take y l) + j) ≡ some (place_of x (i + y) (a + act_sum (take y l)) j)
find_there f [] i a y j x e h = none_some x e
find_there f (w ∷ l) i a zero j x e h =
    let ex : w ≡ x = same_some (some w) w x refl e in
    let z : 0 + j ≡ j = omega arith in
    let z' : i + 0 ≡ i = omega arith in
    let z'' : a + 0 ≡ a = omega arith in
    rw (z, z', z'', ex, lt-ltb j (f x) h)
find_there f (w ∷ l) i a (suc y) j x e h =
    let z : f w + sum f (take y l) + j - f w ≡ sum f (take y l) + j = omega arith in
    let z' : i + suc y ≡ suc i + y = omega arith in
    let z'' : a + (act_count w + act_sum (take y l)) ≡ a + act_count w + act_sum (take y l) = omega arith in
    rw (le-ltb (f w + sum f (take y l) + j) (f w) (omega arith), z, z', z'') (find_there f l (suc i) (a + act_count w) y j x e h)

module _ (τ : Table) (l : List Transaction) where
  -- a command of the ACT queue
  pub record ActEntry (n : ℕ) (d : Due) : Type 0 where
    pub y : ℕ
    pub x : Transaction
    pub o : ℕ
    pub listed : get_elem? l y ≡ some x
    pub count : n ≡ sum act_count (take y l) + o
    pub in' : o < act_count x
    pub number : d.number ≡ y
    pub kind : d.kind ≡ act_kind x

  pub act_entry : (n : ℕ) (d : Due) → get_elem? (act_queue τ l) n ≡ some d → ActEntry n d
  act_entry n d e = on ((map-eq-some_iff (act_due τ) (act_place l n)).0 (sym (act_head τ l n) ∙ e))
    where
      on : ((p : Place) × (act_place l n ≡ some p) × (act_due τ p ≡ d)) → ActEntry n d
      on (p, q, r) =
          let s : Spot act_count l 0 0 n p = subst (OnSome (Spot act_count l 0 0 n)) q (spot act_count l 0 0 n) in
          record {
            y = s.y;
            x = p.transaction;
            o = p.offset;
            listed = s.listed;
            count = s.count;
            in' = s.in';
            number = ap (λ (z : Due). z.number) (sym r) ∙ (s.number ∙ omega arith);
            kind = ap (λ (z : Due). z.kind) (sym r);
          }

  pub act_no_data_at : (n : ℕ) (d : Due) → get_elem? (act_queue τ l) n ≡ some d → is_data d.kind ≡ false
  act_no_data_at n d e = let a = act_entry n d e in ap is_data a.kind ∙ act_no_data a.x

  -- numbers ascend
  pub act_up : (n n' : ℕ) (d d' : Due) → get_elem? (act_queue τ l) n ≡ some d → get_elem? (act_queue τ l) n' ≡ some d' → n ≤ n' → d.number ≤ d'.number
  act_up n n' d d' e e' h =
      let a = act_entry n d e in
      let b = act_entry n' d' e' in
      ⊎_elim
      (λ z. absurd (omega (arith, sum_up act_count l b.y a.y b.x b.listed (omega (arith, z, a.number, b.number)), a.count, b.count, b.in', h)))
      (λ z. omega (arith, z.1)) (from? d'.number d.number)

module _ (τ : Table) (l : List Transaction) (v : AllFit τ l) where
  -- the ACT of a data command
  pub record ActOf (d : Due) : Type 0 where
    pub its : Due
    pub there : get_elem? (act_queue τ l) d.act ≡ some its
    pub kind : its.kind ≡ Act
    pub bank : its.bank ≡ d.bank
    pub number : its.number ≡ d.number

  pub act_of_lem : (n : ℕ) (d : Due) → get_elem? (data_queue τ l) n ≡ some d → ActOf d
  act_of_lem n d e =
      record {
        its = act_due τ pl;
        there =
            ap (get_elem? (act_queue τ l)) a.act ∙ (act_head τ l (act_sum (take a.y l) + j)
            ∙ ap (map (act_due τ)) (find_there act_count l 0 0 a.y j a.x a.listed (omega (arith, a.index, plain_count τ a.x a.fit))));
        kind = rw a.fit.plain;
        bank = rw a.fit.plain (sym a.bank);
        number = omega (arith, a.number);
      }
    where
      a : Entry τ l v n d
      a = entry τ l v n d e

      j : ℕ
      j = a.o / a.x.bc

      pl : Place
      pl = place_of a.x (0 + a.y) (0 + act_sum (take a.y l)) (a.o / a.x.bc)

  -- its place and bank, as the proofs about the run have them
  pub own_of : (n : ℕ) (d : Due) → get_elem? (data_queue τ l) n ≡ some d → (d.act ≡ act_of l n) × (n < data_sum l) × (d.bank ≡ act_bank τ l (act_of l n))
  own_of n d e = on ((map-eq-some_iff (data_due τ) (data_place l n)).0 (sym (data_head τ l n) ∙ e))
    where
      on : ((p : Place) × (data_place l n ≡ some p) × (data_due τ p ≡ d)) → (d.act ≡ act_of l n) × (n < data_sum l) × (d.bank ≡ act_bank τ l (act_of l n))
      on (p, q, r) =
          let o : Own τ l 0 n p = subst (OnSome (Own τ l 0 n)) q (data_own τ l v 0 0 n) in (
            ap (λ (z : Due). z.act) (sym r) ∙ (o.0 ∙ omega arith),
            omega (arith, in_length (data_queue τ l) n d e, data_length τ l),
            ap (λ (z : Due). z.bank)
                (sym r) ∙ o.1,
          )
