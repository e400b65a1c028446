-- The lowest number that the pass and the scan find is the lowest transaction at fault.
-- Assumes nothing.
use Prim.Native.Nat.{ℕ, ◌≤◌, ◌<◌}
use native.Mathlib.Omega.{arith}
use mathlib.Core.Path.{◌≡◌, refl, subst}
use mathlib.Core.Logic.{inl, inr, ⊎_elim}
use mathlib.Core.Bool.{Bool, true, false}
use mathlib.Core.Option.{some}
use mathlib.Core.List.{List, []}
use lib.Dec.{ltb}
use lib.ListN.{length, get_elem?}
use borrow.Author.Tests.{ltb-true, ltb-false}
use Rattle.records.specs.declared.table.Table.{Table}
use Rattle.records.specs.declared.transaction.Transaction.{Transaction}
use Rattle.records.specs.declared.command.Command.{Command}
use Rattle.records.specs.Tests.{pick}
use Rattle.rules.specs.Pattern.{onto}
use Rattle.rules.specs.Verdict.{Legal}
use Rattle.rules.proofs.laws.TestLaws.{true_false}
use Rattle.rules.proofs.laws.Numbers.{from?}
use Rattle.rules.proofs.queues.Fit.{AllFit}
use Rattle.serves.specs.declared.answer.Served.TheVariants.{Serves, AtFault as Names}
use Rattle.serves.specs.Serves.{NoneBelow, Says}
use Rattle.serves.specs.Check.{faulty, wrong, least_by, any_outside, FirstAt, answer_of}
use Rattle.serves.proofs.Records.{stands_of, before_at}
use Rattle.serves.proofs.Least.{least_le, least_under, least_some, out_some, some_out}
use Rattle.serves.proofs.Faults.{Hit, passed, scanned, hit, fault}

module _ (τ : Table) (most : τ.banks ≤ 16) (l : List Transaction) (v : AllFit τ l) (at : ℕ → Transaction)
    (at_is : (y : ℕ) → y < length l → get_elem? l y ≡ some (at y)) (rs : List Command) (legal : Legal τ rs) (few : length rs ≤ 69632) where
  abbrev N : ℕ
  N = length l

  abbrev bad : Command → List Command → Bool
  bad = faulty τ.banks N at

  abbrev least : ℕ
  least = least_by N (faulty τ.banks N at) (onto rs [])

  module _ (m : ℕ) (first : FirstAt (wrong τ.banks N at (onto rs [])) (least_by N (faulty τ.banks N at) (onto rs [])) m) where
    in_list : m ≤ N
    in_list = omega (arith, first.within, least_le N bad (onto rs []))

    below : (x : ℕ) → x < N → Hit τ most l v at at_is rs legal few x → m ≤ x
    below x lt (passed w) = omega (arith, first.within, least_under N bad (onto rs []) x lt w)
    below x lt (scanned e) = ⊎_elim (λ z. true_false (wrong τ.banks N at (onto rs []) x) e (first.none_before x z)) (λ z. omega (arith, z.1)) (from? x m)

    here : m < N → Hit τ most l v at at_is rs legal few m
    here h = ⊎_elim (λ z. scanned (first.there z))
        (λ z. let e : least ≡ m = omega (arith, z.1, first.within) in
        subst (Hit τ most l v at at_is rs legal few) e (passed (least_some N bad (onto rs []) (omega (arith, e, h))))) (from? m least)

    none_below : (n : ℕ) → n ≤ m → NoneBelow τ l rs n
    none_below n le x lt f =
        absurd (omega (arith, lt, le, below x (omega (arith, lt, le, in_list)) (hit τ most l v at at_is rs legal few x (omega (arith, lt, le, in_list)) f)))

    -- the answer says so
    pub says : Says τ l rs (answer_of N m (any_outside N (onto rs [])))
    says = on (ltb m N) refl (any_outside N (onto rs [])) refl
      where
        on : (a : Bool) → ltb m N ≡ a → (b : Bool) → any_outside N (onto rs []) ≡ b → Says τ l rs (pick a (Names m) (pick b (Names N) Serves))
        on true e b e' =
            let h = ltb-true m N e in
            (legal, inl (h, fault τ most l v at at_is rs legal few m h (here h), none_below m (omega arith)))
        on false e true e' =
            let q = stands_of (λ r t. N ≤ r.number) rs (out_some N (onto rs []) e') in
            (legal, inr (refl, none_below N (ltb-false m N e), (q.place, q.one, q.stands, q.has)))
        on false e false e' = (
          legal,
          (λ j r s. ⊎_elim (λ z. z) (λ z. absurd (some_out N (onto rs []) e' (before_at (λ r t. N ≤ r.number) rs [] j r s (omega (arith, z.1)))))
              (from? r.number N)),
          none_below N (ltb-false m N e),
        )
