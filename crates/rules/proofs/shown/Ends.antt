-- It ends: the bounds of all transactions, added, are cycles enough.
-- Assumes nothing.
use Prim.Native.Nat.{ℕ, suc, ◌+◌}
use native.Mathlib.Omega.{arith}
use mathlib.Core.Bool.{true}
use mathlib.Core.Path.{◌≡◌, refl, sym, ap, ◌∙◌}
use mathlib.Core.List.{List, [], ◌∷◌, ◌++◌, append_assoc}
use lib.Dec.{leb}
use lib.ListN.{length, length-append}
use lib.Seq.{get_or-append_seam}
use borrow.Author.Tests.{le-leb}
use Rattle.records.specs.declared.table.Table.{Table}
use Rattle.records.specs.declared.transaction.Transaction.{Transaction}
use Rattle.records.specs.Table.{Accepted}
use Rattle.records.specs.Transaction.{list_fits}
use Rattle.rules.specs.Queues.{act_queue, data_queue}
use Rattle.rules.specs.Bound.{span, start_at}
use Rattle.rules.specs.Finish.{count_from}
use Rattle.rules.specs.Promise.{bounds_from, all_bounds, Ends}
use Rattle.rules.proofs.laws.TestLaws.{and_both}
use Rattle.rules.proofs.queues.Queue.{act_length, data_length}
use Rattle.rules.proofs.bound.Finishes.{no_transaction, nth}
use Rattle.rules.proofs.bound.Served.{total}
use Rattle.rules.proofs.shown.Built.{short, state_at, enough}

total_from : (τ : Table) (l p rest : List Transaction) → l ≡ p ++ rest → total τ l (length p + length rest) ≡ bounds_from τ (total τ l (length p)) rest
total_from τ l p [] e = let z : length p + 0 ≡ length p = omega arith in ap (total τ l) z
total_from τ l p (x ∷ rest) e =
    ap (total τ l) long ∙ (total_from τ l (p ++ x ∷ []) rest (e ∙ sym (append_assoc p (x ∷ []) rest)) ∙ ap (λ (F : ℕ). bounds_from τ F rest) one)
  where
    n : length (p ++ x ∷ []) ≡ suc (length p)
    n = length-append p (x ∷ []) ∙ omega arith

    long : length p + suc (length rest) ≡ length (p ++ x ∷ []) + length rest
    long = omega (arith, n)

    here : nth l (length p) ≡ x
    here = ap (λ (y : List Transaction). nth y (length p)) e ∙ get_or-append_seam p x rest no_transaction

    one : total τ l (length (p ++ x ∷ [])) ≡ start_at x (total τ l (length p)) + count_from τ x (span τ x)
    one = ap (total τ l) n ∙ ap (λ (y : Transaction). start_at y (total τ l (length p)) + count_from τ y (span τ y)) here

total_bounds : (τ : Table) (l : List Transaction) → total τ l (length l) ≡ all_bounds τ l
total_bounds τ l = let z : length l ≡ 0 + length l = omega arith in ap (total τ l) z ∙ total_from τ l [] l refl

pub ends : (τ : Table) → Accepted τ → (l : List Transaction) → list_fits τ l ≡ true → Ends τ l
ends τ acc l fit =
    record {
      short = omega (arith, total_bounds τ l, short τ acc l fit);
      enough = λ n h.
          let z = enough τ acc l fit n (omega (arith, total_bounds τ l)) in
          and_both (leb (length (data_queue τ l)) (state_at τ acc l fit n).datas) (leb (length (act_queue τ l)) (state_at τ acc l fit n).acts)
          (le-leb (length (data_queue τ l)) (state_at τ acc l fit n).datas (omega (arith, data_length τ l, z.0)))
          (le-leb (length (act_queue τ l)) (state_at τ acc l fit n).acts (omega (arith, act_length τ l, z.1)));
    }
