-- Where the transactions that are done ended, and where their counts started.
-- Assumes nothing.
use Rattle.std.specs.Prelude.{Some}
use Prim.Native.Nat.{ℕ, ◌+◌, ◌≤◌, ◌<◌}
use native.Mathlib.Omega.{arith}
use mathlib.Core.Path.{◌≡◌, refl, sym, ap, ◌∙◌}
use mathlib.Core.Logic.{◌≢◌, ◌⊎◌, inl, inr}
use mathlib.Core.Bool.{Bool, true, false, ◌&&◌, and-false}
use mathlib.Core.Option.{Option, none, some}
use mathlib.Core.List.{List, ◌∷◌}
use lib.Dec.{eqb}
use lib.ListN.{get_or}
use borrow.Author.Tests.{eq-eqb, ne_eqb}
use Rattle.records.specs.declared.table.Table.{Table}
use Rattle.records.specs.declared.transaction.Transaction.{Transaction}
use Rattle.records.specs.declared.command.Command.{Command}
use Rattle.records.specs.Tests.{pick}
use Rattle.records.specs.Transaction.{transaction}
use Rattle.rules.specs.Kinds.{can_end}
use Rattle.rules.specs.CycleRule.{push}
use Rattle.rules.specs.Bound.{span, start_at}
use Rattle.rules.specs.Finish.{last_command_in, count_from}
use Rattle.rules.proofs.laws.TestLaws.{OnSome}
use Rattle.rules.proofs.laws.Numbers.{same?}
use Rattle.rules.proofs.bound.Recent.{ext, ext_eq, ext_other}
use Rattle.rules.proofs.bound.Steps.{OfNumber, LastOf}

-- where a list has no more transactions
abbrev pub no_transaction : Transaction
no_transaction = transaction 0 0 1 1

abbrev pub nth : List Transaction → ℕ → Transaction
nth l k = get_or l k no_transaction

-- the first K transactions are done: the last command of number k went at `last k`, and its count started at `start k`
pub record Finishes (τ : Table) (l : List Transaction) (K : ℕ) (last start : ℕ → ℕ) (h : List Command) : Type 0 where
  pub zeroth : start 0 ≡ 0
  pub next : (k : ℕ) → k < K → start (k + 1) ≡ count_from τ (nth l k) (last k)
  pub got : (k : ℕ) → k < K → last_command_in k h ≡ Some (last k)
  pub near : (k : ℕ) → k < K → last k ≤ start_at (nth l k) (start k) + span τ (nth l k)

-- a command of transaction K leaves those before it
last_kept : (k K : ℕ) → k ≢ K → (o : Option Command) (h : List Command) → OnSome (OfNumber K) o → last_command_in k (push o h) ≡ last_command_in k h
last_kept k K n none h u = refl
last_kept k K n (some c) h u = on (can_end c.kind) refl
  where
    on : (b : Bool) → can_end c.kind ≡ b → pick (eqb c.number k && can_end c.kind) (Some c.cycle) (last_command_in k h) ≡ last_command_in k h
    on true e = rw (ne_eqb c.number k (λ z. n (sym z ∙ u e)))
    on false e = rw (e, and-false (eqb c.number k))

module _ (τ : Table) (l : List Transaction) (K : ℕ) (last start : ℕ → ℕ) (h : List Command) (q : Finishes τ l K last start h) where
  pub finishes_kept : (o : Option Command) → OnSome (OfNumber K) o → Finishes τ l K last start (push o h)
  finishes_kept o u =
      record {
        zeroth = q.zeroth;
        next = q.next;
        got = λ k z. last_kept k K (λ e. omega arith) o h u ∙ q.got k z;
        near = q.near;
      }

  -- transaction K is done too, with the command c at cycle t
  module _ (t : ℕ) (c : Command) (u : LastOf K t c) (b : t ≤ start_at (nth l K) (start K) + span τ (nth l K)) where
    pub finishes_more : Finishes τ l (K + 1) (ext last K t) (ext start (K + 1) (count_from τ (nth l K) t)) (c ∷ h)
    finishes_more =
        record {
          zeroth = ext_other start (K + 1) (count_from τ (nth l K) t) 0 (λ e. omega arith) ∙ q.zeroth;
          next = λ k z. next' k z (same? k K);
          got = λ k z. got' k z (same? k K);
          near = λ k z. near' k z (same? k K);
        }
      where
        next' : (k : ℕ) → k < K + 1 → (k ≡ K) ⊎ (k ≢ K) → ext start (K + 1) (count_from τ (nth l K) t) (k + 1) ≡ count_from τ (nth l k) (ext last K t k)
        next' k z (inl e) =
            ext_eq start (K + 1) (count_from τ (nth l K) t) (k + 1) (ap (λ (y : ℕ). y + 1) e)
            ∙ (ap (λ (y : ℕ). count_from τ (nth l y) t) (sym e) ∙ ap (count_from τ (nth l k)) (sym (ext_eq last K t k e)))
        next' k z (inr n) =
            rw (ext_other start (K + 1) (count_from τ (nth l K) t) (k + 1) (λ g. n (omega arith)), ext_other last K t k n) (q.next k (omega (arith, n)))

        got' : (k : ℕ) → k < K + 1 → (k ≡ K) ⊎ (k ≢ K) → last_command_in k (c ∷ h) ≡ Some (ext last K t k)
        got' k z (inl e) = rw (eq-eqb c.number k (u.1 ∙ sym e), u.0, u.2, ext_eq last K t k e)
        got' k z (inr n) =
            last_kept k K n (some c) h (λ y. u.1) ∙ (q.got k (omega (arith, n)) ∙ ap Some (sym (ext_other last K t k n)))

        near' : (k : ℕ) → k < K + 1 → (k ≡ K) ⊎ (k ≢ K) → ext last K t k ≤ start_at (nth l k) (ext start (K + 1) (count_from τ (nth l K) t) k) + span τ (nth l k)
        near' k z (inl e) = rw (ext_eq last K t k e, ext_other start (K + 1) (count_from τ (nth l K) t) k (λ g. omega arith), e) b
        near' k z (inr n) = rw (ext_other last K t k n, ext_other start (K + 1) (count_from τ (nth l K) t) k (λ g. omega arith)) (q.near k (omega (arith, n)))
