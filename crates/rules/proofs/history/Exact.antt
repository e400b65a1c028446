-- From a fresh state the cycle rule by state gives what the cycle rule by history gives.
-- Assumes nothing.
use Prim.Native.Nat.{ℕ, zero, suc, ◌+◌, ◌%◌, ◌<◌}
use native.Mathlib.Omega.{arith}
use native.Mathlib.Nat.{zero-add}
use mathlib.Core.Path.{◌≡◌, refl, sym, ap, ◌∙◌}
use mathlib.Core.Bool.{Bool, true, false}
use mathlib.Core.Option.{Option, none, some, map}
use mathlib.Core.List.{List, [], ◌∷◌}
use lib.Dec.{eqb}
use lib.ListN.{get_elem?}
use borrow.Author.Tests.{lt-ltb}
use Rattle.records.specs.declared.table.Table.{Table}
use Rattle.records.specs.declared.transaction.Transaction.{Transaction}
use Rattle.records.specs.declared.command.Kind.TheVariants.{Act, Ref}
use Rattle.records.specs.declared.command.Command.{Command}
use Rattle.rules.specs.declared.state.State.{State}
use Rattle.records.specs.Tests.{pick, every}
use Rattle.records.specs.Transaction.{is_write, is_refresh}
use Rattle.rules.specs.State.{fresh, after}
use Rattle.rules.specs.Queues.{Due, bank_at, act_queue, data_queue, act_count}
use Rattle.rules.specs.History.{in_table}
use Rattle.rules.specs.CycleRule.{goes_at, goes, push, gone}
use Rattle.rules.specs.Run.{steps}
use Rattle.rules.proofs.laws.TestLaws.{and_both, OnSome}
use Rattle.rules.proofs.laws.Ranges.{Ranges, held}
use Rattle.rules.proofs.history.Link.{Sums, sums_fresh}
use Rattle.rules.proofs.history.Judged.{LegalHistory}
use Rattle.rules.proofs.history.Legal.{due_in, QueuesFit, goes_same, steps_legal}
use Rattle.rules.proofs.queues.Queue.{Place, data_count, act_place, data_place, act_due, data_due, act_head, data_head}
use Rattle.rules.proofs.queues.Fit.{AllFit, Inside, place_at, act_bank_lem, data_bank}
use Rattle.rules.proofs.laws.DataKinds.{no_ref, is_known_lem}
use Rattle.rules.proofs.bound.Served.{steps_add, steps_cycle}

each : {A : Type 0} (f : A → Bool) (l : List A) → ((i : ℕ) → OnSome (λ x. f x ≡ true) (get_elem? l i)) → every f l ≡ true
each f [] h = refl
each f (x ∷ l) h = and_both (f x) (every f l) (h 0) (each f l (λ i. h (suc i)))

-- no command in either queue breaks rule 1
pub queues_fit : (τ : Table) (l : List Transaction) → AllFit τ l → QueuesFit τ l
queues_fit τ l v =
    record {
      acts = each (due_in τ) (act_queue τ l) (λ i. rw (act_head τ l i) (on_place (act_due τ) act_count act_in_lem (act_place l i) (place_at τ act_count l v 0 0 i)));
      datas = each (due_in τ) (data_queue τ l) (λ i. rw (data_head τ l i) (on_place (data_due τ) data_count data_in (data_place l i) (place_at τ data_count l v 0 0 i)));
    }
  where
    on_place : (d : Place → Due) (f : Transaction → ℕ) → ((p : Place) → Inside τ f p → due_in τ (d p) ≡ true) → (o : Option Place) → OnSome (Inside τ f) o
        → OnSome (λ x. due_in τ x ≡ true) (map d o)
    on_place d f g none k = tt
    on_place d f g (some p) k = g p k

    act_in_lem : (p : Place) → Inside τ act_count p → due_in τ (act_due τ p) ≡ true
    act_in_lem p k = on (is_refresh p.transaction) (act_bank_lem τ p k)
      where
        b : ℕ
        b = bank_at τ p.transaction p.offset

        on : (z : Bool) → pick z 0 b < τ.banks → in_table τ (pick z Ref Act) (pick z 0 b) ≡ true
        on true h = rw (lt-ltb 0 τ.banks h)
        on false h = rw (lt-ltb b τ.banks h)

    data_in : (p : Place) → Inside τ data_count p → due_in τ (data_due τ p) ≡ true
    data_in p k =
        let z = eqb (p.offset % p.transaction.bc + 1) p.transaction.bc in
        let w = is_write p.transaction in
        rw (is_known_lem w z, no_ref w z, lt-ltb (data_due τ p).bank τ.banks (data_bank τ p k))

-- the last of n + 1 steps
pub steps_last : (n : ℕ) (τ : Table) (l : List Transaction) (s : State) (h : List Command)
    → steps (suc n) τ l s h ≡ (after τ (steps n τ l s h).0 (goes τ l (steps n τ l s h).0), push (goes τ l (steps n τ l s h).0) (steps n τ l s h).1)
steps_last n τ l s h = let z : suc n ≡ n + 1 = omega arith in ap (λ (k : ℕ). steps k τ l s h) z ∙ steps_add n 1 τ l s h

module _ (τ : Table) (rng : Ranges τ) (l : List Transaction) (v : AllFit τ l) where
  -- after n steps the state sums up what has gone, which is a legal history
  pub fresh_legal : (n : ℕ) → Sums τ (steps n τ l (fresh τ) []).1 (steps n τ l (fresh τ) []).0 × LegalHistory τ (steps n τ l (fresh τ) []).1
  fresh_legal n = steps_legal n τ (held τ rng) l (queues_fit τ l v) (fresh τ) [] (sums_fresh τ) tt

  pub exact : (n : ℕ) → gone n τ l ≡ (steps n τ l (fresh τ) []).1
  exact zero = refl
  exact (suc n) =
      let s = (steps n τ l (fresh τ) []).0 in
      let h = (steps n τ l (fresh τ) []).1 in
      let e : goes_at τ l s.cycle h ≡ goes τ l s = sym (goes_same τ (held τ rng) h s (fresh_legal n).0 l (queues_fit τ l v)) in
      let t : s.cycle ≡ n = steps_cycle n τ l (fresh τ) [] ∙ zero-add n in
      ap (λ (y : List Command). push (goes_at τ l n y) y) (exact n)
      ∙ (ap (λ (o : Option Command). push o h) (ap (λ (c : ℕ). goes_at τ l c h) (sym t) ∙ e)
      ∙ ap (λ (y : State × List Command). y.1) (sym (steps_last n τ l (fresh τ) [])))
