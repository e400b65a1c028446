-- "Schedules we build must pass."
-- Assumes nothing.
use Prim.Native.Nat.{ℕ, zero, suc, ◌<◌}
use native.Mathlib.Omega.{arith}
use mathlib.Core.Path.{◌≡◌, refl, sym, ap, ◌∙◌, subst}
use mathlib.Core.Bool.{true}
use mathlib.Core.Logic.{inl, inr}
use mathlib.Core.Option.{some}
use mathlib.Core.List.{List, [], ◌∷◌}
use lib.ListN.{length, take}
use lib.Seq.{take_all}
use Rattle.records.specs.declared.table.Table.{Table}
use Rattle.records.specs.declared.transaction.Transaction.{Transaction}
use Rattle.records.specs.declared.command.Kind.{Kind}
use Rattle.records.specs.declared.command.Command.{Command}
use Rattle.records.specs.Table.{Accepted}
use Rattle.records.specs.Transaction.{list_fits}
use Rattle.rules.specs.Pattern.{onto}
use Rattle.rules.specs.Queues.{act_queue, data_queue}
use Rattle.rules.specs.CycleRule.{Built}
use Rattle.rules.proofs.laws.Ranges.{Ranges, ranges}
use Rattle.rules.proofs.queues.Queue.{act_length, data_length}
use Rattle.rules.proofs.queues.Fit.{AllFit}
use Rattle.rules.proofs.shown.Built.{each_fits, state_at, built_history, all_gone, built_passes}
use Rattle.serves.specs.declared.answer.Served.TheVariants.{Serves}
use Rattle.serves.specs.Serves.{records_of, dues_of, due_under, Stands, act_before, AtFault, missing, repeated, not_its_own, other_number, out_of_order, misplaced, DoesTheWork, Says}
use Rattle.serves.proofs.Exactly.{serves_exactly}
use Rattle.serves.proofs.Records.{before_at, earlier_at}
use Rattle.serves.proofs.Entries.{below_length}
use Rattle.serves.proofs.Counts.{records_turn}
use Rattle.serves.proofs.Acts.{act_entry}
use Rattle.serves.proofs.Going.{GoodAt, Good, Going}
use Rattle.serves.proofs.Gone.{going}
use Rattle.serves.proofs.Tests.{same_some, none_some}

module _ (τ : Table) (acc : Accepted τ) (l : List Transaction) (fit : list_fits τ l ≡ true) where
  rng : Ranges τ
  rng = ranges τ acc

  v : AllFit τ l
  v = each_fits τ acc l fit

  older : (rs h : List Command) → Good τ l (onto rs h) → Good τ l h
  older [] h g = g
  older (r ∷ rs) h g = (older rs (r ∷ h) g).1

  good_at : (rs h : List Command) → Good τ l (onto rs h) → (i : ℕ) (r : Command) → Stands rs i r → GoodAt τ l r (onto (take i rs) h)
  good_at [] h g i r s = none_some r s
  good_at (w ∷ rs) h g zero r s = subst (λ (y : Command). GoodAt τ l y h) (same_some (some w) w r refl s) (older rs (w ∷ h) g).0
  good_at (w ∷ rs) h g (suc i) r s = good_at rs (w ∷ h) g i r s

  module _ (rs : List Command) (b : Built τ l rs) where
    all : Going τ l (state_at τ acc l fit b.cycles).acts (state_at τ acc l fit b.cycles).datas (onto rs [])
    all =
        subst (Going τ l (state_at τ acc l fit b.cycles).acts (state_at τ acc l fit b.cycles).datas) (sym (built_history τ acc l fit rs b))
        (going τ rng l v b.cycles)

    at : (i : ℕ) (r : Command) → Stands rs i r → GoodAt τ l r (onto (take i rs) [])
    at = good_at rs [] all.good

    as_due : (k : Kind) (c x : ℕ) → records_of k c x rs ≡ due_under τ l x k c
    unfolding due_under
    as_due k c x =
        let e = all_gone τ acc l fit rs b in
        let a : take (state_at τ acc l fit b.cycles).acts (act_queue τ l) ≡ act_queue τ l = take_all (state_at τ acc l fit b.cycles).acts (act_queue τ l)
        (omega (arith, e.1, act_length τ l)) in
        let d : take (state_at τ acc l fit b.cycles).datas (data_queue τ l) ≡ data_queue τ l = take_all (state_at τ acc l fit b.cycles).datas (data_queue τ l)
        (omega (arith, e.0, data_length τ l)) in
        omega (arith, records_turn k c x rs, all.counts k c x, ap (dues_of k c x) a, ap (dues_of k c x) d)

    inside : (i : ℕ) (r : Command) → Stands rs i r → r.number < length l
    inside i r s =
        let n = all.numbers r (before_at (λ w t. w ≡ r) rs [] i r s refl) in
        let a = act_entry τ l n.place n.due n.there in
        omega (arith, n.number, a.number, below_length l a.y a.x a.listed)

    no_fault : (x : ℕ) → x < length l → AtFault τ l rs x → ⊥
    no_fault x lt (missing k c h) = absurd (omega (arith, h, as_due k c x))
    no_fault x lt (repeated k c d h) = absurd (omega (arith, h, as_due k c x))
    no_fault x lt (not_its_own i r s e z) = absurd (omega (arith, (at i r s).due, ap (λ (y : ℕ). due_under τ l y r.kind r.bank) e, z))
    no_fault x lt (other_number i y r s e d a f) = f (same_some (act_before rs i r.bank) y r.number a ((at i r s).opened d) ∙ e)
    no_fault x lt (out_of_order i j w r s s' le e p) = (at j r s').order w (earlier_at (λ y. y ≡ w) rs j i w le s refl) p
    no_fault x lt (misplaced i j r w s s' ek e (inl (le, h, h'))) = absurd (omega (arith, (at i r s).ref_last ek w (earlier_at (λ y. y ≡ w) rs i j w le s' refl), h))
    no_fault x lt (misplaced i j r w s s' ek e (inr (le, h))) = absurd (omega (arith, (at j w s').ref_first r (earlier_at (λ y. y ≡ r) rs j i r le s refl) ek, h))

    -- the answer on a built schedule is "serves"
    pub built_serves : Says τ l rs Serves
    built_serves = (built_passes τ acc l fit rs b, inside, no_fault)

    -- in the request's words: it does the work
    pub built_does : DoesTheWork τ l rs
    built_does = (serves_exactly τ l rs).1 built_serves
