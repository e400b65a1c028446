-- Counts only grow, no more commands leave a queue than stand in it, and once none is left nothing goes.
-- Assumes nothing.
use Prim.Native.Nat.{ℕ, zero, suc, ◌≤◌, ◌<◌}
use native.Mathlib.Omega.{arith}
use mathlib.Core.Path.{◌≡◌, refl, ◌∙◌, subst}
use mathlib.Core.Bool.{Bool, true, false}
use mathlib.Core.Option.{Option, none, some}
use mathlib.Core.List.{List}
use lib.ListN.{length, length-set}
use Rattle.records.specs.declared.table.Table.{Table}
use Rattle.records.specs.declared.transaction.Transaction.{Transaction}
use Rattle.records.specs.declared.command.Command.{Command}
use Rattle.rules.specs.declared.state.State.{State}
use Rattle.records.specs.Transaction.{is_write}
use Rattle.rules.specs.Kinds.{is_data, in_act_queue}
use Rattle.rules.specs.Square.{group_of}
use Rattle.rules.specs.State.{breaks_none, add_if, after}
use Rattle.rules.specs.CycleRule.{goes, push}
use Rattle.rules.specs.Run.{steps}
use Rattle.rules.specs.Queues.{act_count}
use Rattle.rules.proofs.laws.TestLaws.{true_false, OnSome}
use Rattle.rules.proofs.queues.Queue.{data_count, act_due, data_due, act_sum, data_sum, find_lt, find_end}
use Rattle.rules.proofs.laws.DataKinds.{not_in_acts, act_no_data}
use Rattle.rules.proofs.queues.Heads.{goes_place, goes_try}

pub after_size : (τ : Table) (s : State) (o : Option Command) → length (after τ s o).banks ≡ length s.banks
after_size τ s none = refl
after_size τ s (some c) = length-set s.banks c.bank _

pub after_groups : (τ : Table) (s : State) (o : Option Command) → length (after τ s o).groups ≡ length s.groups
after_groups τ s none = refl
after_groups τ s (some c) = length-set s.groups (group_of τ c.bank) _

add_if_up : (b : Bool) (n : ℕ) → n ≤ add_if b n
add_if_up true n = omega arith
add_if_up false n = omega arith

pub acts_up : (τ : Table) (s : State) (o : Option Command) → s.acts ≤ (after τ s o).acts
acts_up τ s none = omega arith
acts_up τ s (some c) = add_if_up (in_act_queue c.kind) s.acts

pub datas_up : (τ : Table) (s : State) (o : Option Command) → s.datas ≤ (after τ s o).datas
datas_up τ s none = omega arith
datas_up τ s (some c) = add_if_up (is_data c.kind) s.datas

abbrev pub Capped : List Transaction → State → Type 0
Capped l s = (s.acts ≤ act_sum l) × (s.datas ≤ data_sum l)

-- a command that goes stood in its queue
abbrev Stood : List Transaction → State → Command → Type 0
Stood l s c = (in_act_queue c.kind ≡ true → s.acts < act_sum l) × (is_data c.kind ≡ true → s.datas < data_sum l)

add_cap : (b : Bool) (n m : ℕ) → (b ≡ true → n < m) → n ≤ m → add_if b n ≤ m
add_cap true n m f h = omega (arith, f refl)
add_cap false n m f h = h

after_caps : (τ : Table) (l : List Transaction) (s : State) (o : Option Command) → OnSome (Stood l s) o → Capped l s → Capped l (after τ s o)
after_caps τ l s none u h = h
after_caps τ l s (some c) u h = (add_cap (in_act_queue c.kind) s.acts (act_sum l) u.0 h.0, add_cap (is_data c.kind) s.datas (data_sum l) u.1 h.1)

module _ (τ : Table) (l : List Transaction) where
  goes_stood : (s : State) → OnSome (Stood l s) (goes τ l s)
  goes_stood s =
      goes_place (breaks_none τ s) τ l s.cycle s.acts s.datas (Stood l s)
      (λ p e. (
        λ k. true_false (in_act_queue (data_due τ p).kind) k (not_in_acts (is_write p.transaction) _),
        λ k. subst (OnSome (λ p. s.datas < data_sum l)) e (find_lt data_count l 0 0 s.datas),
      ))
      (λ p e. (λ k. subst (OnSome (λ p. s.acts < act_sum l)) e (find_lt act_count l 0 0 s.acts), λ k. true_false (is_data (act_due τ p).kind) k (act_no_data p.transaction)))

  pub caps_step : (s : State) → Capped l s → Capped l (after τ s (goes τ l s))
  caps_step s h = after_caps τ l s (goes τ l s) (goes_stood s) h

  pub steps_caps : (n : ℕ) (s : State) (h : List Command) → Capped l s → Capped l (steps n τ l s h).0
  steps_caps zero s h k = k
  steps_caps (suc n) s h k = steps_caps n (after τ s (goes τ l s)) (push (goes τ l s) h) (caps_step s k)

  pub none_left : (s : State) → data_sum l ≤ s.datas → act_sum l ≤ s.acts → goes τ l s ≡ none
  none_left s d a = goes_try τ l s ∙ rw (find_end data_count l 0 0 s.datas d, find_end act_count l 0 0 s.acts a)
