-- How many commands a run gives.
-- Assumes nothing.
use Prim.Native.Nat.{ℕ, zero, suc, ◌+◌, ◌-◌, ◌≤◌}
use native.Mathlib.Omega.{arith}
use mathlib.Core.Path.{◌≡◌, refl, ap, ◌∙◌}
use mathlib.Core.Bool.{Bool, true, false}
use mathlib.Core.Option.{Option, none, some}
use mathlib.Core.List.{List, [], ◌∷◌}
use lib.ListN.{length}
use Rattle.records.specs.declared.table.Table.{Table}
use Rattle.records.specs.declared.transaction.Transaction.{Transaction}
use Rattle.records.specs.declared.command.Kind.{Kind}
use Rattle.records.specs.declared.command.Kind.TheVariants.{Act, Rd, Rda, Wr, Wra, Ref, Other}
use Rattle.records.specs.declared.command.Command.{Command}
use Rattle.rules.specs.declared.state.State.{State}
use Rattle.records.specs.Tests.{every}
use Rattle.records.specs.Transaction.{is_write}
use Rattle.rules.specs.Kinds.{is_data, in_act_queue, is_known}
use Rattle.rules.specs.Pattern.{onto}
use Rattle.rules.specs.State.{breaks_none, add_if, after}
use Rattle.rules.specs.Queues.{act_queue, data_queue}
use Rattle.rules.specs.CycleRule.{acts_in, datas_in, goes, push}
use Rattle.rules.specs.Run.{steps, run}
use Rattle.rules.proofs.laws.TestLaws.{true_false, and_both, and_fst, and_snd, OnSome}
use Rattle.rules.proofs.history.Judged.{holds, in_known, LegalHistory}
use Rattle.rules.proofs.queues.Queue.{act_length, data_length}
use Rattle.rules.proofs.laws.DataKinds.{is_known_lem, act_known_lem}
use Rattle.rules.proofs.queues.Heads.{goes_place}
use Rattle.rules.proofs.queues.Counts.{steps_caps}
use Rattle.rules.proofs.runs.RunTo.{run_steps, run_cycles}

one_of : (k : Kind) → is_known k ≡ true → (a d : ℕ) → add_if (in_act_queue k) a + add_if (is_data k) d ≡ a + d + 1
one_of Act e a d = omega arith
one_of Rd e a d = omega arith
one_of Rda e a d = omega arith
one_of Wr e a d = omega arith
one_of Wra e a d = omega arith
one_of Ref e a d = omega arith
one_of (Other n) e a d = true_false false e refl

-- in a legal history each record is a command of the ACT queue or a data command
pub legal_count : (τ : Table) (h : List Command) → LegalHistory τ h → length h ≡ acts_in h + datas_in h
legal_count τ [] k = refl
legal_count τ (r ∷ h) k =
    omega (arith, legal_count τ h k.1, one_of r.kind (in_known τ r.kind r.bank (holds τ r h k.0 0)) (acts_in h) (datas_in h))

-- counts of records turned round
swap : (e : Bool) (m n : ℕ) → m + add_if e n ≡ add_if e m + n
swap true m n = omega arith
swap false m n = refl

acts_onto : (a b : List Command) → acts_in (onto a b) ≡ acts_in a + acts_in b
acts_onto [] b = omega arith
acts_onto (r ∷ a) b = acts_onto a (r ∷ b) ∙ swap (in_act_queue r.kind) (acts_in a) (acts_in b)

datas_onto : (a b : List Command) → datas_in (onto a b) ≡ datas_in a + datas_in b
datas_onto [] b = omega arith
datas_onto (r ∷ a) b = datas_onto a (r ∷ b) ∙ swap (is_data r.kind) (datas_in a) (datas_in b)

length_onto : (a b : List Command) → length (onto a b) ≡ length a + length b
length_onto [] b = omega arith
length_onto (r ∷ a) b = omega (arith, length_onto a (r ∷ b))

pub every_onto : (f : Command → Bool) (rs h : List Command) → every f rs ≡ true → every f h ≡ true → every f (onto rs h) ≡ true
every_onto f [] h e g = g
every_onto f (r ∷ rs) h e g =
    every_onto f rs (r ∷ h) (and_snd (f r) (every f rs) e) (and_both (f r) (every f h) (and_fst (f r) (every f rs) e) g)

pub acts_turn : (h : List Command) → acts_in (onto h []) ≡ acts_in h
acts_turn h = acts_onto h [] ∙ omega arith

pub datas_turn : (h : List Command) → datas_in (onto h []) ≡ datas_in h
datas_turn h = datas_onto h [] ∙ omega arith

pub length_turn : (h : List Command) → length (onto h []) ≡ length h
length_turn h = length_onto h [] ∙ omega arith

-- from any state: the commands given are those that have left the queues, at most one a cycle
module _ (τ : Table) (l : List Transaction) where
  goes_known : (s : State) → OnSome (λ c. is_known c.kind ≡ true) (goes τ l s)
  goes_known s =
      goes_place (breaks_none τ s) τ l s.cycle s.acts s.datas (λ c. is_known c.kind ≡ true)
      (λ p e. is_known_lem (is_write p.transaction) _) (λ p e. act_known_lem p.transaction)

  step_count : (s : State) (h : List Command) (o : Option Command) → OnSome (λ c. is_known c.kind ≡ true) o
      → (length (push o h) + (s.acts + s.datas) ≡ length h + ((after τ s o).acts + (after τ s o).datas)) × (length (push o h) ≤ length h + 1)
  step_count s h none k = (refl, omega arith)
  step_count s h (some c) k = (omega (arith, one_of c.kind k s.acts s.datas), omega arith)

  steps_count : (n : ℕ) (s : State) (h : List Command)
      → (length (steps n τ l s h).1 + (s.acts + s.datas) ≡ length h + ((steps n τ l s h).0.acts + (steps n τ l s h).0.datas))
      × (length (steps n τ l s h).1 ≤ length h + n)
  steps_count zero s h = (refl, omega arith)
  steps_count (suc n) s h =
      let a = step_count s h (goes τ l s) (goes_known s) in
      let b = steps_count n (after τ s (goes τ l s)) (push (goes τ l s) h) in
      (omega (arith, a.0, b.0), omega (arith, a.1, b.1))

  -- the room that n steps need, from a state whose counts are not past the queues' ends
  pub steps_room : (n : ℕ) (s : State) → s.acts ≤ length (act_queue τ l) → s.datas ≤ length (data_queue τ l)
      → (length (steps n τ l s []).1 ≤ n) × (length (steps n τ l s []).1 ≤ (length (act_queue τ l) - s.acts) + (length (data_queue τ l) - s.datas))
  steps_room n s a d =
      let c = steps_count n s [] in
      let k = steps_caps τ l n s [] (omega (arith, act_length τ l), omega (arith, data_length τ l)) in
      (omega (arith, c.1), omega (arith, c.0, k.0, k.1, act_length τ l, data_length τ l))

  -- and a run of at most n cycles
  pub run_room : (n : ℕ) (s : State) → s.acts ≤ length (act_queue τ l) → s.datas ≤ length (data_queue τ l)
      → (length (run n τ l s []).history ≤ n) × (length (run n τ l s []).history ≤ (length (act_queue τ l) - s.acts) + (length (data_queue τ l) - s.datas))
  run_room n s a d =
      let r = steps_room (run n τ l s []).cycles s a d in
      let e = ap (λ (y : State × List Command). length y.1) (run_steps n τ l s []) in
      (omega (arith, r.0, e, run_cycles n τ l s []), omega (arith, r.1, e))
