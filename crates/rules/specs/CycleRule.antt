-- Document 01, "The cycle rule".
use Rattle.std.specs.Prelude.{ℕ, zero, suc, Bool, ◌≡◌, List, [], ◌∷◌, ltb, leb, length}
use Rattle.std.proofs.Math.Option.{Option, none, some}
use Rattle.records.specs.Tests.{pick}
use Rattle.records.specs.declared.table.Table.{Table}
use Rattle.records.specs.declared.transaction.Transaction.{Transaction}
use Rattle.records.specs.declared.command.Command.{Command}
use Rattle.rules.specs.declared.state.State.{State}
use Rattle.rules.specs.Kinds.{is_data, in_act_queue}
use Rattle.rules.specs.History.{broken, is_fine}
use Rattle.rules.specs.State.{add_if, breaks_none}
use Rattle.rules.specs.Queues.{Due, due_at, act_queue, data_queue, head_after}
use Rattle.rules.specs.Pattern.{onto}

-- "Neither queue sees a transaction before its arrival" (document 02, request 9): a head of a queue that is seen at cycle t
abbrev pub seen : ℕ → Option Due → Option Due
seen t none = none
seen t (some d) = pick (leb d.arrival t) (some d) none

-- a head of a queue that has had its ACT, which is one of the first a of the ACT queue
abbrev pub had_act : ℕ → Option Due → Option Due
had_act a none = none
had_act a (some d) = pick (ltb d.act a) (some d) none

-- a head of a queue that breaks no rule at cycle t
abbrev pub legal_at : (Command → Bool) → ℕ → Option Due → Option Command
legal_at legal t none = none
legal_at legal t (some d) = pick (legal (due_at t d)) (some (due_at t d)) none

abbrev pub otherwise : Option Command → Option Command → Option Command
otherwise none y = y
otherwise (some c) y = some c

-- "If the head of the data queue has had its ACT and breaks no rule, it goes. Otherwise, if the head of the ACT queue breaks no rule,
-- it goes. Otherwise nothing does." Each head is seen from its arrival on. `legal` says of a command at cycle t that it breaks no rule; a and d
-- have left the queues.
abbrev pub goes_by : (Command → Bool) → Table → List Transaction → ℕ → ℕ → ℕ → Option Command
goes_by legal τ l t a d =
    otherwise (legal_at legal t (had_act a (seen t (head_after (data_queue τ l) d)))) (legal_at legal t (seen t (head_after (act_queue τ l) a)))

-- by history: how many commands of the ACT queue, and how many data commands, are among the records
abbrev pub acts_in : List Command → ℕ
acts_in [] = 0
acts_in (r ∷ h) = add_if (in_act_queue r.kind) (acts_in h)

abbrev pub datas_in : List Command → ℕ
datas_in [] = 0
datas_in (r ∷ h) = add_if (is_data r.kind) (datas_in h)

-- what goes at cycle t by history: ""breaks no rule" means none of rules 1 to 9 as the next record at that cycle"; so
-- are rules 11 and 12, "by the judge and by the cycle rule"
abbrev pub goes_at : Table → List Transaction → ℕ → List Command → Option Command
goes_at τ l t h = goes_by (λ c. is_fine (broken τ c h)) τ l t (acts_in h) (datas_in h)

-- what goes by what a state tells
abbrev pub goes : Table → List Transaction → State → Option Command
goes τ l s = goes_by (breaks_none τ s) τ l s.cycle s.acts s.datas

abbrev pub push : Option Command → List Command → List Command
push none h = h
push (some c) h = c ∷ h

-- what has gone in the cycles from 0 to before n, newest first
abbrev pub gone : ℕ → Table → List Transaction → List Command
gone zero τ l = []
gone (suc n) τ l = let h = gone n τ l in push (goes_at τ l n h) h

-- rs is the built schedule: what has gone, oldest first, when nothing is left in the queues
pub record Built (τ : Table) (l : List Transaction) (rs : List Command) : Type 0 where
  pub cycles : ℕ
  pub schedule : rs ≡ onto (gone cycles τ l) []
  pub acts : acts_in rs ≡ length (act_queue τ l)
  pub datas : datas_in rs ≡ length (data_queue τ l)
