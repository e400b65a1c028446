-- "Commands stand in two queues."
use Rattle.std.specs.Prelude.{ℕ, zero, suc, ◌+◌, ◌%◌, Bool, true, false, List, [], ◌∷◌, ◌++◌, eqb}
use Rattle.std.proofs.Math.Option.{Option}
use Rattle.std.proofs.Math.ListN.{get_elem?}
use Rattle.records.specs.declared.table.Table.{Table}
use Rattle.records.specs.declared.transaction.Transaction.{Transaction}
use Rattle.records.specs.declared.command.Kind.{Kind}
use Rattle.records.specs.declared.command.Kind.TheVariants.{Act, Rd, Rda, Wr, Wra, Ref}
use Rattle.records.specs.declared.command.Command.{Command}
use Rattle.records.specs.Command.{command}
use Rattle.records.specs.Tests.{pick}
use Rattle.records.specs.Transaction.{is_write, is_refresh}

-- a command that stands in a queue; `act` is the place in the ACT queue of the ACT of its bank, a REF's own place; `arrival` is its transaction's
pub record Due : Type 0 where
  pub kind : Kind
  pub bank : ℕ
  pub number : ℕ
  pub act : ℕ
  pub arrival : ℕ

-- the command, at cycle t
abbrev pub due_at : ℕ → Due → Command
due_at t d = command t d.kind d.bank d.number

-- the bank that comes k-th, from 0: "banks ascending", which means "start, start + 1 and so on, with bank 0 after the last" (document 02,
-- request 2)
abbrev pub bank_at : Table → Transaction → ℕ → ℕ
bank_at τ x k = (x.start + k) % τ.banks

-- the data command of a transaction: a write or not, with auto precharge or not
abbrev pub data_kind : Bool → Bool → Kind
data_kind true true = Wra
data_kind true false = Wr
data_kind false true = Rda
data_kind false false = Rd

-- what f makes of n numbers from k on
abbrev pub numbered {ℓ} : {A : Type ℓ} → (ℕ → A) → ℕ → ℕ → List A
numbered f zero k = []
numbered f (suc n) k = f k ∷ numbered f n (suc k)

abbrev pub joined : List (List Due) → List Due
joined [] = []
joined (l ∷ ls) = l ++ joined ls

-- how many commands a transaction puts into the ACT queue: BI ACTs, or one REF
abbrev pub act_count : Transaction → ℕ
act_count x = pick (is_refresh x) 1 x.bi

-- which: ACTs, or a refresh, which "stands in the ACT queue as one command of kind 5 (REF, bank 0)" (document 02, request 5)
abbrev pub act_kind : Transaction → Kind
act_kind x = pick (is_refresh x) Ref Act

abbrev pub act_bank_at : Table → Transaction → ℕ → ℕ
act_bank_at τ x k = pick (is_refresh x) 0 (bank_at τ x k)

-- i is the transaction's number, a the number of commands before it in the ACT queue
abbrev pub acts_of : Table → Transaction → ℕ → ℕ → List Due
acts_of τ x i a = numbered (λ k. record { kind = act_kind x; bank = act_bank_at τ x k; number = i; act = a + k; arrival = x.arrival }) (act_count x) 0

-- "BC data commands per bank .., the last to each bank with auto precharge", for the bank that comes k-th
abbrev pub bursts_of : Table → Transaction → ℕ → ℕ → ℕ → List Due
bursts_of τ x i a k =
    numbered (λ m. record { kind = data_kind (is_write x) (eqb (m + 1) x.bc); bank = bank_at τ x k; number = i; act = a + k; arrival = x.arrival }) x.bc 0

-- a refresh has BI 0, and so no data commands
abbrev pub datas_of : Table → Transaction → ℕ → ℕ → List Due
datas_of τ x i a = joined (numbered (bursts_of τ x i a) x.bi 0)

-- the queue into which each transaction puts f, from transaction i on, before which a commands stand in the ACT queue
abbrev pub queue_from : (Transaction → ℕ → ℕ → List Due) → List Transaction → ℕ → ℕ → List Due
queue_from f [] i a = []
queue_from f (x ∷ xs) i a = f x i a ++ queue_from f xs (suc i) (a + act_count x)

-- "The ACT queue has each transaction's ACTs, first transaction first, banks ascending."
unfoldable pub act_queue : Table → List Transaction → List Due
act_queue τ l = queue_from (acts_of τ) l 0 0

-- "The data queue has BC data commands per bank in the same order"
unfoldable pub data_queue : Table → List Transaction → List Due
data_queue τ l = queue_from (datas_of τ) l 0 0

-- the head of a queue that n commands have left
abbrev pub head_after : List Due → ℕ → Option Due
head_after q n = get_elem? q n
