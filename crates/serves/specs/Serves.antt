-- Document 02, request 10: "Does it serve the list?" "Given a table, transactions and a schedule, does it do the work?" "Arrivals aren't looked at."
use Rattle.std.specs.Prelude.{ℕ, ◌+◌, ◌≤◌, ◌<◌, ◌≡◌, ◌≢◌, ◌⊎◌, Bool, true, false, ◌&&◌, List, [], ◌∷◌, eqb, length, take}
use Rattle.std.proofs.Math.Option.{Option, none, some}
use Rattle.std.proofs.Math.ListN.{get_elem?}
use Rattle.records.specs.declared.table.Table.{Table}
use Rattle.records.specs.declared.transaction.Transaction.{Transaction}
use Rattle.records.specs.declared.command.Kind.{Kind}
use Rattle.records.specs.declared.command.Kind.TheVariants.{Act, Rd, Rda, Wr, Wra, Ref, Other}
use Rattle.records.specs.declared.command.Command.{Command}
use Rattle.records.specs.Tests.{pick}
use Rattle.records.specs.Command.{command}
use Rattle.rules.specs.declared.verdict.Verdict.TheVariants.{Refused}
use Rattle.rules.specs.Kinds.{is_act, is_data}
use Rattle.rules.specs.State.{add_if}
use Rattle.rules.specs.Queues.{Due, due_at, act_queue, data_queue}
use Rattle.rules.specs.Verdict.{judge, Legal}
use Rattle.rules.specs.Pattern.{onto}
use Rattle.serves.specs.declared.answer.Served.{Served}
use Rattle.serves.specs.declared.answer.Served.TheVariants.{Serves, Refused as Judged, AtFault as Names}

-- ---- what is due, and what there is

-- a number for each kind, no two alike: `kind_number` may give a kind above 5 that of another
abbrev pub kind_code : Kind → ℕ
kind_code Act = 0
kind_code Rd = 1
kind_code Rda = 2
kind_code Wr = 3
kind_code Wra = 4
kind_code Ref = 5
kind_code (Other n) = 6 + n

-- a command of kind k, to bank b, under number x is the one of kind k', to bank b', under number x'
abbrev pub is_the : Kind → ℕ → ℕ → Kind → ℕ → ℕ → Bool
is_the k b x k' b' x' = eqb (kind_code k) (kind_code k') && (eqb b b' && eqb x x')

-- how many records of a schedule are the command of a kind, to a bank, under a number
abbrev pub records_of : Kind → ℕ → ℕ → List Command → ℕ
records_of k b x [] = 0
records_of k b x (r ∷ rs) = add_if (is_the r.kind r.bank r.number k b x) (records_of k b x rs)

-- how many commands of a queue are
abbrev pub dues_of : Kind → ℕ → ℕ → List Due → ℕ
dues_of k b x [] = 0
dues_of k b x (d ∷ q) = add_if (is_the d.kind d.bank d.number k b x) (dues_of k b x q)

-- how often a command is "a command due under its number", x: as often as the two queues of document 01 have it
unfoldable pub due_under : Table → List Transaction → ℕ → Kind → ℕ → ℕ
due_under τ l x k b = dues_of k b x (act_queue τ l) + dues_of k b x (data_queue τ l)

-- ---- where records stand

-- record number i of a schedule is r
abbrev pub Stands : List Command → ℕ → Command → Type 0
Stands rs i r = get_elem? rs i ≡ some r

-- the number that the latest ACT of a bank carries, in a history, newest first
abbrev pub latest_act : ℕ → List Command → Option ℕ
latest_act b [] = none
latest_act b (r ∷ h) = pick (eqb r.bank b && is_act r.kind) (some r.number) (latest_act b h)

-- the same before record number i of a schedule
abbrev pub act_before : List Command → ℕ → ℕ → Option ℕ
act_before rs i b = latest_act b (onto (take i rs) [])

-- the record has its place in a queue: a command there of its kind, bank and number
pub record Placed (q : List Due) (r : Command) : Type 0 where
  pub place : ℕ
  pub due : Due
  pub there : get_elem? q place ≡ some due
  pub kind : r.kind ≡ due.kind
  pub bank : r.bank ≡ due.bank
  pub number : r.number ≡ due.number

-- the queue places the record w later than the record r; data commands that are alike in kind, bank and number may change places
pub record PlacesLater (q : List Due) (r w : Command) : Type 0 where
  pub first : Placed q r
  pub second : Placed q w
  pub later : first.place < second.place
  pub unlike : is_the r.kind r.bank r.number w.kind w.bank w.number ≡ false

-- w, at j, stands on the wrong side of the REF r, at i, which stands "after every command of earlier transactions and before every command of later
-- ones"; a record numbered outside the list, which has n transactions, belongs to none
abbrev pub WrongSide : ℕ → ℕ → ℕ → Command → Command → Type 0
WrongSide n i j r w = ((j < i) × (r.number < w.number) × (w.number < n)) ⊎ ((i < j) × (w.number < r.number))

-- ---- fault

-- "A transaction is at fault when a command of its is missing, repeated or not its own, when the ACT before one of its data commands carries another
-- number, when a data command of its stands after one that the queue places later, or when its REF is misplaced." A command of its is a record with
-- its number x, due or not.
pub data AtFault (τ : Table) (l : List Transaction) (rs : List Command) (x : ℕ) : Type 0 where
  -- fewer records than are due
  missing : (k : Kind) (b : ℕ) → records_of k b x rs < due_under τ l x k b → AtFault τ l rs x
  -- more records than are due, of a command that is
  repeated : (k : Kind) (b : ℕ) → 1 ≤ due_under τ l x k b → due_under τ l x k b < records_of k b x rs → AtFault τ l rs x
  -- a record with its number that is not due
  not_its_own : (i : ℕ) (r : Command) → Stands rs i r → r.number ≡ x → due_under τ l x r.kind r.bank ≡ 0 → AtFault τ l rs x
  -- y is the other number
  other_number : (i y : ℕ) (r : Command) → Stands rs i r → r.number ≡ x → is_data r.kind ≡ true → act_before rs i r.bank ≡ some y → y ≢ x → AtFault τ l rs x
  -- record r, at j, is the transaction's; w stands before it, at i, but the data queue places it later
  out_of_order : (i j : ℕ) (w r : Command) → Stands rs i w → Stands rs j r → i < j → r.number ≡ x → PlacesLater (data_queue τ l) r w → AtFault τ l rs x
  misplaced : (i j : ℕ) (r w : Command) → Stands rs i r → Stands rs j w → r.kind ≡ Ref → r.number ≡ x → WrongSide (length l) i j r w → AtFault τ l rs x

-- "no record's number is outside the list"
abbrev pub NoneOutside : List Transaction → List Command → Type 0
NoneOutside l rs = (i : ℕ) (r : Command) → Stands rs i r → r.number < length l

abbrev pub OneOutside : List Transaction → List Command → Type 0
OneOutside l rs = (i : ℕ) × (r : Command) × (Stands rs i r) × (length l ≤ r.number)

-- ---- "Yes exactly when ..", in the request's words

-- "no record is anything but a command due under its number"
abbrev pub EachDue : Table → List Transaction → List Command → Type 0
EachDue τ l rs = (i : ℕ) (r : Command) → Stands rs i r → 1 ≤ due_under τ l r.number r.kind r.bank

-- "all data commands in queue order": none stands after one that the queue places later
abbrev pub InOrder : Table → List Transaction → List Command → Type 0
InOrder τ l rs = (i j : ℕ) (w r : Command) → Stands rs i w → Stands rs j r → i < j → PlacesLater (data_queue τ l) r w → ⊥

pub record DoesTheWork (τ : Table) (l : List Transaction) (rs : List Command) : Type 0 where
  -- "the judge accepts it"
  pub legal : Legal τ rs
  pub inside : NoneOutside l rs
  pub due : EachDue τ l rs
  -- "every transaction's ACTs and data commands occur exactly once, with its number, banks and type, .. the last at each bank with auto precharge",
  -- and "A refresh needs its REF exactly once": as often as they are due, since data commands to one bank are alike but for the last
  pub once : (x : ℕ) → x < length l → (k : Kind) (b : ℕ) → 1 ≤ due_under τ l x k b → records_of k b x rs ≡ due_under τ l x k b
  pub order : InOrder τ l rs
  -- "ACTs may stand in any order, but the latest ACT of a data command's bank must carry that command's number."
  pub acts : (i : ℕ) (r : Command) → Stands rs i r → is_data r.kind ≡ true → act_before rs i r.bank ≡ some r.number
  -- a REF "after every command of earlier transactions and before every command of later ones"
  pub ref_after : (i j : ℕ) (r w : Command) → Stands rs i r → r.kind ≡ Ref → Stands rs j w → w.number < r.number → j < i
  pub ref_before : (i j : ℕ) (r w : Command) → Stands rs i r → r.kind ≡ Ref → Stands rs j w → r.number < w.number → i < j

-- the same of the data commands in one equation: the data records, whatever their cycles, are the data queue
abbrev pub data_records : List Command → List Command
data_records [] = []
data_records (r ∷ rs) = pick (is_data r.kind) (command 0 r.kind r.bank r.number ∷ data_records rs) (data_records rs)

abbrev pub queued : List Due → List Command
queued [] = []
queued (d ∷ q) = due_at 0 d ∷ queued q

abbrev pub AreTheQueue : Table → List Transaction → List Command → Type 0
AreTheQueue τ l rs = data_records rs ≡ queued (data_queue τ l)

-- each data command that is due occurs as often as it is due, and all stand in queue order
abbrev pub DataOnce : Table → List Transaction → List Command → Type 0
DataOnce τ l rs = (x : ℕ) → x < length l → (k : Kind) (b : ℕ) → is_data k ≡ true → 1 ≤ due_under τ l x k b → records_of k b x rs ≡ due_under τ l x k b

-- ---- the answer

-- no transaction below n is at fault
abbrev pub NoneBelow : Table → List Transaction → List Command → ℕ → Type 0
NoneBelow τ l rs n = (x : ℕ) → x < n → AtFault τ l rs x → ⊥

-- x is the lowest transaction at fault
abbrev pub Lowest : Table → List Transaction → List Command → ℕ → Type 0
Lowest τ l rs x = (x < length l) × AtFault τ l rs x × NoneBelow τ l rs x

-- "Otherwise the judge's verdict comes first, then the lowest transaction at fault. .. If none is, the list's length is given."
abbrev pub Says : Table → List Transaction → List Command → Served → Type 0
Says τ l rs Serves = Legal τ rs × NoneOutside l rs × NoneBelow τ l rs (length l)
Says τ l rs (Judged x i) = judge τ rs ≡ Refused x i
Says τ l rs (Names x) = Legal τ rs × (Lowest τ l rs x ⊎ ((x ≡ length l) × NoneBelow τ l rs (length l) × OneOutside l rs))
