-- What the code computes of a schedule that the judge accepts. The theorems of `proofs/` say that this is what `Serves` defines.
use Rattle.std.specs.Prelude.{ℕ, zero, suc, ◌+◌, ◌-◌, ◌*◌, ◌≤◌, ◌<◌, min, max, ◌≡◌, Bool, true, false, not, ◌&&◌, ◌||◌, List, [], ◌∷◌, leb, ltb, eqb, length, get_or}
use Rattle.std.proofs.Math.Option.{Option, none, some}
use Rattle.records.specs.declared.transaction.Transaction.{Transaction}
use Rattle.records.specs.declared.command.Command.{Command}
use Rattle.records.specs.Tests.{pick, every_below, within}
use Rattle.records.specs.Transaction.{later_at, is_write, is_refresh}
use Rattle.records.specs.Command.{command_at}
use Rattle.rules.specs.Kinds.{is_ref, is_data}
use Rattle.rules.specs.State.{add_if}
use Rattle.serves.specs.declared.answer.Served.{Served}
use Rattle.serves.specs.declared.answer.Served.TheVariants.{Serves, AtFault as Names}
use Rattle.serves.specs.Serves.{kind_code, latest_act}

-- ---- what is due under one transaction, by the number c of a kind

-- which bank of a transaction that starts at a bank b is, from 0, going round past the last
abbrev pub index_of : ℕ → ℕ → ℕ → ℕ
index_of banks start b = pick (leb start b) (b - start) (b + banks - start)

-- how many commands are due to one bank of a read, or of a write
abbrev pub per_bank : Bool → ℕ → ℕ → ℕ
per_bank w bc c = pick (eqb c 0) 1 (pick (eqb c (pick w 3 1)) (bc - 1) (pick (eqb c (pick w 4 2)) 1 0))

-- how many to bank b, one of the table's
abbrev pub due_count : ℕ → Transaction → ℕ → ℕ → ℕ
due_count banks x c b =
    pick (is_refresh x) (pick (eqb c 5 && eqb b 0) 1 0)
    (pick (ltb (index_of banks x.start b) x.bi) (per_bank (is_write x) x.bc c) 0)

-- where the data queue places a data command of transaction y: by the transaction, by the bank, the last to its bank last
abbrev pub key_of : ℕ → ℕ → ℕ → ℕ → ℕ → ℕ
key_of banks start y c b = y * 32 + index_of banks start b * 2 + pick (eqb c 2 || eqb c 4) 1 0

-- the place of a command among counts: 16 for each kind, 96 for each transaction
abbrev pub slot : ℕ → ℕ → ℕ → ℕ
slot y c b = y * 96 + c * 16 + b

-- as many commands of transaction y are counted for bank b, of each kind, as are due
abbrev pub bank_agrees : ℕ → Transaction → ℕ → (ℕ → ℕ) → ℕ → Bool
bank_agrees banks x y count b = every_below 6 (λ c. eqb (count (slot y c b)) (due_count banks x c b))

abbrev pub agrees : ℕ → Transaction → ℕ → (ℕ → ℕ) → Bool
agrees banks x y count = every_below banks (bank_agrees banks x y count)

-- ---- records, newest first

-- the greatest g of those records that pass t
abbrev pub most_of : (Command → Bool) → (Command → ℕ) → List Command → ℕ
most_of t g [] = 0
most_of t g (r ∷ h) = pick (t r) (max (g r) (most_of t g h)) (most_of t g h)

-- the place of the last record of transaction y, from 0; 0 where there is none
abbrev pub last_of : ℕ → List Command → ℕ
last_of y [] = 0
last_of y (r ∷ h) = pick (eqb r.number y) (length h) (last_of y h)

-- the place of the first REF of transaction x; 69,632, past the last place that a schedule has, where there is none
abbrev pub ref_of : ℕ → List Command → ℕ
ref_of x [] = 69632
ref_of x (r ∷ h) = pick (eqb r.number x && is_ref r.kind) (min (length h) (ref_of x h)) (ref_of x h)

-- the greatest f of a number below x
abbrev pub most_below : (ℕ → ℕ) → ℕ → ℕ
most_below f zero = 0
most_below f (suc x) = max (f x) (most_below f x)

-- the latest ACT carries another number than y
abbrev pub another : Option ℕ → ℕ → Bool
another none y = false
another (some x) y = not (eqb x y)

-- a list of n transactions
module _ (n : ℕ) where
  abbrev pub inside : Command → Bool
  inside r = ltb r.number n

  -- one past the greatest number inside the list
  abbrev pub high_of : List Command → ℕ
  high_of h = most_of inside (λ r. r.number + 1) h

  -- how many records inside the list have a place among counts
  abbrev pub slot_count : List Command → ℕ → ℕ
  slot_count [] i = 0
  slot_count (r ∷ h) i = add_if (inside r && eqb (slot r.number (kind_code r.kind) r.bank) i) (slot_count h i)

  -- a record is outside the list
  abbrev pub any_outside : List Command → Bool
  any_outside [] = false
  any_outside (r ∷ h) = not (inside r) || any_outside h

  -- the lowest number inside the list of a record that fails a test against the records before it, n where none does
  abbrev pub least_by : (Command → List Command → Bool) → List Command → ℕ
  least_by bad [] = n
  least_by bad (r ∷ h) = pick (inside r && bad r h) (min r.number (least_by bad h)) (least_by bad h)

-- a table of so many banks, n transactions, and the transaction of each number
module _ (banks n : ℕ) (at : ℕ → Transaction) where
  abbrev pub due_of : Command → ℕ
  due_of r = due_count banks (at r.number) (kind_code r.kind) r.bank

  abbrev pub key_in : Command → ℕ
  key_in r = key_of banks (at r.number).start r.number (kind_code r.kind) r.bank

  -- a data command that is due
  abbrev pub placed : Command → Bool
  placed r = inside n r && (is_data r.kind && not (eqb (due_of r) 0))

  -- the greatest place in the queue of a data command that is due
  abbrev pub top_of : List Command → ℕ
  top_of h = most_of placed key_in h

  -- a record of the list puts its transaction at fault, by the records before it: it is not due, its bank was opened under another number, it
  -- stands after a data command that the queue places later, or it is a REF after a later transaction's command
  abbrev pub faulty : Command → List Command → Bool
  faulty r h =
      eqb (due_of r) 0
      || ((is_data r.kind && (another (latest_act r.bank h) r.number || ltb (key_in r) (top_of h)))
      || (is_ref r.kind && ltb (r.number + 1) (high_of n h)))

-- transaction x is at fault by all records: its REF is before an earlier transaction's command, or its commands are not as many as are due. The places
-- of first REFs and of last records, and the counts, tell what there is
abbrev pub wrong_by : ℕ → (ℕ → Transaction) → (ℕ → ℕ) → (ℕ → ℕ) → (ℕ → ℕ) → ℕ → Bool
wrong_by banks at ref last count x = ltb (ref x) (most_below last x) || not (agrees banks (at x) x count)

abbrev pub wrong : ℕ → ℕ → (ℕ → Transaction) → List Command → ℕ → Bool
wrong banks n at h x = wrong_by banks at (λ y. ref_of y h) (λ y. last_of y h) (slot_count n h) x

-- i is the first below m that passes p, or m
pub record FirstAt (p : ℕ → Bool) (m i : ℕ) : Type 0 where
  pub within : i ≤ m
  pub none_before : (j : ℕ) → j < i → p j ≡ false
  pub there : i < m → p i ≡ true

-- what is answered of a schedule that the judge accepts: m is the lowest number found at fault, n where none is
abbrev pub answer_of : ℕ → ℕ → Bool → Served
answer_of n m outside = pick (ltb m n) (Names m) (pick outside (Names n) Serves)

-- ---- in the code's terms

-- the transaction of a number, in bytes; number i of an array
abbrev pub listed_at : List ℕ → ℕ → Transaction
listed_at bs y = later_at bs (8 * y)

abbrev pub number_at : List ℕ → ℕ → ℕ
number_at a i = get_or a i 0

-- the first j records of bytes, newest first
unfoldable pub seen : List ℕ → ℕ → List Command
seen s zero = []
seen s (suc j) = command_at s (8 * j) ∷ seen s j

-- `faulty` by what is due, the number of the kind, the number that the latest ACT of its bank carries, its own number y, its place, the greatest place
-- before it, and one past the greatest number before it
abbrev pub faulty_by : ℕ → ℕ → ℕ → ℕ → ℕ → ℕ → ℕ → Bool
faulty_by due c held y key top high =
    eqb due 0 || ((within 1 4 c && (not (eqb held y) || ltb key top)) || (eqb c 5 && ltb (y + 1) high))

-- what a pass over the first m records finds: the lowest transaction at fault, n where none is, and whether a record is outside the list
pub record Finds (banks n : ℕ) (at : ℕ → Transaction) (h : List Command) (i : ℕ) (outside : Bool) : Type 0 where
  pub first : FirstAt (wrong banks n at h) (least_by n (faulty banks n at) h) i
  pub others : outside ≡ any_outside n h
