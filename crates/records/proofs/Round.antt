-- "Reading and writing each record are inverse on every record that is accepted."
-- Assumes nothing.
use Rattle.std.specs.Prelude.{Result, Ok, Err}
use Prim.Native.Nat.{ℕ, ◌*◌, ◌≤◌, ◌<◌}
use mathlib.Core.Bool.{Bool, true, not}
use mathlib.Core.Path.{◌≡◌, refl, sym, ap, ◌∙◌}
use mathlib.Core.List.{List, [], ◌∷◌, ◌++◌, append-nil}
use native.Mathlib.Omega.{arith}
use lib.Dec.{eqb}
use lib.ListN.{length, get_or, take, drop, drop_of_length-le}
use lib.Seq.{take_all}
use borrow.Author.Tests.{eqb-true, eq-eqb, le-leb, not-false}
use Rattle.records.specs.declared.refusal.Refusal.{Refusal}
use Rattle.records.specs.declared.table.Table.{Table}
use Rattle.records.specs.declared.transaction.Transaction.{Transaction}
use Rattle.records.specs.declared.command.Command.{Command}
use Rattle.records.specs.Tests.{pick}
use Rattle.records.specs.Told.{refusal, over, Wrote}
use Rattle.records.specs.Little.{num, bytes16}
use Rattle.records.specs.Table.{table_of, group_table_of, plain_table_at, table_at, numbers_of, group_numbers_of, table_size, table_refusal_by, table_refusal, read_table, write_table, write_group_table}
use Rattle.records.specs.Transaction.{arriving, transaction_at, later_at, later_bytes, transaction_refusal, later_refusal, read_transaction, write_transaction, read_later, write_later}
use Rattle.records.specs.Transaction as Transactions
use Rattle.records.specs.Command.{kind_of, kind_number, command, command_at, command_refusal, room_refusal, read_command, write_command}
use Rattle.records.specs.Command as Commands
use Rattle.records.proofs.Laws.{read_is, read_was, write_is, write_was, passes, refusal_right, refusal_size, table_size_lem, transaction_size, later_size, arrives_by}
use Rattle.records.proofs.Bytes.{length_16, length_over}
use Rattle.records.proofs.Inverse.{Bytes, le16_of, le32_of, of_le16, of_le32, plain_16, group_20, plain_at, group_at_lem, bytes_from, elements_from, kind_number_lem}

-- new bytes that fill the buffer
over_all : (new s : List ℕ) → length s ≤ length new → over new s ≡ new
over_all new s h = rw (drop_of_length-le s h) (append-nil new)

-- ---- the table, of 32 bytes and of 40

no_table : (τ : Table) (n : ℕ) → Err (refusal n 0 0) ≡ Ok τ → ⊥
no_table τ n k = let y : ◌≡◌ {A = ℕ} 0 1 = cc in omega arith

-- a table record of n numbers: `of` makes the table of them, `numbers` takes them out of it
module _ (n : ℕ) (right : table_size (2 * n) ≡ true) (of : List ℕ → Table) (numbers : Table → List ℕ) where
  abbrev done : List ℕ → List ℕ → Wrote
  done l s = record { answer = Ok (of l).edition; buffer = over (bytes16 l) s }

  abbrev write : List ℕ → List ℕ → Wrote
  write l s =
      pick (eqb (table_refusal_by (eqb (length s) (2 * n)) (of l)) 0) (done l s)
      (record { answer = Err (refusal (table_refusal_by (eqb (length s) (2 * n)) (of l)) 0 0); buffer = s })

  written_read : (at : (l r : List ℕ) → length l ≡ n → length (bytes16 l ++ r) ≡ 2 * n → table_at (bytes16 l ++ r) ≡ of l)
      → (l s : List ℕ) (e : ℕ) → length l ≡ n → (write l s).answer ≡ Ok e → read_table (write l s).buffer ≡ Ok (of l)
  unfolding read_table
  written_read at l s e k d =
      ap (λ (w : Wrote). read_table w.buffer) (write_is (table_refusal_by (eqb (length s) (2 * n)) (of l)) (done l s) s z)
      ∙ read_is table_refusal table_at Ok (λ n. Err (refusal n 0 0)) (over (bytes16 l) s) (of l) (at l (drop (length (bytes16 l)) s) k (filled ∙ size))
      (ap (λ (m : ℕ). table_refusal m (of l)) (filled ∙ size) ∙ (ap (λ (b : Bool). table_refusal_by b (of l)) (right ∙ sym (refusal_right (eqb (length s) (2 * n)) (of l) z)) ∙ z))
    where
      z : table_refusal_by (eqb (length s) (2 * n)) (of l) ≡ 0
      z = write_was (table_refusal_by (eqb (length s) (2 * n)) (of l)) (done l s) s e d

      size : length s ≡ 2 * n
      size = refusal_size (2 * n) (length s) (of l) z

      filled : length (over (bytes16 l) s) ≡ length s
      filled = length_over (bytes16 l) s (omega (arith, length_16 l, size))

  read_written : ((t : Table) → (of (numbers t)).edition ≡ t.edition) → (s b : List ℕ) (τ : Table) → of (numbers τ) ≡ τ → bytes16 (numbers (table_at s)) ≡ s
      → length s ≡ 2 * n → length b ≡ 2 * n → read_table s ≡ Ok τ
      → write (numbers τ) b ≡ record { answer = Ok τ.edition; buffer = s }
  unfolding read_table
  read_written ed s b τ same filled size m r =
      write_is (table_refusal_by (eqb (length b) (2 * n)) (of (numbers τ))) (done (numbers τ) b) b zero
      ∙ (ap (λ (k : ℕ). record { answer = Ok k; buffer = over (bytes16 (numbers τ)) b }) (ed τ)
      ∙ ap (λ (l : List ℕ). record { answer = Ok τ.edition; buffer = l }) bytes)
    where
      was : (table_refusal (length s) (table_at s) ≡ 0) × (◌≡◌ {A = Result Table Refusal} (Ok (table_at s)) (Ok τ))
      was = read_was table_refusal table_at Ok (λ n. Err (refusal n 0 0)) s τ (no_table τ) r

      e : table_at s ≡ τ
      e = let k = was.1 in cc

      zero : table_refusal_by (eqb (length b) (2 * n)) (of (numbers τ)) ≡ 0
      zero =
          ap (table_refusal_by (eqb (length b) (2 * n))) (same ∙ sym e)
          ∙ (ap (λ (x : Bool). table_refusal_by x (table_at s)) (eq-eqb (length b) (2 * n) m ∙ sym (table_size_lem (length s) (table_at s) was.0)) ∙ was.0)

      written : bytes16 (numbers τ) ≡ s
      written = ap (λ (t : Table). bytes16 (numbers t)) (sym e) ∙ filled

      bytes : over (bytes16 (numbers τ)) b ≡ s
      bytes = over_all (bytes16 (numbers τ)) b (rw written (omega (arith, size, m))) ∙ written

pub table_written_read : (l s : List ℕ) (e : ℕ) → length l ≡ 16 → (write_table l s).answer ≡ Ok e → read_table (write_table l s).buffer ≡ Ok (table_of l)
unfolding write_table
table_written_read l s e n d =
    written_read 16 refl table_of numbers_of (λ l r k m. plain_at (bytes16 l ++ r) m ∙ plain_16 l r k) l s e n d

pub group_table_written_read : (l s : List ℕ) (e : ℕ) → length l ≡ 20 → (write_group_table l s).answer ≡ Ok e
    → read_table (write_group_table l s).buffer ≡ Ok (group_table_of l)
unfolding write_group_table
group_table_written_read l s e n d =
    written_read 20 refl group_table_of group_numbers_of (λ l r k m. group_at_lem (bytes16 l ++ r) m ∙ group_20 l r k) l s e n d

pub table_read_written : (s b : List ℕ) (τ : Table) → Bytes s → length s ≡ 32 → length b ≡ 32 → read_table s ≡ Ok τ
    → write_table (numbers_of τ) b ≡ record { answer = Ok τ.edition; buffer = s }
unfolding read_table write_table
table_read_written s b τ y size n r =
    read_written 16 refl table_of numbers_of (λ t. refl) s b τ (ap (λ (t : Table). table_of (numbers_of t)) (sym e) ∙ e) sixteen size n r
  where
    was : (table_refusal (length s) (table_at s) ≡ 0) × (◌≡◌ {A = Result Table Refusal} (Ok (table_at s)) (Ok τ))
    was = read_was table_refusal table_at Ok (λ n. Err (refusal n 0 0)) s τ (no_table τ) r

    e : plain_table_at s ≡ τ
    e = let k = was.1 in sym (plain_at s size) ∙ cc

    sixteen : bytes16 (numbers_of (table_at s)) ≡ s
    sixteen = ap (λ (t : Table). bytes16 (numbers_of t)) (plain_at s size) ∙ (bytes_from 16 0 s y (omega (arith, size)) ∙ take_all 32 s (omega (arith, size)))

pub group_table_read_written : (s b : List ℕ) (τ : Table) → Bytes s → length s ≡ 40 → length b ≡ 40 → read_table s ≡ Ok τ
    → write_group_table (group_numbers_of τ) b ≡ record { answer = Ok τ.edition; buffer = s }
unfolding write_group_table
group_table_read_written s b τ y size n r =
    read_written 20 refl group_table_of group_numbers_of (λ t. refl) s b τ refl twenty size n r
  where
    twenty : bytes16 (group_numbers_of (table_at s)) ≡ s
    twenty = ap (λ (t : Table). bytes16 (group_numbers_of t)) (group_at_lem s size) ∙ (bytes_from 20 0 s y (omega (arith, size)) ∙ take_all 40 s (omega (arith, size)))

-- ---- the transaction

abbrev transaction_done : Transaction → List ℕ → Wrote
transaction_done x s = record { answer = Ok 0; buffer = over (Transactions.bytes_of x) s }

no_transaction_lem : (x : Transaction) (n : ℕ) → Err (refusal n 0 0) ≡ Ok x → ⊥
no_transaction_lem x n k = let y : ◌≡◌ {A = ℕ} 0 1 = cc in omega arith

abbrev first_transaction : List ℕ → Transaction
first_transaction s = transaction_at s 0

pub transaction_written_read : (x : Transaction) (s : List ℕ) (e : ℕ) → (write_transaction x s).answer ≡ Ok e
    → read_transaction (write_transaction x s).buffer ≡ Ok x
unfolding read_transaction write_transaction
transaction_written_read x s e d =
    ap (λ (w : Wrote). read_transaction w.buffer) (write_is (transaction_refusal (length s) x) (transaction_done x s) s z)
    ∙ read_is transaction_refusal first_transaction Ok (λ n. Err (refusal n 0 0)) (over (Transactions.bytes_of x) s) x (ap (arriving x) (sym none_later))
    (ap (λ (k : ℕ). transaction_refusal k x) (length_over (Transactions.bytes_of x) s (omega (arith, transaction_size (length s) x z))) ∙ z)
  where
    z : transaction_refusal (length s) x ≡ 0
    z = write_was (transaction_refusal (length s) x) (transaction_done x s) s e d

    none_later : x.arrival ≡ 0
    none_later = omega (arith, arrives_by 4 0 (length s) x z)

pub transaction_read_written : (s b : List ℕ) (x : Transaction) → length b ≡ 4 → read_transaction s ≡ Ok x
    → write_transaction x b ≡ record { answer = Ok 0; buffer = s }
unfolding read_transaction write_transaction
transaction_read_written s b x n r =
    write_is (transaction_refusal (length b) x) (transaction_done x b) b (ap (λ (k : ℕ). transaction_refusal k x) (n ∙ sym size) ∙ ap (transaction_refusal (length s)) (sym e) ∙ z)
    ∙ ap (λ (l : List ℕ). record { answer = Ok 0; buffer = l }) bytes
  where
    was : (transaction_refusal (length s) (transaction_at s 0) ≡ 0) × (◌≡◌ {A = Result Transaction Refusal} (Ok (transaction_at s 0)) (Ok x))
    was = read_was transaction_refusal first_transaction Ok (λ n. Err (refusal n 0 0)) s x (no_transaction_lem x) r

    z : transaction_refusal (length s) (transaction_at s 0) ≡ 0
    z = was.0

    e : transaction_at s 0 ≡ x
    e = let k = was.1 in cc

    size : length s ≡ 4
    size = transaction_size (length s) (transaction_at s 0) z

    four : (l : List ℕ) → length l ≡ 4 → Transactions.bytes_of (transaction_at l 0) ≡ l
    four l h = elements_from 4 0 l (omega (arith, h)) ∙ take_all 4 l (omega (arith, h))

    bytes : over (Transactions.bytes_of x) b ≡ s
    bytes = ap (λ (t : Transaction). over (Transactions.bytes_of t) b) (sym e) ∙ over_all (Transactions.bytes_of (transaction_at s 0)) b (omega (arith, n)) ∙ four s size

-- ---- the transaction that arrives later

abbrev later_done : Transaction → List ℕ → Wrote
later_done x s = record { answer = Ok 0; buffer = over (later_bytes x) s }

abbrev first_later : List ℕ → Transaction
first_later s = later_at s 0

pub later_written_read : (x : Transaction) (s : List ℕ) (e : ℕ) → (write_later x s).answer ≡ Ok e → read_later (write_later x s).buffer ≡ Ok x
unfolding read_later write_later
later_written_read x s e d =
    ap (λ (w : Wrote). read_later w.buffer) (write_is (later_refusal (length s) x) (later_done x s) s z)
    ∙ read_is later_refusal first_later Ok (λ n. Err (refusal n 0 0)) (over (later_bytes x) s) x
    (ap (arriving x) (le32_of x.arrival))
    (ap (λ (k : ℕ). later_refusal k x) (length_over (later_bytes x) s (omega (arith, later_size (length s) x z))) ∙ z)
  where
    z : later_refusal (length s) x ≡ 0
    z = write_was (later_refusal (length s) x) (later_done x s) s e d

pub later_read_written : (s b : List ℕ) (x : Transaction) → Bytes s → length b ≡ 8 → read_later s ≡ Ok x
    → write_later x b ≡ record { answer = Ok 0; buffer = s }
unfolding read_later write_later
later_read_written s b x y n r =
    write_is (later_refusal (length b) x) (later_done x b) b (ap (λ (k : ℕ). later_refusal k x) (n ∙ sym size) ∙ ap (later_refusal (length s)) (sym e) ∙ z)
    ∙ ap (λ (l : List ℕ). record { answer = Ok 0; buffer = l }) bytes
  where
    was : (later_refusal (length s) (later_at s 0) ≡ 0) × (◌≡◌ {A = Result Transaction Refusal} (Ok (later_at s 0)) (Ok x))
    was = read_was later_refusal first_later Ok (λ n. Err (refusal n 0 0)) s x (no_transaction_lem x) r

    z : later_refusal (length s) (later_at s 0) ≡ 0
    z = was.0

    e : later_at s 0 ≡ x
    e = let k = was.1 in cc

    size : length s ≡ 8
    size = later_size (length s) (later_at s 0) z

    eight : later_bytes (later_at s 0) ≡ s
    eight =
        ap (λ (l : List ℕ). Transactions.bytes_of (transaction_at s 0) ++ l) (of_le32 (get_or s 4 0) (get_or s 5 0) (get_or s 6 0) (get_or s 7 0) (y 4) (y 5) (y 6) (y 7))
        ∙ elements_from 8 0 s (omega (arith, size)) ∙ take_all 8 s (omega (arith, size))

    bytes : over (later_bytes x) b ≡ s
    bytes = ap (λ (t : Transaction). over (later_bytes t) b) (sym e) ∙ over_all (later_bytes (later_at s 0)) b (omega (arith, n)) ∙ eight

-- ---- the command

abbrev command_done : Command → List ℕ → Wrote
command_done c s = record { answer = Ok 0; buffer = over (Commands.bytes_of c) s }

no_command : (c : Command) (n : ℕ) → Err (refusal n 0 0) ≡ Ok c → ⊥
no_command c n k = let y : ◌≡◌ {A = ℕ} 0 1 = cc in omega arith

-- the eight bytes that were written are read; every kind that a number stands for is written
pub command_written_read : (t k b x : ℕ) (s : List ℕ) (e : ℕ) → t < 4294967296
    → (write_command (command t (kind_of k) b x) s).answer ≡ Ok e
    → read_command (take 8 (write_command (command t (kind_of k) b x) s).buffer) ≡ Ok (command t (kind_of k) b x)
unfolding read_command write_command
command_written_read t k b x s e h d =
    ap (λ (w : Wrote). read_command (take 8 w.buffer)) (write_is (room_refusal (length s)) (command_done c s) s z)
    ∙ ap Ok same
  where
    c : Command
    c = command t (kind_of k) b x

    z : room_refusal (length s) ≡ 0
    z = write_was (room_refusal (length s)) (command_done c s) s e d

    same : command_at (Commands.bytes_of c) 0 ≡ c
    same = rw (le32_of t, kind_number_lem k, le16_of x)

-- the bytes that were read are written, from the start of any buffer with room
pub command_read_written : (s b : List ℕ) (c : Command) → Bytes s → 8 ≤ length b → read_command s ≡ Ok c
    → write_command c b ≡ record { answer = Ok 0; buffer = over s b }
unfolding read_command write_command
command_read_written s b c y n r =
    write_is (room_refusal (length b)) (command_done c b) b (rw (le-leb 8 (length b) n))
    ∙ ap (λ (l : List ℕ). record { answer = Ok 0; buffer = over l b }) (ap Commands.bytes_of (sym e) ∙ eight)
  where
    was : (command_refusal (length s) ≡ 0) × (◌≡◌ {A = Result Command Refusal} (Ok (command_at s 0)) (Ok c))
    was = read_was (λ n a. command_refusal n) (λ a. command_at a 0) Ok (λ n. Err (refusal n 0 0)) s c (no_command c) r

    e : command_at s 0 ≡ c
    e = let k = was.1 in cc

    size : length s ≡ 8
    size = eqb-true (length s) 8 (not-false _ (passes 7 (not (eqb (length s) 8)) [] (λ k. omega arith) was.0).0)

    eight : Commands.bytes_of (command_at s 0) ≡ s
    eight =
        ap (λ (l : List ℕ). l ++ (kind_number (kind_of (get_or s 4 0)) ∷ get_or s 5 0 ∷ bytes16 (num s 6 ∷ []))) (of_le32 (get_or s 0 0) (get_or s 1 0) (get_or s 2 0) (get_or s 3 0) (y 0) (y 1) (y 2) (y 3))
        ∙ ap (λ (k : ℕ). get_or s 0 0 ∷ get_or s 1 0 ∷ get_or s 2 0 ∷ get_or s 3 0 ∷ k ∷ get_or s 5 0 ∷ bytes16 (num s 6 ∷ [])) (kind_number_lem (get_or s 4 0))
        ∙ ap (λ (l : List ℕ). get_or s 0 0 ∷ get_or s 1 0 ∷ get_or s 2 0 ∷ get_or s 3 0 ∷ get_or s 4 0 ∷ get_or s 5 0 ∷ l) (of_le16 (get_or s 6 0) (get_or s 7 0) (y 6) (y 7))
        ∙ elements_from 8 0 s (omega (arith, size)) ∙ take_all 8 s (omega (arith, size))
