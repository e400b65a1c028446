-- The customer's three demands, of the public calls: on a table's bytes, the bytes or records of a list, a schedule's bytes, a controller. What
-- the calls promise is in `desk`; here is what follows from it, by the numbers and values that `Numbers` gives for each case of
-- an answer. Read this file first.
use Rattle.std.specs.Prelude.{ℕ, suc, ◌+◌, ◌*◌, ◌≤◌, ◌<◌, Bool, true, false, ◌≡◌, ◌↔◌, ◌⊎◌, List, [], ◌∷◌, ltb, length, get_or, take, drop, Result, Ok, Err, Some}
use Rattle.std.proofs.Math.Option.{some}
use Rattle.std.proofs.Math.ListN.{get_elem?}
use Rattle.rules.specs.declared.verdict.PatternVerdict.{PatternVerdict}
use Rattle.serves.specs.declared.answer.Served.{Served}
use Rattle.records.specs.declared.table.Table.{Table}
use Rattle.records.specs.declared.transaction.Transaction.{Transaction}
use Rattle.records.specs.declared.command.Command.{Command}
use Rattle.records.specs.declared.refusal.Refusal.{Refusal}
use Rattle.records.specs.Tests.{pick, every}
use Rattle.records.specs.Told.{refusal}
use Rattle.records.specs.Little.{num, num32}
use Rattle.records.specs.Table.{table_at, in_range, read_table, write_table, write_group_table, Accepted}
use Rattle.records.specs.Transaction.{list_of, is_refresh, write_transaction, write_later}
use Rattle.records.specs.Command.{commands_in, bytes_of_all, read_command, write_command}
use Rattle.rules.specs.declared.verdict.Rule.{Rule}
use Rattle.rules.specs.declared.verdict.Verdict.TheVariants.{Accepted as Passed}
use Rattle.rules.specs.declared.verdict.PatternVerdict.TheVariants.{Accepted as AllPassed, Refused as BrokenAt}
use Rattle.rules.specs.History.{rules}
use Rattle.rules.specs.Verdict.{all_shut}
use Rattle.rules.specs.Pattern.{onto, copy, end_to_end, copies, EveryNumberLegal}
use Rattle.rules.specs.Queues.{act_queue, data_queue}
use Rattle.rules.specs.CycleRule.{Built as IsBuilt}
use Rattle.rules.specs.Finish.{last_command, finish_of, count_from, finish}
use Rattle.rules.specs.Bound.{bound, span, start_at}
use Rattle.rules.specs.Promise.{of_first, cycle_of, last_command_cycle, arrived}
use Rattle.rules.specs.Demands.{FineTo}
use Rattle.judge.specs.Answer.{schedule_refusal, pattern_refusal}
use Rattle.stamps.specs.declared.one_record.CaptureRecord.{CaptureRecord}
use Rattle.stamps.specs.Record.{write_capture_record}
use Rattle.lists.specs.Check.{check_list, check_bytes}
use Rattle.controller.specs.declared.controller.Controller.{Controller}
use Rattle.promises.specs.Admit.{admitted, edition_of}
use Rattle.promises.specs.Judging.{judging, PatternTold}
use Rattle.promises.specs.Tracing.{capturing}
use Rattle.promises.specs.Bounds.{bounding}
use Rattle.promises.specs.Transactions.{reading}
use Rattle.promises.specs.Schedules.{Schedules}
use Rattle.promises.specs.Running.{starting, running}
use Rattle.promises.specs.Serving.{Serving}
use Rattle.demands.specs.Causes.{Causes, RecordCauses}
use Rattle.promises.specs.Numbers.{telling, rule_number, command_numbers, judged_numbers, pattern_numbers, capture_numbers, serves_numbers, bound_numbers, read_numbers, build_numbers, start_numbers, run_numbers}

-- a table's bytes are 32 or 40
abbrev pub EitherSize : List ℕ → Type 0
EitherSize table = (length table ≡ 32) ⊎ (length table ≡ 40)

-- why a table is not admitted: number 1 by its size alone, number 2 by a number out of range, number 10 by its edition
abbrev pub NotAdmitted : ℕ → List ℕ → Refusal → Type 0
NotAdmitted expected table x =
    ((x ≡ refusal 1 0 0) × (EitherSize table → ⊥))
    ⊎ (((x ≡ refusal 2 0 0) × EitherSize table × (in_range (table_at table) ≡ false))
    ⊎ ((τ : Table) × (read_table table ≡ Ok τ) × (τ.edition ≡ expected → ⊥) × (x ≡ refusal 10 τ.edition τ.edition)))

-- Demand 1: "Any bytes at all can be handed in" (no call requires anything), "A refused call writes no byte", "Every answer worked out from a
-- table names that table's edition".
pub record Demand1 (expected : ℕ) (table : List ℕ) : Type 0 where
  -- a table is refused by number 1, 2 or 10, each with its cause, or it is the bytes' own, accepted, and of the expected edition
  pub refused : (x : Refusal) → admitted expected table ≡ Err x → NotAdmitted expected table x
  pub admits : (τ : Table) → admitted expected table ≡ Ok τ → EitherSize table × (τ ≡ table_at table) × Accepted τ × (τ.edition ≡ expected)
  -- each call tells the number and the position of the first row of "What the caller is told" that applies, and so where it takes no table
  pub causes : Causes expected table
  pub record_causes : (s : List ℕ) → RecordCauses s
  -- no byte, no place of a run of records, and nothing of a controller changes; by either check of a list, of its records or of its bytes
  pub unread : (later : Bool) (s : List ℕ) (l : List Transaction) (x : Refusal) → (reading later (admitted expected table) s l).answer ≡ Err x
      → (reading later (admitted expected table) s l).list ≡ l
  pub unbuilt : (check : Table → Result Unit Refusal) (l : List Transaction) (b₀ b f₀ f : List ℕ) (x : Refusal) → Schedules check (admitted expected table) l b₀ b f₀ f (Err x)
      → (b ≡ b₀) × (f ≡ f₀)
  pub unrun : (check : Table → Result Unit Refusal) (c : Controller) (l : List Transaction) (n : ℕ) (b : List ℕ) (x : Refusal)
      → (running check (admitted expected table) c l n b).told.answer ≡ Err x
      → ((running check (admitted expected table) c l n b).told.controller ≡ c) × ((running check (admitted expected table) c l n b).buffer ≡ b)
  pub uncaptured : (s b : List ℕ) (x : Refusal) → (capturing (admitted expected table) s b).answer ≡ Err x → (capturing (admitted expected table) s b).buffer ≡ b
  -- nor a byte of the buffer of a call that writes one record
  pub table_unwritten : (l s : List ℕ) (x : Refusal) → (write_table l s).answer ≡ Err x → (write_table l s).buffer ≡ s
  pub group_table_unwritten : (l s : List ℕ) (x : Refusal) → (write_group_table l s).answer ≡ Err x → (write_group_table l s).buffer ≡ s
  pub transaction_unwritten : (t : Transaction) (s : List ℕ) (x : Refusal) → (write_transaction t s).answer ≡ Err x → (write_transaction t s).buffer ≡ s
  pub later_unwritten : (t : Transaction) (s : List ℕ) (x : Refusal) → (write_later t s).answer ≡ Err x → (write_later t s).buffer ≡ s
  pub command_unwritten : (c : Command) (s : List ℕ) (x : Refusal) → (write_command c s).answer ≡ Err x → (write_command c s).buffer ≡ s
  pub capture_unwritten : (c : CaptureRecord) (s : List ℕ) (x : Refusal) → (write_capture_record c s).answer ≡ Err x → (write_capture_record c s).buffer ≡ s
  -- the table's edition, in every answer and every refusal, whichever was expected; bytes of a list are records of 8 where `later`, else of 4
  pub judge : (s : List ℕ) → (judged_numbers (judging (admitted expected table) s)).edition ≡ edition_of (read_table table)
  pub pattern : (s : List ℕ) (L : ℕ) (r : Result (ℕ × PatternVerdict) Refusal) → PatternTold (admitted expected table) s L r → (pattern_numbers r).edition ≡ edition_of (read_table table)
  pub capture : (s b : List ℕ) → (capture_numbers (capturing (admitted expected table) s b).answer).edition ≡ edition_of (read_table table)
  pub bound : (bi bc : ℕ) → (bound_numbers (bounding (admitted expected table) bi bc)).edition ≡ edition_of (read_table table)
  pub read : (later : Bool) (s : List ℕ) (l : List Transaction) → (read_numbers (reading later (admitted expected table) s l).answer).edition ≡ edition_of (read_table table)
  pub schedule : (l : List Transaction) (b₀ b f₀ f : List ℕ) (r : Result (ℕ × ℕ) Refusal) → Schedules (λ τ. check_list τ l) (admitted expected table) l b₀ b f₀ f r
      → (build_numbers r).edition ≡ edition_of (read_table table)
  pub schedule_bytes : (later : Bool) (s b₀ b f₀ f : List ℕ) (r : Result (ℕ × ℕ) Refusal)
      → Schedules (λ τ. check_bytes later τ s) (admitted expected table) (list_of later s) b₀ b f₀ f r
      → (build_numbers r).edition ≡ edition_of (read_table table)
  pub serves : (l : List Transaction) (s : List ℕ) (r : Result (ℕ × Served) Refusal) → Serving (λ τ. check_list τ l) (admitted expected table) l s r
      → (serves_numbers r).edition ≡ edition_of (read_table table)
  pub serves_bytes : (later : Bool) (b s : List ℕ) (r : Result (ℕ × Served) Refusal) → Serving (λ τ. check_bytes later τ b) (admitted expected table) (list_of later b) s r
      → (serves_numbers r).edition ≡ edition_of (read_table table)
  pub start : (start_numbers (starting (admitted expected table)).answer).edition ≡ edition_of (read_table table)
  pub run : (c : Controller) (l : List Transaction) (n : ℕ) (b : List ℕ)
      → (run_numbers (running (λ τ. check_list τ l) (admitted expected table) c l n b).told.answer).edition ≡ edition_of (read_table table)
  pub run_bytes : (later : Bool) (c : Controller) (s : List ℕ) (n : ℕ) (b : List ℕ)
      → (run_numbers (running (λ τ. check_bytes later τ s) (admitted expected table) c (list_of later s) n b).told.answer).edition ≡ edition_of (read_table table)

-- the numbers of the rules that a record is tested by, in the order of the tests: rules 11 and 12 "are tested after rule 9" (document 02,
-- request 5)
abbrev pub numbers_tested : List ℕ
numbers_tested = 1 ∷ 2 ∷ 3 ∷ 4 ∷ 5 ∷ 6 ∷ 7 ∷ 8 ∷ 9 ∷ 11 ∷ 12 ∷ []

-- of a record's tests, which stand in that order: number n is that of the first that fails
abbrev pub FirstFails : List Bool → ℕ → Type 0
FirstFails ts n = (k : ℕ) × (get_elem? numbers_tested k ≡ some n) × (get_or ts k true ≡ false) × ((m : ℕ) → m < k → get_or ts m true ≡ true)

-- record i of rs breaks rule n, 1 to 9, 11 or 12, against all records before it, of which those of h are the oldest, and no record before it
-- breaks a rule; or n is 10, "at the end a bank is open; the record number is then the count"
abbrev pub BreaksNumber : Table → List Command → List Command → ℕ → ℕ → Type 0
BreaksNumber τ h rs n i =
    FineTo τ h rs i
    × (((r : Command) × (get_elem? rs i ≡ some r) × FirstFails (rules τ r (onto (take i rs) h)) n)
    ⊎ ((n ≡ 10) × (i ≡ length rs) × (all_shut τ.banks (onto rs h) ≡ false)))

-- Demand 2, of a table that is admitted: "calls whose editions agree" (document 02, request 1).
pub record Demand2 (expected : ℕ) (table : List ℕ) (τ : Table) : Type 0 where
  -- "The schedule built is exactly the one the cycle rule of document 01 gives", by either check of a list
  pub built : (check : Table → Result Unit Refusal) (l : List Transaction) (b₀ b f₀ f : List ℕ) (e n : ℕ) → Schedules check (admitted expected table) l b₀ b f₀ f (Ok (e, n))
      → (rs : List Command) × IsBuilt τ l rs × (n ≡ length rs) × (take (8 * n) b ≡ bytes_of_all rs)
  -- "The judge accepts a schedule exactly when every timing rule there holds, and otherwise names the first broken record and rule": it tells
  -- the edition alone, or rule n and record i
  pub accepts : (s : List ℕ) → schedule_refusal (length s) ≡ 0
      → (judged_numbers (judging (admitted expected table) s) ≡ telling τ.edition [])
      ↔ (FineTo τ [] (commands_in s) (length (commands_in s)) × (all_shut τ.banks (onto (commands_in s) []) ≡ true))
  pub names : (s : List ℕ) (e n i : ℕ) → judged_numbers (judging (admitted expected table) s) ≡ telling e (n ∷ i ∷ []) → BreaksNumber τ [] (commands_in s) n i
  -- "It accepts a repeated pattern exactly when every number of copies, set end to end, is a legal schedule."
  pub pattern : (s : List ℕ) (L : ℕ) (r : Result (ℕ × PatternVerdict) Refusal) → pattern_refusal (length s) L ≡ 0 → PatternTold (admitted expected table) s L r
      → (pattern_numbers r ≡ telling τ.edition []) ↔ EveryNumberLegal τ L (commands_in s)
  -- and a refusal names the lowest copy: fewer copies are accepted, and from that copy on all are refused alike
  pub lowest : (s : List ℕ) (L : ℕ) (r : Result (ℕ × PatternVerdict) Refusal) (e n c i : ℕ) → PatternTold (admitted expected table) s L r → pattern_numbers r ≡ telling e (n ∷ c ∷ i ∷ [])
      → (x : Rule) × (rule_number x ≡ n) × ((m : ℕ) → copies τ L (commands_in s) m ≡ pick (ltb m c) AllPassed (BrokenAt x c i))
  -- "then the record within it": record i of copy c, which is k + 1, breaks rule n after k copies
  pub within : (s : List ℕ) (L : ℕ) (r : Result (ℕ × PatternVerdict) Refusal) (e n c i : ℕ) → PatternTold (admitted expected table) s L r → pattern_numbers r ≡ telling e (n ∷ c ∷ i ∷ [])
      → (k : ℕ) × (c ≡ k + 1) × BreaksNumber τ (onto (end_to_end L (commands_in s) k 0) []) (copy L (commands_in s) k) n i
  -- the number of a command's kind is the byte that its record holds
  pub kind_byte : (s : List ℕ) → length s ≡ 8 → command_numbers (read_command s) ≡ telling 0 (num32 s 0 ∷ get_or s 4 0 ∷ get_or s 5 0 ∷ num s 6 ∷ [])

-- Demand 3: "For every accepted table and transaction list with room for the result". b and f are what the two buffers hold after the call.
pub record Demand3 (expected : ℕ) (table : List ℕ) (τ : Table) (l : List Transaction) (b₀ b f₀ f : List ℕ) (r : Result (ℕ × ℕ) Refusal) : Type 0 where
  pub schedule : List Command
  pub built : IsBuilt τ l schedule
  -- it is answered, it stands in the buffer, and all beyond it is as it stood
  pub answer : r ≡ Ok (τ.edition, length schedule)
  pub bytes : take (8 * length schedule) b ≡ bytes_of_all schedule
  pub beyond : drop (8 * length schedule) b ≡ drop (8 * length schedule) b₀
  -- "the built schedule passes the judge": the call `judge`, on those bytes
  pub passes : judging (admitted expected table) (take (8 * length schedule) b) ≡ Ok (τ.edition, Passed)
  -- the finishing cycles stand in the slice, and all beyond them is as it stood
  pub finishes : (k : ℕ) (x : Transaction) → get_elem? l k ≡ some x → get_or f k 0 ≡ cycle_of (finish τ x k schedule)
  pub later : drop (length l) f ≡ drop (length l) f₀
  -- each transaction has a last read or write command, a refresh its REF
  pub served : (k : ℕ) → k < length l → last_command k schedule ≡ Some (last_command_cycle k schedule)
  -- no command goes before its transaction's arrival (document 02, request 9)
  pub not_before : every (arrived l) schedule ≡ true
  -- "each transaction's last read or write command comes no later than its predecessor's last plus the bound .. (for the first, counted from
  -- cycle 0)", which is what the call `bound` tells of a read or a write; a REF comes "within S of where its count starts" (document 02, request 5).
  -- "The bound counts from the later of the arrival and the predecessor's last command (its finish, where the predecessor", w, "is a refresh)"
  -- (request 9); the first's from its arrival
  pub first : (x : Transaction) → get_elem? l 0 ≡ some x → last_command_cycle 0 schedule ≤ start_at x 0 + span τ x
  pub next : (k : ℕ) (w x : Transaction) → get_elem? l k ≡ some w → get_elem? l (suc k) ≡ some x
      → last_command_cycle (suc k) schedule ≤ start_at x (count_from τ w (last_command_cycle k schedule)) + span τ x
  pub told : (k : ℕ) (x : Transaction) → get_elem? l k ≡ some x → is_refresh x ≡ false
      → (span τ x ≡ bound τ x.bi x.bc) × (bounding (admitted expected table) x.bi x.bc ≡ Ok (τ.edition, bound τ x.bi x.bc))
  -- "the promised finish of a read is that limit + RL + B" (document 02, request 4), a write's is that limit, a refresh's that limit + RFC
  -- (request 5): of the finishing cycles in the slice; and 32 bits hold each
  pub first_finish : (x : Transaction) → get_elem? l 0 ≡ some x → get_or f 0 0 ≤ finish_of τ x (start_at x 0 + span τ x)
  pub next_finish : (k : ℕ) (w x : Transaction) → get_elem? l k ≡ some w → get_elem? l (suc k) ≡ some x
      → get_or f (suc k) 0 ≤ finish_of τ x (start_at x (count_from τ w (last_command_cycle k schedule)) + span τ x)
  pub fits : (k : ℕ) (x : Transaction) → get_elem? l k ≡ some x → get_or f k 0 < 4294967296
  -- "Transactions added at the end move no command of the earlier ones by a cycle": the schedule of the first j alone
  pub unmoved : (j : ℕ) → IsBuilt τ (take j l) (of_first (length (take j l)) schedule)

-- room for the result
pub record Room (τ : Table) (l : List Transaction) (b₀ f₀ : List ℕ) : Type 0 where
  pub commands : 8 * (length (act_queue τ l) + length (data_queue τ l)) ≤ length b₀
  pub finishes : length l ≤ length f₀
