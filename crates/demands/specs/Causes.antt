-- Document 01, "What the caller is told": for each call, the rows of its table, each with its number, its position and whether it applies.
-- "Checks go in the order of these numbers", with number 10 "straight after number 2" (document 02, request 1).
use Rattle.std.specs.Prelude.{ℕ, suc, ◌+◌, ◌-◌, ◌*◌, ◌%◌, ◌/◌, min, Bool, not, ◌&&◌, ◌||◌, ◌≡◌, List, [], ◌∷◌, leb, ltb, eqb, length, Result}
use Rattle.rules.specs.declared.verdict.PatternVerdict.{PatternVerdict}
use Rattle.records.specs.declared.refusal.Refusal.{Refusal}
use Rattle.serves.specs.declared.answer.Served.{Served}
use Rattle.records.specs.declared.table.Table.{Table}
use Rattle.records.specs.declared.transaction.Transaction.{Transaction}
use Rattle.records.specs.declared.command.Command.{Command}
use Rattle.records.specs.Tests.{pick, within}
use Rattle.records.specs.Table.{table_of, group_table_of, table_at, in_range, table_size, read_table, write_table, write_group_table}
use Rattle.records.specs.Transaction.{transaction_at, later_at, record_size, record_count, list_of, fits_by, fits_after, fits_from, read_transaction, write_transaction, read_later, write_later}
use Rattle.records.specs.Command.{read_command, write_command}
use Rattle.rules.specs.Queues.{act_queue, data_queue}
use Rattle.rules.specs.Pieces.{is_late}
use Rattle.stamps.specs.declared.one_record.CaptureRecord.{CaptureRecord}
use Rattle.stamps.specs.Record.{read_capture_record, write_capture_record}
use Rattle.stamps.specs.Capture.{timed_in, lowest}
use Rattle.capture.specs.Answer.{commands_seen}
use Rattle.lists.specs.Check.{check_list, check_bytes}
use Rattle.sound.specs.Refused.{sound}
use Rattle.controller.specs.declared.controller.Controller.{Controller}
use Rattle.controller.specs.Controller.{tells}
use Rattle.promises.specs.Admit.{admitted}
use Rattle.promises.specs.Judging.{judging, PatternTold}
use Rattle.promises.specs.Tracing.{capturing}
use Rattle.promises.specs.Bounds.{bounding}
use Rattle.promises.specs.Transactions.{reading}
use Rattle.promises.specs.Schedules.{Schedules}
use Rattle.promises.specs.Running.{starting, running}
use Rattle.promises.specs.Serving.{Serving}
use Rattle.promises.specs.Numbers.{Numbers, written_numbers, table_numbers, transaction_numbers, command_numbers, capture_record_numbers, judged_numbers, pattern_numbers, capture_numbers, serves_numbers, bound_numbers, read_numbers, build_numbers, start_numbers, run_numbers}

-- a row: its number, its position, and whether it applies
pub record Row : Type 0 where
  pub number : ℕ
  pub position : ℕ
  pub applies : Bool

abbrev pub row : ℕ → ℕ → Bool → Row
row n p b = record { number = n; position = p; applies = b }

-- an answer tells the number and the position of the first row that applies, 0 and 0 where none does
abbrev pub FirstRow : List Row → Numbers → Type 0
FirstRow [] a = (a.refused ≡ 0) × (a.position ≡ 0)
FirstRow (r ∷ l) a = pick r.applies ((a.refused ≡ r.number) × (a.position ≡ r.position)) (FirstRow l a)

-- 1, by whether the size is right, which is all that it looks at (document 02, request 5). 2: "a table number out of range, CCD below 2 or
-- below B", RFC's and those of the groups among them. Then the rows that the call has besides
abbrev pub size_rows : Bool → Table → List Row → List Row
size_rows right τ rest = row 1 0 (not right) ∷ row 2 0 (not (in_range τ)) ∷ rest

-- of a table that is read: "Number 1 now refuses any size but 32 and 40" (document 02, request 7)
abbrev pub read_rows : List ℕ → List Row → List Row
read_rows s rest = size_rows (table_size (length s)) (table_at s) rest

-- 10: the table's edition is not the expected one, "position the table's edition"
abbrev pub table_rows : ℕ → List ℕ → List Row → List Row
table_rows expected s rest = read_rows s (row 10 (table_at s).edition (not (eqb (table_at s).edition expected)) ∷ rest)

-- the number of the lowest transaction that is out of range, or arrives before the one before it, which arrived at a
abbrev pub lowest_out : Table → ℕ → List Transaction → ℕ
lowest_out τ a [] = 0
lowest_out τ a (x ∷ l) = pick (fits_after a τ x) (suc (lowest_out τ x.arrival l)) 0

-- 3, by whether the size is good; 4: "a transaction out of range", a refresh "when RFC is 0" among them, position "its number, the lowest"; an arrival
-- "at most 20,000,000 and never less than the one before it; otherwise number 4" (document 02, request 9)
abbrev pub list_rows : Table → Bool → List Transaction → List Row → List Row
list_rows τ good l rest = row 3 0 (not good) ∷ row 4 (lowest_out τ 0 l) (not (fits_from 0 τ l)) ∷ rest

-- 3: "transaction bytes not a multiple of 4, or over 256 records, as bytes or decoded, or too few places to decode into"; "for the new one number 3
-- wants a multiple of 8", where `later`
abbrev pub few_bytes : Bool → List ℕ → Bool
few_bytes later s = eqb (length s % record_size later) 0 && leb (record_count later (length s)) 256

abbrev pub few_into : Bool → List ℕ → ℕ → Bool
few_into later s places = eqb (length s % record_size later) 0 && (leb (record_count later (length s)) 256 && leb (record_count later (length s)) places)

-- 5: "command room under 8 × commands due"; 6: "finishing slice shorter than the list"
abbrev pub build_rows : Table → List Transaction → ℕ → ℕ → List Row
build_rows τ l room places =
    row 5 0 (ltb room (8 * (length (act_queue τ l) + length (data_queue τ l)))) ∷ row 6 0 (ltb places (length l)) ∷ []

-- 5: "for a run, under 8 × the lesser of count and commands left, which are what each queue still holds, counted queue by queue and added"; 9, by
-- what the controller tells; 12, position 0: "the first new arrival is below the state's cycle" (document 02, request 9)
abbrev pub run_rows : Table → List Transaction → Controller → ℕ → ℕ → List Row
run_rows τ l c count room =
    row 5 0 (ltb room (8 * min count ((length (act_queue τ l) - c.acts) + (length (data_queue τ l) - c.datas))))
    ∷ row 9 0 (not (sound τ l (tells c)))
    ∷ row 12 0 (is_late l (tells c))
    ∷ []

-- 7: "schedule bytes not a multiple of 8, or over 69,632 records"
abbrev pub schedule_row : List ℕ → Row
schedule_row s = row 7 0 (not (eqb (length s % 8) 0) || ltb 69632 (length s / 8))

-- of a capture, document 02, request 6: 7, "bytes not a multiple of 4, or over 69,632 records"; 11, "at the lowest such record: a stamp equal to
-- the one before it, or a true cycle above 4,294,967,295"; 5, "room for the commands"
abbrev pub capture_rows : List ℕ → ℕ → List Row
capture_rows s room =
    row 7 0 (not (eqb (length s % 4) 0) || ltb 69632 (length s / 4))
    ∷ row 11 (lowest (timed_in s)) (ltb (lowest (timed_in s)) (length s / 4))
    ∷ row 5 0 (ltb room (8 * length (commands_seen s)))
    ∷ []

-- "A call makes only the checks on things it's given"
pub record Causes (expected : ℕ) (table : List ℕ) : Type 0 where
  pub judge : (s : List ℕ) → FirstRow (table_rows expected table (schedule_row s ∷ [])) (judged_numbers (judging (admitted expected table) s))
  -- 8: "pattern length 0"
  pub judge_pattern : (s : List ℕ) (L : ℕ) (r : Result (ℕ × PatternVerdict) Refusal) → PatternTold (admitted expected table) s L r
      → FirstRow (table_rows expected table (schedule_row s ∷ row 8 0 (eqb L 0) ∷ [])) (pattern_numbers r)
  pub judge_capture : (s b : List ℕ)
      → FirstRow (table_rows expected table (capture_rows s (length b))) (capture_numbers (capturing (admitted expected table) s b).answer)
  -- "the bound gives 4, position 0, for BI or BC outside 1 to 16 or BI above banks"
  pub bound : (bi bc : ℕ) → FirstRow (table_rows expected table (row 4 0 (not (within 1 16 bi && (within 1 16 bc && leb bi (table_at table).banks))) ∷ []))
      (bound_numbers (bounding (admitted expected table) bi bc))
  pub read_transactions : (later : Bool) (s : List ℕ) (l : List Transaction)
      → FirstRow (table_rows expected table (list_rows (table_at table) (few_into later s (length l)) (list_of later s) []))
      (read_numbers (reading later (admitted expected table) s l).answer)
  pub schedule : (l : List Transaction) (b₀ b f₀ f : List ℕ) (r : Result (ℕ × ℕ) Refusal) → Schedules (λ τ. check_list τ l) (admitted expected table) l b₀ b f₀ f r
      → FirstRow (table_rows expected table (list_rows (table_at table) (leb (length l) 256) l (build_rows (table_at table) l (length b₀) (length f₀)))) (build_numbers r)
  pub schedule_bytes : (later : Bool) (s b₀ b f₀ f : List ℕ) (r : Result (ℕ × ℕ) Refusal)
      → Schedules (λ τ. check_bytes later τ s) (admitted expected table) (list_of later s) b₀ b f₀ f r
      → FirstRow (table_rows expected table (list_rows (table_at table) (few_bytes later s) (list_of later s) (build_rows (table_at table) (list_of later s) (length b₀) (length f₀))))
      (build_numbers r)
  -- does it serve the list (document 02, request 10): 3 and 4 by the list, then 7 by the schedule
  pub serves : (l : List Transaction) (s : List ℕ) (r : Result (ℕ × Served) Refusal) → Serving (λ τ. check_list τ l) (admitted expected table) l s r
      → FirstRow (table_rows expected table (list_rows (table_at table) (leb (length l) 256) l (schedule_row s ∷ []))) (serves_numbers r)
  pub serves_bytes : (later : Bool) (b s : List ℕ) (r : Result (ℕ × Served) Refusal) → Serving (λ τ. check_bytes later τ b) (admitted expected table) (list_of later b) s r
      → FirstRow (table_rows expected table (list_rows (table_at table) (few_bytes later b) (list_of later b) (schedule_row s ∷ []))) (serves_numbers r)
  pub start : FirstRow (table_rows expected table []) (start_numbers (starting (admitted expected table)).answer)
  -- a step is a run of one cycle
  pub run : (c : Controller) (l : List Transaction) (n : ℕ) (b : List ℕ)
      → FirstRow (table_rows expected table (list_rows (table_at table) (leb (length l) 256) l (run_rows (table_at table) l c n (length b))))
      (run_numbers (running (λ τ. check_list τ l) (admitted expected table) c l n b).told.answer)
  pub run_bytes : (later : Bool) (c : Controller) (s : List ℕ) (n : ℕ) (b : List ℕ)
      → FirstRow (table_rows expected table (list_rows (table_at table) (few_bytes later s) (list_of later s) (run_rows (table_at table) (list_of later s) c n (length b))))
      (run_numbers (running (λ τ. check_bytes later τ s) (admitted expected table) c (list_of later s) n b).told.answer)

-- the calls on one record: s is the bytes read, or what the buffer held. "A call that writes a record checks the values as a reader would, and
-- the room: number 1 for a table buffer that isn't 32 bytes, 3 for a transaction buffer that isn't 4, 5 for a command buffer under 8. A reader of
-- one record gives 1, 3 or 7 for any size but 32, 4 or 8." "Where no table is given, banks counts as 16", and a refresh is
-- "accepted where no table is given" (document 02, request 5): RFC counts as not 0. The second table record has 40 bytes (request 7).
pub record RecordCauses (s : List ℕ) : Type 0 where
  pub table_read : FirstRow (read_rows s []) (table_numbers (read_table s))
  pub table_written : (l : List ℕ) → FirstRow (size_rows (eqb (length s) 32) (table_of l) []) (written_numbers (write_table l s).answer)
  pub group_table_written : (l : List ℕ) → FirstRow (size_rows (eqb (length s) 40) (group_table_of l) []) (written_numbers (write_group_table l s).answer)
  pub transaction_read : FirstRow (row 3 0 (not (eqb (length s) 4)) ∷ row 4 0 (not (fits_by 0 16 1 (transaction_at s 0))) ∷ []) (transaction_numbers (read_transaction s))
  pub transaction_written : (x : Transaction)
      → FirstRow (row 3 0 (not (eqb (length s) 4)) ∷ row 4 0 (not (fits_by 0 16 1 x)) ∷ []) (written_numbers (write_transaction x s).answer)
  -- the record of 8 bytes, whose arrival is "at most 20,000,000; otherwise number 4" (document 02, request 9); that of 4 "is arrival 0"
  pub later_read : FirstRow (row 3 0 (not (eqb (length s) 8)) ∷ row 4 0 (not (fits_by 20000000 16 1 (later_at s 0))) ∷ []) (transaction_numbers (read_later s))
  pub later_written : (x : Transaction)
      → FirstRow (row 3 0 (not (eqb (length s) 8)) ∷ row 4 0 (not (fits_by 20000000 16 1 x)) ∷ []) (written_numbers (write_later x s).answer)
  pub command_read : FirstRow (row 7 0 (not (eqb (length s) 8)) ∷ []) (command_numbers (read_command s))
  pub command_written : (c : Command) → FirstRow (row 5 0 (not (leb 8 (length s))) ∷ []) (written_numbers (write_command c s).answer)
  -- a capture record's as a command's, by its own size
  pub capture_read : FirstRow (row 7 0 (not (eqb (length s) 4)) ∷ []) (capture_record_numbers (read_capture_record s))
  pub capture_written : (x : CaptureRecord) → FirstRow (row 5 0 (not (leb 4 (length s))) ∷ []) (written_numbers (write_capture_record x s).answer)
