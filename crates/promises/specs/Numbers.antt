-- "If an answer is an enum, a definition gives this paper's number and values for each of its cases": of every answer of a public call.
use Rattle.std.specs.Prelude.{ℕ, List, [], ◌∷◌, Result, Ok, Err}
use Rattle.records.specs.declared.table.Table.{Table}
use Rattle.records.specs.declared.transaction.Transaction.{Transaction}
use Rattle.records.specs.declared.command.Command.{Command}
use Rattle.stamps.specs.declared.one_record.CaptureRecord.{CaptureRecord}
use Rattle.controller.specs.declared.run.RunReport.{RunReport}
use Rattle.records.specs.declared.refusal.Refusal.{Refusal}
use Rattle.records.specs.Table.{group_numbers_of}
use Rattle.records.specs.Command.{kind_number}
use Rattle.rules.specs.declared.verdict.Rule.{Rule}
use Rattle.rules.specs.declared.verdict.Rule.TheVariants.{Range, Order, Opened, Precharge, Rc, Rrd, Faw, Rcd, Distance, End, Refresh, Rfc}
use Rattle.rules.specs.declared.verdict.Verdict.{Verdict}
use Rattle.rules.specs.declared.verdict.Verdict.TheVariants.{Accepted as Passed, Refused as Broken}
use Rattle.rules.specs.declared.verdict.PatternVerdict.{PatternVerdict}
use Rattle.rules.specs.declared.verdict.PatternVerdict.TheVariants.{Accepted as AllPassed, Refused as BrokenAt}
use Rattle.serves.specs.declared.answer.Served.{Served}
use Rattle.serves.specs.declared.answer.Served.TheVariants.{Serves, Refused as Against, AtFault}

-- what every answer tells: the refusal's number and its position, both 0 where nothing is refused; the edition; and the values of its case
pub record Numbers : Type 0 where
  pub refused : ℕ
  pub position : ℕ
  pub edition : ℕ
  pub values : List ℕ

-- nothing is refused
abbrev pub telling : ℕ → List ℕ → Numbers
telling e l = record { refused = 0; position = 0; edition = e; values = l }

-- "Each returns its number and the position shown", with the edition it names, and no values
abbrev pub refusing : Refusal → Numbers
refusing x = record { refused = x.number; position = x.position; edition = x.edition; values = [] }

-- document 01's number of a rule, and document 02's of request 5's. (That of a kind of command is `kind_number`, beside the record that holds it.)
abbrev pub rule_number : Rule → ℕ
rule_number Range = 1
rule_number Order = 2
rule_number Opened = 3
rule_number Precharge = 4
rule_number Rc = 5
rule_number Rrd = 6
rule_number Faw = 7
rule_number Rcd = 8
rule_number Distance = 9
rule_number End = 10
rule_number Refresh = 11
rule_number Rfc = 12

-- ---- one record

-- a record written: no values
abbrev pub written_numbers : Result ℕ Refusal → Numbers
written_numbers (Ok e) = telling e []
written_numbers (Err x) = refusing x

-- a table read, of either size: its twenty numbers. Of 32 bytes the last four are one group and the short numbers again
abbrev pub table_numbers : Result Table Refusal → Numbers
table_numbers (Ok τ) = telling τ.edition (group_numbers_of τ)
table_numbers (Err x) = refusing x

-- a transaction read, of either size: type, start bank, BI, BC, arrival, which of 4 bytes is 0. No table is given: edition 0
abbrev pub transaction_numbers : Result Transaction Refusal → Numbers
transaction_numbers (Ok t) = telling 0 (t.kind ∷ t.start ∷ t.bi ∷ t.bc ∷ t.arrival ∷ [])
transaction_numbers (Err x) = refusing x

-- a command read: cycle, kind, bank, transaction number
abbrev pub command_numbers : Result Command Refusal → Numbers
command_numbers (Ok c) = telling 0 (c.cycle ∷ kind_number c.kind ∷ c.bank ∷ c.number ∷ [])
command_numbers (Err x) = refusing x

-- a capture record read: stamp, kind, bank
abbrev pub capture_record_numbers : Result CaptureRecord Refusal → Numbers
capture_record_numbers (Ok x) = telling 0 (x.stamp ∷ x.kind ∷ x.bank ∷ [])
capture_record_numbers (Err x) = refusing x

-- ---- the judges

-- "A verdict is acceptance, or a refusal that carries the rule inside it with the record number": no values, or the rule and the record
abbrev pub verdict_values : Verdict → List ℕ
verdict_values Passed = []
verdict_values (Broken x i) = rule_number x ∷ i ∷ []

abbrev pub judged_numbers : Result (ℕ × Verdict) Refusal → Numbers
judged_numbers (Ok (e, v)) = telling e (verdict_values v)
judged_numbers (Err x) = refusing x

-- "The verdict names the lowest copy, then the record within it": the rule, the copy, the record
abbrev pub pattern_values : PatternVerdict → List ℕ
pattern_values AllPassed = []
pattern_values (BrokenAt x k i) = rule_number x ∷ k ∷ i ∷ []

abbrev pub pattern_numbers : Result (ℕ × PatternVerdict) Refusal → Numbers
pattern_numbers (Ok (e, v)) = telling e (pattern_values v)
pattern_numbers (Err x) = refusing x

-- how many commands were written, and the values of the verdict on them
abbrev pub capture_numbers : Result (ℕ × ℕ × Verdict) Refusal → Numbers
capture_numbers (Ok (e, n, v)) = telling e (n ∷ verdict_values v)
capture_numbers (Err x) = refusing x

-- does it serve the list: no values if it does; else "the judge's verdict", the rule and the record, or the transaction's number, which is the
-- list's length where none is at fault
abbrev pub served_values : Served → List ℕ
served_values Serves = []
served_values (Against x i) = rule_number x ∷ i ∷ []
served_values (AtFault x) = x ∷ []

abbrev pub serves_numbers : Result (ℕ × Served) Refusal → Numbers
serves_numbers (Ok (e, a)) = telling e (served_values a)
serves_numbers (Err x) = refusing x

-- the least length, and how many records were written
abbrev pub shortest_numbers : Result (ℕ × ℕ × ℕ) Refusal → Numbers
shortest_numbers (Ok (e, L, n)) = telling e (L ∷ n ∷ [])
shortest_numbers (Err x) = refusing x

-- ---- lists, schedules, the bound

-- how many transactions were read
abbrev pub read_numbers : Result (ℕ × ℕ) Refusal → Numbers
read_numbers (Ok (e, n)) = telling e (n ∷ [])
read_numbers (Err x) = refusing x

-- how many commands were written
abbrev pub build_numbers : Result (ℕ × ℕ) Refusal → Numbers
build_numbers (Ok (e, n)) = telling e (n ∷ [])
build_numbers (Err x) = refusing x

-- the bound
abbrev pub bound_numbers : Result (ℕ × ℕ) Refusal → Numbers
bound_numbers (Ok (e, n)) = telling e (n ∷ [])
bound_numbers (Err x) = refusing x

-- ---- the running controller

abbrev pub start_numbers : Result ℕ Refusal → Numbers
start_numbers (Ok e) = telling e []
start_numbers (Err x) = refusing x

-- how many commands were written, and "the cycles run"
abbrev pub run_numbers : Result RunReport Refusal → Numbers
run_numbers (Ok r) = telling r.edition (r.commands ∷ r.cycles ∷ [])
run_numbers (Err x) = refusing x
