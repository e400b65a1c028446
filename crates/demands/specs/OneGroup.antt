-- Document 02, request 7: "with one group and long equal to short, every answer equals the old". Of the public calls: a table of 40 bytes that
-- has one group, each long number equal to its short one, is answered as the 32 bytes before. (That these are answered as before there were
-- groups is `OneGroupBefore`, in `rules`.)
use Rattle.std.specs.Prelude.{ℕ, Bool, ◌≡◌, ◌↔◌, List, length, take, Result}
use Rattle.rules.specs.declared.verdict.PatternVerdict.{PatternVerdict}
use Rattle.records.specs.declared.refusal.Refusal.{Refusal}
use Rattle.records.specs.declared.table.Table.{Table}
use Rattle.records.specs.declared.transaction.Transaction.{Transaction}
use Rattle.records.specs.Little.{num}
use Rattle.controller.specs.declared.controller.Controller.{Controller}
use Rattle.promises.specs.Admit.{admitted}
use Rattle.promises.specs.Judging.{judging, PatternTold}
use Rattle.promises.specs.Tracing.{capturing}
use Rattle.promises.specs.Bounds.{bounding}
use Rattle.promises.specs.Transactions.{reading}
use Rattle.promises.specs.Schedules.{Schedules}
use Rattle.promises.specs.Running.{starting, running}

-- the last four numbers: one group, and CCD, RRD and WTR again
pub record OneGroupBytes (table : List ℕ) : Type 0 where
  pub size : length table ≡ 40
  pub groups : num table 32 ≡ 1
  pub ccd : num table 34 ≡ num table 6
  pub rrd : num table 36 ≡ num table 16
  pub wtr : num table 38 ≡ num table 28

-- answers, and what is left of buffers, runs of records and controllers; by either check of a list, of its records or of its bytes
pub record AnsweredAs (expected : ℕ) (table plain : List ℕ) : Type 0 where
  pub judge : (s : List ℕ) → judging (admitted expected table) s ≡ judging (admitted expected plain) s
  pub pattern : (s : List ℕ) (L : ℕ) (r : Result (ℕ × PatternVerdict) Refusal) → PatternTold (admitted expected table) s L r ↔ PatternTold (admitted expected plain) s L r
  pub capture : (s b : List ℕ) → capturing (admitted expected table) s b ≡ capturing (admitted expected plain) s b
  pub bound : (bi bc : ℕ) → bounding (admitted expected table) bi bc ≡ bounding (admitted expected plain) bi bc
  pub read : (later : Bool) (s : List ℕ) (l : List Transaction) → reading later (admitted expected table) s l ≡ reading later (admitted expected plain) s l
  pub schedule : (check : Table → Result Unit Refusal) (l : List Transaction) (b₀ b f₀ f : List ℕ) (r : Result (ℕ × ℕ) Refusal)
      → Schedules check (admitted expected table) l b₀ b f₀ f r ↔ Schedules check (admitted expected plain) l b₀ b f₀ f r
  pub start : starting (admitted expected table) ≡ starting (admitted expected plain)
  pub run : (check : Table → Result Unit Refusal) (c : Controller) (l : List Transaction) (n : ℕ) (b : List ℕ)
      → running check (admitted expected table) c l n b ≡ running check (admitted expected plain) c l n b

abbrev pub OneGroupAnswers : Type 0
OneGroupAnswers = (expected : ℕ) (table : List ℕ) → OneGroupBytes table → AnsweredAs expected table (take 32 table)
