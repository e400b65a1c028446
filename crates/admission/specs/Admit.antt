-- "Checks go in the order of these numbers": each call that takes a table admits it first, by numbers 1 and 2, which name edition 0, and then by
-- number 10, which names the table's.
use Rattle.std.specs.Prelude.{ℕ, ◌≤◌, ◌≡◌, List, eqb, leb, Result, Ok, Err}
use Rattle.records.specs.declared.table.Table.{Table}
use Rattle.records.specs.declared.refusal.Refusal.{Refusal}
use Rattle.records.specs.Tests.{pick}
use Rattle.records.specs.Told.{refusal}
use Rattle.records.specs.Table.{read_table, Accepted}
use Rattle.admission.specs.declared.admit.WayIn.{WayIn}

-- document 02, request 1: "If they differ it's refused as number 10, position the table's edition, straight after number 2"; "expected 0 always
-- differs", since no accepted table has edition 0
abbrev pub expects : ℕ → Table → Result Table Refusal
expects e τ = pick (eqb τ.edition e) (Ok τ) (Err (refusal 10 τ.edition τ.edition))

abbrev pub expecting : ℕ → Result Table Refusal → Result Table Refusal
expecting e (Ok τ) = expects e τ
expecting e (Err x) = Err x

-- the table of these bytes, of which edition e is expected, or its refusal: the same for every call
unfoldable pub admitted : ℕ → List ℕ → Result Table Refusal
admitted e s = expecting e (read_table s)

-- the edition that every answer must name: "Refusals 1 and 2 name edition 0"
abbrev pub edition_of : Result Table Refusal → ℕ
edition_of (Ok τ) = τ.edition
edition_of (Err x) = 0

-- ---- a lent run of n records, of which none is looked at before this

-- none are gathered, and the call is refused
abbrev pub no_way : Refusal → WayIn
no_way x = record { n = 0; table = Err x }

-- number 3, "over 256 records .. decoded", by the run's length alone
abbrev pub by_length : ℕ → Table → WayIn
by_length n τ = pick (leb n 256) (record { n = n; table = Ok τ }) (no_way (refusal 3 0 τ.edition))

-- numbers 1, 2 and 10, and then 3
abbrev pub way_in : ℕ → Result Table Refusal → WayIn
way_in n (Ok τ) = by_length n τ
way_in n (Err x) = no_way x

-- what the way in leaves: at most 256 to gather, and a table that is read is an accepted one
pub record LetIn (w : WayIn) : Type 0 where
  pub few : w.n ≤ 256
  pub accepted : (τ : Table) → w.table ≡ Ok τ → Accepted τ
