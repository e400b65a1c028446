-- "A verdict is acceptance, or a refusal that carries the rule inside it with the record number, from 0."
use Rattle.std.specs.Prelude.{ℕ, zero, suc, Bool, true, not, ◌&&◌, ◌≡◌, List, [], ◌∷◌, Some, None}
use Rattle.records.specs.Tests.{pick}
use Rattle.records.specs.declared.table.Table.{Table}
use Rattle.records.specs.declared.command.Command.{Command}
use Rattle.records.specs.Command.{command}
use Rattle.rules.specs.declared.verdict.Rule.TheVariants.{End}
use Rattle.rules.specs.declared.verdict.Verdict.{Verdict}
use Rattle.rules.specs.declared.verdict.Verdict.TheVariants.{Accepted, Refused}
use Rattle.rules.specs.History.{open_in, broken}

-- no bank below n is open
abbrev pub all_shut : ℕ → List Command → Bool
all_shut zero h = true
all_shut (suc n) h = not (open_in n h) && all_shut n h

-- the verdict on records from number n on, after the history h. Rule 10: "at the end a bank is open; the record number is then the count"
abbrev pub judge_from : Table → List Command → ℕ → List Command → Verdict
judge_from τ [] n h = pick (all_shut τ.banks h) Accepted (Refused End n)
judge_from τ (r ∷ rs) n h = elim (broken τ r h) [ None ↦ judge_from τ rs (suc n) (r ∷ h) | Some x ↦ Refused x n ]

abbrev pub judge : Table → List Command → Verdict
judge τ rs = judge_from τ rs 0 []

abbrev pub Legal : Table → List Command → Type 0
Legal τ rs = judge τ rs ≡ Accepted

-- the same cycles, kinds and banks, with transaction number 0. ("The judge doesn't look at the transaction number.")
abbrev pub unnumbered : List Command → List Command
unnumbered [] = []
unnumbered (r ∷ rs) = command r.cycle r.kind r.bank 0 ∷ unnumbered rs
