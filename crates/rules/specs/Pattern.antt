-- "A pattern has a length L. Copy n, from 1, has L × (n − 1) added to each cycle, in whole numbers that never wrap."
use Rattle.std.specs.Prelude.{ℕ, zero, suc, ◌+◌, ◌*◌, List, [], ◌∷◌, ◌++◌}
use Rattle.records.specs.declared.table.Table.{Table}
use Rattle.records.specs.declared.command.Command.{Command}
use Rattle.records.specs.Command.{command}
use Rattle.rules.specs.declared.verdict.Verdict.TheVariants.{Accepted as Legally, Refused as Not}
use Rattle.rules.specs.declared.verdict.PatternVerdict.{PatternVerdict}
use Rattle.rules.specs.declared.verdict.PatternVerdict.TheVariants.{Accepted, Refused}
use Rattle.rules.specs.Verdict.{judge_from, Legal}

-- the records d cycles later
abbrev pub moved : ℕ → List Command → List Command
moved d [] = []
moved d (r ∷ rs) = command (r.cycle + d) r.kind r.bank r.number ∷ moved d rs

-- copy k + 1
abbrev pub copy : ℕ → List Command → ℕ → List Command
copy L p k = moved (L * k) p

-- n copies set end to end, the first of them copy k + 1
abbrev pub end_to_end : ℕ → List Command → ℕ → ℕ → List Command
end_to_end L p zero k = []
end_to_end L p (suc n) k = copy L p k ++ end_to_end L p n (suc k)

-- "every number of copies, set end to end, is a legal schedule"
abbrev pub EveryNumberLegal : Table → ℕ → List Command → Type 0
EveryNumberLegal τ L p = (n : ℕ) → Legal τ (end_to_end L p n 0)

-- records put on a history, which stands newest first
abbrev pub onto : List Command → List Command → List Command
onto [] h = h
onto (r ∷ rs) h = onto rs (r ∷ h)

-- the verdict on n more copies, the next one number k + 1, after the history h.
-- "Each single copy must close its banks. The verdict names the lowest copy, then the record within it."
abbrev pub copies_from : Table → ℕ → List Command → ℕ → ℕ → List Command → PatternVerdict
copies_from τ L p zero k h = Accepted
copies_from τ L p (suc n) k h =
    elim (judge_from τ (copy L p k) 0 h) [ Legally ↦ copies_from τ L p n (suc k) (onto (copy L p k) h) | Not x i ↦ Refused x (suc k) i ]

abbrev pub copies : Table → ℕ → List Command → ℕ → PatternVerdict
copies τ L p n = copies_from τ L p n 0 []
