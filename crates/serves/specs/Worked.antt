-- Our own examples of request 10: what is answered, and who is at fault; each cause of fault alone. A single list under a single claim.
use Rattle.std.specs.Prelude.{List, [], ◌∷◌}
use Rattle.records.specs.declared.transaction.Transaction.{Transaction}
use Rattle.records.specs.declared.command.Kind.TheVariants.{Act, Rd, Rda, Wra, Ref}
use Rattle.records.specs.declared.command.Command.{Command}
use Rattle.records.specs.Command.{command}
use Rattle.records.specs.Transaction.{arriving}
use Rattle.records.specs.House.{table_a, table_d}
use Rattle.rules.specs.declared.verdict.Rule.TheVariants.{End, Rfc}
use Rattle.rules.specs.Worked.{read, refresh, table_r, refreshed, one, twelve}
use Rattle.rules.specs.WorkedGroups.{hidden_act}
use Rattle.serves.specs.declared.answer.Served.TheVariants.{Serves, Refused as Judged, AtFault as Names}
use Rattle.serves.specs.Serves.{Says, AreTheQueue}

-- a read, a refresh and a read, all at bank 0; two reads, at banks 0 and 1, and both at bank 0; a read of two bursts
abbrev pub three : List Transaction
three = read 0 1 1 ∷ refresh ∷ read 0 1 1 ∷ []

abbrev pub two : List Transaction
two = read 0 1 1 ∷ read 1 1 1 ∷ []

abbrev pub two_alike : List Transaction
two_alike = read 0 1 1 ∷ read 0 1 1 ∷ []

abbrev pub bursts : List Transaction
bursts = read 0 1 2 ∷ []

-- of two bursts: as built; the first missing; the first twice; the read's own and a visit to bank 1; a closing command in place of the first
abbrev pub of_bursts : List Command
of_bursts = command 0 Act 0 0 ∷ command 10 Rd 0 0 ∷ command 14 Rda 0 0 ∷ []

abbrev pub missed : List Command
missed = command 0 Act 0 0 ∷ command 10 Rda 0 0 ∷ []

abbrev pub doubled : List Command
doubled = command 0 Act 0 0 ∷ command 10 Rd 0 0 ∷ command 14 Rd 0 0 ∷ command 18 Rda 0 0 ∷ []

abbrev pub strayed : List Command
strayed = command 0 Act 0 0 ∷ command 6 Act 1 0 ∷ command 10 Rd 0 0 ∷ command 14 Rda 0 0 ∷ command 18 Rda 1 0 ∷ []

abbrev pub closed_twice : List Command
closed_twice = command 0 Act 0 0 ∷ command 10 Rda 0 0 ∷ command 38 Act 0 0 ∷ command 48 Rda 0 0 ∷ []

-- of two reads: the ACTs in another order; the data commands too; a write for a read; at one bank, with each other's ACT
abbrev pub any_order : List Command
any_order = command 0 Act 1 1 ∷ command 6 Act 0 0 ∷ command 16 Rda 0 0 ∷ command 20 Rda 1 1 ∷ []

abbrev pub data_turned : List Command
data_turned = command 0 Act 1 1 ∷ command 6 Act 0 0 ∷ command 10 Rda 1 1 ∷ command 16 Rda 0 0 ∷ []

abbrev pub wrong_type : List Command
wrong_type = command 0 Act 1 1 ∷ command 6 Act 0 0 ∷ command 16 Rda 0 0 ∷ command 36 Wra 1 1 ∷ []

abbrev pub exchanged : List Command
exchanged = command 0 Act 0 1 ∷ command 10 Rda 0 0 ∷ command 38 Act 0 0 ∷ command 48 Rda 0 1 ∷ []

-- of the three: no REF; the REF last, and first; two REFs; an ACT too soon; a bank left open
abbrev pub without : List Command
without = command 0 Act 0 0 ∷ command 10 Rda 0 0 ∷ command 88 Act 0 2 ∷ command 98 Rda 0 2 ∷ []

abbrev pub ref_last : List Command
ref_last = command 0 Act 0 0 ∷ command 10 Rda 0 0 ∷ command 38 Act 0 2 ∷ command 48 Rda 0 2 ∷ command 100 Ref 0 1 ∷ []

abbrev pub ref_first : List Command
ref_first = command 0 Ref 0 1 ∷ command 50 Act 0 0 ∷ command 60 Rda 0 0 ∷ command 88 Act 0 2 ∷ command 98 Rda 0 2 ∷ []

abbrev pub two_refs : List Command
two_refs =
    command 0 Act 0 0 ∷ command 10 Rda 0 0 ∷ command 38 Ref 0 1 ∷ command 88 Ref 0 1 ∷ command 138 Act 0 2 ∷ command 148 Rda 0 2 ∷ []

abbrev pub too_soon : List Command
too_soon = command 0 Act 0 0 ∷ command 10 Rda 0 0 ∷ command 38 Ref 0 1 ∷ command 87 Act 0 2 ∷ command 98 Rda 0 2 ∷ []

abbrev pub left_open : List Command
left_open = command 0 Act 0 0 ∷ []

-- a visit to bank 1 before the REF, under number 2, and under number 9; a REF of number 9 at the end
abbrev pub stray_before : List Command
stray_before =
    command 0 Act 0 0 ∷ command 6 Act 1 2 ∷ command 10 Rda 0 0 ∷ command 16 Rda 1 2 ∷ command 44 Ref 0 1 ∷ command 94 Act 0 2 ∷ command 104 Rda 0 2 ∷ []

abbrev pub outside_before : List Command
outside_before =
    command 0 Act 0 0 ∷ command 6 Act 1 9 ∷ command 10 Rda 0 0 ∷ command 16 Rda 1 9 ∷ command 44 Ref 0 1 ∷ command 94 Act 0 2 ∷ command 104 Rda 0 2 ∷ []

abbrev pub beyond : List Command
beyond =
    command 0 Act 0 0 ∷ command 10 Rda 0 0 ∷ command 38 Ref 0 1 ∷ command 88 Act 0 2 ∷ command 98 Rda 0 2 ∷ command 200 Ref 0 9 ∷ []

abbrev pub serve_examples : List (Type 0)
serve_examples =
    -- built schedules serve: with a refresh, round the last bank, in groups; "Arrivals aren't looked at"
    Says table_r three refreshed Serves
    ∷ Says table_a (read 7 2 1 ∷ []) twelve Serves
    ∷ Says table_d (read 0 2 1 ∷ read 4 1 1 ∷ []) (hidden_act 20) Serves
    ∷ Says table_a bursts of_bursts Serves
    ∷ AreTheQueue table_a bursts of_bursts
    ∷ Says table_a (arriving (read 0 1 1) 25 ∷ []) one Serves
    -- "ACTs may stand in any order"
    ∷ Says table_a two any_order Serves
    -- "a command of its is missing, repeated or not its own"
    ∷ Says table_a bursts missed (Names 0)
    ∷ Says table_a bursts doubled (Names 0)
    ∷ Says table_a bursts strayed (Names 0)
    ∷ Says table_a bursts closed_twice (Names 0)
    ∷ Says table_a two wrong_type (Names 1)
    ∷ Says table_r three without (Names 1)
    ∷ Says table_r three two_refs (Names 1)
    -- of two at fault the lower is named: the refresh and the second read are missing
    ∷ Says table_r three one (Names 1)
    -- "the ACT before one of its data commands carries another number", of both
    ∷ Says table_a two_alike exchanged (Names 0)
    -- "a data command of its stands after one that the queue places later": the one that stands later but belongs earlier
    ∷ Says table_a two data_turned (Names 0)
    -- "its REF is misplaced": the refresh alone is at fault
    ∷ Says table_r three ref_last (Names 1)
    ∷ Says table_r three ref_first (Names 1)
    -- a record that is not due misplaces a REF, one outside the list none
    ∷ Says table_r three stray_before (Names 1)
    ∷ Says table_r three outside_before (Names 3)
    -- "If none is, the list's length is given", for an empty list 0
    ∷ Says table_r three beyond (Names 3)
    ∷ Says table_a [] one (Names 0)
    ∷ Says table_a [] [] Serves
    -- "the judge's verdict comes first"
    ∷ Says table_r three too_soon (Judged Rfc 3)
    ∷ Says table_r three left_open (Judged End 1)
    ∷ []
