-- Document 01, "Examples from the desk": those marked †, its figures for table A, figures for table T and with refreshes; with those of
-- `WorkedGroups` and of `WorkedArrivals`, a single list under a single claim.
use Rattle.std.specs.Prelude.{ℕ, suc, ◌+◌, ◌≡◌, true, false, List, [], ◌∷◌, Some}
use Rattle.records.specs.declared.table.Table.{Table}
use Rattle.records.specs.declared.transaction.Transaction.{Transaction}
use Rattle.records.specs.declared.command.Kind.TheVariants.{Act, Rd, Rda, Wr, Wra, Ref}
use Rattle.records.specs.declared.command.Command.{Command}
use Rattle.records.specs.Command.{command}
use Rattle.records.specs.Transaction.{transaction, fits}
use Rattle.records.specs.House.{house, table_a, table_b, table_c, table_t}
use Rattle.records.specs.Table.{table_of, accepted}
use Rattle.rules.specs.declared.verdict.Rule.TheVariants.{Range, Order, Precharge, Rc, Faw, Refresh, Rfc}
use Rattle.rules.specs.declared.verdict.Verdict.TheVariants.{Accepted, Refused}
use Rattle.rules.specs.declared.verdict.PatternVerdict.TheVariants.{Refused as RefusedAt}
use Rattle.rules.specs.Square.{square, write_tail}
use Rattle.rules.specs.Verdict.{judge}
use Rattle.rules.specs.Pattern.{copies, EveryNumberLegal}
use Rattle.rules.specs.CycleRule.{Built}
use Rattle.rules.specs.Finish.{last_command, finish, count_from}
use Rattle.rules.specs.Bound.{bound_s, bound_d, bound_x, bound, span}

-- a read, and a write, of (bank, BI, BC)
abbrev pub read : ℕ → ℕ → ℕ → Transaction
read b i c = transaction 0 b i c

abbrev pub write : ℕ → ℕ → ℕ → Transaction
write b i c = transaction 1 b i c

abbrev pub one : List Command
one = command 0 Act 0 0 ∷ command 10 Rda 0 0 ∷ []

abbrev pub two : List Command
two = command 0 Act 0 0 ∷ command 10 Rda 0 0 ∷ command 38 Act 0 1 ∷ command 48 Rda 0 1 ∷ []

abbrev pub three : List Command
three = command 0 Act 0 0 ∷ command 10 Wra 0 0 ∷ command 44 Act 0 1 ∷ command 54 Rda 0 1 ∷ []

abbrev pub four : List Command
four = command 0 Act 0 0 ∷ command 6 Act 1 1 ∷ command 10 Rda 0 0 ∷ command 18 Wra 1 1 ∷ []

abbrev pub four_swapped : List Command
four_swapped = command 0 Act 0 0 ∷ command 6 Act 1 1 ∷ command 10 Wra 0 0 ∷ command 28 Rda 1 1 ∷ []

abbrev pub five : List Command
five =
    command 0 Act 0 0 ∷ command 6 Act 1 0 ∷ command 10 Rd 0 0 ∷ command 12 Act 2 0 ∷ command 14 Rda 0 0 ∷ command 18 Rd 1 0
    ∷ command 19 Act 3 0 ∷ command 22 Rda 1 0 ∷ command 26 Rd 2 0 ∷ command 30 Rda 2 0 ∷ command 34 Rd 3 0 ∷ command 38 Rda 3 0 ∷ []

abbrev pub six : List Command
six =
    command 0 Act 0 0 ∷ command 6 Act 1 0 ∷ command 10 Rda 0 0 ∷ command 12 Act 2 0 ∷ command 16 Rda 1 0 ∷ command 18 Act 3 0
    ∷ command 22 Rda 2 0 ∷ command 28 Rda 3 0 ∷ command 32 Act 4 0 ∷ command 42 Rda 4 0 ∷ []

abbrev pub eleven : ℕ → List Command
eleven t = command 0 Act 0 0 ∷ command 10 Wr 0 0 ∷ command 28 Rda 0 0 ∷ command t Act 0 1 ∷ command (t + 10) Rda 0 1 ∷ []

-- document 02, request 2: "with 8 banks, start 7 and BI 2 uses banks 7 and 0"
abbrev pub twelve : List Command
twelve = command 0 Act 7 0 ∷ command 6 Act 0 0 ∷ command 10 Rda 7 0 ∷ command 16 Rda 0 0 ∷ []

-- Table T, whose numbers all differ. A schedule with each pair of data kinds: RD and RD, RD and WR, WR and WR, WR and RD
abbrev pub pairs_t : List Command
pairs_t =
    command 0 Act 0 0 ∷ command 7 Act 1 1 ∷ command 11 Rd 0 0 ∷ command 14 Act 2 2 ∷ command 16 Rda 0 0 ∷ command 26 Wr 1 1
    ∷ command 31 Wra 1 1 ∷ command 48 Rda 2 2 ∷ []

-- a write and a read of one bank
abbrev pub again_t : List Command
again_t = command 0 Act 0 0 ∷ command 11 Wra 0 0 ∷ command 51 Act 0 1 ∷ command 62 Rda 0 1 ∷ []

-- five ACTs
abbrev pub five_t : List Command
five_t =
    command 0 Act 0 0 ∷ command 7 Act 1 0 ∷ command 11 Rda 0 0 ∷ command 14 Act 2 0 ∷ command 18 Rda 1 0 ∷ command 21 Act 3 0
    ∷ command 25 Rda 2 0 ∷ command 32 Rda 3 0 ∷ command 33 Act 4 0 ∷ command 44 Rda 4 0 ∷ []

-- bank 0 opened and closed, then once more from cycle t; its precharge starts by the ACT, by the RD, by the WR
abbrev pub then_t : ℕ → List Command
then_t t = command t Act 0 1 ∷ command (t + 11) Rda 0 1 ∷ []

abbrev pub by_act_t : ℕ → List Command
by_act_t t = command 0 Act 0 0 ∷ command 11 Rda 0 0 ∷ then_t t

abbrev pub by_rd_t : ℕ → List Command
by_rd_t t = command 0 Act 0 0 ∷ command 30 Rda 0 0 ∷ then_t t

abbrev pub by_wr_t : ℕ → List Command
by_wr_t t = command 0 Act 0 0 ∷ command 11 Wr 0 0 ∷ command 28 Rda 0 0 ∷ then_t t

-- a read of bank 0 and a write of bank 1, as a pattern
abbrev pub pattern_t : List Command
pattern_t = command 0 Act 0 0 ∷ command 7 Act 1 1 ∷ command 11 Rda 0 0 ∷ command 21 Wra 1 1 ∷ []

-- document 02, request 5: table A with an RFC of 50, and a refresh
abbrev pub table_r : Table
table_r = table_of (house 32 6 50)

abbrev pub refresh : Transaction
refresh = transaction 2 0 0 0

-- a refresh and a write: the first REF goes at cycle 0, the ACT at its finish
abbrev pub refresh_first : List Command
refresh_first = command 0 Ref 0 0 ∷ command 50 Act 0 1 ∷ command 60 Wra 0 1 ∷ []

-- a read, a refresh, a read: the REF waits for bank 0's precharge start + RP, the next ACT for the REF's finish
abbrev pub refreshed : List Command
refreshed = command 0 Act 0 0 ∷ command 10 Rda 0 0 ∷ command 38 Ref 0 1 ∷ command 88 Act 0 2 ∷ command 98 Rda 0 2 ∷ []

-- a write and two refreshes: the first REF comes S after the write's last command, the second at the first one's finish
abbrev pub twice : List Command
twice = command 0 Act 3 0 ∷ command 10 Wra 3 0 ∷ command 44 Ref 0 1 ∷ command 94 Ref 0 2 ∷ []

-- a read at bank 0, a REF at a cycle and to a bank
abbrev pub then_ref : ℕ → ℕ → List Command
then_ref t b = command 0 Act 0 0 ∷ command 10 Rda 0 0 ∷ command t Ref b 1 ∷ []

-- the examples, in the order of their numbers
abbrev pub examples : List (Type 0)
examples =
    -- "For A: RD to WR 8, WR to RD 18, S 34, D 8, X 18."
    (square table_a false ≡ (4 ∷ 8 ∷ []) ∷ (18 ∷ 4 ∷ []) ∷ [])
    ∷ (bound_s table_a ≡ 34)
    ∷ (bound_d table_a ≡ 8)
    ∷ (bound_x table_a ≡ 18)
    -- 1 to 3, with the finishes of 1 and 3 as document 02 changes them, and 3's bound, which is met exactly
    ∷ Built table_a (read 0 1 1 ∷ []) one
    ∷ (finish table_a (read 0 1 1) 0 one ≡ Some 24)
    ∷ Built table_a (read 0 1 1 ∷ read 0 1 1 ∷ []) two
    ∷ Built table_a (write 0 1 1 ∷ read 0 1 1 ∷ []) three
    ∷ (finish table_a (write 0 1 1) 0 three ≡ Some 10)
    ∷ (finish table_a (read 0 1 1) 1 three ≡ Some 68)
    ∷ (bound table_a 1 1 ≡ 44)
    ∷ (last_command 1 three ≡ Some (10 + bound table_a 1 1))
    -- 4, and with its types swapped
    ∷ Built table_a (read 0 1 1 ∷ write 1 1 1 ∷ []) four
    ∷ Built table_a (write 0 1 1 ∷ read 1 1 1 ∷ []) four_swapped
    ∷ (finish table_a (read 1 1 1) 1 four_swapped ≡ Some 42)
    -- 5 and 6
    ∷ Built table_a (read 0 4 2 ∷ []) five
    ∷ Built table_a (read 0 5 1 ∷ []) six
    ∷ (finish table_a (read 0 5 1) 0 six ≡ Some 56)
    -- 7
    ∷ (bound table_a 2 1 ≡ 53)
    ∷ (bound table_a 1 4 ≡ 56)
    ∷ (bound table_a 4 2 ≡ 75)
    ∷ (bound table_a 5 1 ≡ 80)
    ∷ (bound table_a 8 1 ≡ 107)
    -- 8 to 10: accepted, so every number of copies is legal; refused, whatever number of copies there is beyond the copy named
    ∷ EveryNumberLegal table_a 38 one
    ∷ ((n : ℕ) → copies table_a 37 one (suc (suc n)) ≡ RefusedAt Precharge 2 0)
    ∷ EveryNumberLegal table_a 39 five
    ∷ ((n : ℕ) → copies table_a 38 five (suc (suc n)) ≡ RefusedAt Order 2 0)
    ∷ EveryNumberLegal table_b 39 one
    ∷ ((n : ℕ) → copies table_b 38 one (suc (suc (suc (suc (suc n))))) ≡ RefusedAt Faw 5 0)
    -- 11
    ∷ (judge table_c (eleven 44) ≡ Accepted)
    ∷ (judge table_c (eleven 43) ≡ Refused Precharge 3)
    -- 12, as document 02 changes it: the banks go on with bank 0 after the last
    ∷ (fits table_a (read 7 2 1) ≡ true)
    ∷ Built table_a (read 7 2 1 ∷ []) twelve
    -- table T: the distances, the write's tail, the bound
    ∷ (square table_t false ≡ (5 ∷ 10 ∷ []) ∷ (17 ∷ 5 ∷ []) ∷ [])
    ∷ (write_tail table_t ≡ 28)
    ∷ (bound_s table_t ≡ 40)
    ∷ (bound_d table_t ≡ 9)
    ∷ (bound_x table_t ≡ 17)
    ∷ (bound table_t 1 1 ≡ 51)
    ∷ (bound table_t 2 1 ≡ 61)
    ∷ (bound table_t 1 4 ≡ 66)
    ∷ (bound table_t 5 1 ≡ 91)
    ∷ (bound table_t 6 2 ≡ 106)
    -- schedules, with where their transactions finish
    ∷ Built table_t (read 0 1 2 ∷ write 1 1 2 ∷ read 2 1 1 ∷ []) pairs_t
    ∷ (finish table_t (read 0 1 2) 0 pairs_t ≡ Some 33)
    ∷ (finish table_t (write 1 1 2) 1 pairs_t ≡ Some 31)
    ∷ (finish table_t (read 2 1 1) 2 pairs_t ≡ Some 65)
    ∷ Built table_t (write 0 1 1 ∷ read 0 1 1 ∷ []) again_t
    ∷ (last_command 1 again_t ≡ Some (11 + bound table_t 1 1))
    ∷ Built table_t (read 0 5 1 ∷ []) five_t
    -- the three causes of a precharge, and RC
    ∷ (judge table_t (by_act_t 37) ≡ Refused Precharge 2)
    ∷ (judge table_t (by_act_t 38) ≡ Refused Rc 2)
    ∷ (judge table_t (by_act_t 39) ≡ Refused Rc 2)
    ∷ (judge table_t (by_act_t 40) ≡ Accepted)
    ∷ (judge table_t (by_rd_t 49) ≡ Refused Precharge 2)
    ∷ (judge table_t (by_rd_t 50) ≡ Accepted)
    ∷ (judge table_t (by_wr_t 50) ≡ Refused Precharge 3)
    ∷ (judge table_t (by_wr_t 51) ≡ Accepted)
    -- a pattern: its least length, and one less
    ∷ EveryNumberLegal table_t 54 pattern_t
    ∷ ((n : ℕ) → copies table_t 53 pattern_t (suc (suc n)) ≡ RefusedAt Precharge 2 1)
    -- refreshes: "it's refused by number 4 when RFC is 0"; the other three bytes are 0
    ∷ (accepted table_r ≡ true)
    ∷ (fits table_r refresh ≡ true)
    ∷ (fits table_a refresh ≡ false)
    ∷ (fits table_r (transaction 2 0 1 1) ≡ false)
    -- the schedules, where they finish, and that they pass the judge
    ∷ Built table_r (refresh ∷ write 0 1 1 ∷ []) refresh_first
    ∷ (finish table_r refresh 0 refresh_first ≡ Some 50)
    ∷ (judge table_r refresh_first ≡ Accepted)
    ∷ Built table_r (read 0 1 1 ∷ refresh ∷ read 0 1 1 ∷ []) refreshed
    ∷ (finish table_r (read 0 1 1) 0 refreshed ≡ Some 24)
    ∷ (finish table_r refresh 1 refreshed ≡ Some 88)
    ∷ (finish table_r (read 0 1 1) 2 refreshed ≡ Some 112)
    ∷ (judge table_r refreshed ≡ Accepted)
    ∷ Built table_r (write 3 1 1 ∷ refresh ∷ refresh ∷ []) twice
    ∷ (judge table_r twice ≡ Accepted)
    -- the bounds: the first REF of `twice` meets S exactly; the second one's count starts at the first one's finish
    ∷ (span table_r refresh ≡ 34)
    ∷ (last_command 1 twice ≡ Some (10 + bound_s table_r))
    ∷ (count_from table_r refresh 44 ≡ 94)
    -- rule 11: a bank's precharge start + RP; an open bank. Rule 12: RFC after a REF, for a REF and for an ACT. Rule 1: a REF's bank is 0.
    ∷ (judge table_r (then_ref 38 0) ≡ Accepted)
    ∷ (judge table_r (then_ref 37 0) ≡ Refused Refresh 2)
    ∷ (judge table_r (command 0 Act 5 0 ∷ command 1 Ref 0 1 ∷ []) ≡ Refused Refresh 1)
    ∷ (judge table_r (then_ref 38 1) ≡ Refused Range 2)
    ∷ (judge table_r (command 0 Ref 0 0 ∷ command 49 Ref 0 1 ∷ []) ≡ Refused Rfc 1)
    ∷ (judge table_r (command 0 Ref 0 0 ∷ command 49 Act 0 1 ∷ command 59 Rda 0 1 ∷ []) ≡ Refused Rfc 1)
    -- as patterns: a REF alone every RFC cycles; `then_ref` every 38 + 50
    ∷ EveryNumberLegal table_r 50 (command 0 Ref 0 0 ∷ [])
    ∷ ((n : ℕ) → copies table_r 49 (command 0 Ref 0 0 ∷ []) (suc (suc n)) ≡ RefusedAt Rfc 2 0)
    ∷ EveryNumberLegal table_r 88 (then_ref 38 0)
    ∷ ((n : ℕ) → copies table_r 87 (then_ref 38 0) (suc (suc n)) ≡ RefusedAt Rfc 2 0)
    ∷ []

-- every statement of a list holds
abbrev pub All : List (Type 0) → Type 0
All [] = Unit {0}
All (P ∷ l) = P × All l
