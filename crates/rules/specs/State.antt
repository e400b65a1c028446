-- Document 01, "Running a few cycles": what a state tells, the rules read off it, and the state after a command.
use Rattle.std.specs.Prelude.{ℕ, ◌+◌, ◌≤◌, Bool, true, false, not, ◌&&◌, List, [], ◌∷◌, leb, eqb, get_or, set, replicate, Some, None}
use Rattle.std.proofs.Math.Option.{Option, none, some}
use Rattle.rules.specs.Types.{Stamp}
use Rattle.records.specs.Tests.{pick, all_of, every_below}
use Rattle.records.specs.declared.table.Table.{Table}
use Rattle.records.specs.declared.command.Kind.{Kind}
use Rattle.records.specs.declared.command.Kind.TheVariants.{Act, Rd, Rda, Wr, Wra, Ref, Other}
use Rattle.records.specs.declared.command.Command.{Command}
use Rattle.rules.specs.declared.state.Bank.{Bank}
use Rattle.rules.specs.declared.state.Group.{Group}
use Rattle.rules.specs.declared.state.State.{State}
use Rattle.rules.specs.Kinds.{is_act, is_rd, is_wr, is_ref, is_data, in_act_queue}
use Rattle.rules.specs.Square.{group_of, rrd_of, square, side, cell, write_tail}

-- cycle t is at least d after the stamp; "never" breaks no rule
abbrev pub past : Stamp → ℕ → ℕ → Bool
past None d t = true
past (Some c) d t = leb (c + d) t

abbrev pub is_open : Bank → Bool
is_open k = not (eqb k.opened 0)

-- a closed bank that no command has reached
abbrev pub shut : Bank
shut = record { opened = 0; act = None; rd = None; wr = None }

abbrev pub bank_of : State → ℕ → Bank
bank_of s b = get_or s.banks b shut

-- a group that no command has reached
abbrev pub quiet : Group
quiet = record { act = None; rd = None; wr = None }

abbrev pub group_at : State → ℕ → Group
group_at s g = get_or s.groups g quiet

-- a state has places for a table's banks and groups: number 2 lets no table pass that has more of them, or no group
pub record Held (τ : Table) : Type 0 where
  pub banks : τ.banks ≤ 16
  pub some : 1 ≤ τ.groups
  pub groups : τ.groups ≤ 8

-- rule 4: "Rules 4, 5 and 8 read the bank's cycles". t is at least RP after each of the three from which the precharge starts
abbrev pub charged : Table → Bank → ℕ → Bool
charged τ k t =
    past k.act (τ.ras + τ.rp) t && (past k.rd (τ.rtp + τ.rp) t && past k.wr (write_tail τ + τ.rp) t)

-- an ACT to a bank of the group `own` at cycle t is far enough from each group's latest ACT
abbrev pub acts_far : Table → List Group → ℕ → ℕ → Bool
acts_far τ gs own t = every_below τ.groups (λ g. past (get_or gs g quiet).act (rrd_of τ (eqb g own)) t)

-- "rule 6 the groups' latest ACTs, no longer the first of the four" (document 02, request 7)
abbrev pub rule6 : Table → State → ℕ → ℕ → Bool
rule6 τ s t b = acts_far τ s.groups (group_of τ b) t

-- "of the four ACTs, kept newest first, .. rule 7 the fourth"
abbrev pub rule7 : Table → State → ℕ → Bool
rule7 τ s t = past s.a4 τ.faw t

-- cycle t is far enough, by a square of distances, from the last RD and the last WR of a group, for a write or not
abbrev pub far_by : List (List ℕ) → Stamp → Stamp → Bool → ℕ → Bool
far_by q rd wr w t = past rd (cell q 0 (side w)) t && past wr (cell q 1 (side w)) t

-- a data command to a bank of the group `own` at cycle t, a write or not, is far enough from each group's latest RD and WR
abbrev pub data_far : Table → List Group → ℕ → Bool → ℕ → Bool
data_far τ gs own w t = every_below τ.groups (λ g. far_by (square τ (eqb g own)) (get_or gs g quiet).rd (get_or gs g quiet).wr w t)

-- "In a run rule 9 reads the groups' reads and writes"
abbrev pub rule9 : Table → State → Bool → ℕ → ℕ → Bool
rule9 τ s w t b = data_far τ s.groups (group_of τ b) w t

-- a bank that is closed and charged
abbrev pub at_rest : Table → Bank → ℕ → Bool
at_rest τ k t = not (is_open k) && charged τ k t

-- rule 11, for a REF at cycle t: no bank of the table is open, and t is at least RP after the precharge start of each
abbrev pub rule11 : Table → State → ℕ → Bool
rule11 τ s t = every_below τ.banks (λ b. at_rest τ (bank_of s b) t)

-- rule 12, for an ACT or a REF at cycle t, reads "the last REF's cycle"
abbrev pub rule12 : Table → State → ℕ → Bool
rule12 τ s t = past s.refresh τ.rfc t

-- rules 3 to 12 for an ACT to bank k at cycle t, which keeps rules 6, 7 and 12 or not; rules 8, 9 and 11 do not apply
abbrev pub act_tests_of : Table → Bank → Bool → Bool → Bool → ℕ → List Bool
act_tests_of τ k keeps6 keeps7 keeps12 t =
    not (is_open k) ∷ charged τ k t ∷ past k.act τ.rc t ∷ keeps6 ∷ keeps7 ∷ true ∷ true ∷ true ∷ keeps12 ∷ []

abbrev pub act_tests : Table → State → ℕ → ℕ → List Bool
act_tests τ s t b = act_tests_of τ (bank_of s b) (rule6 τ s t b) (rule7 τ s t) (rule12 τ s t) t

-- rules 3 to 12 for a REF, which keeps rules 11 and 12 or not; the others do not apply
abbrev pub refresh_tests_of : Bool → Bool → List Bool
refresh_tests_of keeps11 keeps12 = true ∷ true ∷ true ∷ true ∷ true ∷ true ∷ true ∷ keeps11 ∷ keeps12 ∷ []

abbrev pub refresh_tests : Table → State → ℕ → List Bool
refresh_tests τ s t = refresh_tests_of (rule11 τ s t) (rule12 τ s t)

-- rules 3 to 9 for a data command to bank k at cycle t, which keeps rule 9 or not; rules 4 to 7, 11 and 12 do not apply
abbrev pub data_tests_of : Table → Bank → Bool → ℕ → List Bool
data_tests_of τ k keeps9 t = is_open k ∷ true ∷ true ∷ true ∷ true ∷ past k.act τ.rcd t ∷ keeps9 ∷ []

abbrev pub data_tests : Table → State → Bool → ℕ → ℕ → List Bool
data_tests τ s w t b = data_tests_of τ (bank_of s b) (rule9 τ s w t b) t

abbrev pub tests_by : Table → State → Kind → ℕ → ℕ → List Bool
tests_by τ s Act t b = act_tests τ s t b
tests_by τ s Rd t b = data_tests τ s false t b
tests_by τ s Rda t b = data_tests τ s false t b
tests_by τ s Wr t b = data_tests τ s true t b
tests_by τ s Wra t b = data_tests τ s true t b
tests_by τ s Ref t b = refresh_tests τ s t
tests_by τ s (Other n) t b = []

-- by what the state tells, the command breaks none of rules 3 to 9, 11 and 12
abbrev pub breaks_none : Table → State → Command → Bool
breaks_none τ s c = all_of (tests_by τ s c.kind c.cycle c.bank)

-- "A fresh state has the table's edition, cycle 0, all banks closed and "never" throughout."
abbrev pub fresh : Table → State
fresh τ =
    record {
      edition = τ.edition;
      cycle = 0;
      acts = 0;
      datas = 0;
      banks = replicate 16 shut;
      a1 = None;
      a2 = None;
      a3 = None;
      a4 = None;
      groups = replicate 8 quiet;
      refresh = None;
      lent = 0;
    }

-- a bank after a command to it at cycle c: its last ACT, and the last RD and WR since
abbrev pub bank_after : Kind → ℕ → Bank → Bank
bank_after Act c k = record { opened = 1; act = Some c; rd = None; wr = None }
bank_after Rd c k = record { opened = 1; act = k.act; rd = Some c; wr = k.wr }
bank_after Rda c k = record { opened = 0; act = k.act; rd = Some c; wr = k.wr }
bank_after Wr c k = record { opened = 1; act = k.act; rd = k.rd; wr = Some c }
bank_after Wra c k = record { opened = 0; act = k.act; rd = k.rd; wr = Some c }
bank_after Ref c k = k
bank_after (Other n) c k = k

-- a group after a command to one of its banks at cycle c: its latest ACT, RD and WR
abbrev pub group_after : Kind → ℕ → Group → Group
group_after k c g = record { act = pick (is_act k) (Some c) g.act; rd = pick (is_rd k) (Some c) g.rd; wr = pick (is_wr k) (Some c) g.wr }

abbrev pub add_if : Bool → ℕ → ℕ
add_if b n = pick b (n + 1) n

-- the state after a command of a kind to bank b at cycle c; "The cycle then advances by one."
abbrev pub note : Table → State → ℕ → Kind → ℕ → State
note τ s c k b =
    record {
      edition = s.edition;
      cycle = c + 1;
      acts = add_if (in_act_queue k) s.acts;
      datas = add_if (is_data k) s.datas;
      banks = set s.banks b (bank_after k c (bank_of s b));
      a1 = pick (is_act k) (Some c) s.a1;
      a2 = pick (is_act k) s.a1 s.a2;
      a3 = pick (is_act k) s.a2 s.a3;
      a4 = pick (is_act k) s.a3 s.a4;
      groups = set s.groups (group_of τ b) (group_after k c (group_at s (group_of τ b)));
      refresh = pick (is_ref k) (Some c) s.refresh;
      lent = s.lent;
    }

-- the state after a cycle in which nothing goes
abbrev pub idle : State → State
idle s =
    record {
      edition = s.edition;
      cycle = s.cycle + 1;
      acts = s.acts;
      datas = s.datas;
      banks = s.banks;
      a1 = s.a1;
      a2 = s.a2;
      a3 = s.a3;
      a4 = s.a4;
      groups = s.groups;
      refresh = s.refresh;
      lent = s.lent;
    }

abbrev pub after : Table → State → Option Command → State
after τ s none = idle s
after τ s (some c) = note τ s c.cycle c.kind c.bank
