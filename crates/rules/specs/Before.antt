-- Rules 6 and 9, and what reads them, as they stood before there were groups (document 02, request 7): "with one group and long equal to short,
-- every answer equals the old (from a running state, where the group's latest ACT is the first of the four)". Nothing else uses these.
use Rattle.std.specs.Prelude.{ℕ, zero, suc, ◌+◌, ◌-◌, ◌*◌, ◌/◌, ◌≤◌, max, Bool, true, false, not, ◌&&◌, ◌||◌, ◌≡◌, List, [], ◌∷◌, leb, length, get_or, set, Some, None}
use Rattle.std.proofs.Math.Option.{Option, none, some}
use Rattle.rules.specs.Types.{Stamp}
use Rattle.rules.specs.Types.{Found}
use Rattle.records.specs.Tests.{pick, all_of, every, every_below}
use Rattle.records.specs.Table.{table_at}
use Rattle.records.specs.Transaction.{is_refresh}
use Rattle.records.specs.declared.table.Table.{Table}
use Rattle.records.specs.declared.transaction.Transaction.{Transaction}
use Rattle.records.specs.declared.command.Kind.{Kind}
use Rattle.records.specs.declared.command.Kind.TheVariants.{Act, Rd, Rda, Wr, Wra, Ref, Other}
use Rattle.records.specs.declared.command.Command.{Command}
use Rattle.rules.specs.declared.state.Bank.{Bank}
use Rattle.rules.specs.declared.state.State.{State}
use Rattle.rules.specs.declared.verdict.Rule.TheVariants.{End}
use Rattle.rules.specs.declared.verdict.Verdict.{Verdict}
use Rattle.rules.specs.declared.verdict.Verdict.TheVariants.{Accepted as Legally, Refused as Not}
use Rattle.rules.specs.declared.verdict.PatternVerdict.{PatternVerdict}
use Rattle.rules.specs.declared.verdict.PatternVerdict.TheVariants.{Accepted, Refused}
use Rattle.rules.specs.Kinds.{is_act, is_rd, is_wr, is_ref, is_data, in_act_queue, first_broken, rules_in_order}
use Rattle.rules.specs.Square.{side, cell, write_tail}
use Rattle.rules.specs.State.{past, shut, fresh, far_by, group_at, at_rest, act_tests_of, refresh_tests_of, data_tests_of, bank_after, add_if}
use Rattle.rules.specs.History.{in_table, later, open_in, act_in, precharge_in, fourth_act, far, refresh_rules, far_refresh, is_fine}
use Rattle.rules.specs.Verdict.{all_shut}
use Rattle.rules.specs.Pattern.{copy, onto}
use Rattle.rules.specs.Queues.{act_queue, data_queue}
use Rattle.rules.specs.CycleRule.{goes_by, acts_in, datas_in, push}
use Rattle.rules.specs.Bound.{greatest}
use Rattle.rules.specs.Bound as Bounds
use Rattle.rules.specs.History as Now
use Rattle.rules.specs.Verdict as Verdicts
use Rattle.rules.specs.Pattern as Patterns
use Rattle.rules.specs.CycleRule as Cycles
use Rattle.rules.specs.Run as Runs

-- the square of distances
abbrev pub rd_to_wr : Table → ℕ
rd_to_wr τ = max τ.ccd (τ.rl + τ.ccd + 2 - τ.wl)

abbrev pub wr_to_rd : Table → ℕ
wr_to_rd τ = max τ.ccd (τ.wl + τ.b + τ.wtr)

abbrev pub square : Table → List (List ℕ)
square τ = (τ.ccd ∷ rd_to_wr τ ∷ []) ∷ (wr_to_rd τ ∷ τ.ccd ∷ []) ∷ []

abbrev pub from_rd : Table → Bool → ℕ
from_rd τ w = cell (square τ) 0 (side w)

abbrev pub from_wr : Table → Bool → ℕ
from_wr τ w = cell (square τ) 1 (side w)

-- by history: rule 6 and rule 9
abbrev pub far_act : Table → ℕ → Command → Bool
far_act τ t r = far is_act τ.rrd t r

abbrev pub far_data : Table → Bool → ℕ → Command → Bool
far_data τ w t r = far is_rd (from_rd τ w) t r && far is_wr (from_wr τ w) t r

abbrev pub act_rules : Table → ℕ → ℕ → List Command → List Bool
act_rules τ t b h =
    not (open_in b h) ∷ past (precharge_in τ b h) τ.rp t ∷ past (act_in b h) τ.rc t ∷ every (far_act τ t) h
    ∷ past (fourth_act h) τ.faw t ∷ true ∷ true ∷ true ∷ every (far_refresh τ t) h ∷ []

abbrev pub data_rules : Table → Bool → ℕ → ℕ → List Command → List Bool
data_rules τ w t b h =
    open_in b h ∷ true ∷ true ∷ true ∷ true ∷ past (act_in b h) τ.rcd t ∷ every (far_data τ w t) h ∷ []

abbrev pub rules_by : Table → Kind → ℕ → ℕ → List Command → List Bool
rules_by τ Act t b h = act_rules τ t b h
rules_by τ Rd t b h = data_rules τ false t b h
rules_by τ Rda t b h = data_rules τ false t b h
rules_by τ Wr t b h = data_rules τ true t b h
rules_by τ Wra t b h = data_rules τ true t b h
rules_by τ Ref t b h = refresh_rules τ t h
rules_by τ (Other n) t b h = []

abbrev pub rules : Table → Command → List Command → List Bool
rules τ r h = in_table τ r.kind r.bank ∷ later r.cycle h ∷ rules_by τ r.kind r.cycle r.bank h

abbrev pub broken : Table → Command → List Command → Found
broken τ r h = first_broken (rules τ r h) rules_in_order

abbrev pub judge_from : Table → List Command → ℕ → List Command → Verdict
judge_from τ [] n h = pick (all_shut τ.banks h) Legally (Not End n)
judge_from τ (r ∷ rs) n h = elim (broken τ r h) [ None ↦ judge_from τ rs (suc n) (r ∷ h) | Some x ↦ Not x n ]

abbrev pub copies_from : Table → ℕ → List Command → ℕ → ℕ → List Command → PatternVerdict
copies_from τ L p zero k h = Accepted
copies_from τ L p (suc n) k h =
    elim (judge_from τ (copy L p k) 0 h) [ Legally ↦ copies_from τ L p n (suc k) (onto (copy L p k) h) | Not x i ↦ Refused x (suc k) i ]

abbrev pub goes_at : Table → List Transaction → ℕ → List Command → Option Command
goes_at τ l t h = goes_by (λ c. is_fine (broken τ c h)) τ l t (acts_in h) (datas_in h)

abbrev pub gone : ℕ → Table → List Transaction → List Command
gone zero τ l = []
gone (suc n) τ l = let h = gone n τ l in push (goes_at τ l n h) h

-- what a state told: the cycles of the last RD and the last WR of all
pub record OldState : Type 0 where
  pub edition : ℕ
  pub cycle : ℕ
  pub acts : ℕ
  pub datas : ℕ
  pub banks : List Bank
  pub a1 : Stamp
  pub a2 : Stamp
  pub a3 : Stamp
  pub a4 : Stamp
  pub rd : Stamp
  pub wr : Stamp
  pub refresh : Stamp

abbrev pub bank_of : OldState → ℕ → Bank
bank_of s b = get_or s.banks b shut

-- off the state: rule 6 reads the first of the four ACTs, rule 9 the last RD and WR of all
abbrev pub rule6 : Table → OldState → ℕ → Bool
rule6 τ s t = past s.a1 τ.rrd t

abbrev pub rule9 : Table → OldState → Bool → ℕ → Bool
rule9 τ s w t = far_by (square τ) s.rd s.wr w t

abbrev pub tests_by : Table → OldState → Kind → ℕ → ℕ → List Bool
tests_by τ s Act t b = act_tests_of τ (bank_of s b) (rule6 τ s t) (past s.a4 τ.faw t) (past s.refresh τ.rfc t) t
tests_by τ s Rd t b = data_tests_of τ (bank_of s b) (rule9 τ s false t) t
tests_by τ s Rda t b = data_tests_of τ (bank_of s b) (rule9 τ s false t) t
tests_by τ s Wr t b = data_tests_of τ (bank_of s b) (rule9 τ s true t) t
tests_by τ s Wra t b = data_tests_of τ (bank_of s b) (rule9 τ s true t) t
tests_by τ s Ref t b = refresh_tests_of (every_below τ.banks (λ b. at_rest τ (bank_of s b) t)) (past s.refresh τ.rfc t)
tests_by τ s (Other n) t b = []

abbrev pub goes : Table → List Transaction → OldState → Option Command
goes τ l s = goes_by (λ c. all_of (tests_by τ s c.kind c.cycle c.bank)) τ l s.cycle s.acts s.datas

abbrev pub note : OldState → ℕ → Kind → ℕ → OldState
note s c k b =
    record {
      edition = s.edition;
      cycle = c + 1;
      acts = add_if (in_act_queue k) s.acts;
      datas = add_if (is_data k) s.datas;
      banks = set s.banks b (bank_after k c (bank_of s b));
      a1 = pick (is_act k) (Some c) s.a1;
      a2 = pick (is_act k) s.a1 s.a2;
      a3 = pick (is_act k) s.a2 s.a3;
      a4 = pick (is_act k) s.a3 s.a4;
      rd = pick (is_rd k) (Some c) s.rd;
      wr = pick (is_wr k) (Some c) s.wr;
      refresh = pick (is_ref k) (Some c) s.refresh;
    }

abbrev pub idle : OldState → OldState
idle s =
    record {
      edition = s.edition;
      cycle = s.cycle + 1;
      acts = s.acts;
      datas = s.datas;
      banks = s.banks;
      a1 = s.a1;
      a2 = s.a2;
      a3 = s.a3;
      a4 = s.a4;
      rd = s.rd;
      wr = s.wr;
      refresh = s.refresh;
    }

abbrev pub after : OldState → Option Command → OldState
after s none = idle s
after s (some c) = note s c.cycle c.kind c.bank

abbrev pub stops : Table → List Transaction → OldState → Bool
stops τ l s = (leb (length (data_queue τ l)) s.datas && leb (length (act_queue τ l)) s.acts) || leb 100000000 s.cycle

pub record OldRan : Type 0 where
  pub state : OldState
  pub history : List Command
  pub cycles : ℕ

abbrev pub one_more : OldRan → OldRan
one_more r = record { state = r.state; history = r.history; cycles = r.cycles + 1 }

abbrev pub run : ℕ → Table → List Transaction → OldState → List Command → OldRan
run zero τ l s h = record { state = s; history = h; cycles = 0 }
run (suc n) τ l s h =
    elim (stops τ l s) [ true ↦ record { state = s; history = h; cycles = 0 } | false ↦ one_more (run n τ l (after s (goes τ l s)) (push (goes τ l s) h)) ]

-- the bound
abbrev pub bound_s : Table → ℕ
bound_s τ =
    greatest (1 ∷ (τ.ras - τ.rcd + τ.rp) ∷ (τ.rc - τ.rcd) ∷ (τ.rtp + τ.rp) ∷ (write_tail τ + τ.rp) ∷ (τ.rrd - τ.rcd)
    ∷ (τ.faw - τ.rcd) ∷ [])

abbrev pub bound_d : Table → ℕ
bound_d τ = max τ.rrd ((τ.faw + 3) / 4)

abbrev pub bound_x : Table → ℕ
bound_x τ = greatest (τ.ccd ∷ from_rd τ true ∷ from_wr τ false ∷ [])

unfoldable pub bound : Table → ℕ → ℕ → ℕ
bound τ bi bc =
    max (bound_x τ + (bi * bc - 1) * τ.ccd)
    (bound_s τ + τ.rcd + max ((bi * bc - 1) * τ.ccd) ((bi - 1) * (bound_d τ + 1) + (bc - 1) * τ.ccd))

abbrev pub span : Table → Transaction → ℕ
span τ x = pick (is_refresh x) (bound_s τ) (bound τ x.bi x.bc)

-- ---- one group

-- "one group and long equal to short"
pub record OneGroup (τ : Table) : Type 0 where
  pub groups : τ.groups ≡ 1
  pub ccd : τ.ccdl ≡ τ.ccd
  pub rrd : τ.rrdl ≡ τ.rrd
  pub wtr : τ.wtrl ≡ τ.wtr

-- what a state tells, as it was told: the group's RD and WR are the last of all
abbrev pub was : State → OldState
was s =
    record {
      edition = s.edition;
      cycle = s.cycle;
      acts = s.acts;
      datas = s.datas;
      banks = s.banks;
      a1 = s.a1;
      a2 = s.a2;
      a3 = s.a3;
      a4 = s.a4;
      rd = (group_at s 0).rd;
      wr = (group_at s 0).wr;
      refresh = s.refresh;
    }

-- "where the group's latest ACT is the first of the four", in a state that has a place for it
pub record ActFirst (s : State) : Type 0 where
  pub place : 1 ≤ length s.groups
  pub first : (group_at s 0).act ≡ s.a1

-- "every answer equals the old": what a record breaks, the verdicts, the schedule, what a transaction may take, what goes from a running state and where
-- a run leads
pub record AsBefore (τ : Table) : Type 0 where
  pub breaks : (r : Command) (h : List Command) → Now.broken τ r h ≡ broken τ r h
  pub judges : (rs : List Command) → Verdicts.judge τ rs ≡ judge_from τ rs 0 []
  pub patterns : (L : ℕ) (p : List Command) (n : ℕ) → Patterns.copies τ L p n ≡ copies_from τ L p n 0 []
  pub schedules : (l : List Transaction) (n : ℕ) → Cycles.gone n τ l ≡ gone n τ l
  pub bounds : (bi bc : ℕ) → Bounds.bound τ bi bc ≡ bound τ bi bc
  pub spans : (x : Transaction) → Bounds.span τ x ≡ span τ x
  pub leaves : (l : List Transaction) (s : State) → ActFirst s → Cycles.goes τ l s ≡ goes τ l (was s)
  pub runs : (n : ℕ) (l : List Transaction) (s : State) → ActFirst s
      → (record { state = was (Runs.run n τ l s []).state; history = (Runs.run n τ l s []).history; cycles = (Runs.run n τ l s []).cycles } ≡ run n τ l (was s) [])
      × ActFirst (Runs.run n τ l s []).state
  -- a fresh state is such a state
  pub starts : ActFirst (fresh τ)

-- "A 32-byte table counts as one group, each long number equal to its short one."
pub record OneGroupBefore : Type 0 where
  pub answers : (τ : Table) → OneGroup τ → AsBefore τ
  pub plain : (s : List ℕ) → length s ≡ 32 → OneGroup (table_at s)
