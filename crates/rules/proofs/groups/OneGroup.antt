-- With one group and each long number equal to its short one, every answer is that of before there were groups.
-- Assumes nothing.
use Rattle.std.specs.Prelude.{Some, None}
use Rattle.rules.specs.Types.{Stamp}
use Rattle.rules.specs.Types.{Found}
use Prim.Native.Nat.{ℕ, zero, suc, ◌%◌, ◌≤◌}
use native.Mathlib.Nat.{mod-one}
use native.Mathlib.Omega.{arith}
use mathlib.Core.Path.{◌≡◌, refl, sym, ap, ◌∙◌, subst}
use mathlib.Core.Bool.{Bool, true, false, ◌&&◌, and-true}
use mathlib.Core.Option.{Option, none, some}
use mathlib.Core.List.{List, [], ◌∷◌}
use lib.Dec.{eqb}
use lib.ListN.{length, length-set}
use lib.Seq.{get_or-set_same}
use Rattle.records.specs.Tests.{pick, all_of, every_below}
use Rattle.records.specs.declared.table.Table.{Table}
use Rattle.records.specs.declared.transaction.Transaction.{Transaction}
use Rattle.records.specs.declared.command.Kind.{Kind}
use Rattle.records.specs.declared.command.Kind.TheVariants.{Act, Rd, Rda, Wr, Wra, Ref, Other}
use Rattle.records.specs.declared.command.Command.{Command}
use Rattle.rules.specs.declared.state.Group.{Group}
use Rattle.rules.specs.declared.state.State.{State}
use Rattle.rules.specs.declared.verdict.Verdict.{Verdict}
use Rattle.rules.specs.declared.verdict.Verdict.TheVariants.{Accepted as Legally, Refused as Not}
use Rattle.rules.specs.declared.verdict.PatternVerdict.{PatternVerdict}
use Rattle.rules.specs.declared.verdict.PatternVerdict.TheVariants.{Refused}
use Rattle.rules.specs.Kinds.{is_act, is_rd, is_wr, first_broken, rules_in_order}
use Rattle.rules.specs.Square.{group_of, rrd_of, square, from_rd, from_wr}
use Rattle.rules.specs.State.{past, quiet, group_at, far_by, rule6, rule9, tests_by, breaks_none, group_after, after}
use Rattle.rules.specs.History.{far, near_to, far_act, far_data, rules_by, rules, broken, is_fine}
use Rattle.rules.specs.Verdict.{judge_from}
use Rattle.rules.specs.Pattern.{copy, onto, copies_from}
use Rattle.rules.specs.CycleRule.{goes_at, gone, goes, push, acts_in, datas_in}
use Rattle.rules.specs.Run.{stops, Ran, one_more, run}
use Rattle.rules.specs.Bound.{bound_s, bound_d, bound_x, bound, span}
use Rattle.rules.specs.Before as Before
use Rattle.rules.specs.Before.{OldState, OldRan, OneGroup, was, ActFirst, AsBefore, OneGroupBefore}
use Rattle.records.proofs.Inverse.{plain_at}
use Rattle.rules.proofs.history.Newest.{every_same}
use Rattle.rules.proofs.history.Legal.{goes_agree}

module _ (τ : Table) (q : OneGroup τ) where
  -- every bank is in group 0
  group_0 : (b : ℕ) → group_of τ b ≡ 0
  group_0 b = ap (λ (n : ℕ). b % n) q.groups ∙ mod-one b

  near : (b : ℕ) (r : Command) → near_to τ b r ≡ true
  near b r = rw (group_0 r.bank, group_0 b)

  rd_before : (w : Bool) → from_rd τ true w ≡ Before.from_rd τ w
  rd_before true = rw q.ccd
  rd_before false = q.ccd

  wr_before : (w : Bool) → from_wr τ true w ≡ Before.from_wr τ w
  wr_before true = q.ccd
  wr_before false = rw (q.ccd, q.wtr)

  far_act_lem : (b t : ℕ) (r : Command) → far_act τ b t r ≡ Before.far_act τ t r
  far_act_lem b t r = ap (λ (e : Bool). far is_act (rrd_of τ e) t r) (near b r) ∙ ap (λ (d : ℕ). far is_act d t r) q.rrd

  far_data_lem : (w : Bool) (b t : ℕ) (r : Command) → far_data τ w b t r ≡ Before.far_data τ w t r
  far_data_lem w b t r =
      ap (λ (e : Bool). far is_rd (from_rd τ e w) t r && far is_wr (from_wr τ e w) t r) (near b r)
      ∙ (ap (λ (d : ℕ). far is_rd d t r && far is_wr (from_wr τ true w) t r) (rd_before w) ∙ ap (λ (d : ℕ). far is_rd (Before.from_rd τ w) t r && far is_wr d t r) (wr_before w))

  rules_before : (k : Kind) (t b : ℕ) (h : List Command) → rules_by τ k t b h ≡ Before.rules_by τ k t b h
  rules_before Act t b h = rw (every_same (far_act τ b t) (Before.far_act τ t) h (far_act_lem b t))
  rules_before Rd t b h = rw (every_same (far_data τ false b t) (Before.far_data τ false t) h (far_data_lem false b t))
  rules_before Rda t b h = rw (every_same (far_data τ false b t) (Before.far_data τ false t) h (far_data_lem false b t))
  rules_before Wr t b h = rw (every_same (far_data τ true b t) (Before.far_data τ true t) h (far_data_lem true b t))
  rules_before Wra t b h = rw (every_same (far_data τ true b t) (Before.far_data τ true t) h (far_data_lem true b t))
  rules_before Ref t b h = refl
  rules_before (Other n) t b h = refl

  pub broken_before : (r : Command) (h : List Command) → broken τ r h ≡ Before.broken τ r h
  broken_before r h =
      let e : rules τ r h ≡ Before.rules τ r h = rw (rules_before r.kind r.cycle r.bank h) in
      ap (λ (ts : List Bool). first_broken ts rules_in_order) e

  pub judge_before : (rs : List Command) (n : ℕ) (h : List Command) → judge_from τ rs n h ≡ Before.judge_from τ rs n h
  judge_before [] n h = refl
  judge_before (r ∷ rs) n h =
      ap (λ (f : Found). elim f [ None ↦ judge_from τ rs (suc n) (r ∷ h) | Some x ↦ Not x n ]) (broken_before r h)
      ∙ on (Before.broken τ r h) (judge_before rs (suc n) (r ∷ h))
    where
      on : (f : Found) → judge_from τ rs (suc n) (r ∷ h) ≡ Before.judge_from τ rs (suc n) (r ∷ h)
          → ◌≡◌ {A = Verdict} (elim f [ None ↦ judge_from τ rs (suc n) (r ∷ h) | Some x ↦ Not x n ])
          (elim f [ None ↦ Before.judge_from τ rs (suc n) (r ∷ h) | Some x ↦ Not x n ])
      on None ih = ih
      on (Some x) ih = refl

  pub copies_before : (L : ℕ) (p : List Command) (n k : ℕ) (h : List Command) → copies_from τ L p n k h ≡ Before.copies_from τ L p n k h
  copies_before L p zero k h = refl
  copies_before L p (suc n) k h =
      ap (λ (v : Verdict). elim v [ Legally ↦ copies_from τ L p n (suc k) (onto (copy L p k) h) | Not x i ↦ Refused x (suc k) i ]) (judge_before (copy L p k) 0 h)
      ∙ on (Before.judge_from τ (copy L p k) 0 h) (copies_before L p n (suc k) (onto (copy L p k) h))
    where
      on : (v : Verdict) → copies_from τ L p n (suc k) (onto (copy L p k) h) ≡ Before.copies_from τ L p n (suc k) (onto (copy L p k) h)
          → ◌≡◌ {A = PatternVerdict} (elim v [ Legally ↦ copies_from τ L p n (suc k) (onto (copy L p k) h) | Not x i ↦ Refused x (suc k) i ])
          (elim v [ Legally ↦ Before.copies_from τ L p n (suc k) (onto (copy L p k) h) | Not x i ↦ Refused x (suc k) i ])
      on Legally ih = ih
      on (Not x i) ih = refl

  -- the schedule of the cycle rule by history
  pub gone_before : (l : List Transaction) (n : ℕ) → gone n τ l ≡ Before.gone n τ l
  gone_before l zero = refl
  gone_before l (suc n) =
      ap (λ (h : List Command). push (goes_at τ l n h) h) (gone_before l n)
      ∙ ap (λ (o : Option Command). push o (Before.gone n τ l))
      (goes_agree (λ c. is_fine (broken τ c (Before.gone n τ l))) (λ c. is_fine (Before.broken τ c (Before.gone n τ l)))
      (λ c. ap is_fine (broken_before c (Before.gone n τ l))) τ l n (acts_in (Before.gone n τ l)) (datas_in (Before.gone n τ l)))

  -- the bound
  pub S-before : bound_s τ ≡ Before.bound_s τ
  unfolding bound_s
  S-before = rw q.rrd

  pub bound_before : (bi bc : ℕ) → bound τ bi bc ≡ Before.bound τ bi bc
  unfolding bound_s bound_d bound_x bound Before.bound
  bound_before bi bc = rw (q.ccd, q.rrd, q.wtr)

  pub span_before : (x : Transaction) → span τ x ≡ Before.span τ x
  span_before x = rw (S-before, bound_before x.bi x.bc)

  -- off a state
  six_before : (s : State) (t b : ℕ) → (group_at s 0).act ≡ s.a1 → rule6 τ s t b ≡ Before.rule6 τ (was s) t
  six_before s t b e =
      ap (λ (n : ℕ). every_below n (λ g. past (group_at s g).act (rrd_of τ (eqb g (group_of τ b))) t)) q.groups
      ∙ (and-true (past (group_at s 0).act (rrd_of τ (eqb 0 (group_of τ b))) t)
      ∙ (ap (λ (n : ℕ). past (group_at s 0).act (rrd_of τ (eqb 0 n)) t) (group_0 b)
      ∙ (ap (λ (d : ℕ). past (group_at s 0).act d t) q.rrd ∙ ap (λ (y : Stamp). past y τ.rrd t) e)))

  nine_before : (s : State) (w : Bool) (t b : ℕ) → rule9 τ s w t b ≡ Before.rule9 τ (was s) w t
  nine_before s w t b =
      ap (λ (n : ℕ). every_below n (λ g. far_by (square τ (eqb g (group_of τ b))) (group_at s g).rd (group_at s g).wr w t)) q.groups
      ∙ (and-true (far_by (square τ (eqb 0 (group_of τ b))) (group_at s 0).rd (group_at s 0).wr w t)
      ∙ (ap (λ (n : ℕ). far_by (square τ (eqb 0 n)) (group_at s 0).rd (group_at s 0).wr w t) (group_0 b)
      ∙ (ap (λ (d : ℕ). past (group_at s 0).rd d t && past (group_at s 0).wr (from_wr τ true w) t) (rd_before w)
      ∙ ap (λ (d : ℕ). past (group_at s 0).rd (Before.from_rd τ w) t && past (group_at s 0).wr d t) (wr_before w))))

  tests_before : (s : State) → (group_at s 0).act ≡ s.a1 → (k : Kind) (t b : ℕ) → tests_by τ s k t b ≡ Before.tests_by τ (was s) k t b
  tests_before s e Act t b = rw (six_before s t b e)
  tests_before s e Rd t b = rw (nine_before s false t b)
  tests_before s e Rda t b = rw (nine_before s false t b)
  tests_before s e Wr t b = rw (nine_before s true t b)
  tests_before s e Wra t b = rw (nine_before s true t b)
  tests_before s e Ref t b = refl
  tests_before s e (Other n) t b = refl

  pub goes_before : (l : List Transaction) (s : State) → (group_at s 0).act ≡ s.a1 → goes τ l s ≡ Before.goes τ l (was s)
  goes_before l s e =
      goes_agree (breaks_none τ s) (λ c. all_of (Before.tests_by τ (was s) c.kind c.cycle c.bank))
      (λ c. ap all_of (tests_before s e c.kind c.cycle c.bank)) τ l s.cycle s.acts s.datas

  -- the state after it
  group_after_lem : (s : State) → 1 ≤ length s.groups → (c : Command) → group_at (after τ s (some c)) 0 ≡ group_after c.kind c.cycle (group_at s 0)
  group_after_lem s z c =
      let e = group_0 c.bank in
      rw e (get_or-set_same s.groups 0 (group_after c.kind c.cycle (group_at s 0)) quiet z)

  after_before : (s : State) → ActFirst s → (o : Option Command) → was (after τ s o) ≡ Before.after (was s) o
  after_before s a none = refl
  after_before s a (some c) = rw (group_after_lem s a.place c)

  first_kept : (s : State) → ActFirst s → (o : Option Command) → ActFirst (after τ s o)
  first_kept s a none = record { place = a.place; first = a.first }
  first_kept s a (some c) =
      record {
        place = rw (length-set s.groups) a.place;
        first = ap (λ (x : Group). x.act) (group_after_lem s a.place c) ∙ ap (pick (is_act c.kind) (Some c.cycle)) a.first;
      }

  -- a run, from such a state
  abbrev ran_before : Ran → OldRan
  ran_before r = record { state = was r.state; history = r.history; cycles = r.cycles }

  pub run_before : (n : ℕ) (l : List Transaction) (s : State) (h : List Command) → ActFirst s
      → (ran_before (run n τ l s h) ≡ Before.run n τ l (was s) h) × ActFirst (run n τ l s h).state
  run_before zero l s h a = (refl, a)
  run_before (suc n) l s h a = on (stops τ l s) (run_before n l (after τ s (goes τ l s)) (push (goes τ l s) h) (first_kept s a (goes τ l s)))
    where
      g : goes τ l s ≡ Before.goes τ l (was s)
      g = goes_before l s a.first

      next : OldRan
      next = Before.run n τ l (Before.after (was s) (Before.goes τ l (was s))) (push (Before.goes τ l (was s)) h)

      same : Before.run n τ l (was (after τ s (goes τ l s))) (push (goes τ l s) h) ≡ next
      same =
          ap (λ (u : OldState). Before.run n τ l u (push (goes τ l s) h)) (after_before s a (goes τ l s))
          ∙ ap (λ (o : Option Command). Before.run n τ l (Before.after (was s) o) (push o h)) g

      chosen : Bool → Ran
      chosen b = elim b [ true ↦ record { state = s; history = h; cycles = 0 } | false ↦ one_more (run n τ l (after τ s (goes τ l s)) (push (goes τ l s) h)) ]

      on : (b : Bool) → (ran_before (run n τ l (after τ s (goes τ l s)) (push (goes τ l s) h)) ≡ Before.run n τ l (was (after τ s (goes τ l s))) (push (goes τ l s) h))
          × ActFirst (run n τ l (after τ s (goes τ l s)) (push (goes τ l s) h)).state
          → (ran_before (chosen b) ≡ elim b [ true ↦ record { state = was s; history = h; cycles = 0 } | false ↦ Before.one_more next ]) × ActFirst (chosen b).state
      on true ih = (refl, a)
      on false ih = (ap Before.one_more (ih.0 ∙ same), ih.1)

  pub as_before : AsBefore τ
  as_before =
      record {
        breaks = broken_before;
        judges = λ rs. judge_before rs 0 [];
        patterns = λ L p n. copies_before L p n 0 [];
        schedules = gone_before;
        bounds = bound_before;
        spans = span_before;
        leaves = λ l s a. goes_before l s a.first;
        runs = λ n l s a. run_before n l s [] a;
        starts = record { place = omega arith; first = refl };
      }

pub one_group_before : OneGroupBefore
one_group_before =
    record {
      answers = as_before;
      plain = λ s e. subst OneGroup (sym (plain_at s e)) (record { groups = refl; ccd = refl; rrd = refl; wtr = refl });
    }
