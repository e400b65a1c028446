-- A state has sixteen places for banks and eight for groups; those past the table's banks and groups are neither read nor changed.
-- Assumes nothing.
use Prim.Native.Nat.{ℕ, zero, suc, ◌+◌, ◌%◌, ◌≤◌, ◌<◌}
use native.Mathlib.Nat.{mod-lt}
use mathlib.Core.Path.{◌≡◌, refl, sym, ap, ◌∙◌, subst}
use mathlib.Core.Bool.{Bool, true, false}
use mathlib.Core.Option.{Option, none, some}
use mathlib.Core.List.{List}
use lib.Dec.{eqb}
use lib.ListN.{length, get_or, drop}
use lib.Seq.{drop-set-lt, take-set-lt, get_or-take}
use Rattle.records.specs.declared.table.Table.{Table}
use Rattle.records.specs.declared.transaction.Transaction.{Transaction}
use Rattle.records.specs.declared.command.Kind.TheVariants.{Act, Ref}
use Rattle.records.specs.declared.command.Command.{Command}
use Rattle.rules.specs.declared.state.Bank.{Bank}
use Rattle.rules.specs.declared.state.Group.{Group}
use Rattle.rules.specs.declared.state.State.{State}
use Rattle.records.specs.Tests.{pick, all_of, every_below}
use Rattle.records.specs.Transaction.{is_write, is_refresh}
use Rattle.records.specs.Command.{command}
use Rattle.rules.specs.Square.{group_of, rrd_of, square}
use Rattle.rules.specs.State.{past, shut, bank_of, quiet, group_at, far_by, rule6, rule9, group_after, at_rest, tests_by, breaks_none, bank_after, after}
use Rattle.rules.specs.CycleRule.{goes, push}
use Rattle.rules.specs.Run.{stops, steps, Ran, one_more, run}
use Rattle.rules.specs.Promise.{SameTold}
use Rattle.rules.specs.Queues.{bank_at, act_count}
use Rattle.rules.proofs.laws.TestLaws.{OnSome}
use Rattle.rules.proofs.laws.Below.{below_same}
use Rattle.rules.proofs.queues.Queue.{Place, data_count, act_place, data_place, data_due}
use Rattle.rules.proofs.queues.Fit.{AllFit, Inside, place_at, act_bank_lem, data_bank}
use Rattle.rules.proofs.laws.DataKinds.{rules_kind}
use Rattle.rules.proofs.queues.Heads.{seen_place, on_seen_lem, data_from, act_from, goes_place, goes_try}
use Rattle.rules.proofs.queues.Counts.{after_size, after_groups}
use Rattle.rules.proofs.runs.RunTo.{stopped, going, run_steps}

module _ (τ : Table) (some-group : 1 ≤ τ.groups) (l : List Transaction) (v : AllFit τ l) where
  -- what goes is to a bank of the table
  pub goes_bank : (s : State) → OnSome (λ c. c.bank < τ.banks) (goes τ l s)
  goes_bank s =
      goes_place (breaks_none τ s) τ l s.cycle s.acts s.datas (λ c. c.bank < τ.banks)
      (λ p e. data_bank τ p (subst (OnSome (Inside τ data_count)) e (place_at τ data_count l v 0 0 s.datas)))
      (λ p e. act_bank_lem τ p (subst (OnSome (Inside τ act_count)) e (place_at τ act_count l v 0 0 s.acts)))

  after_edition : (s : State) (o : Option Command) → (after τ s o).edition ≡ s.edition
  after_edition s none = refl
  after_edition s (some c) = refl

  after_lent : (s : State) (o : Option Command) → (after τ s o).lent ≡ s.lent
  after_lent s none = refl
  after_lent s (some c) = refl

  after_past : (s : State) (o : Option Command) → OnSome (λ c. c.bank < τ.banks) o → drop τ.banks (after τ s o).banks ≡ drop τ.banks s.banks
  after_past s none k = refl
  after_past s (some c) k = drop-set-lt τ.banks s.banks c.bank _ k

  after_past_groups : (s : State) (o : Option Command) → drop τ.groups (after τ s o).groups ≡ drop τ.groups s.groups
  after_past_groups s none = refl
  after_past_groups s (some c) = drop-set-lt τ.groups s.groups (group_of τ c.bank) _ (mod-lt c.bank some-group)

  -- what a run leaves as it stood
  pub record Untouched (s u : State) : Type 0 where
    pub past_banks : drop τ.banks u.banks ≡ drop τ.banks s.banks
    pub bank_count : length u.banks ≡ length s.banks
    pub past_groups : drop τ.groups u.groups ≡ drop τ.groups s.groups
    pub group_count : length u.groups ≡ length s.groups
    pub edition : u.edition ≡ s.edition
    pub lent : u.lent ≡ s.lent

  steps_past : (n : ℕ) (s : State) (h : List Command) → Untouched s (steps n τ l s h).0
  steps_past zero s h = record { past_banks = refl; bank_count = refl; past_groups = refl; group_count = refl; edition = refl; lent = refl }
  steps_past (suc n) s h =
      let ih = steps_past n (after τ s (goes τ l s)) (push (goes τ l s) h) in
      record {
        past_banks = ih.past_banks ∙ after_past s (goes τ l s) (goes_bank s);
        bank_count = ih.bank_count ∙ after_size τ s (goes τ l s);
        past_groups = ih.past_groups ∙ after_past_groups s (goes τ l s);
        group_count = ih.group_count ∙ after_groups τ s (goes τ l s);
        edition = ih.edition ∙ after_edition s (goes τ l s);
        lent = ih.lent ∙ after_lent s (goes τ l s);
      }

  pub past_kept_lem : (n : ℕ) (s : State) (h : List Command) → Untouched s (run n τ l s h).state
  past_kept_lem n s h = subst (λ (y : State × List Command). Untouched s y.0) (run_steps n τ l s h) (steps_past (run n τ l s h).cycles s h)

  module _ (s u : State) (q : SameTold τ s u) where
    bank_same : (b : ℕ) → b < τ.banks → bank_of s b ≡ bank_of u b
    bank_same b h = sym (get_or-take τ.banks s.banks b shut h) ∙ (ap (λ (y : List Bank). get_or y b shut) q.banks ∙ get_or-take τ.banks u.banks b shut h)

    group_same : (g : ℕ) → g < τ.groups → group_at s g ≡ group_at u g
    group_same g h = sym (get_or-take τ.groups s.groups g quiet h) ∙ (ap (λ (y : List Group). get_or y g quiet) q.groups ∙ get_or-take τ.groups u.groups g quiet h)

    six : (t b : ℕ) → rule6 τ s t b ≡ rule6 τ u t b
    six t b =
        below_same τ.groups (λ g. past (group_at s g).act (rrd_of τ (eqb g (group_of τ b))) t) (λ g. past (group_at u g).act (rrd_of τ (eqb g (group_of τ b))) t)
        (λ g l. rw (group_same g l))

    nine : (w : Bool) (t b : ℕ) → rule9 τ s w t b ≡ rule9 τ u w t b
    nine w t b =
        below_same τ.groups (λ g. far_by (square τ (eqb g (group_of τ b))) (group_at s g).rd (group_at s g).wr w t)
        (λ g. far_by (square τ (eqb g (group_of τ b))) (group_at u g).rd (group_at u g).wr w t)
        (λ g l. rw (group_same g l))

    act_same : (o : Option Place) → OnSome (Inside τ act_count) o → act_from (breaks_none τ s) τ s.cycle o ≡ act_from (breaks_none τ u) τ u.cycle o
    act_same none h = refl
    act_same (some p) h = on (is_refresh p.transaction) (act_bank_lem τ p h)
      where
        b : ℕ
        b = bank_at τ p.transaction p.offset

        rests : every_below τ.banks (λ b. at_rest τ (bank_of s b) u.cycle) ≡ every_below τ.banks (λ b. at_rest τ (bank_of u b) u.cycle)
        rests = below_same τ.banks (λ b. at_rest τ (bank_of s b) u.cycle) (λ b. at_rest τ (bank_of u b) u.cycle) (λ b l. rw (bank_same b l))

        from : (z : Bool) → State → Option Command
        from z w =
            pick (all_of (tests_by τ w (pick z Ref Act) w.cycle (pick z 0 b))) (some (command w.cycle (pick z Ref Act) (pick z 0 b) p.number)) none

        on : (z : Bool) → pick z 0 b < τ.banks → from z s ≡ from z u
        on true l = rw (q.refresh, q.cycle, rests)
        on false l = rw (bank_same b l, six s.cycle b, q.a4, q.refresh, q.cycle)

    data_same : (o : Option Place) → OnSome (Inside τ data_count) o
        → data_from (breaks_none τ s) τ s.cycle s.acts o ≡ data_from (breaks_none τ u) τ u.cycle u.acts o
    data_same none h = refl
    data_same (some p) h =
        rw (
          rules_kind τ s (is_write p.transaction) (eqb (p.offset % p.transaction.bc + 1) p.transaction.bc) s.cycle (data_due τ p).bank,
          rules_kind τ u (is_write p.transaction) (eqb (p.offset % p.transaction.bc + 1) p.transaction.bc) u.cycle (data_due τ p).bank,
          bank_same (data_due τ p).bank (data_bank τ p h),
          nine (is_write p.transaction) s.cycle (data_due τ p).bank,
          q.cycle,
          q.acts,
        )

    goes_alike : goes τ l s ≡ goes τ l u
    goes_alike =
        rw (
          goes_try τ l s,
          goes_try τ l u,
          data_same (seen_place s.cycle (data_place l s.datas)) (on_seen_lem (Inside τ data_count) s.cycle (data_place l s.datas) (place_at τ data_count l v 0 0 s.datas)),
          act_same (seen_place s.cycle (act_place l s.acts)) (on_seen_lem (Inside τ act_count) s.cycle (act_place l s.acts) (place_at τ act_count l v 0 0 s.acts)),
          q.cycle,
          q.datas,
          q.acts,
        )

    stops_alike : stops τ l s ≡ stops τ l u
    stops_alike = rw (q.datas, q.acts, q.cycle)

    after_alike : (o : Option Command) → OnSome (λ c. c.bank < τ.banks) o → SameTold τ (after τ s o) (after τ u o)
    after_alike none k =
        record {
          cycle = ap (λ (y : ℕ). y + 1) q.cycle;
          acts = q.acts;
          datas = q.datas;
          banks = q.banks;
          a1 = q.a1;
          a2 = q.a2;
          a3 = q.a3;
          a4 = q.a4;
          groups = q.groups;
          refresh = q.refresh;
        }
    after_alike (some c) k =
        record {
          cycle = refl;
          acts = rw q.acts;
          datas = rw q.datas;
          banks = rw (
            take-set-lt τ.banks s.banks c.bank (bank_after c.kind c.cycle (bank_of s c.bank)) k,
            take-set-lt τ.banks u.banks c.bank (bank_after c.kind c.cycle (bank_of u c.bank)) k,
            bank_same c.bank k,
            q.banks,
          );
          a1 = rw q.a1;
          a2 = rw (q.a1, q.a2);
          a3 = rw (q.a2, q.a3);
          a4 = rw (q.a3, q.a4);
          groups = rw (
            take-set-lt τ.groups s.groups (group_of τ c.bank) (group_after c.kind c.cycle (group_at s (group_of τ c.bank))) (mod-lt c.bank some-group),
            take-set-lt τ.groups u.groups (group_of τ c.bank) (group_after c.kind c.cycle (group_at u (group_of τ c.bank))) (mod-lt c.bank some-group),
            group_same (group_of τ c.bank) (mod-lt c.bank some-group),
            q.groups,
          );
          refresh = rw q.refresh;
        }

  -- states that differ only there give the same commands and cycles, and again such states
  pub past_unread_lem : (n : ℕ) (s u : State) (h : List Command) → SameTold τ s u
      → ((run n τ l s h).history ≡ (run n τ l u h).history) × ((run n τ l s h).cycles ≡ (run n τ l u h).cycles) × SameTold τ (run n τ l s h).state (run n τ l u h).state
  past_unread_lem zero s u h q = (refl, refl, q)
  past_unread_lem (suc n) s u h q =
      on (stops τ l s) refl (past_unread_lem n (after τ s (goes τ l s)) (after τ u (goes τ l s)) (push (goes τ l s) h) (after_alike s u q (goes τ l s) (goes_bank s)))
    where
      Same : Ran → Ran → Type 0
      Same x y = (x.history ≡ y.history) × (x.cycles ≡ y.cycles) × SameTold τ x.state y.state

      on : (b : Bool) → stops τ l s ≡ b → Same (run n τ l (after τ s (goes τ l s)) (push (goes τ l s) h)) (run n τ l (after τ u (goes τ l s)) (push (goes τ l s) h))
          → Same (run (suc n) τ l s h) (run (suc n) τ l u h)
      on true e ih = rw (stopped (suc n) τ l s h e, stopped (suc n) τ l u h (sym (stops_alike s u q) ∙ e)) (refl, refl, q)
      on false e ih =
          rw (going n τ l s h e, going n τ l u h (sym (stops_alike s u q) ∙ e))
          (subst (λ (o : Option Command). Same (one_more (run n τ l (after τ s (goes τ l s)) (push (goes τ l s) h))) (one_more (run n τ l (after τ u o) (push o h)))) (goes_alike s u q)
          (ih.0, ap (λ (y : ℕ). y + 1) ih.1, ih.2))
