-- The state sums up the history: read off it, each of rules 3 to 9, 11 and 12 says what it says against all records before.
-- Assumes nothing.
use Rattle.std.specs.Prelude.{Some}
use Rattle.rules.specs.Types.{Stamp}
use Prim.Native.Nat.{ℕ, suc, ◌+◌, ◌≤◌, ◌<◌}
use native.Mathlib.Nat.{mod-lt}
use native.Mathlib.Omega.{arith}
use mathlib.Core.Path.{◌≡◌, refl, sym, ap, ◌∙◌, subst}
use mathlib.Core.Bool.{Bool, true, false, ◌&&◌, and-true, and-false}
use mathlib.Core.List.{List, [], ◌∷◌}
use lib.Dec.{T, eqb, le→leb}
use lib.ListN.{length, get_or, set, length-set, length-replicate, get_or-replicate}
use lib.Seq.{get_or-set_same, get_or-set_other}
use borrow.Author.Tests.{eqb-true, eqb-false}
use Rattle.records.specs.Tests.{pick, every}
use Rattle.records.specs.declared.table.Table.{Table}
use Rattle.records.specs.declared.command.Kind.{Kind}
use Rattle.records.specs.declared.command.Kind.TheVariants.{Act, Rd, Rda, Wr, Wra, Ref, Other}
use Rattle.records.specs.declared.command.Command.{Command}
use Rattle.rules.specs.declared.state.Group.{Group}
use Rattle.rules.specs.declared.state.State.{State}
use Rattle.rules.specs.Kinds.{is_act, is_rd, is_wr, is_ref, is_data, in_act_queue}
use Rattle.rules.specs.Square.{group_of, rrd_of, square}
use Rattle.rules.specs.State.{past, bank_of, shut, group_at, quiet, far_by, group_after, at_rest, rule6, rule9, rule11, rule12, act_tests, refresh_tests, data_tests, tests_by, fresh, bank_after, add_if, note, idle, Held}
use Rattle.rules.specs.History.{later, act_back, far_act, far_data, far_refresh, all_at_rest, act_rules, refresh_rules, data_rules, rules_by}
use Rattle.rules.specs.CycleRule.{acts_in, datas_in}
use Rattle.rules.proofs.laws.Below.{below_same}
use Rattle.rules.proofs.history.Newest.{last_in, any, in_group, bank_in, Rising, AllBelow, all_below_up, groups_act, newest_refresh, groups_data}
use Rattle.rules.proofs.history.BankRules.{open_same, act_same, precharge_same, rest_same}

-- what the records say of a group
abbrev pub group_in : Table → ℕ → List Command → Group
group_in τ g h = record { act = last_in (in_group τ is_act g) h; rd = last_in (in_group τ is_rd g) h; wr = last_in (in_group τ is_wr g) h }

-- the state sums up the history
pub record Sums (τ : Table) (h : List Command) (s : State) : Type 0 where
  pub rising : Rising h
  pub low : AllBelow s.cycle h
  pub size : length s.banks ≡ 16
  pub bank : (b : ℕ) → b < 16 → bank_of s b ≡ bank_in b h
  pub acts : s.acts ≡ acts_in h
  pub datas : s.datas ≡ datas_in h
  pub a1 : s.a1 ≡ act_back 0 h
  pub a2 : s.a2 ≡ act_back 1 h
  pub a3 : s.a3 ≡ act_back 2 h
  pub a4 : s.a4 ≡ act_back 3 h
  pub group_size : length s.groups ≡ 8
  pub group : (g : ℕ) → g < 8 → group_at s g ≡ group_in τ g h
  pub refresh : s.refresh ≡ last_in (any is_ref) h

pub sums_fresh : (τ : Table) → Sums τ [] (fresh τ)
sums_fresh τ =
    record {
      rising = tt;
      low = tt;
      size = length-replicate 16 shut;
      bank = λ b l. get_or-replicate 16 b shut shut l;
      acts = refl;
      datas = refl;
      a1 = refl;
      a2 = refl;
      a3 = refl;
      a4 = refl;
      group_size = length-replicate 8 quiet;
      group = λ g l. get_or-replicate 8 g quiet quiet l;
      refresh = refl;
    }

pub sums_idle : (τ : Table) (h : List Command) (s : State) → Sums τ h s → Sums τ h (idle s)
sums_idle τ h s q =
    record {
      rising = q.rising;
      low = all_below_up s.cycle (s.cycle + 1) (omega arith) h q.low;
      size = q.size;
      bank = q.bank;
      acts = q.acts;
      datas = q.datas;
      a1 = q.a1;
      a2 = q.a2;
      a3 = q.a3;
      a4 = q.a4;
      group_size = q.group_size;
      group = q.group;
      refresh = q.refresh;
    }

pub later_of : (t : ℕ) (h : List Command) → AllBelow t h → T (later t h)
later_of t [] q = tt
later_of t (r ∷ h) q = le→leb (suc r.cycle) t q.0

module _ (τ : Table) (fit : Held τ) (h : List Command) (s : State) (q : Sums τ h s) (r : Command) (ge : s.cycle ≤ r.cycle) (lt : r.bank < 16) where
  bank_note : (b : ℕ) → b < 16
      → get_or (set s.banks r.bank (bank_after r.kind r.cycle (bank_of s r.bank))) b shut ≡ bank_in b (r ∷ h)
  bank_note b l = on (eqb r.bank b) refl
    where
      on : (e : Bool) → eqb r.bank b ≡ e
          → get_or (set s.banks r.bank (bank_after r.kind r.cycle (bank_of s r.bank))) b shut
          ≡ pick e (bank_after r.kind r.cycle (bank_in b h)) (bank_in b h)
      on true e =
          subst (λ (m : ℕ). get_or (set s.banks r.bank (bank_after r.kind r.cycle (bank_of s r.bank))) m shut ≡ bank_after r.kind r.cycle (bank_in m h))
          (eqb-true r.bank b e)
          (get_or-set_same s.banks r.bank _ shut (omega (arith, q.size)) ∙ ap (bank_after r.kind r.cycle) (q.bank r.bank lt))
      on false e =
          get_or-set_other s.banks r.bank b _ shut (λ p. eqb-false r.bank b e (sym p)) ∙ q.bank b l

  one : group_of τ r.bank < 8
  one = omega (arith, mod-lt r.bank fit.some, fit.groups)

  -- the group of the record's bank takes it in, and no other does
  group_in_lem : (g : ℕ) → group_in τ g (r ∷ h) ≡ pick (eqb (group_of τ r.bank) g) (group_after r.kind r.cycle (group_in τ g h)) (group_in τ g h)
  group_in_lem g = on (eqb (group_of τ r.bank) g) r.kind r.cycle (group_in τ g h)
    where
      on : (e : Bool) (k : Kind) (c : ℕ) (x : Group)
          → record { act = pick (is_act k && e) (Some c) x.act; rd = pick (is_rd k && e) (Some c) x.rd; wr = pick (is_wr k && e) (Some c) x.wr }
          ≡ pick e (group_after k c x) x
      on true k c x = rw (and-true (is_act k), and-true (is_rd k), and-true (is_wr k))
      on false k c x = rw (and-false (is_act k), and-false (is_rd k), and-false (is_wr k))

  group_note : (g : ℕ) → g < 8
      → get_or (set s.groups (group_of τ r.bank) (group_after r.kind r.cycle (group_at s (group_of τ r.bank)))) g quiet ≡ group_in τ g (r ∷ h)
  group_note g l = on (eqb (group_of τ r.bank) g) refl ∙ sym (group_in_lem g)
    where
      on : (e : Bool) → eqb (group_of τ r.bank) g ≡ e
          → get_or (set s.groups (group_of τ r.bank) (group_after r.kind r.cycle (group_at s (group_of τ r.bank)))) g quiet
          ≡ pick e (group_after r.kind r.cycle (group_in τ g h)) (group_in τ g h)
      on true e =
          subst (λ (m : ℕ). get_or (set s.groups (group_of τ r.bank) (group_after r.kind r.cycle (group_at s (group_of τ r.bank)))) m quiet ≡ group_after r.kind r.cycle (group_in τ m h))
          (eqb-true (group_of τ r.bank) g e)
          (get_or-set_same s.groups (group_of τ r.bank) _ quiet (omega (arith, q.group_size, one)) ∙ ap (group_after r.kind r.cycle) (q.group (group_of τ r.bank) one))
      on false e =
          get_or-set_other s.groups (group_of τ r.bank) g _ quiet (λ p. eqb-false (group_of τ r.bank) g e (sym p)) ∙ q.group g l

  pub sums_note : Sums τ (r ∷ h) (note τ s r.cycle r.kind r.bank)
  sums_note =
      record {
        rising = (later_of r.cycle h (all_below_up s.cycle r.cycle ge h q.low), q.rising);
        low = (omega arith, all_below_up s.cycle (r.cycle + 1) (omega arith) h q.low);
        size = length-set s.banks r.bank _ ∙ q.size;
        bank = bank_note;
        acts = ap (add_if (in_act_queue r.kind)) q.acts;
        datas = ap (add_if (is_data r.kind)) q.datas;
        a1 = ap (pick (is_act r.kind) (Some r.cycle)) q.a1;
        a2 = back (is_act r.kind) 0 s.a1 s.a2 q.a1 q.a2;
        a3 = back (is_act r.kind) 1 s.a2 s.a3 q.a2 q.a3;
        a4 = back (is_act r.kind) 2 s.a3 s.a4 q.a3 q.a4;
        group_size = length-set s.groups (group_of τ r.bank) _ ∙ q.group_size;
        group = group_note;
        refresh = ap (pick (is_ref r.kind) (Some r.cycle)) q.refresh;
      }
    where
      back : (e : Bool) (n : ℕ) (x y : Stamp) → x ≡ act_back n h → y ≡ act_back (suc n) h → pick e x y ≡ pick e (act_back n h) (act_back (suc n) h)
      back true n x y p p' = p
      back false n x y p p' = p'

-- the tests off the state are the rules against the history
module _ (τ : Table) (fit : Held τ) (h : List Command) (s : State) (q : Sums τ h s) where
  rrd_same : (t b : ℕ) → every (far_act τ b t) h ≡ rule6 τ s t b
  rrd_same t b =
      groups_act τ b t h q.rising fit.some
      ∙ below_same τ.groups _ (λ g. past (group_at s g).act (rrd_of τ (eqb g (group_of τ b))) t) (λ g l. rw (q.group g (omega (arith, fit.groups))))

  distance_same : (w : Bool) (t b : ℕ) → every (far_data τ w b t) h ≡ rule9 τ s w t b
  distance_same w t b =
      groups_data τ b t h q.rising fit.some w
      ∙ below_same τ.groups _ (λ g. far_by (square τ (eqb g (group_of τ b))) (group_at s g).rd (group_at s g).wr w t)
      (λ g l. rw (q.group g (omega (arith, fit.groups))))

  rfc_same : (t : ℕ) → every (far_refresh τ t) h ≡ rule12 τ s t
  rfc_same t = newest_refresh τ 0 t h q.rising ∙ rw q.refresh

  rest_told : (t : ℕ) → all_at_rest τ t h ≡ rule11 τ s t
  rest_told t =
      rest_same τ t h q.rising
      ∙ below_same τ.banks (λ b. at_rest τ (bank_in b h) t) (λ b. at_rest τ (bank_of s b) t) (λ b l. rw (q.bank b (omega (arith, fit.banks))))

  act_rules_lem : (t b : ℕ) → b < 16 → act_rules τ t b h ≡ act_tests τ s t b
  act_rules_lem t b l = rw (q.bank b l, q.a4, open_same b h, precharge_same τ t b h q.rising, act_same b h, rrd_same t b, rfc_same t)

  refresh_rules_lem : (t : ℕ) → refresh_rules τ t h ≡ refresh_tests τ s t
  refresh_rules_lem t = rw (rest_told t, rfc_same t)

  data_rules_lem : (w : Bool) (t b : ℕ) → b < 16 → data_rules τ w t b h ≡ data_tests τ s w t b
  data_rules_lem w t b l = rw (q.bank b l, open_same b h, act_same b h, distance_same w t b)

  pub rules_same : (k : Kind) (t b : ℕ) → b < 16 → rules_by τ k t b h ≡ tests_by τ s k t b
  rules_same Act t b l = act_rules_lem t b l
  rules_same Rd t b l = data_rules_lem false t b l
  rules_same Rda t b l = data_rules_lem false t b l
  rules_same Wr t b l = data_rules_lem true t b l
  rules_same Wra t b l = data_rules_lem true t b l
  rules_same Ref t b l = refresh_rules_lem t
  rules_same (Other n) t b l = refl
