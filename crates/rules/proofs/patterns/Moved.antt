-- Records moved by d, after a history that says d later what another says, get the verdict of the records after that other.
-- Assumes nothing.
use Rattle.std.specs.Prelude.{Some, None}
use Rattle.rules.specs.Types.{Stamp}
use Rattle.rules.specs.Types.{Found}
use Prim.Native.Nat.{ℕ, zero, suc, ◌+◌, ◌≤◌, ◌<◌}
use native.Mathlib.Numerals.{add-one}
use native.Mathlib.Omega.{arith}
use mathlib.Core.Path.{◌≡◌, refl, sym, ap, ◌∙◌}
use mathlib.Core.Bool.{Bool, true, false}
use mathlib.Core.List.{List, [], ◌∷◌}
use lib.Dec.{T, leb, eqb}
use borrow.Author.Tests.{le-leb, leb-true}
use Rattle.records.specs.Tests.{pick, every}
use Rattle.records.specs.declared.table.Table.{Table}
use Rattle.records.specs.declared.command.Kind.{Kind}
use Rattle.records.specs.declared.command.Kind.TheVariants.{Act, Rd, Rda, Wr, Wra, Ref, Other}
use Rattle.records.specs.declared.command.Command.{Command}
use Rattle.records.specs.Command.{command}
use Rattle.rules.specs.declared.state.Bank.{Bank}
use Rattle.rules.specs.declared.verdict.Verdict.{Verdict}
use Rattle.rules.specs.declared.verdict.Verdict.TheVariants.{Refused}
use Rattle.rules.specs.Kinds.{is_act, is_rd, is_wr, is_ref, first_broken, rules_in_order}
use Rattle.rules.specs.Square.{group_of, from_rd, from_wr, write_tail}
use Rattle.rules.specs.State.{past, at_rest, bank_after}
use Rattle.rules.specs.History.{later, far_act, far_data, far_refresh, all_at_rest, act_rules, data_rules, rules_by, rules, broken}
use Rattle.rules.specs.Verdict.{all_shut, judge_from}
use Rattle.rules.specs.Pattern.{moved}
use Rattle.rules.proofs.laws.TestLaws.{to_T, bool_eq}
use Rattle.rules.proofs.laws.Below.{below_same}
use Rattle.rules.proofs.history.Newest.{back_in, last_in, any, in_group, outside, bank_in, Rising, newest_act, newest_refresh, newest_data, fourth_same}
use Rattle.rules.proofs.history.BankRules.{open_same, act_same, precharge_same, rest_same}
use Rattle.rules.proofs.history.Judged.{holds}

-- a stamp, a bank, a record, d later
abbrev pub stamp_later : ℕ → Stamp → Stamp
stamp_later d None = None
stamp_later d (Some c) = Some (c + d)

abbrev pub bank_later : ℕ → Bank → Bank
bank_later d k = record { opened = k.opened; act = stamp_later d k.act; rd = stamp_later d k.rd; wr = stamp_later d k.wr }

abbrev pub record_later : ℕ → Command → Command
record_later d r = command (r.cycle + d) r.kind r.bank r.number

past_later : (s : Stamp) (d e t : ℕ) → past (stamp_later d s) e (t + d) ≡ past s e t
past_later None d e t = refl
past_later (Some c) d e t =
    bool_eq (leb (c + d + e) (t + d)) (leb (c + e) t) (λ p. let l : c + d + e ≤ t + d = leb-true _ _ p in le-leb (c + e) t (omega arith))
    (λ p. let l : c + e ≤ t = leb-true _ _ p in le-leb (c + d + e) (t + d) (omega arith))

-- every record is of this class
abbrev pub all : Kind → ℕ → Bool
all k b = true

-- rule 2 reads the newest record of all
later_past : (t : ℕ) (h : List Command) → later t h ≡ past (last_in all h) 1 t
later_past t [] = refl
later_past t (r ∷ h) = rw (add-one r.cycle)

-- the second history says d later what the first says, as far as the rules read it
pub record Alike (d : ℕ) (h h' : List Command) : Type 0 where
  pub bank : (b : ℕ) → bank_in b h' ≡ bank_later d (bank_in b h)
  pub back : (p : Kind → ℕ → Bool) (n : ℕ) → n < 4 → back_in p n h' ≡ stamp_later d (back_in p n h)
  pub rising : Rising h
  pub rising' : Rising h'

module _ (d : ℕ) (h h' : List Command) (q : Alike d h h') where
  past_back : (p : Kind → ℕ → Bool) (n : ℕ) → n < 4 → (e t : ℕ) → past (back_in p n h') e (t + d) ≡ past (back_in p n h) e t
  past_back p n l e t = rw (q.back p n l, past_later (back_in p n h) d e t)

  past_last : (p : Kind → ℕ → Bool) (e t : ℕ) → past (last_in p h') e (t + d) ≡ past (last_in p h) e t
  past_last p e t = past_back p 0 (omega arith) e t

  later_alike : (t : ℕ) → later (t + d) h' ≡ later t h
  later_alike t = later_past (t + d) h' ∙ (past_last all 1 t ∙ sym (later_past t h))

  module _ (τ : Table) where
    rrd_alike : (t b : ℕ) → every (far_act τ b (t + d)) h' ≡ every (far_act τ b t) h
    rrd_alike t b =
        newest_act τ b (t + d) h' q.rising'
        ∙ rw (past_last (in_group τ is_act (group_of τ b)) τ.rrdl t, past_last (outside τ is_act (group_of τ b)) τ.rrd t) (sym (newest_act τ b t h q.rising))

    distance_alike : (w : Bool) (t b : ℕ) → every (far_data τ w b (t + d)) h' ≡ every (far_data τ w b t) h
    distance_alike w t b =
        newest_data τ b (t + d) h' q.rising' w
        ∙ rw (
          past_last (in_group τ is_rd (group_of τ b)) (from_rd τ true w) t,
          past_last (outside τ is_rd (group_of τ b)) (from_rd τ false w) t,
          past_last (in_group τ is_wr (group_of τ b)) (from_wr τ true w) t,
          past_last (outside τ is_wr (group_of τ b)) (from_wr τ false w) t,
        ) (sym (newest_data τ b t h q.rising w))

    rfc_alike : (t : ℕ) → every (far_refresh τ (t + d)) h' ≡ every (far_refresh τ t) h
    rfc_alike t = newest_refresh τ 0 (t + d) h' q.rising' ∙ (past_last (any is_ref) τ.rfc t ∙ sym (newest_refresh τ 0 t h q.rising))

    rest_alike : (t : ℕ) → all_at_rest τ (t + d) h' ≡ all_at_rest τ t h
    rest_alike t =
        rest_same τ (t + d) h' q.rising'
        ∙ (below_same τ.banks (λ b. at_rest τ (bank_in b h') (t + d)) (λ b. at_rest τ (bank_in b h) t)
        (λ b l. rw (
          q.bank b,
          past_later (bank_in b h).act d (τ.ras + τ.rp) t,
          past_later (bank_in b h).rd d (τ.rtp + τ.rp) t,
          past_later (bank_in b h).wr d (write_tail τ + τ.rp) t,
        ))
        ∙ sym (rest_same τ t h q.rising))

    act_alike : (t b : ℕ) → act_rules τ (t + d) b h' ≡ act_rules τ t b h
    act_alike t b =
        rw (
          open_same b h',
          open_same b h,
          act_same b h',
          act_same b h,
          precharge_same τ (t + d) b h' q.rising',
          precharge_same τ t b h q.rising,
          rrd_alike t b,
          fourth_same h',
          fourth_same h,
          past_back (any is_act) 3 (omega arith) τ.faw t,
          q.bank b,
          past_later (bank_in b h).act d (τ.ras + τ.rp) t,
          past_later (bank_in b h).rd d (τ.rtp + τ.rp) t,
          past_later (bank_in b h).wr d (write_tail τ + τ.rp) t,
          past_later (bank_in b h).act d τ.rc t,
          rfc_alike t,
        )

    data_alike : (w : Bool) (t b : ℕ) → data_rules τ w (t + d) b h' ≡ data_rules τ w t b h
    data_alike w t b =
        rw (open_same b h', open_same b h, act_same b h', act_same b h, distance_alike w t b, q.bank b, past_later (bank_in b h).act d τ.rcd t)

    rules_alike : (k : Kind) (t b : ℕ) → rules_by τ k (t + d) b h' ≡ rules_by τ k t b h
    rules_alike Act t b = act_alike t b
    rules_alike Rd t b = data_alike false t b
    rules_alike Rda t b = data_alike false t b
    rules_alike Wr t b = data_alike true t b
    rules_alike Wra t b = data_alike true t b
    rules_alike Ref t b = rw (rest_alike t, rfc_alike t)
    rules_alike (Other n) t b = refl

    broken_alike : (r : Command) → broken τ (record_later d r) h' ≡ broken τ r h
    broken_alike r =
        let e : rules τ (record_later d r) h' ≡ rules τ r h = rw (later_alike r.cycle, rules_alike r.kind r.cycle r.bank) in
        ap (λ (ts : List Bool). first_broken ts rules_in_order) e

  shut_alike : (n : ℕ) → all_shut n h' ≡ all_shut n h
  shut_alike zero = refl
  shut_alike (suc n) = rw (open_same n h', open_same n h, q.bank n, shut_alike n)

  pub push_alike : (r : Command) → T (later r.cycle h) → Alike d (r ∷ h) (record_later d r ∷ h')
  push_alike r l =
      record {
        bank = λ b. on_bank (eqb r.bank b) r.kind b;
        back = on_back;
        rising = (l, q.rising);
        rising' = (rw (later_alike r.cycle) l, q.rising');
      }
    where
      on_bank : (e : Bool) (k : Kind) (b : ℕ) → pick e (bank_after k (r.cycle + d) (bank_in b h')) (bank_in b h') ≡ bank_later d (pick e (bank_after k r.cycle (bank_in b h)) (bank_in b h))
      on_bank false k b = q.bank b
      on_bank true Act b = refl
      on_bank true Rd b = rw (q.bank b)
      on_bank true Rda b = rw (q.bank b)
      on_bank true Wr b = rw (q.bank b)
      on_bank true Wra b = rw (q.bank b)
      on_bank true Ref b = q.bank b
      on_bank true (Other n) b = q.bank b

      on_pick : (e : Bool) (x x' y y' : Stamp) → x' ≡ stamp_later d x → y' ≡ stamp_later d y → pick e x' y' ≡ stamp_later d (pick e x y)
      on_pick true x x' y y' f g = f
      on_pick false x x' y y' f g = g

      on_back : (p : Kind → ℕ → Bool) (n : ℕ) → n < 4 → back_in p n (record_later d r ∷ h') ≡ stamp_later d (back_in p n (r ∷ h))
      on_back p zero z = on_pick (p r.kind r.bank) (Some r.cycle) (Some (r.cycle + d)) (back_in p 0 h) (back_in p 0 h') refl (q.back p 0 z)
      on_back p (suc n) z = on_pick (p r.kind r.bank) (back_in p n h) (back_in p n h') (back_in p (suc n) h) (back_in p (suc n) h') (q.back p n (omega arith)) (q.back p (suc n) z)

pub judge_alike : (τ : Table) (d : ℕ) (rs : List Command) (n : ℕ) (h h' : List Command) → Alike d h h' → judge_from τ (moved d rs) n h' ≡ judge_from τ rs n h
judge_alike τ d [] n h h' q = rw (shut_alike d h h' q τ.banks)
judge_alike τ d (r ∷ rs) n h h' q =
    rw (broken_alike d h h' q τ r, judge_from)
    (on (broken τ r h) refl (λ l. judge_alike τ d rs (suc n) (r ∷ h) (record_later d r ∷ h') (push_alike d h h' q r l)))
  where
    on : (b : Found) → broken τ r h ≡ b → (T (later r.cycle h) → judge_from τ (moved d rs) (suc n) (record_later d r ∷ h') ≡ judge_from τ rs (suc n) (r ∷ h))
        → ◌≡◌ {A = Verdict} (elim b [ None ↦ judge_from τ (moved d rs) (suc n) (record_later d r ∷ h') | Some x ↦ Refused x n ])
        (elim b [ None ↦ judge_from τ rs (suc n) (r ∷ h) | Some x ↦ Refused x n ])
    on None e ih = ih (to_T (later r.cycle h) (holds τ r h e 1))
    on (Some x) e ih = refl

-- a moved history is alike
pub alike_moved : (d : ℕ) (h : List Command) → Rising h → Alike d h (moved d h)
alike_moved d [] i = record { bank = λ b. refl; back = λ p n z. refl; rising = tt; rising' = tt }
alike_moved d (r ∷ h) i = push_alike d h (moved d h) (alike_moved d h i.1) r i.0
