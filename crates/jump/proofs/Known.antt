-- What a turn knows from the turn before: the cycles of a head that no command since has changed.
-- Assumes nothing.
use Prim.Native.Nat.{ℕ, ◌+◌, ◌≤◌, ◌<◌, max}
use native.Mathlib.Omega.{arith}
use native.Mathlib.Nat.{le-max_left, le-max_right}
use mathlib.Core.Path.{◌≡◌, sym, ap, ◌∙◌, subst}
use mathlib.Core.Logic.{⊎_elim}
use mathlib.Core.Bool.{Bool, true, false}
use mathlib.Core.List.{List, map}
use lib.Dec.{ltb, eqb}
use lib.ListN.{length, get_or, set}
use lib.Seq.{get_or-set_same, get_or-set_other}
use borrow.Author.Tests.{lt-ltb, le-ltb}
use Rattle.records.specs.Tests.{pick}
use Rattle.records.specs.declared.table.Table.{Table}
use Rattle.rules.specs.declared.state.Bank.{Bank}
use Rattle.rules.specs.Square.{group_of}
use Rattle.rules.specs.State.{is_open}
use Rattle.rules.proofs.laws.Numbers.{same?, from?}
use Rattle.heads.specs.declared.head.Head.{Head}
use Rattle.timing.specs.declared.kept.KeptBank.{KeptBank}
use Rattle.timing.specs.declared.kept.KeptGroup.{KeptGroup}
use Rattle.timing.specs.declared.kept.Kept.{Kept}
use Rattle.timing.specs.Kept.{stamp_of, told_bank, told_group, shut_kept, quiet_kept, kept_after}
use Rattle.timing.proofs.Telling.{ref_kept}
use Rattle.engine.proofs.InPlace.{stored, opened}
use Rattle.earliest.specs.Earliest.{limit, since, gate, acts_from, act_from}
use Rattle.soonest.specs.Earlier.{ready_from, opens_from}
use Rattle.soonest.specs.Next.{SameBank}
use Rattle.soonest.proofs.Numbers.{most_same, acts_at, acts_told}

-- the cycle of an ACT at the head of its queue, and that of the data queue's head by all but rule 9
abbrev pub act_now : Table → Kept → Head → ℕ
act_now τ s a =
    opens_from τ a (told_bank (get_or s.banks a.bank shut_kept)) (acts_from τ (map told_group s.groups) (group_of τ a.bank)) (stamp_of s.a4) (stamp_of s.refresh)

abbrev pub data_now : Table → Kept → Head → ℕ
data_now τ s d = ready_from τ d (told_bank (get_or s.banks d.bank shut_kept)) s.acts

-- ---- an ACT that is free at a cycle has kept rule 6

six_of : (τ : Table) (k : Bank) (six seven twelve : ℕ) → six ≤ act_from τ k six seven twelve
six_of τ k six seven twelve = deep _ _ _ _
  where
    deep : (x y z m : ℕ) → six ≤ max x (max y (max z (max six m)))
    deep x y z m = omega (arith, le-max_left six m, le-max_right z (max six m), le-max_right y (max z (max six m)), le-max_right x (max y (max z (max six m))))

pub kept_six : (τ : Table) (s : Kept) (a : Head) (t : ℕ) → a.there ≡ true → act_now τ s a ≤ t → acts_from τ (map told_group s.groups) (group_of τ a.bank) ≤ t
kept_six τ s a t e h =
    let free = act_from τ (told_bank (get_or s.banks a.bank shut_kept)) (acts_from τ (map told_group s.groups) (group_of τ a.bank)) (since (stamp_of s.a4) τ.faw) (since (stamp_of s.refresh) τ.rfc) in
    omega (arith, six_of τ (told_bank (get_or s.banks a.bank shut_kept)) (acts_from τ (map told_group s.groups) (group_of τ a.bank)) (since (stamp_of s.a4) τ.faw) (since (stamp_of s.refresh) τ.rfc), le-max_right a.arrival free, subst (λ (b : Bool). pick b (max a.arrival free) limit ≤ t) e h)

-- ---- after a data command

-- one that stores no ACT leaves rule 6 as it is
same_six : (τ : Table) (gs : List KeptGroup) (own g : ℕ) (kg : KeptGroup) → g < length gs → kg.act ≡ (get_or gs g quiet_kept).act
    → acts_from τ (map told_group (set gs g kg)) own ≡ acts_from τ (map told_group gs) own
same_six τ gs own g kg l e =
    sym (acts_told (set gs g kg) own τ) ∙ (most_same τ.groups (acts_at (set gs g kg) own τ) (acts_at gs own τ)
    (λ i. ap (λ (v : ℕ). since (stamp_of v) (pick (eqb i own) τ.rrdl τ.rrd)) (⊎_elim (at i) (λ q. ap (λ (x : KeptGroup). x.act) (get_or-set_other gs g i kg quiet_kept q)) (same? i g))) ∙ acts_told gs own τ)
  where
    at : (i : ℕ) → i ≡ g → (get_or (set gs g kg) i quiet_kept).act ≡ (get_or gs i quiet_kept).act
    at i q =
        ap (λ (j : ℕ). (get_or (set gs g kg) j quiet_kept).act) q
        ∙ (ap (λ (x : KeptGroup). x.act) (get_or-set_same gs g kg quiet_kept l) ∙ (e ∙ ap (λ (j : ℕ). (get_or gs j quiet_kept).act) (sym q)))

module _ (τ : Table) (s : Kept) where
  -- the ACT queue's head goes to another bank
  pub act_kept_lem : (next b : ℕ) (kb : KeptBank) (g : ℕ) (kg : KeptGroup) (a : Head) → (a.bank ≡ b → ⊥) → g < length s.groups → kg.act ≡ (get_or s.groups g quiet_kept).act
      → act_now τ (stored s next b kb g kg) a ≡ act_now τ s a
  act_kept_lem next b kb g kg a ne l e = rw (get_or-set_other s.banks b a.bank kb shut_kept ne, same_six τ s.groups (group_of τ a.bank) g kg l e)

  -- the command after it goes to the same bank, which stays open
  pub data_kept_lem : (w : Bool) (next b : ℕ) (kb : KeptBank) (g : ℕ) (kg : KeptGroup) (d r : Head) → d.bank ≡ b → b < length s.banks
      → kb ≡ kept_after (get_or s.banks b shut_kept) w false next → is_open (told_bank (get_or s.banks d.bank shut_kept)) ≡ true → d.there ≡ true → SameBank d r
      → data_now τ (stored s next b kb g kg) r ≡ data_now τ s d
  data_kept_lem w next b kb g kg d r eb l ek up there m =
      ap (λ (t : Bool). pick t (at r bank') limit) m.there ∙ (is ∙ sym (ap (λ (t : Bool). pick t (at d bank) limit) there))
    where
      bank : Bank
      bank = told_bank (get_or s.banks d.bank shut_kept)

      bank' : Bank
      bank' = told_bank (get_or (set s.banks b kb) r.bank shut_kept)

      at : Head → Bank → ℕ
      at h k = max h.arrival (max (gate (ltb h.act s.acts)) (max (gate (is_open k)) (since k.act τ.rcd)))

      read : get_or (set s.banks b kb) r.bank shut_kept ≡ kept_after (get_or s.banks d.bank shut_kept) w false next
      read =
          ap (λ (i : ℕ). get_or (set s.banks b kb) i shut_kept) (m.bank ∙ eb)
          ∙ (get_or-set_same s.banks b kb shut_kept l ∙ (ek ∙ ap (λ (i : ℕ). kept_after (get_or s.banks i shut_kept) w false next) (sym eb)))

      is : at r bank' ≡ at d bank
      is = rw (read, m.arrival, m.act, up)

  -- ---- after a command of the ACT queue

  had : (x acts : ℕ) → (x ≡ acts → ⊥) → ltb x (acts + 1) ≡ ltb x acts
  had x acts ne = ⊎_elim (λ l. lt-ltb x (acts + 1) (omega arith) ∙ sym (lt-ltb x acts l)) (λ l. le-ltb x (acts + 1) (past l) ∙ sym (le-ltb x acts (omega (arith, l.1)))) (from? x acts)
    where
      past : ((d : ℕ) × (x ≡ acts + d)) → acts + 1 ≤ x
      past l = ⊎_elim (λ z. absurd (ne (omega (arith, l.1)))) (λ z. omega (arith, l.1, z.1)) (from? l.0 1)

  pub opened_kept : (next b g : ℕ) (kg : KeptGroup) (d : Head) → (d.bank ≡ b → ⊥) → (d.act ≡ s.acts → ⊥) → data_now τ (opened s next b g kg) d ≡ data_now τ s d
  opened_kept next b g kg d nb na = rw (get_or-set_other s.banks b d.bank _ shut_kept nb, had d.act s.acts na)

  pub refreshed_kept : (next : ℕ) (d : Head) → (d.act ≡ s.acts → ⊥) → data_now τ (ref_kept s next) d ≡ data_now τ s d
  refreshed_kept next d na = rw (had d.act s.acts na)
