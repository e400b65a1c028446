-- What a state in plain numbers tells, as code changes it.
-- Assumes nothing.
use Rattle.std.specs.Prelude.{Some}
use Prim.Native.Nat.{ℕ, zero, suc, ◌+◌, ◌-◌, ◌≤◌}
use native.Mathlib.Numerals.{add-one}
use native.Mathlib.Omega.{arith}
use mathlib.Core.Path.{◌≡◌, refl, sym, ap, ◌∙◌}
use mathlib.Core.Bool.{Bool, true, false, ◌&&◌}
use mathlib.Core.List.{List, [], ◌∷◌, map}
use lib.Seq.{set-get_or}
use lib.ListN.{length, get_or, set, take, get_or-map}
use Rattle.std.specs.List.{list_all}
use Rattle.std.proofs.Math.Bool.{and_comm}
use Rattle.std.proofs.lemmas.List.Folds.{list_all_more}
use Rattle.records.specs.declared.table.Table.{Table}
use Rattle.records.specs.declared.command.Kind.{Kind}
use Rattle.records.specs.declared.command.Kind.TheVariants.{Act, Rd, Rda, Wr, Wra, Ref, Other}
use Rattle.rules.specs.Kinds.{is_act, is_wr, is_ref, is_known}
use Rattle.rules.specs.Square.{group_of}
use Rattle.rules.specs.State.{shut, bank_of, quiet, group_at, at_rest, rule11, fresh, note}
use Rattle.rules.proofs.laws.TestLaws.{true_false}
use Rattle.rules.proofs.laws.Below.{below_same}
use Rattle.timing.specs.declared.kept.Kept.{Kept}
use Rattle.rules.specs.Kinds.{is_closing}
use Rattle.timing.specs.Kept.{stamp_of, told_bank, told_group, told, shut_kept, quiet_kept, kept_fresh, kept_opened, kept_after, group_opened, group_moved}
use Rattle.records.specs.Tests.{every_below}

-- a number that is not 0
pub stamp_some : (s : ℕ) → (s ≡ 0 → ⊥) → stamp_of s ≡ Some (s - 1)
stamp_some zero ne = absurd (ne refl)
stamp_some (suc c) ne = let z : c ≡ suc c - 1 = omega arith in ap Some z

pub map_set : {A B : Type 0} (f : A → B) (l : List A) (i : ℕ) (y : A) → map f (set l i y) ≡ set (map f l) i (f y)
map_set f [] i y = refl
map_set f (x ∷ xs) zero y = refl
map_set {B = B} f (x ∷ xs) (suc i) y = ap (λ (l : List B). f x ∷ l) (map_set f xs i y)

pub told_fresh : (τ : Table) → told (kept_fresh τ.edition) ≡ fresh τ
unfolding told
told_fresh τ = refl

-- the bank that a number names
pub told_at : (s : Kept) (b : ℕ) → bank_of (told s) b ≡ told_bank (get_or s.banks b shut_kept)
unfolding told
told_at s b = get_or-map told_bank s.banks b shut_kept

-- and the group
pub told_group_lem : (s : Kept) (g : ℕ) → group_at (told s) g ≡ told_group (get_or s.groups g quiet_kept)
unfolding told
told_group_lem s g = get_or-map told_group s.groups g quiet_kept

-- the state after an ACT to bank b of group g, stored to place by place; `next` is the cycle after it
abbrev pub act_kept : Kept → ℕ → ℕ → ℕ → Kept
act_kept s next b g =
    record {
      edition = s.edition;
      cycle = next;
      acts = s.acts + 1;
      datas = s.datas;
      banks = set s.banks b (kept_opened next);
      a1 = next;
      a2 = s.a1;
      a3 = s.a2;
      a4 = s.a3;
      groups = set s.groups g (group_opened (get_or s.groups g quiet_kept) next);
      refresh = s.refresh;
      lent = s.lent;
    }

pub told_act : (τ : Table) (s : Kept) (k : Kind) (c b : ℕ) → is_act k ≡ true → told (act_kept s (c + 1) b (group_of τ b)) ≡ note τ (told s) c k b
unfolding told
told_act τ s Act c b e = rw (map_set told_bank s.banks b (kept_opened (c + 1)), map_set told_group, get_or-map told_group s.groups (group_of τ b) quiet_kept, add-one c)
told_act τ s Rd c b e = true_false false e refl
told_act τ s Rda c b e = true_false false e refl
told_act τ s Wr c b e = true_false false e refl
told_act τ s Wra c b e = true_false false e refl
told_act τ s Ref c b e = true_false false e refl
told_act τ s (Other n) c b e = true_false false e refl

-- and after a data command
abbrev pub data_kept : Kept → Bool → Bool → ℕ → ℕ → ℕ → Kept
data_kept s w z next b g =
    record {
      edition = s.edition;
      cycle = next;
      acts = s.acts;
      datas = s.datas + 1;
      banks = set s.banks b (kept_after (get_or s.banks b shut_kept) w z next);
      a1 = s.a1;
      a2 = s.a2;
      a3 = s.a3;
      a4 = s.a4;
      groups = set s.groups g (group_moved (get_or s.groups g quiet_kept) w next);
      refresh = s.refresh;
      lent = s.lent;
    }

pub told_data : (τ : Table) (s : Kept) (k : Kind) (c b : ℕ) → is_known k ≡ true → is_act k ≡ false → is_ref k ≡ false
    → told (data_kept s (is_wr k) (is_closing k) (c + 1) b (group_of τ b)) ≡ note τ (told s) c k b
unfolding told
told_data τ s Act c b n a f = true_false true refl a
told_data τ s Rd c b n a f = rw (map_set told_bank, get_or-map told_bank s.banks b shut_kept, map_set told_group, get_or-map told_group s.groups (group_of τ b) quiet_kept, add-one c)
told_data τ s Rda c b n a f = rw (map_set told_bank, get_or-map told_bank s.banks b shut_kept, map_set told_group, get_or-map told_group s.groups (group_of τ b) quiet_kept, add-one c)
told_data τ s Wr c b n a f = rw (map_set told_bank, get_or-map told_bank s.banks b shut_kept, map_set told_group, get_or-map told_group s.groups (group_of τ b) quiet_kept, add-one c)
told_data τ s Wra c b n a f = rw (map_set told_bank, get_or-map told_bank s.banks b shut_kept, map_set told_group, get_or-map told_group s.groups (group_of τ b) quiet_kept, add-one c)
told_data τ s Ref c b n a f = true_false true refl f
told_data τ s (Other m) c b n a f = true_false false n refl

-- and after a REF, which leaves every bank and group as it is
abbrev pub ref_kept : Kept → ℕ → Kept
ref_kept s next =
    record {
      edition = s.edition;
      cycle = next;
      acts = s.acts + 1;
      datas = s.datas;
      banks = s.banks;
      a1 = s.a1;
      a2 = s.a2;
      a3 = s.a3;
      a4 = s.a4;
      groups = s.groups;
      refresh = next;
      lent = s.lent;
    }

pub told_ref : (τ : Table) (s : Kept) (k : Kind) (c b : ℕ) → is_ref k ≡ true → told (ref_kept s (c + 1)) ≡ note τ (told s) c k b
unfolding told
told_ref τ s Act c b e = true_false false e refl
told_ref τ s Rd c b e = true_false false e refl
told_ref τ s Rda c b e = true_false false e refl
told_ref τ s Wr c b e = true_false false e refl
told_ref τ s Wra c b e = true_false false e refl
told_ref τ s Ref c b e = rw (set-get_or (map told_bank s.banks) b shut, set-get_or (map told_group s.groups) (group_of τ b) quiet, add-one c)
told_ref τ s (Other n) c b e = true_false false e refl

-- a test of each of the first n is the test of each below n
pub below_take : {A : Type 0} (f : A → Bool) (l : List A) (d : A) (n : ℕ) → n ≤ length l → list_all f (take n l) ≡ every_below n (λ i. f (get_or l i d))
below_take f l d zero h = refl
below_take f l d (suc n) h =
    ap (λ (m : ℕ). list_all f (take m l)) (sym (add-one n))
    ∙ list_all_more f l n d (omega arith)
    ∙ ap (λ (b : Bool). b && f (get_or l n d)) (below_take f l d n (omega arith))
    ∙ and_comm (every_below n (λ i. f (get_or l i d))) (f (get_or l n d))

-- rule 11, bank by bank
module _ (τ : Table) (s : Kept) (t : ℕ) where
  abbrev rests_at : ℕ → Bool
  rests_at b = at_rest τ (told_bank (get_or s.banks b shut_kept)) t

  told_rests : every_below τ.banks rests_at ≡ rule11 τ (told s) t
  told_rests = below_same τ.banks rests_at (λ b. at_rest τ (bank_of (told s) b) t) (λ b l. rw (told_at s b))

  pub rests_of : τ.banks ≤ length s.banks → list_all (λ k. at_rest τ (told_bank k) t) (take τ.banks s.banks) ≡ rule11 τ (told s) t
  rests_of h = below_take (λ k. at_rest τ (told_bank k) t) s.banks shut_kept τ.banks h ∙ told_rests
