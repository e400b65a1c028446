-- One turn of the loop that sets records out, for a state that is kept in plain numbers and changed in place.
-- Assumes nothing.
use Rattle.std.specs.Prelude.{None}
use Rattle.rules.specs.Types.{Found}
use Prim.Native.Nat.{ℕ, suc, ◌+◌, ◌-◌, ◌*◌, ◌≤◌, ◌<◌, max}
use native.Mathlib.Omega.{arith}
use mathlib.Core.Path.{◌≡◌, refl, sym, ap, ◌∙◌, subst}
use mathlib.Core.Bool.{Bool, true, false}
use mathlib.Core.List.{List, ◌∷◌, map}
use lib.Dec.{leb, ltb, eqb}
use lib.ListN.{length, get_or, set, length-set}
use borrow.Author.Tests.{leb-true, eqb-true, eqb-false}
use Rattle.records.specs.declared.table.Table.{Table}
use Rattle.records.specs.declared.command.Kind.{Kind}
use Rattle.records.specs.declared.command.Command.{Command}
use Rattle.records.specs.Command.{command}
use Rattle.records.specs.Tests.{pick}
use Rattle.rules.specs.declared.state.Bank.{Bank}
use Rattle.rules.specs.declared.state.State.{State}
use Rattle.rules.specs.Kinds.{is_act, is_wr, is_ref, is_known, first_broken, rules_in_order}
use Rattle.rules.specs.Square.{group_of}
use Rattle.rules.specs.State.{tests_by, note, Held}
use Rattle.rules.specs.History.{in_table, is_fine}
use Rattle.rules.proofs.laws.TestLaws.{true_false}
use Rattle.rules.proofs.history.Judged.{is_fine_lem, in_known, in_bank}
use Rattle.timing.specs.declared.kept.Kept.{Kept}
use Rattle.rules.specs.Kinds.{is_closing}
use Rattle.timing.specs.Kept.{stamp_of, told_bank, told_group, told, shut_kept, kept_fresh}
use Rattle.timing.proofs.Telling.{told_fresh, told_at, act_kept, told_act, data_kept, told_data}
use Rattle.broken.specs.ByState.{found_by, groups_far, found_on}
use Rattle.broken.proofs.Laws.{found_parts}
use Rattle.shortest.specs.Search.{nth, Placeable, Hopeless}
use Rattle.shortest.specs.Lifting.{found_at, Scanned, Limit, next_place, next_shift, Lifting, LostFor}
use Rattle.shortest.proofs.Turns.{placeable_set}
use Rattle.shortest.proofs.Lifted.{lift_start, lift_wrap, lift_next, no_hope}

-- ---- the scan

-- no cycle before c breaks no rule
abbrev pub NotBefore : (ℕ → Found) → ℕ → ℕ → Type 0
NotBefore f from c = (x : ℕ) → from ≤ x → x < c → f x ≡ None → ⊥

pub scan_more : (f : ℕ → Found) (from c : ℕ) → NotBefore f from c → is_fine (f c) ≡ false → NotBefore f from (c + 1)
scan_more f from c n e x l m g = on (eqb x c) refl
  where
    on : (a : Bool) → eqb x c ≡ a → ⊥
    on true a = true_false true refl (sym (ap is_fine (ap f (sym (eqb-true x c a)) ∙ g)) ∙ e)
    on false a = n x l (omega (arith, eqb-false x c a)) g

pub scan_ends : (f : ℕ → Found) (from lim r : ℕ) → from ≤ r → NotBefore f from r → (r ≤ lim → is_fine (f r) ≡ true) → Scanned f from lim r
scan_ends f from lim r l n g = record { low = l; before = n; fine = λ m. is_fine_lem (f r) (g m) }

-- what breaks no rule is at the state's cycle or later
fine_late : (τ : Table) (s : State) (k : Kind) (c b : ℕ) → found_by τ s k c b ≡ None → s.cycle ≤ c
unfolding found_by
fine_late τ s k c b e = on (in_table τ k b) (leb s.cycle c) refl e
  where
    on : (x y : Bool) → leb s.cycle c ≡ y → first_broken (x ∷ y ∷ tests_by τ s k c b) rules_in_order ≡ None → s.cycle ≤ c
    on true true f g = leb-true s.cycle c f
    on true false f g = let z : ◌≡◌ {A = ℕ} 0 1 = cc in absurd (omega arith)
    on false y f g = let z : ◌≡◌ {A = ℕ} 0 1 = cc in absurd (omega arith)

-- what the code asks at a cycle, of a bank b of group g
abbrev pub found_kept : Table → Kept → ℕ → Kind → ℕ → ℕ → Found
found_kept τ st g kind b =
    found_at τ st.cycle (told_bank (get_or st.banks b shut_kept)) (map told_group st.groups) g (stamp_of st.a4) (stamp_of st.refresh) kind

module _ (τ : Table) (st : Kept) (g : ℕ) (kind : Kind) (b : ℕ) (inside : in_table τ kind b ≡ true) (ref : is_ref kind ≡ false) (own : g ≡ group_of τ b) where
  found_same : (c : ℕ) → found_kept τ st g kind b c ≡ found_by τ (told st) kind c b
  unfolding told
  found_same c =
      ap (λ (k : Bank). found_on τ st.cycle k (groups_far τ (map told_group st.groups) g kind c) (stamp_of st.a4) (stamp_of st.refresh) kind c) (sym (told_at st b))
      ∙ found_parts τ (told st) kind c b inside ref (groups_far τ (map told_group st.groups) g kind c)
      (ap (λ (j : ℕ). groups_far τ (map told_group st.groups) j kind c) own)

  scan_whole : (bound start lim r : ℕ) → start ≡ max bound st.cycle → Scanned (found_kept τ st g kind b) start lim r
      → Scanned (λ c. found_by τ (told st) kind c b) bound lim r
  unfolding told
  scan_whole bound start lim r e z =
      record {
        low = omega (arith, z.low);
        before = λ c l m f. z.before c (omega (arith, fine_late τ (told st) kind c b f)) m (found_same c ∙ f);
        fine = λ m. sym (found_same r) ∙ z.fine m;
      }

-- ---- the loop

-- the next record is number i of a copy that is `off` cycles later, and so many turns are made
pub record Turn (τ : Table) (L k n : ℕ) (x₀ : List Command) (off i turn : ℕ) (x : List Command) (st : Kept) : Type 0 where
  pub copy : ℕ
  pub shift : off ≡ L * copy
  pub place : i < n
  pub size : length x ≡ 6
  pub placeable : Placeable τ n x
  pub goes : (w : Bool) (bi bc : ℕ) → n ≡ bi * suc bc → Lifting τ w bi bc L k x₀ copy i x (told st)
  pub acts : st.acts ≤ turn
  pub datas : st.datas ≤ turn
  pub near : off ≤ 128 * turn

pub turn_start : (τ : Table) (L k n : ℕ) (x : List Command) → 0 < n → length x ≡ 6 → Placeable τ n x → Turn τ L k n x 0 0 0 x (kept_fresh τ.edition)
turn_start τ L k n x l e f =
    record {
      copy = 0;
      shift = omega arith;
      place = l;
      size = e;
      placeable = f;
      goes = λ w bi bc g. subst (λ (s : State). Lifting τ w bi bc L k x 0 0 x s) (sym (told_fresh τ)) (lift_start τ w bi bc L k x);
      acts = omega arith;
      datas = omega arith;
      near = omega arith;
    }

module _ {τ : Table} {L k n : ℕ} {x₀ : List Command} {off i turn : ℕ} {x : List Command} {st : Kept} (fit : Held τ) (q : Turn τ L k n x₀ off i turn x st) where
  abbrev y : Command
  y = nth x i

  inside : in_table τ y.kind y.bank ≡ true
  inside = (q.placeable i q.place).0

  pub turn_known : is_known y.kind ≡ true
  turn_known = in_known τ y.kind y.bank inside

  pub turn_ref : is_ref y.kind ≡ false
  turn_ref = (q.placeable i q.place).1

  pub turn_bank : y.bank < 16
  turn_bank = omega (arith, fit.banks, in_bank τ y.kind y.bank inside)

  module _ {g bound start lim c : ℕ} (own : g ≡ group_of τ y.bank) (e : bound ≡ y.cycle + off) (es : start ≡ max bound st.cycle)
      (z : Scanned (found_kept τ st g y.kind y.bank) start lim c) where
    from : bound ≡ y.cycle + L * q.copy
    from = e ∙ ap (λ (d : ℕ). y.cycle + d) q.shift

    scanned : Scanned (λ t. found_by τ (told st) y.kind t y.bank) (y.cycle + L * q.copy) lim c
    scanned = subst (λ (d : ℕ). Scanned (λ t. found_by τ (told st) y.kind t y.bank) d lim c) from (scan_whole τ st g y.kind y.bank inside turn_ref own bound start lim c es z)

    pub turn_lost : Limit (ltb i k) bound L off lim → lim < c → LostFor τ L k n x₀
    turn_lost h l w bi bc f =
        subst (λ (m : ℕ). Hopeless τ w bi bc L k m x₀) (sym f)
        (λ p is u v.
        no_hope τ w bi bc L k x₀ fit q.copy i x (told st) (q.goes w bi bc f) (omega (arith, q.place)) p is u v lim c scanned l
        (record { capped = λ b. h.capped b ∙ from; free = λ b. h.free b ∙ ap (λ (d : ℕ). L + d) q.shift }))

    -- the record where it is set out
    abbrev now : Command
    now = command (c - off) y.kind y.bank y.number

    abbrev next : List Command
    next = set x i now

    module _ (few : n ≤ 6) (short : L ≤ 128) (l : c ≤ lim) where
      still : Placeable τ n next
      still = placeable_set τ n n i x now (omega (arith, q.size, q.place)) (inside, turn_ref) (λ j lj ne. lj) q.placeable

      module _ (st' : Kept) (noted : told st' ≡ note τ (told st) c y.kind y.bank) (la : st'.acts ≤ st.acts + 1) (ld : st'.datas ≤ st.datas + 1) where
        one : (w : Bool) (bi bc : ℕ) → n ≡ bi * suc bc → Lifting τ w bi bc L k x₀ q.copy (suc i) next (told st')
        one w bi bc f =
            subst (λ (s : State). Lifting τ w bi bc L k x₀ q.copy (suc i) next s) (sym noted)
            (subst (λ (d : ℕ). Lifting τ w bi bc L k x₀ q.copy (suc i) (set x i (command (c - d) y.kind y.bank y.number)) (note τ (told st) c y.kind y.bank))
            (sym q.shift)
            (lift_next τ w bi bc L k x₀ fit q.copy i x (told st) (q.goes w bi bc f) (omega (arith, q.place)) lim c scanned l (omega (arith, q.size, q.place))))

        noted_next : {off' i' : ℕ} → off' ≡ next_shift n i L off → i' ≡ next_place n i → Turn τ L k n x₀ off' i' (turn + 1) next st'
        noted_next eo ei = rw (eo, ei) (on (eqb (i + 1) n) refl)
          where
            on : (b : Bool) → eqb (i + 1) n ≡ b → Turn τ L k n x₀ (pick b (off + L) off) (pick b 0 (i + 1)) (turn + 1) next st'
            on true b =
                record {
                  copy = suc q.copy;
                  shift = omega (arith, q.shift);
                  place = omega (arith, q.place);
                  size = length-set x i now ∙ q.size;
                  placeable = still;
                  goes = λ w bi bc f.
                      let e : suc i ≡ bi * suc bc = omega (arith, eqb-true (i + 1) n b) in
                      lift_wrap τ w bi bc L k x₀ q.copy next (told st') (subst (λ (j : ℕ). Lifting τ w bi bc L k x₀ q.copy j next (told st')) e (one w bi bc f));
                  acts = omega (arith, q.acts);
                  datas = omega (arith, q.datas);
                  near = omega (arith, q.near);
                }
            on false b =
                record {
                  copy = q.copy;
                  shift = q.shift;
                  place = omega (arith, q.place, eqb-false (i + 1) n b);
                  size = length-set x i now ∙ q.size;
                  placeable = still;
                  goes = λ w bi bc f.
                      let e : suc i ≡ i + 1 = omega arith in
                      subst (λ (j : ℕ). Lifting τ w bi bc L k x₀ q.copy j next (told st')) e (one w bi bc f);
                  acts = omega (arith, q.acts);
                  datas = omega (arith, q.datas);
                  near = omega (arith, q.near);
                }

      module _ {off' i' : ℕ} (eo : off' ≡ next_shift n i L off) (ei : i' ≡ next_place n i) where
        pub turn_act : is_act y.kind ≡ true → Turn τ L k n x₀ off' i' (turn + 1) next (act_kept st (c + 1) y.bank g)
        turn_act a =
            noted_next (act_kept st (c + 1) y.bank g)
            (ap (λ (j : ℕ). told (act_kept st (c + 1) y.bank j)) own ∙ told_act τ st y.kind c y.bank a) (omega arith) (omega arith) eo ei

        pub turn_data : is_act y.kind ≡ false
            → Turn τ L k n x₀ off' i' (turn + 1) next (data_kept st (is_wr y.kind) (is_closing y.kind) (c + 1) y.bank g)
        turn_data a =
            noted_next (data_kept st (is_wr y.kind) (is_closing y.kind) (c + 1) y.bank g)
            (ap (λ (j : ℕ). told (data_kept st (is_wr y.kind) (is_closing y.kind) (c + 1) y.bank j)) own ∙ told_data τ st y.kind c y.bank turn_known a turn_ref)
            (omega arith) (omega arith) eo ei
