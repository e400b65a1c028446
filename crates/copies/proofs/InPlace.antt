-- A turn of the loop over a copy's records, for a state that is kept in plain numbers and changed in place.
-- Assumes nothing.
use Rattle.std.specs.Prelude.{Some, None}
use Rattle.rules.specs.Types.{Found}
use Prim.Native.Nat.{ℕ, ◌+◌, ◌*◌, ◌≤◌, ◌<◌}
use native.Mathlib.Omega.{arith}
use mathlib.Core.Path.{◌≡◌, sym, ap, ◌∙◌, subst}
use mathlib.Core.Bool.{Bool, true, false}
use mathlib.Core.List.{List, map}
use lib.ListN.{get_or}
use Rattle.records.specs.declared.table.Table.{Table}
use Rattle.records.specs.declared.command.Kind.{Kind}
use Rattle.records.specs.declared.command.Command.{Command}
use Rattle.records.specs.Command.{command, command_at}
use Rattle.rules.specs.declared.state.Bank.{Bank}
use Rattle.rules.specs.declared.state.State.{State}
use Rattle.rules.specs.declared.verdict.Rule.{Rule}
use Rattle.rules.specs.declared.verdict.Rule.TheVariants.{Range}
use Rattle.rules.specs.declared.verdict.Verdict.TheVariants.{Refused}
use Rattle.rules.specs.Kinds.{is_act, is_wr, is_ref, is_known}
use Rattle.rules.specs.Square.{group_of}
use Rattle.rules.specs.State.{rule11, note, Held}
use Rattle.rules.specs.History.{in_table}
use Rattle.rules.specs.Verdict.{judge_from}
use Rattle.rules.proofs.laws.TestLaws.{and_fst}
use Rattle.rules.proofs.history.Judged.{in_bank}
use Rattle.timing.specs.declared.kept.Kept.{Kept}
use Rattle.rules.specs.Kinds.{is_closing}
use Rattle.timing.specs.Kept.{stamp_of, told_bank, told_group, told, shut_kept}
use Rattle.timing.proofs.Telling.{told_at, act_kept, told_act, data_kept, told_data, ref_kept, told_ref}
use Rattle.broken.specs.ByState.{found_by, groups_far, found_on, found_ref}
use Rattle.broken.proofs.Laws.{found_range, found_parts, found_refresh}
use Rattle.copies.specs.Seen.{record_count, record_in, whole}
use Rattle.copies.proofs.Seen.{record_read, left, room}
use Rattle.copies.proofs.Turn.{Turn, turn_stops, turn_next}

-- what the code finds of a record that keeps rule 1: of a REF, where `rests` says whether every bank is at rest, and of another, to a bank of the
-- group g
abbrev pub ref_found : Table → Kept → Bool → Command → Found
ref_found τ st rests x = found_ref τ st.cycle rests (stamp_of st.refresh) x.cycle

abbrev pub found_in : Table → Kept → ℕ → Command → Found
found_in τ st g x =
    found_on τ st.cycle (told_bank (get_or st.banks x.bank shut_kept)) (groups_far τ (map told_group st.groups) g x.kind x.cycle)
    (stamp_of st.a4) (stamp_of st.refresh) x.kind x.cycle

ref_same : (τ : Table) (st : Kept) (x : Command) → in_table τ x.kind x.bank ≡ true → is_ref x.kind ≡ true → (rests : Bool) → rests ≡ rule11 τ (told st) x.cycle
    → ref_found τ st rests x ≡ found_by τ (told st) x.kind x.cycle x.bank
unfolding told
ref_same τ st x e f rests r = found_refresh τ (told st) x.kind x.cycle x.bank e f rests r

found_same : (τ : Table) (st : Kept) (x : Command) → in_table τ x.kind x.bank ≡ true → is_ref x.kind ≡ false → (g : ℕ) → g ≡ group_of τ x.bank
    → found_in τ st g x ≡ found_by τ (told st) x.kind x.cycle x.bank
unfolding told
found_same τ st x inside ref g own =
    ap (λ (k : Bank). found_on τ st.cycle k (groups_far τ (map told_group st.groups) g x.kind x.cycle) (stamp_of st.a4) (stamp_of st.refresh) x.kind x.cycle)
    (sym (told_at st x.bank))
    ∙ found_parts τ (told st) x.kind x.cycle x.bank inside ref (groups_far τ (map told_group st.groups) g x.kind x.cycle)
    (ap (λ (j : ℕ). groups_far τ (map told_group st.groups) j x.kind x.cycle) own)

pub low_bank : {τ : Table} → Held τ → (k : Kind) (b : ℕ) → in_table τ k b ≡ true → b < 16
low_bank {τ} fit k b e = omega (arith, fit.banks, in_bank τ k b e)

pub known : (τ : Table) (x : Command) → in_table τ x.kind x.bank ≡ true → is_known x.kind ≡ true
known τ x e = and_fst (is_known x.kind) _ e

-- record i, as the code reads it
module _ {τ : Table} {s : List ℕ} {d : ℕ} {h : List Command} {n i : ℕ} (st : Kept) (fit : Held τ) (turn : Turn τ s d h n i (told st)) (l : i < n)
    {r : Command} (read : r ≡ command_at s (i * 8)) {shift : ℕ} (late : shift ≡ d) where
  abbrev x : Command
  x = command (r.cycle + shift) r.kind r.bank r.number

  here : record_in s d i ≡ x
  here = record_read s d i r shift read late

  pub range_stops : in_table τ r.kind r.bank ≡ false → Refused Range i ≡ judge_from τ (left s d n 0) 0 h
  range_stops e = turn_stops fit turn l here Range (sym (found_range τ (told st) x.kind x.cycle x.bank e))

  module _ (inside : in_table τ r.kind r.bank ≡ true) where
    module _ (ref : is_ref r.kind ≡ true) {rests : Bool} (rest : rests ≡ rule11 τ (told st) (r.cycle + shift)) {f : Found} (says : f ≡ ref_found τ st rests x) where
      ref_finds : found_by τ (told st) x.kind x.cycle x.bank ≡ f
      ref_finds = sym (says ∙ ref_same τ st x inside ref rests rest)

      pub ref_stops : (y : Rule) → f ≡ Some y → Refused y i ≡ judge_from τ (left s d n 0) 0 h
      ref_stops y e = turn_stops fit turn l here y (ref_finds ∙ e)

      pub ref_next : f ≡ None → Turn τ s d h n (i + 1) (told (ref_kept st (r.cycle + shift + 1)))
      ref_next e = subst (λ (z : State). Turn τ s d h n (i + 1) z) (sym (told_ref τ st x.kind x.cycle x.bank ref)) (turn_next fit turn l here (ref_finds ∙ e))

    -- the table's groups are asked of another value, which is that table
    module _ (ref : is_ref r.kind ≡ false) {τ' : Table} (same : τ ≡ τ') {g : ℕ} (own : g ≡ group_of τ' r.bank) {f : Found} (says : f ≡ found_in τ' st g x) where
      place : g ≡ group_of τ r.bank
      place = subst (λ (t : Table). g ≡ group_of t r.bank) (sym same) own

      finds : found_by τ (told st) x.kind x.cycle x.bank ≡ f
      finds = sym (subst (λ (t : Table). f ≡ found_in t st g x) (sym same) says ∙ found_same τ st x inside ref g place)

      pub rule_stops : (y : Rule) → f ≡ Some y → Refused y i ≡ judge_from τ (left s d n 0) 0 h
      rule_stops y e = turn_stops fit turn l here y (finds ∙ e)

      -- the state after it, stored to place by place
      stored : (to : ℕ → Kept) → told (to (group_of τ x.bank)) ≡ note τ (told st) x.cycle x.kind x.bank → f ≡ None → Turn τ s d h n (i + 1) (told (to g))
      stored to e ok =
          subst (λ (z : State). Turn τ s d h n (i + 1) z) (sym (ap (λ (j : ℕ). told (to j)) place ∙ e)) (turn_next fit turn l here (finds ∙ ok))

      pub act_next : f ≡ None → is_act r.kind ≡ true → Turn τ s d h n (i + 1) (told (act_kept st (r.cycle + shift + 1) r.bank g))
      act_next e a = stored (act_kept st (x.cycle + 1) x.bank) (told_act τ st x.kind x.cycle x.bank a) e

      pub data_next : f ≡ None → is_act r.kind ≡ false
          → Turn τ s d h n (i + 1) (told (data_kept st (is_wr r.kind) (is_closing r.kind) (r.cycle + shift + 1) r.bank g))
      data_next e a =
          stored (data_kept st (is_wr x.kind) (is_closing x.kind) (x.cycle + 1) x.bank) (told_data τ st x.kind x.cycle x.bank (known τ x inside) a ref) e

-- the counts fit
pub kept_room : {τ : Table} (L : ℕ) (s : List ℕ) (k : ℕ) {i : ℕ} (st : Kept) → Turn τ s (L * k) (whole L s k) (record_count s) i (told st) → k < 5 → record_count s ≤ 69632
    → (st.acts < 4294967295) × (st.datas < 4294967295)
unfolding told
kept_room L s k {i} st turn k5 few = room L s k i k5 turn.low few turn.judging.sums
