-- In a schedule that the judge accepts, a transaction is at fault exactly when the pass or the scan says so.
-- Assumes nothing.
use Prim.Native.Nat.{ℕ, zero, suc, ◌+◌, ◌≤◌, ◌<◌}
use native.Mathlib.Omega.{arith}
use mathlib.Core.Path.{◌≡◌, refl, sym, ap, ◌∙◌}
use mathlib.Core.Logic.{◌≢◌, ◌⊎◌, inl, inr, ⊎_elim}
use mathlib.Core.Bool.{Bool, true, false, not, ◌&&◌, ◌||◌}
use mathlib.Core.Option.{Option, none, some}
use mathlib.Core.List.{List, []}
use lib.Dec.{ltb, eqb}
use lib.ListN.{length, get_elem?, take}
use borrow.Author.Tests.{ltb-true, eqb-true, eqb-false, lt-ltb, eq-eqb, ne_eqb, not-true}
use Rattle.records.specs.declared.table.Table.{Table}
use Rattle.records.specs.declared.transaction.Transaction.{Transaction}
use Rattle.records.specs.declared.command.Kind.{Kind}
use Rattle.records.specs.declared.command.Kind.TheVariants.{Act, Rd, Rda, Wr, Wra, Ref, Other}
use Rattle.records.specs.declared.command.Command.{Command}
use Rattle.rules.specs.Kinds.{is_ref, is_data}
use Rattle.rules.specs.Pattern.{onto}
use Rattle.rules.specs.Verdict.{Legal}
use Rattle.rules.proofs.laws.TestLaws.{true_false, and_fst, and_snd, and_both}
use Rattle.rules.proofs.laws.Numbers.{from?}
use Rattle.rules.proofs.history.Judged.{in_bank}
use Rattle.rules.proofs.queues.Fit.{AllFit}
use Rattle.serves.specs.Serves.{records_of, due_under, Stands, latest_act, AtFault, missing, repeated, not_its_own, other_number, out_of_order, misplaced}
use Rattle.serves.specs.Check.{last_of, ref_of, most_below, another, inside, high_of, slot_count, due_of, key_in, placed, top_of, faulty, agrees, wrong}
use Rattle.serves.proofs.Tests.{or_left, or_right, or_of}
use Rattle.serves.proofs.Alike.{records_found_lem}
use Rattle.serves.proofs.Records.{Somewhere, Before, stands_of, before_at, earlier_of, earlier_at, stands_below, before_length}
use Rattle.serves.proofs.Least.{most_has, has_most, below_most, Below, most_below_lem, Fails, NumberedAt, RefAt, last_over, last_some, ref_under, ref_some}
use Rattle.serves.proofs.Order.{due_of_lem, placed_of, of_placed, later_key, key_later}
use Rattle.serves.proofs.Counts.{Miscounted, agrees_once, agrees_not}
use Rattle.serves.proofs.Opened.{lawful, stands_lawful, lawful_in}

is_ref_lem : (k : Kind) → is_ref k ≡ true → k ≡ Ref
is_ref_lem Act e = true_false false e refl
is_ref_lem Rd e = true_false false e refl
is_ref_lem Rda e = true_false false e refl
is_ref_lem Wr e = true_false false e refl
is_ref_lem Wra e = true_false false e refl
is_ref_lem Ref e = refl
is_ref_lem (Other n) e = true_false false e refl

another_of : (o : Option ℕ) (y x : ℕ) → o ≡ some y → y ≢ x → another o x ≡ true
another_of o y x e f = rw e (ap not (ne_eqb y x f))

of_another : (o : Option ℕ) (x : ℕ) → another o x ≡ true → (y : ℕ) × (o ≡ some y) × (y ≢ x)
of_another none x e = true_false false e refl
of_another (some y) x e = (y, refl, eqb-false y x (not-true (eqb y x) e))

module _ (τ : Table) (most : τ.banks ≤ 16) (l : List Transaction) (v : AllFit τ l) (at : ℕ → Transaction)
    (at_is : (y : ℕ) → y < length l → get_elem? l y ≡ some (at y)) (rs : List Command) (legal : Legal τ rs) (few : length rs ≤ 69632) where
  abbrev N : ℕ
  N = length l

  abbrev B : ℕ
  B = τ.banks

  abbrev H : List Command
  H = onto rs []

  bank_in_lem : (i : ℕ) (r : Command) → Stands rs i r → r.bank < τ.banks
  bank_in_lem i r s = in_bank τ r.kind r.bank (lawful_in τ r (onto (take i rs) []) (stands_lawful τ rs legal i r s))

  -- a record's tests, as `faulty` has them: not due, opened under another number, out of order, a REF after a later transaction's command
  abbrev t1 : Command → Bool
  t1 r = eqb (due_of B N at r) 0

  abbrev t2 : Command → List Command → Bool
  t2 r h = another (latest_act r.bank h) r.number

  abbrev t3 : Command → List Command → Bool
  t3 r h = ltb (key_in B N at r) (top_of B N at h)

  abbrev t4 : Command → List Command → Bool
  t4 r h = is_ref r.kind && ltb (r.number + 1) (high_of N h)

  -- what the pass, or the scan, finds
  pub data Hit (x : ℕ) : Type 0 where
    passed : Somewhere (Fails (faulty B N at) x) (onto rs []) → Hit x
    scanned : wrong B N at (onto rs []) x ≡ true → Hit x

  abbrev early : ℕ → Bool
  early x = ltb (ref_of x H) (most_below (λ y. last_of y H) x)

  -- ---- at fault, so found

  faulty_at : (x i : ℕ) (r : Command) → Stands rs i r → r.number ≡ x → faulty B N at r (onto (take i rs) []) ≡ true → Hit x
  faulty_at x i r s e f = passed (before_at (Fails (faulty B N at) x) rs [] i r s (e, f))

  data_at_lem : (x i : ℕ) (r : Command) → Stands rs i r → r.number ≡ x → is_data r.kind ≡ true → (t2 r (onto (take i rs) []) || t3 r (onto (take i rs) [])) ≡ true
      → Hit x
  data_at_lem x i r s e d f =
      let h = onto (take i rs) [] in
      faulty_at x i r s e
      (or_right (t1 r) ((is_data r.kind && (t2 r h || t3 r h)) || t4 r h)
      (or_left (is_data r.kind && (t2 r h || t3 r h)) (t4 r h) (and_both (is_data r.kind) (t2 r h || t3 r h) d f)))

  miscount : (x : ℕ) → x < length l → (k : Kind) (b : ℕ) → 1 ≤ due_under τ l x k b → records_of k b x rs ≢ due_under τ l x k b → Hit x
  miscount x lt k b d f = on (agrees B (at x) x (slot_count N H)) refl
    where
      on : (z : Bool) → agrees B (at x) x (slot_count N H) ≡ z → Hit x
      on true e = absurd (f (agrees_once τ most l v at at_is rs (lawful τ rs legal) x lt e k b d))
      on false e = scanned (or_right (early x) (not (agrees B (at x) x (slot_count N H))) (ap not e))

  pub hit : (x : ℕ) → x < length l → AtFault τ l rs x → Hit x
  hit x lt (missing k b h) = miscount x lt k b (omega (arith, h)) (λ e. absurd (omega (arith, e, h)))
  hit x lt (repeated k b d h) = miscount x lt k b d (λ e. absurd (omega (arith, e, h)))
  hit x lt (not_its_own i r s e z) =
      let h = onto (take i rs) [] in
      let d : due_of B N at r ≡ 0 = sym (due_of_lem τ l v at at_is r (omega (arith, e, lt)) (bank_in_lem i r s))
      ∙ (ap (λ (y : ℕ). due_under τ l y r.kind r.bank) e ∙ z) in
      faulty_at x i r s e (or_left (t1 r) ((is_data r.kind && (t2 r h || t3 r h)) || t4 r h) (eq-eqb (due_of B N at r) 0 d))
  hit x lt (other_number i y r s e d a f) =
      let h = onto (take i rs) [] in
      data_at_lem x i r s e d (or_left (t2 r h) (t3 r h) (another_of (latest_act r.bank h) y r.number a (λ z. f (z ∙ e))))
  hit x lt (out_of_order i j w r s s' le e p) =
      let h = onto (take j rs) [] in
      let pr = placed_of τ l v at at_is r p.first in
      let d : is_data r.kind ≡ true = and_fst (is_data r.kind) (not (t1 r)) (and_snd (inside N r) (is_data r.kind && not (t1 r)) pr) in
      let k = has_most (placed B N at) (key_in B N at) (key_in B N at r) h
      (earlier_at (λ w. (placed B N at w ≡ true) × (key_in B N at r < key_in B N at w)) rs j i w le s
      (placed_of τ l v at at_is w p.second, later_key τ l v at at_is r w p)) in
      data_at_lem x j r s' e d (or_right (t2 r h) (t3 r h) (lt-ltb (key_in B N at r) (top_of B N at h) k))
  hit x lt (misplaced i j r w s s' ek e (inl (le, g, g'))) =
      let h = onto (take i rs) [] in
      let k = has_most (inside N) (λ w. w.number + 1) (r.number + 1) h
      (earlier_at (λ w. (inside N w ≡ true) × (r.number + 1 < w.number + 1)) rs i j w le s' (lt-ltb w.number N g', omega (arith, g))) in
      faulty_at x i r s e
      (or_right (t1 r) ((is_data r.kind && (t2 r h || t3 r h)) || t4 r h)
      (or_right (is_data r.kind && (t2 r h || t3 r h)) (t4 r h)
      (and_both (is_ref r.kind) (ltb (r.number + 1) (high_of N h)) (ap is_ref ek) (lt-ltb (r.number + 1) (high_of N h) k))))
  hit x lt (misplaced i j r w s s' ek e (inr (le, g))) =
      let a = ref_under x i H (before_at (RefAt x i) rs [] i r s (e, ap is_ref ek, before_length rs i r s)) in
      let b = last_over w.number j H (before_at (NumberedAt w.number j) rs [] j w s' (refl, before_length rs j w s')) in
      let c = below_most (λ y. last_of y H) x w.number (omega (arith, g, e)) in
      scanned (or_left (early x) (not (agrees B (at x) x (slot_count N H))) (lt-ltb (ref_of x H) (most_below (λ y. last_of y H) x) (omega (arith, a, b, c, le))))

  -- ---- found, so at fault

  early_fault : (x : ℕ) → early x ≡ true → AtFault τ l rs x
  early_fault x e =
      misplaced r.place w.place r.one w.one r.stands w.stands (is_ref_lem r.one.kind r.has.1) r.has.0
      (inr (omega (arith, at_r, at_w, q.over), omega (arith, r.has.0, w.has.0, q.below)))
    where
      q : Below (λ y. last_of y H) x (ref_of x H)
      q = most_below_lem (λ y. last_of y H) x (ref_of x H) (ltb-true (ref_of x H) (most_below (λ y. last_of y H) x) e)

      w : Before (NumberedAt q.at (last_of q.at H)) rs []
      w = stands_of (NumberedAt q.at (last_of q.at H)) rs (last_some q.at (ref_of x H) H q.over)

      at_w : w.place ≡ last_of q.at H
      at_w = sym (before_length rs w.place w.one w.stands) ∙ w.has.1

      r : Before (RefAt x (ref_of x H)) rs []
      r = stands_of (RefAt x (ref_of x H)) rs (ref_some x H (omega (arith, q.over, at_w, stands_below rs w.place w.one w.stands, few)))

      at_r : r.place ≡ ref_of x H
      at_r = sym (before_length rs r.place r.one r.stands) ∙ r.has.2

  count_fault : (x : ℕ) → Miscounted τ l rs x → AtFault τ l rs x
  count_fault x c = on (from? (records_of c.kind c.bank x rs) (due_under τ l x c.kind c.bank)) (from? (due_under τ l x c.kind c.bank) 1)
    where
      R : ℕ
      R = records_of c.kind c.bank x rs

      D : ℕ
      D = due_under τ l x c.kind c.bank

      stray : D ≡ 0 → 1 ≤ R → AtFault τ l rs x
      stray z h =
          let q = records_found_lem c.kind c.bank x rs h in
          not_its_own q.place q.one q.stands q.alike.number
          (ap (λ (k : Kind). due_under τ l x k q.one.bank) q.alike.kind ∙ (ap (λ (b : ℕ). due_under τ l x c.kind b) q.alike.bank ∙ z))

      on : (R < D) ⊎ ((d : ℕ) × (R ≡ D + d)) → (D < 1) ⊎ ((d : ℕ) × (D ≡ 1 + d)) → AtFault τ l rs x
      on (inl z) y = missing c.kind c.bank z
      on (inr (zero, z)) y = absurd (c.unlike (omega (arith, z)))
      on (inr (suc d, z)) (inl y) = stray (omega (arith, y)) (omega (arith, z))
      on (inr (suc d, z)) (inr y) = repeated c.kind c.bank (omega (arith, y.1)) (omega (arith, z))

  -- of a record that fails
  module _ (x : ℕ) (lt : x < length l) (a : Before (Fails (faulty B N at) x) rs []) where
    abbrev r : Command
    r = a.one

    abbrev h : List Command
    h = onto (take a.place rs) []

    hn : r.number < length l
    hn = omega (arith, a.has.0, lt)

    hb : r.bank < τ.banks
    hb = bank_in_lem a.place r a.stands

    stray : t1 r ≡ true → AtFault τ l rs x
    stray e =
        not_its_own a.place r a.stands a.has.0
        (sym (ap (λ (y : ℕ). due_under τ l y r.kind r.bank) a.has.0) ∙ (due_of_lem τ l v at at_is r hn hb ∙ eqb-true (due_of B N at r) 0 e))

    order : t1 r ≡ false → is_data r.kind ≡ true → t3 r h ≡ true → AtFault τ l rs x
    order nz d e =
        let q = earlier_of (λ w. (placed B N at w ≡ true) × (key_in B N at r < key_in B N at w)) rs a.place
        (most_has (placed B N at) (key_in B N at) (key_in B N at r) h (ltb-true (key_in B N at r) (top_of B N at h) e)) in
        let pr : placed B N at r ≡ true = and_both (inside N r) (is_data r.kind && not (t1 r)) (lt-ltb r.number N hn)
        (and_both (is_data r.kind) (not (t1 r)) d (ap not nz)) in
        out_of_order q.place a.place q.one r q.stands a.stands q.earlier a.has.0
        (key_later τ l v at at_is r q.one (of_placed τ l v at at_is r hb pr)
        (of_placed τ l v at at_is q.one (bank_in_lem q.place q.one q.stands) q.has.0) q.has.1)

    by_data_lem : (b : Bool) → t1 r ≡ b → is_data r.kind ≡ true → ((t2 r h ≡ true) ⊎ (t3 r h ≡ true)) → AtFault τ l rs x
    by_data_lem true z d e = stray z
    by_data_lem false z d (inl e) =
        let o = of_another (latest_act r.bank h) r.number e in
        other_number a.place o.0 r a.stands a.has.0 d o.1 (λ q. o.2 (q ∙ sym a.has.0))
    by_data_lem false z d (inr e) = order z d e

    by_ref : is_ref r.kind ≡ true → r.number + 1 < high_of N h → AtFault τ l rs x
    by_ref ek e =
        let q = earlier_of (λ w. (inside N w ≡ true) × (r.number + 1 < w.number + 1)) rs a.place
        (most_has (inside N) (λ w. w.number + 1) (r.number + 1) h e) in
        misplaced a.place q.place r q.one a.stands q.stands (is_ref_lem r.kind ek) a.has.0
        (inl (q.earlier, omega (arith, q.has.1), ltb-true q.one.number N q.has.0))

    further : ((is_data r.kind && (t2 r h || t3 r h)) ≡ true) ⊎ (t4 r h ≡ true) → AtFault τ l rs x
    further (inl e) =
        by_data_lem (t1 r) refl (and_fst (is_data r.kind) (t2 r h || t3 r h) e) (or_of (t2 r h) (t3 r h) (and_snd (is_data r.kind) (t2 r h || t3 r h) e))
    further (inr e) =
        by_ref (and_fst (is_ref r.kind) (ltb (r.number + 1) (high_of N h)) e)
        (ltb-true (r.number + 1) (high_of N h) (and_snd (is_ref r.kind) (ltb (r.number + 1) (high_of N h)) e))

    failed : AtFault τ l rs x
    failed =
        ⊎_elim stray (λ e. further (or_of (is_data r.kind && (t2 r h || t3 r h)) (t4 r h) e))
        (or_of (t1 r) ((is_data r.kind && (t2 r h || t3 r h)) || t4 r h) a.has.1)

  pub fault : (x : ℕ) → x < length l → Hit x → AtFault τ l rs x
  fault x lt (passed w) = failed x lt (stands_of (Fails (faulty B N at) x) rs w)
  fault x lt (scanned e) = ⊎_elim (early_fault x)
      (λ e. count_fault x (agrees_not τ most l v at at_is rs (lawful τ rs legal) x lt (not-true (agrees B (at x) x (slot_count N H)) e)))
      (or_of (early x) (not (agrees B (at x) x (slot_count N H))) e)
