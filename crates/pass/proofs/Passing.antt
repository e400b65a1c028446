-- The pass over the records of bytes: its start, its turns, and what is found at its end.
-- Assumes nothing.
use Prim.Native.Nat.{ℕ, zero, suc, ◌+◌, ◌*◌, ◌/◌, ◌≤◌, ◌<◌, min, max}
use native.Mathlib.Omega.{arith}
use mathlib.Core.Path.{◌≡◌, refl, sym, ap, ◌∙◌, subst}
use mathlib.Core.Bool.{Bool, true, false, not, ◌&&◌, ◌||◌}
use mathlib.Core.Option.{some}
use mathlib.Core.List.{List, [], ◌∷◌}
use lib.Dec.{ltb, eqb}
use lib.ListN.{length, get_or, set, get_elem?}
use Rattle.records.specs.declared.table.Table.{Table}
use Rattle.records.specs.declared.transaction.Transaction.{Transaction}
use Rattle.records.specs.declared.command.Command.{Command}
use Rattle.records.specs.Tests.{pick, every_below}
use Rattle.records.specs.Little.{num}
use Rattle.records.specs.Transaction.{later_at, later_from}
use Rattle.records.specs.Command.{command_at, commands_in}
use Rattle.rules.specs.Pattern.{onto}
use Rattle.rules.specs.Verdict.{Legal}
use Rattle.rules.specs.State.{add_if}
use Rattle.rules.proofs.laws.Ranges.{ranges}
use Rattle.rules.proofs.history.Judged.{in_known, in_bank}
use Rattle.heads.specs.Queue.{Listed}
use Rattle.heads.proofs.Laws.{length_from, first_fits, few as few_listed}
use Rattle.faults.specs.declared.turn.Marks.{Marks}
use Rattle.serves.specs.Serves.{kind_code, Says}
use Rattle.serves.specs.Check.{due_count, slot, bank_agrees, agrees, last_of, ref_of, most_below, slot_count, least_by, faulty, wrong_by, wrong, FirstAt, answer_of, listed_at, number_at, seen, Finds, inside}
use Rattle.faults.specs.Turn.{marks_after}
use Rattle.serves.proofs.Least.{least_le}
use Rattle.serves.proofs.Counts.{known_code}
use Rattle.serves.proofs.Opened.{Lawful, lawful_in}
use Rattle.pass.proofs.Noted.{Noted, noted_in, noted_out}
use Rattle.pass.proofs.Seen.{byte_code, seen_more, seen_length, seen_onto, from_length, lawful_at, nth_later}
use Rattle.serves.proofs.Lowest.{says}

-- ---- equal functions

every_same : (n : ℕ) (f g : ℕ → Bool) → ((i : ℕ) → i < n → f i ≡ g i) → every_below n f ≡ every_below n g
every_same zero f g e = refl
every_same (suc n) f g e =
    ap (λ (b : Bool). b && every_below n f) (e n (omega arith)) ∙ ap (λ (b : Bool). g n && b) (every_same n f g (λ i h. e i (omega (arith, h))))

most_same : (f g : ℕ → ℕ) (x : ℕ) → ((y : ℕ) → y < x → f y ≡ g y) → most_below f x ≡ most_below g x
most_same f g zero e = refl
most_same f g (suc x) e = ap (λ (k : ℕ). max k (most_below f x)) (e x (omega arith)) ∙ ap (max (g x)) (most_same f g x (λ y h. e y (omega (arith, h))))

agrees_same : (banks : ℕ) (t : Transaction) (x : ℕ) (f g : ℕ → ℕ) → banks ≤ 16 → x < 256 → ((i : ℕ) → i < 24576 → f i ≡ g i)
    → agrees banks t x f ≡ agrees banks t x g
agrees_same banks t x f g hb hx e =
    every_same banks (bank_agrees banks t x f) (bank_agrees banks t x g)
    (λ b lb. every_same 6 (λ c. eqb (f (slot x c b)) (due_count banks t c b)) (λ c. eqb (g (slot x c b)) (due_count banks t c b))
    (λ c lc. ap (λ (k : ℕ). eqb k (due_count banks t c b)) (e (slot x c b) (omega (arith, hb, hx, lb, lc)))))

first_same : (p q : ℕ → Bool) (m i : ℕ) → ((x : ℕ) → x < m → p x ≡ q x) → FirstAt p m i → FirstAt q m i
first_same p q m i e f =
    record {
      within = f.within;
      none_before = λ j h. sym (e j (omega (arith, h, f.within))) ∙ f.none_before j h;
      there = λ h. sym (e i h) ∙ f.there h;
    }

-- ---- the list

module _ {τ : Table} {bs : List ℕ} {n : ℕ} (li : Listed τ bs n) where
  pub most : τ.banks ≤ 16
  most = (ranges τ li.table).banks.most

  pub few : n ≤ 256
  few = few_listed li

  -- ---- the records

  module _ (s : List ℕ) (legal : Legal τ (commands_in s)) where
    -- a record's kind and bank
    module _ {j : ℕ} (lt : j < length s / 8) where
      abbrev r : Command
      r = command_at s (8 * j)

      lawful_now : Lawful τ (command_at s (8 * j)) (seen s j)
      lawful_now = lawful_at τ s legal j lt

      kind_code_lem : kind_code r.kind < 6
      kind_code_lem = known_code r.kind (in_known τ r.kind r.bank (lawful_in τ r (seen s j) lawful_now))

      byte_kind : get_or s (8 * j + 4) 0 ≡ kind_code r.kind
      byte_kind = byte_code (get_or s (8 * j + 4) 0) kind_code_lem

      pub kind_small : get_or s (8 * j + 4) 0 < 6
      kind_small = omega (arith, byte_kind, kind_code_lem)

      pub bank_small : get_or s (8 * j + 5) 0 < 16
      bank_small = omega (arith, in_bank τ r.kind r.bank (lawful_in τ r (seen s j) lawful_now), most)

      module _ {counts acts last refs : List ℕ} {m : Marks} {outside : Bool} (q : Noted τ.banks n (listed_at bs) (seen s j) counts acts last refs m outside) where
        -- a count is no more than the records so far
        pub counted_few : (i : ℕ) → i < 24576 → get_or counts i 0 ≤ j
        counted_few i h = omega (arith, q.counted i h, count_le (seen s j) i, seen_length s j)
          where
            count_le : (h : List Command) (i : ℕ) → slot_count n h i ≤ length h
            count_le [] i = omega arith
            count_le (c ∷ h) i = up (inside n c && eqb (slot c.number (kind_code c.kind) c.bank) i) (count_le h i)
              where
                up : (b : Bool) → slot_count n h i ≤ length h → add_if b (slot_count n h i) ≤ suc (length h)
                up true q = omega (arith, q)
                up false q = omega (arith, q)

        module _ {c : ℕ} (ec : c ≡ get_or s (8 * j + 4) 0) {y : ℕ} (ey : y ≡ num s (8 * j + 6)) {v : ℕ}
            (ev : v ≡ pick (eqb c 0) y (get_or acts (get_or s (8 * j + 5) 0) 0)) where
          code : c ≡ kind_code r.kind
          code = ec ∙ byte_kind

          pub turn_out : n ≤ y → Noted τ.banks n (listed_at bs) (seen s (j + 1)) counts (set acts (get_or s (8 * j + 5) 0) v) last refs m true
          turn_out o =
              rw (seen_more s j, ev, code, ey)
              (noted_out τ.banks n (listed_at bs) τ few r (seen s j) lawful_now bank_small counts acts last refs m outside q (omega (arith, o, ey)))

          pub turn_in : y < n → {i : ℕ} → i ≡ slot y c (get_or s (8 * j + 5) 0) → i < 24576 → {x : Transaction} → x ≡ listed_at bs y → {m' : Marks}
              → m' ≡ marks_after τ.banks x c (get_or s (8 * j + 5) 0) y (get_or acts (get_or s (8 * j + 5) 0) 0) m → {u : ℕ} → u ≡ pick (eqb c 5)
              (min j (get_or refs y 0)) (get_or refs y 0)
              → Noted τ.banks n (listed_at bs) (seen s (j + 1)) (set counts i (get_or counts i 0 + 1)) (set acts (get_or s (8 * j + 5) 0) v) (set last y j)
              (set refs y u) m' outside
          turn_in l {i} ei hi ex em eu =
              rw (seen_more s j, em, eu, ev, ex, code, ey)
              (noted_in τ.banks n (listed_at bs) τ few r (seen s j) lawful_now bank_small counts acts last refs m outside q (omega (arith, l, ey)) j
              (sym (seen_length s j)) i
              (ei ∙ (ap (λ (k : ℕ). slot y k r.bank) code ∙ ap (λ (k : ℕ). slot k (kind_code r.kind) r.bank) ey)) hi)

    -- at the end
    abbrev M : ℕ
    M = length s / 8

    module _ {j : ℕ} (ej : j ≡ length s / 8) {counts acts last refs : List ℕ} {m : Marks} {outside : Bool}
        (q' : Noted τ.banks n (listed_at bs) (seen s j) counts acts last refs m outside) where
      q : Noted τ.banks n (listed_at bs) (seen s M) counts acts last refs m outside
      q = subst (λ (k : ℕ). Noted τ.banks n (listed_at bs) (seen s k) counts acts last refs m outside) ej q'

      least_is : m.least ≡ least_by n (faulty τ.banks n (listed_at bs)) (seen s M)
      least_is = ap (λ (y : Marks). y.least) q.marked

      pub least_small : m.least ≤ n
      least_small = omega (arith, least_is, least_le n (faulty τ.banks n (listed_at bs)) (seen s M))

      same_wrong : (x : ℕ) → x < n
          → wrong_by τ.banks (listed_at bs) (number_at refs) (number_at last) (number_at counts) x ≡ wrong τ.banks n (listed_at bs) (seen s M) x
      same_wrong x l =
          ap (λ (k : ℕ). ltb k (most_below (number_at last) x) || not (agrees τ.banks (listed_at bs x) x (number_at counts))) (q.first_refs x l)
          ∙ (ap (λ (k : ℕ). ltb (ref_of x (seen s M)) k || not (agrees τ.banks (listed_at bs x) x (number_at counts)))
          (most_same (number_at last) (λ y. last_of y (seen s M)) x (λ y h. q.lasts y (omega (arith, h, l))))
          ∙ ap (λ (k : Bool). ltb (ref_of x (seen s M)) (most_below (λ y. last_of y (seen s M)) x) || not k)
          (agrees_same τ.banks (listed_at bs x) x (number_at counts) (slot_count n (seen s M)) most (omega (arith, l, few)) q.counted))

      pub pass_end : {i : ℕ} → FirstAt (wrong_by τ.banks (listed_at bs) (number_at refs) (number_at last) (number_at counts)) m.least i
          → Finds τ.banks n (listed_at bs) (seen s M) i outside
      pass_end {i} f =
          record {
            first = subst (λ (k : ℕ). FirstAt (wrong τ.banks n (listed_at bs) (seen s M)) k i) least_is
                (first_same (wrong_by τ.banks (listed_at bs) (number_at refs) (number_at last) (number_at counts)) (wrong τ.banks n (listed_at bs) (seen s M))
                m.least i (λ x l. same_wrong x (omega (arith, l, least_small))) f);
            others = q.others;
          }

    -- what is found is the answer
    pub finds_say : length s / 8 ≤ 69632 → {i : ℕ} {o : Bool} → Finds τ.banks n (listed_at bs) (seen s M) i o
        → Says τ (later_from bs n 0) (commands_in s) (answer_of n i o)
    finds_say short {i} {o} f =
        subst (λ (k : ℕ). Says τ l (commands_in s) (answer_of k i o)) size
        (subst (λ (z : Bool). Says τ l (commands_in s) (answer_of (length l) i z)) (sym g.others)
        (says τ most l (first_fits li n (omega arith)) (listed_at bs) at_is (commands_in s) legal (omega (arith, short, from_length s M 0)) i g.first))
      where
        l : List Transaction
        l = later_from bs n 0

        size : length (later_from bs n 0) ≡ n
        size = length_from bs n 0

        at_is : (y : ℕ) → y < length (later_from bs n 0) → get_elem? (later_from bs n 0) y ≡ some (listed_at bs y)
        at_is y h = let z : 0 + 8 * y ≡ 8 * y = omega arith in nth_later bs n 0 y (omega (arith, h, size)) ∙ ap (λ (k : ℕ). some (later_at bs k)) z

        g : Finds τ.banks (length (later_from bs n 0)) (listed_at bs) (onto (commands_in s) []) i o
        g =
            subst (λ (h : List Command). Finds τ.banks (length (later_from bs n 0)) (listed_at bs) h i o) (seen_onto s M)
            (subst (λ (k : ℕ). Finds τ.banks k (listed_at bs) (seen s M) i o) (sym size) f)
