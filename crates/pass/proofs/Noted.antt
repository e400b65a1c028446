-- What the pass keeps sums up the records: a turn of it.
-- Assumes nothing.
use Prim.Native.Nat.{ℕ, ◌+◌, ◌≤◌, ◌<◌, min, max}
use native.Mathlib.Omega.{arith}
use mathlib.Core.Path.{◌≡◌, refl, sym, ap, ◌∙◌}
use mathlib.Core.Logic.{◌≢◌, ⊎_elim}
use mathlib.Core.Bool.{Bool, true, false, not, ◌&&◌, ◌||◌}
use mathlib.Core.Option.{Option, some}
use mathlib.Core.List.{List, [], ◌∷◌}
use lib.Dec.{ltb, eqb}
use lib.ListN.{length, get_or, set, replicate, length-set, length-replicate, get_or-replicate}
use lib.Seq.{get_or-set_same, get_or-set_other}
use borrow.Author.Tests.{lt-ltb, le-ltb, eq-eqb, ne_eqb}
use Rattle.records.specs.declared.table.Table.{Table}
use Rattle.records.specs.declared.transaction.Transaction.{Transaction}
use Rattle.records.specs.declared.command.Kind.{Kind}
use Rattle.records.specs.declared.command.Kind.TheVariants.{Act, Rd, Rda, Wr, Wra, Ref, Other}
use Rattle.records.specs.declared.command.Command.{Command}
use Rattle.records.specs.Tests.{pick, within}
use Rattle.rules.specs.Kinds.{is_act, is_ref, is_data, is_known}
use Rattle.rules.specs.State.{add_if}
use Rattle.rules.proofs.laws.TestLaws.{true_false}
use Rattle.rules.proofs.laws.Numbers.{same?}
use Rattle.rules.proofs.history.Judged.{in_known}
use Rattle.faults.specs.declared.turn.Marks.{Marks}
use Rattle.serves.specs.Serves.{kind_code, latest_act}
use Rattle.serves.specs.Check.{slot, last_of, ref_of, another, high_of, slot_count, any_outside, least_by, due_of, key_in, top_of, faulty, faulty_by}
use Rattle.faults.specs.Turn.{marks_after}
use Rattle.serves.proofs.Tests.{same_some, none_some}
use Rattle.serves.proofs.Opened.{Lawful, lawful_in, opened}

-- ---- the kinds by their numbers

act_code : (k : Kind) → is_known k ≡ true → is_act k ≡ eqb (kind_code k) 0
act_code Act e = refl
act_code Rd e = refl
act_code Rda e = refl
act_code Wr e = refl
act_code Wra e = refl
act_code Ref e = refl
act_code (Other n) e = true_false false e refl

ref_code : (k : Kind) → is_known k ≡ true → is_ref k ≡ eqb (kind_code k) 5
ref_code Act e = refl
ref_code Rd e = refl
ref_code Rda e = refl
ref_code Wr e = refl
ref_code Wra e = refl
ref_code Ref e = refl
ref_code (Other n) e = true_false false e refl

data_code : (k : Kind) → is_known k ≡ true → is_data k ≡ within 1 4 (kind_code k)
data_code Act e = refl
data_code Rd e = refl
data_code Rda e = refl
data_code Wr e = refl
data_code Wra e = refl
data_code Ref e = refl
data_code (Other n) e = true_false false e refl

-- ---- one number of an array stored

-- what holds of each number below n, of an array with one stored
store : (a : List ℕ) (i v : ℕ) (f : ℕ → ℕ) (n : ℕ) → i < length a → f i ≡ v → ((k : ℕ) → k < n → k ≢ i → get_or a k 0 ≡ f k) → (k : ℕ) → k < n
    → get_or (set a i v) k 0 ≡ f k
store a i v f n h e g k l = ⊎_elim
    (λ z. ap (λ (j : ℕ). get_or (set a i v) j 0) z ∙ (get_or-set_same a i v 0 h ∙ (sym e ∙ ap f (sym z))))
    (λ z. get_or-set_other a i k v 0 z ∙ g k l z) (same? k i)

module _ (banks n : ℕ) (at : ℕ → Transaction) where
  abbrev pub marks_of : List Command → Marks
  marks_of h = record { top = top_of banks n at h; high = high_of n h; least = least_by n (faulty banks n at) h }

  pub record Noted (h : List Command) (counts acts last refs : List ℕ) (marks : Marks) (outside : Bool) : Type 0 where
    pub sizes : (length counts ≡ 24576) × (length acts ≡ 16) × (length last ≡ 256) × (length refs ≡ 256)
    pub counted : (i : ℕ) → i < 24576 → get_or counts i 0 ≡ slot_count n h i
    pub held : (b y : ℕ) → b < 16 → latest_act b h ≡ some y → get_or acts b 0 ≡ y
    pub lasts : (y : ℕ) → y < n → get_or last y 0 ≡ last_of y h
    pub first_refs : (x : ℕ) → x < n → get_or refs x 0 ≡ ref_of x h
    pub marked : marks ≡ marks_of h
    pub others : outside ≡ any_outside n h

  pub noted_start : n ≤ 256 → Noted [] (replicate 24576 0) (replicate 16 0) (replicate 256 0) (replicate 256 69632) (record { top = 0; high = 0; least = n }) false
  noted_start few =
      record {
        sizes = (length-replicate {A = ℕ} 24576 0, length-replicate {A = ℕ} 16 0, length-replicate {A = ℕ} 256 0, length-replicate {A = ℕ} 256 69632);
        counted = λ i h. get_or-replicate {A = ℕ} 24576 i 0 0 h;
        held = λ b y h e. none_some y e;
        lasts = λ y h. get_or-replicate {A = ℕ} 256 y 0 0 (omega (arith, h, few));
        first_refs = λ x h. get_or-replicate {A = ℕ} 256 x 69632 0 (omega (arith, h, few));
        marked = refl;
        others = refl;
      }

  -- the arrays after a record
  abbrev pub acts_after : Command → ℕ → List ℕ → List ℕ
  acts_after r c acts = set acts r.bank (pick (eqb c 0) r.number (get_or acts r.bank 0))

  abbrev pub refs_after : Command → ℕ → ℕ → List ℕ → List ℕ
  refs_after r c place refs = set refs r.number (pick (eqb c 5) (min place (get_or refs r.number 0)) (get_or refs r.number 0))

  module _ (τ : Table) (few : n ≤ 256) (r : Command) (h : List Command) (w : Lawful τ r h) (hb : r.bank < 16) (counts acts last refs : List ℕ) (m : Marks)
      (outside : Bool) (q : Noted h counts acts last refs m outside) where
    abbrev c : ℕ
    c = kind_code r.kind

    abbrev own : ℕ
    own = get_or acts r.bank 0

    known : is_known r.kind ≡ true
    known = in_known τ r.kind r.bank (lawful_in τ r h w)

    sizes' : (length (acts_after r c acts) ≡ 16)
    sizes' = length-set acts r.bank (pick (eqb c 0) r.number own) ∙ q.sizes.1

    held' : (b y : ℕ) → b < 16 → latest_act b (r ∷ h) ≡ some y → get_or (acts_after r c acts) b 0 ≡ y
    held' b y l e = ⊎_elim here there (same? b r.bank)
      where
        here : b ≡ r.bank → get_or (acts_after r c acts) b 0 ≡ y
        here z =
            ap (λ (k : ℕ). get_or (acts_after r c acts) k 0) z
            ∙ (get_or-set_same acts r.bank (pick (eqb c 0) r.number own) 0 (omega (arith, hb, q.sizes.1)) ∙ on (eqb c 0) (act_code r.kind known) now)
          where
            now : pick (is_act r.kind) (some r.number) (latest_act b h) ≡ some y
            now = ap (λ (k : Bool). pick (k && is_act r.kind) (some r.number) (latest_act b h)) (sym (eq-eqb r.bank b (sym z))) ∙ e

            on : (k : Bool) → is_act r.kind ≡ k → pick (is_act r.kind) (some r.number) (latest_act b h) ≡ some y → pick k r.number own ≡ y
            on true f g = same_some (some r.number) r.number y refl (ap (λ (k : Bool). pick k (some r.number) (latest_act b h)) (sym f) ∙ g)
            on false f g = ap (λ (k : ℕ). get_or acts k 0) (sym z) ∙ q.held b y l (ap (λ (k : Bool). pick k (some r.number) (latest_act b h)) (sym f) ∙ g)

        there : b ≢ r.bank → get_or (acts_after r c acts) b 0 ≡ y
        there z =
            get_or-set_other acts r.bank b (pick (eqb c 0) r.number own) 0 z
            ∙ q.held b y l (ap (λ (k : Bool). pick (k && is_act r.kind) (some r.number) (latest_act b h)) (sym (ne_eqb r.bank b (λ k. z (sym k)))) ∙ e)

    -- the counts and the marks, by whether the record is inside the list
    abbrev counts_by : Bool → ℕ → ℕ
    counts_by z i = add_if (z && eqb (slot r.number c r.bank) i) (slot_count n h i)

    abbrev marks_by : Bool → Marks
    marks_by z =
        record {
          top = pick (z && (is_data r.kind && not (eqb (due_of banks n at r) 0))) (max (key_in banks n at r) (top_of banks n at h)) (top_of banks n at h);
          high = pick z (max (r.number + 1) (high_of n h)) (high_of n h);
          least = pick (z && faulty banks n at r h) (min r.number (least_by n (faulty banks n at) h)) (least_by n (faulty banks n at) h);
        }

    pub noted_out : n ≤ r.number → Noted (r ∷ h) counts (acts_after r c acts) last refs m true
    noted_out o =
        record {
          sizes = (q.sizes.0, sizes', q.sizes.2, q.sizes.3);
          counted = λ i l. q.counted i l ∙ ap (λ (z : Bool). counts_by z i) (sym no);
          held = held';
          lasts = λ y l. q.lasts y l ∙ ap (λ (z : Bool). pick z (length h) (last_of y h)) (sym (other y l));
          first_refs = λ x l. q.first_refs x l ∙ ap (λ (z : Bool). pick (z && is_ref r.kind) (min (length h) (ref_of x h)) (ref_of x h)) (sym (other x l));
          marked = q.marked ∙ ap marks_by (sym no);
          others = ap (λ (z : Bool). not z || any_outside n h) (sym no);
        }
      where
        no : ltb r.number n ≡ false
        no = le-ltb r.number n o

        other : (y : ℕ) → y < n → eqb r.number y ≡ false
        other y l = ne_eqb r.number y (λ e. omega (arith, e, l, o))

    module _ (l : r.number < n) where
      -- a data command's bank has had an ACT, so `own` is its number
      same_fault : faulty_by (due_of banks n at r) c own r.number (key_in banks n at r) (top_of banks n at h) (high_of n h) ≡ faulty banks n at r h
      same_fault =
          on (is_data r.kind) refl (within 1 4 c) (data_code r.kind known)
          ∙ ap (λ (z : Bool). rest (is_data r.kind) (another (latest_act r.bank h) r.number) z) (sym (ref_code r.kind known))
        where
          -- `faulty` by its tests: a data command, opened under another number, a REF
          rest : Bool → Bool → Bool → Bool
          rest d a f = eqb (due_of banks n at r) 0 || ((d && (a || ltb (key_in banks n at r) (top_of banks n at h))) || (f && ltb (r.number + 1) (high_of n h)))

          on : (d : Bool) → is_data r.kind ≡ d → (z : Bool) → is_data r.kind ≡ z
              → rest z (not (eqb own r.number)) (eqb c 5) ≡ rest (is_data r.kind) (another (latest_act r.bank h) r.number) (eqb c 5)
          on true e z e' =
              let o = opened τ r h w e in
              ap (λ (k : Bool). rest k (not (eqb own r.number)) (eqb c 5)) (sym e')
              ∙ ap (λ (k : Bool). rest (is_data r.kind) k (eqb c 5))
              (ap (λ (k : ℕ). not (eqb k r.number)) (q.held r.bank o.0 hb o.1) ∙ sym (ap (λ (k : Option ℕ). another k r.number) o.1))
          on false e z e' =
              ap (λ (k : Bool). rest k (not (eqb own r.number)) (eqb c 5)) (sym e' ∙ e)
              ∙ ap (λ (k : Bool). rest k (another (latest_act r.bank h) r.number) (eqb c 5)) (sym e)

      marked' : marks_after banks (at r.number) c r.bank r.number own m ≡ marks_of (r ∷ h)
      marked' =
          ap (marks_after banks (at r.number) c r.bank r.number own) q.marked
          ∙ (ap (λ (z : Bool). in_by z (faulty_by (due_of banks n at r) c own r.number (key_in banks n at r) (top_of banks n at h) (high_of n h)))
          (sym (data_code r.kind known))
          ∙ (ap (in_by (is_data r.kind)) same_fault ∙ ap marks_by (sym (lt-ltb r.number n l))))
        where
          -- the marks by whether it is a data command, and faulty
          in_by : Bool → Bool → Marks
          in_by d f =
              record {
                top = pick (d && not (eqb (due_of banks n at r) 0)) (max (key_in banks n at r) (top_of banks n at h)) (top_of banks n at h);
                high = max (r.number + 1) (high_of n h);
                least = pick f (min r.number (least_by n (faulty banks n at) h)) (least_by n (faulty banks n at) h);
              }

      pub noted_in : (place : ℕ) → place ≡ length h → (i : ℕ) → i ≡ slot r.number c r.bank → i < 24576
          → Noted (r ∷ h) (set counts i (get_or counts i 0 + 1)) (acts_after r c acts) (set last r.number place) (refs_after r c place refs)
          (marks_after banks (at r.number) c r.bank r.number own m) outside
      noted_in place ep i ei hi =
          record {
            sizes = (
              length-set counts i (get_or counts i 0 + 1) ∙ q.sizes.0,
              sizes',
              length-set last r.number place ∙ q.sizes.2,
              length-set refs r.number (pick (eqb c 5) (min place (get_or refs r.number 0)) (get_or refs r.number 0)) ∙ q.sizes.3,
            );
            counted = store counts i (get_or counts i 0 + 1) (slot_count n (r ∷ h)) 24576 (omega (arith, hi, q.sizes.0)) one_more_lem
                (λ k b z. q.counted k b ∙ (ap (λ (y : Bool). add_if y (slot_count n h k)) (sym (ne_eqb (slot r.number c r.bank) k (λ e. z (sym e ∙ sym ei))))
                ∙ ap (λ (y : Bool). counts_by y k) (sym yes)));
            held = held';
            lasts =
                store last r.number place (λ y. last_of y (r ∷ h)) n (omega (arith, l, few, q.sizes.2))
                (ap (λ (z : Bool). pick z (length h) (last_of r.number h)) (eq-eqb r.number r.number refl) ∙ sym ep)
                (λ y b z. q.lasts y b ∙ ap (λ (k : Bool). pick k (length h) (last_of y h)) (sym (ne_eqb r.number y (λ e. z (sym e)))));
            first_refs =
                store refs r.number (pick (eqb c 5) (min place (get_or refs r.number 0)) (get_or refs r.number 0)) (λ x. ref_of x (r ∷ h)) n
                (omega (arith, l, few, q.sizes.3)) ref_now
                (λ x b z. q.first_refs x b ∙ ap (λ (k : Bool). pick (k && is_ref r.kind) (min (length h) (ref_of x h)) (ref_of x h))
                (sym (ne_eqb r.number x (λ e. z (sym e)))));
            marked = marked';
            others = q.others ∙ ap (λ (z : Bool). not z || any_outside n h) (sym yes);
          }
        where
          yes : ltb r.number n ≡ true
          yes = lt-ltb r.number n l

          one_more_lem : slot_count n (r ∷ h) i ≡ get_or counts i 0 + 1
          one_more_lem =
              ap (λ (y : Bool). counts_by y i) yes
              ∙ (ap (λ (y : Bool). add_if y (slot_count n h i)) (eq-eqb (slot r.number c r.bank) i (sym ei)) ∙ ap (λ (k : ℕ). k + 1) (sym (q.counted i hi)))

          ref_now : ref_of r.number (r ∷ h) ≡ pick (eqb c 5) (min place (get_or refs r.number 0)) (get_or refs r.number 0)
          ref_now =
              ap (λ (z : Bool). pick (z && is_ref r.kind) (min (length h) (ref_of r.number h)) (ref_of r.number h)) (eq-eqb r.number r.number refl)
              ∙ (ap (λ (z : Bool). pick z (min (length h) (ref_of r.number h)) (ref_of r.number h)) (ref_code r.kind known)
              ∙ (ap (λ (k : ℕ). pick (eqb c 5) (min (length h) k) k) (sym (q.first_refs r.number l))
              ∙ ap (λ (k : ℕ). pick (eqb c 5) (min k (get_or refs r.number 0)) (get_or refs r.number 0)) (sym ep)))
