-- The counts agree with what is due exactly when each command of the transaction occurs as often as it is due.
-- Assumes nothing.
use Prim.Native.Nat.{ℕ, ◌+◌, ◌≤◌, ◌<◌}
use native.Mathlib.Omega.{arith}
use mathlib.Core.Path.{◌≡◌, refl, sym, ap, ◌∙◌}
use mathlib.Core.Logic.{◌≢◌, ◌⊎◌, inl, inr, ⊎_elim}
use mathlib.Core.Bool.{Bool, true, false, ◌&&◌}
use mathlib.Core.Option.{some}
use mathlib.Core.List.{List, [], ◌∷◌}
use lib.Dec.{ltb, eqb}
use lib.ListN.{length, get_elem?}
use borrow.Author.Tests.{eqb-true, eqb-false, lt-ltb, eq-eqb, ne_eqb}
use Rattle.records.specs.declared.table.Table.{Table}
use Rattle.records.specs.declared.transaction.Transaction.{Transaction}
use Rattle.records.specs.declared.command.Kind.{Kind}
use Rattle.records.specs.declared.command.Kind.TheVariants.{Act, Rd, Rda, Wr, Wra, Ref, Other}
use Rattle.records.specs.declared.command.Command.{Command}
use Rattle.records.specs.Tests.{pick}
use Rattle.records.specs.Transaction.{is_write, is_refresh}
use Rattle.rules.specs.Kinds.{is_known}
use Rattle.rules.specs.State.{add_if}
use Rattle.rules.specs.Pattern.{onto}
use Rattle.rules.proofs.laws.TestLaws.{true_false}
use Rattle.rules.proofs.laws.Numbers.{same?, from?}
use Rattle.rules.proofs.laws.Below.{below_each}
use Rattle.rules.proofs.history.Judged.{LegalHistory, holds, in_known, in_bank}
use Rattle.rules.proofs.queues.Fit.{AllFit}
use Rattle.serves.specs.Serves.{kind_code, is_the, records_of, due_under}
use Rattle.serves.specs.Check.{index_of, per_bank, due_count, slot, slot_count, bank_agrees, agrees}
use Rattle.serves.proofs.Tests.{and_false, FailsAt, below_fails}
use Rattle.serves.proofs.Alike.{kind_back, code_back, the_at, the_bank, the_number}
use Rattle.serves.proofs.DueCount.{due_count_lem, due_within}
use Rattle.serves.proofs.Entries.{fit_at}

pub known_code : (k : Kind) → is_known k ≡ true → kind_code k < 6
known_code Act e = omega arith
known_code Rd e = omega arith
known_code Rda e = omega arith
known_code Wr e = omega arith
known_code Wra e = omega arith
known_code Ref e = omega arith
known_code (Other n) e = true_false false e refl

-- nothing of another kind is due
per_none : (w : Bool) (bc c : ℕ) → 6 ≤ c → per_bank w bc c ≡ 0
per_none true bc c h = rw (ne_eqb c 0 (λ z. omega (arith, z, h)), ne_eqb c 3 (λ z. omega (arith, z, h)), ne_eqb c 4 (λ z. omega (arith, z, h)))
per_none false bc c h = rw (ne_eqb c 0 (λ z. omega (arith, z, h)), ne_eqb c 1 (λ z. omega (arith, z, h)), ne_eqb c 2 (λ z. omega (arith, z, h)))

due_none : (banks : ℕ) (x : Transaction) (c b : ℕ) → 6 ≤ c → due_count banks x c b ≡ 0
due_none banks x c b h = on (is_refresh x) (ltb (index_of banks x.start b) x.bi)
  where
    on : (z u : Bool) → pick z (pick (eqb c 5 && eqb b 0) 1 0) (pick u (per_bank (is_write x) x.bc c) 0) ≡ 0
    on true u = rw (ne_eqb c 5 (λ z. omega (arith, z, h)))
    on false true = per_none (is_write x) x.bc c h
    on false false = refl

-- ---- records by kind, bank and number, and by their place among counts

turn : (e : Bool) (m n : ℕ) → m + add_if e n ≡ add_if e m + n
turn true m n = omega arith
turn false m n = refl

records_onto : (k : Kind) (b x : ℕ) (a h : List Command) → records_of k b x (onto a h) ≡ records_of k b x a + records_of k b x h
records_onto k b x [] h = omega arith
records_onto k b x (r ∷ a) h = records_onto k b x a (r ∷ h) ∙ turn (is_the r.kind r.bank r.number k b x) (records_of k b x a) (records_of k b x h)

pub records_turn : (k : Kind) (b x : ℕ) (rs : List Command) → records_of k b x (onto rs []) ≡ records_of k b x rs
records_turn k b x rs = records_onto k b x rs [] ∙ omega arith

-- of a record in the table
same_slot : (n : ℕ) (r : Command) (k : Kind) (b x : ℕ) → kind_code r.kind < 6 → r.bank < 16 → kind_code k < 6 → b < 16 → x < n
    → (ltb r.number n && eqb (slot r.number (kind_code r.kind) r.bank) (slot x (kind_code k) b)) ≡ is_the r.kind r.bank r.number k b x
same_slot n r k b x hk hb hk' hb' hx = on (same? r.number x) (same? r.bank b)
  where
    R : Type 0
    R = (ltb r.number n && eqb (slot r.number (kind_code r.kind) r.bank) (slot x (kind_code k) b)) ≡ is_the r.kind r.bank r.number k b x

    apart : (slot r.number (kind_code r.kind) r.bank ≡ slot x (kind_code k) b → ⊥) → is_the r.kind r.bank r.number k b x ≡ false → R
    apart f e = rw (ne_eqb (slot r.number (kind_code r.kind) r.bank) (slot x (kind_code k) b) f, e) (and_false (ltb r.number n))

    kinds : r.number ≡ x → r.bank ≡ b → ((kind_code r.kind ≡ kind_code k) ⊎ (kind_code r.kind ≢ kind_code k)) → R
    kinds e e' (inl z) =
        rw (lt-ltb r.number n (omega (arith, e, hx)), eq-eqb (slot r.number (kind_code r.kind) r.bank) (slot x (kind_code k) b) (omega (arith, e, e', z)))
        (sym (the_at r.kind r.bank r.number k b x e' e ∙ eq-eqb (kind_code r.kind) (kind_code k) z))
    kinds e e' (inr z) =
        apart (λ q. z (omega (arith, q, e, e'))) (the_at r.kind r.bank r.number k b x e' e ∙ ne_eqb (kind_code r.kind) (kind_code k) z)

    on : ((r.number ≡ x) ⊎ (r.number ≢ x)) → ((r.bank ≡ b) ⊎ (r.bank ≢ b)) → R
    on (inl e) (inl e') = kinds e e' (same? (kind_code r.kind) (kind_code k))
    on (inl e) (inr e') = apart (λ q. e' (omega (arith, q, e, hb, hb', hk, hk'))) (the_bank r.kind r.bank r.number k b x e')
    on (inr e) y = apart (λ q. e (omega (arith, q, hb, hb', hk, hk'))) (the_number r.kind r.bank r.number k b x e)

slot_records : (τ : Table) → τ.banks ≤ 16 → (n : ℕ) (k : Kind) (b x : ℕ) → kind_code k < 6 → b < 16 → x < n → (h : List Command) → LegalHistory τ h
    → slot_count n h (slot x (kind_code k) b) ≡ records_of k b x h
slot_records τ most n k b x hk hb hx [] q = refl
slot_records τ most n k b x hk hb hx (r ∷ h) q =
    let i = holds τ r h q.0 0 in
    ap (λ (e : Bool). add_if e (slot_count n h (slot x (kind_code k) b)))
    (same_slot n r k b x (known_code r.kind (in_known τ r.kind r.bank i)) (omega (arith, in_bank τ r.kind r.bank i, most)) hk hb hx)
    ∙ ap (add_if (is_the r.kind r.bank r.number k b x)) (slot_records τ most n k b x hk hb hx h q.1)

-- ---- the law

-- a command occurs, but not as often as it is due
pub record Miscounted (τ : Table) (l : List Transaction) (rs : List Command) (x : ℕ) : Type 0 where
  pub kind : Kind
  pub bank : ℕ
  pub unlike : records_of kind bank x rs ≢ due_under τ l x kind bank

module _ (τ : Table) (most : τ.banks ≤ 16) (l : List Transaction) (v : AllFit τ l) (at : ℕ → Transaction)
    (at_is : (y : ℕ) → y < length l → get_elem? l y ≡ some (at y)) (rs : List Command) (lawful : LegalHistory τ (onto rs [])) (x : ℕ) (lt : x < length l) where
  abbrev count : ℕ → ℕ
  count = slot_count (length l) (onto rs [])

  slot_of : (k : Kind) (b : ℕ) → kind_code k < 6 → b < 16 → slot_count (length l) (onto rs []) (slot x (kind_code k) b) ≡ records_of k b x rs
  slot_of k b hk hb = slot_records τ most (length l) k b x hk hb lt (onto rs []) lawful ∙ records_turn k b x rs

  due_is : (k : Kind) (b : ℕ) → b < τ.banks → due_under τ l x k b ≡ due_count τ.banks (at x) (kind_code k) b
  due_is k b hb = due_count_lem τ l x (at x) (fit_at τ l v x (at x) (at_is x lt)) (at_is x lt) k b hb

  pub agrees_once : agrees τ.banks (at x) x (slot_count (length l) (onto rs [])) ≡ true → (k : Kind) (b : ℕ) → 1 ≤ due_under τ l x k b
      → records_of k b x rs ≡ due_under τ l x k b
  agrees_once e k b d =
      sym (slot_of k b hc (omega (arith, hb, most)))
      ∙ (eqb-true (count (slot x (kind_code k) b)) (due_count τ.banks (at x) (kind_code k) b) same ∙ sym (due_is k b hb))
    where
      hb : b < τ.banks
      hb = due_within τ l x (at x) (fit_at τ l v x (at x) (at_is x lt)) (at_is x lt) k b d

      hc : kind_code k < 6
      hc = ⊎_elim (λ z. z) (λ z. absurd (omega (arith, d, due_is k b hb, due_none τ.banks (at x) (kind_code k) b (omega (arith, z.1))))) (from? (kind_code k) 6)

      same : eqb (count (slot x (kind_code k) b)) (due_count τ.banks (at x) (kind_code k) b) ≡ true
      same =
          below_each 6 (λ c. eqb (count (slot x c b)) (due_count τ.banks (at x) c b))
          (below_each τ.banks (bank_agrees τ.banks (at x) x count) e b hb) (kind_code k) hc

  pub agrees_not : agrees τ.banks (at x) x (slot_count (length l) (onto rs [])) ≡ false → Miscounted τ l rs x
  agrees_not e = record { kind = kind_back c; bank = b; unlike = λ z. eqb-false (count (slot x c b)) (due_count τ.banks (at x) c b) q.fails (there z) }
    where
      p : FailsAt (bank_agrees τ.banks (at x) x count) τ.banks
      p = below_fails τ.banks (bank_agrees τ.banks (at x) x count) e

      b : ℕ
      b = p.at

      q : FailsAt (λ c. eqb (count (slot x c b)) (due_count τ.banks (at x) c b)) 6
      q = below_fails 6 (λ c. eqb (count (slot x c b)) (due_count τ.banks (at x) c b)) p.fails

      c : ℕ
      c = q.at

      back : kind_code (kind_back c) ≡ c
      back = code_back c q.below

      there : records_of (kind_back c) b x rs ≡ due_under τ l x (kind_back c) b → count (slot x c b) ≡ due_count τ.banks (at x) c b
      there z =
          ap (λ (i : ℕ). count (slot x i b)) (sym back)
          ∙ (slot_of (kind_back c) b (omega (arith, back, q.below)) (omega (arith, p.below, most))
          ∙ (z ∙ (due_is (kind_back c) b p.below ∙ ap (λ (i : ℕ). due_count τ.banks (at x) i b) back)))
