-- Commands that are alike in kind, bank and number; one that is counted in a queue stands there, and one that stands there is counted.
-- Assumes nothing.
use Prim.Native.Nat.{ℕ, zero, suc, ◌+◌, ◌-◌, ◌≤◌, ◌<◌}
use native.Mathlib.Omega.{arith}
use mathlib.Core.Path.{◌≡◌, refl, sym, ap, ◌∙◌}
use mathlib.Core.Bool.{Bool, true, false, ◌&&◌}
use mathlib.Core.Option.{some}
use mathlib.Core.List.{List, [], ◌∷◌}
use lib.Dec.{eqb}
use lib.ListN.{get_elem?}
use borrow.Author.Tests.{eqb-true, eq-eqb, ne_eqb}
use Rattle.records.specs.declared.command.Kind.{Kind}
use Rattle.records.specs.declared.command.Kind.TheVariants.{Act, Rd, Rda, Wr, Wra, Ref, Other}
use Rattle.records.specs.declared.command.Command.{Command}
use Rattle.records.specs.Tests.{pick}
use Rattle.rules.specs.State.{add_if}
use Rattle.rules.specs.Queues.{Due}
use Rattle.rules.proofs.laws.TestLaws.{and_fst, and_snd}
use Rattle.serves.specs.Serves.{kind_code, is_the, records_of, dues_of, Stands}
use Rattle.serves.proofs.Tests.{and_true, and_false, same_some, none_some}

-- ---- a kind by its number

abbrev pub kind_back : ℕ → Kind
kind_back c = pick (eqb c 0) Act (pick (eqb c 1) Rd (pick (eqb c 2) Rda (pick (eqb c 3) Wr (pick (eqb c 4) Wra (pick (eqb c 5) Ref (Other (c - 6)))))))

kind_back_lem : (k : Kind) → kind_back (kind_code k) ≡ k
kind_back_lem Act = refl
kind_back_lem Rd = refl
kind_back_lem Rda = refl
kind_back_lem Wr = refl
kind_back_lem Wra = refl
kind_back_lem Ref = refl
kind_back_lem (Other n) =
    let e : 6 + n - 6 ≡ n = omega arith in
    rw (
      ne_eqb (6 + n) 0 (λ z. omega (arith, z)),
      ne_eqb (6 + n) 1 (λ z. omega (arith, z)),
      ne_eqb (6 + n) 2 (λ z. omega (arith, z)),
      ne_eqb (6 + n) 3 (λ z. omega (arith, z)),
      ne_eqb (6 + n) 4 (λ z. omega (arith, z)),
      ne_eqb (6 + n) 5 (λ z. omega (arith, z)),
      e,
    )

pub code_apart : (k k' : Kind) → kind_code k ≡ kind_code k' → k ≡ k'
code_apart k k' e = sym (kind_back_lem k) ∙ (ap kind_back e ∙ kind_back_lem k')

pub code_back : (c : ℕ) → c < 6 → kind_code (kind_back c) ≡ c
code_back zero h = refl
code_back (suc zero) h = refl
code_back (suc (suc zero)) h = refl
code_back (suc (suc (suc zero))) h = refl
code_back (suc (suc (suc (suc zero)))) h = refl
code_back (suc (suc (suc (suc (suc zero))))) h = refl
code_back (suc (suc (suc (suc (suc (suc c)))))) h = absurd (omega arith)

-- ---- one command against another

pub the_at : (k : Kind) (b x : ℕ) (k' : Kind) (b' x' : ℕ) → b ≡ b' → x ≡ x' → is_the k b x k' b' x' ≡ eqb (kind_code k) (kind_code k')
the_at k b x k' b' x' e e' = rw (eq-eqb b b' e, eq-eqb x x' e') (and_true (eqb (kind_code k) (kind_code k')))

pub the_bank : (k : Kind) (b x : ℕ) (k' : Kind) (b' x' : ℕ) → (b ≡ b' → ⊥) → is_the k b x k' b' x' ≡ false
the_bank k b x k' b' x' f = rw (ne_eqb b b' f) (and_false (eqb (kind_code k) (kind_code k')))

pub the_number : (k : Kind) (b x : ℕ) (k' : Kind) (b' x' : ℕ) → (x ≡ x' → ⊥) → is_the k b x k' b' x' ≡ false
the_number k b x k' b' x' f = rw (ne_eqb x x' f, and_false (eqb b b')) (and_false (eqb (kind_code k) (kind_code k')))

pub record Alike (k : Kind) (b x : ℕ) (k' : Kind) (b' x' : ℕ) : Type 0 where
  pub kind : k ≡ k'
  pub bank : b ≡ b'
  pub number : x ≡ x'

pub alike_of : (k : Kind) (b x : ℕ) (k' : Kind) (b' x' : ℕ) → is_the k b x k' b' x' ≡ true → Alike k b x k' b' x'
alike_of k b x k' b' x' e =
    let q = and_snd (eqb (kind_code k) (kind_code k')) (eqb b b' && eqb x x') e in
    record {
      kind = code_apart k k' (eqb-true (kind_code k) (kind_code k') (and_fst (eqb (kind_code k) (kind_code k')) (eqb b b' && eqb x x') e));
      bank = eqb-true b b' (and_fst (eqb b b') (eqb x x') q);
      number = eqb-true x x' (and_snd (eqb b b') (eqb x x') q);
    }

pub of_alike : (k : Kind) (b x : ℕ) (k' : Kind) (b' x' : ℕ) → k ≡ k' → b ≡ b' → x ≡ x' → is_the k b x k' b' x' ≡ true
of_alike k b x k' b' x' p q r = rw (eq-eqb (kind_code k) (kind_code k') (ap kind_code p), eq-eqb b b' q, eq-eqb x x' r)

-- ---- counted and standing, in a queue

pub record Found (k : Kind) (b y : ℕ) (q : List Due) : Type 0 where
  pub place : ℕ
  pub due : Due
  pub there : get_elem? q place ≡ some due
  pub alike : Alike due.kind due.bank due.number k b y

pub dues_found : (k : Kind) (b y : ℕ) (q : List Due) → 1 ≤ dues_of k b y q → Found k b y q
dues_found k b y [] h = absurd (omega arith)
dues_found k b y (d ∷ q) h = on (is_the d.kind d.bank d.number k b y) refl h (dues_found k b y q)
  where
    on : (e : Bool) → is_the d.kind d.bank d.number k b y ≡ e → 1 ≤ add_if e (dues_of k b y q) → (1 ≤ dues_of k b y q → Found k b y q) → Found k b y (d ∷ q)
    on true e h ih = record { place = 0; due = d; there = refl; alike = alike_of d.kind d.bank d.number k b y e }
    on false e h ih = let f = ih h in record { place = suc f.place; due = f.due; there = f.there; alike = f.alike }

pub found_dues : (k : Kind) (b y : ℕ) (q : List Due) (i : ℕ) (d : Due) → get_elem? q i ≡ some d → d.kind ≡ k → d.bank ≡ b → d.number ≡ y → 1 ≤ dues_of k b y q
found_dues k b y [] i d e p r s = none_some d e
found_dues k b y (w ∷ q) zero d e p r s =
    let h : w ≡ d = same_some (some w) w d refl e in
    rw (of_alike w.kind w.bank w.number k b y (ap (λ (z : Due). z.kind) h ∙ p) (ap (λ (z : Due). z.bank) h ∙ r) (ap (λ (z : Due). z.number) h ∙ s))
    (omega arith)
found_dues k b y (w ∷ q) (suc i) d e p r s = up (is_the w.kind w.bank w.number k b y) (found_dues k b y q i d e p r s)
  where
    up : (z : Bool) → 1 ≤ dues_of k b y q → 1 ≤ add_if z (dues_of k b y q)
    up true h = omega arith
    up false h = h

-- ---- and in a schedule

pub record Recorded (k : Kind) (b y : ℕ) (rs : List Command) : Type 0 where
  pub place : ℕ
  pub one : Command
  pub stands : Stands rs place one
  pub alike : Alike one.kind one.bank one.number k b y

pub records_found_lem : (k : Kind) (b y : ℕ) (rs : List Command) → 1 ≤ records_of k b y rs → Recorded k b y rs
records_found_lem k b y [] h = absurd (omega arith)
records_found_lem k b y (r ∷ rs) h = on (is_the r.kind r.bank r.number k b y) refl h (records_found_lem k b y rs)
  where
    on : (e : Bool) → is_the r.kind r.bank r.number k b y ≡ e → 1 ≤ add_if e (records_of k b y rs) → (1 ≤ records_of k b y rs → Recorded k b y rs)
        → Recorded k b y (r ∷ rs)
    on true e h ih = record { place = 0; one = r; stands = refl; alike = alike_of r.kind r.bank r.number k b y e }
    on false e h ih = let f = ih h in record { place = suc f.place; one = f.one; stands = f.stands; alike = f.alike }
