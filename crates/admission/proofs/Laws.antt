-- What the calls below ask for, of a table that is admitted and a list that is checked.
-- Assumes nothing.
use Rattle.std.specs.Prelude.{Result, Ok, Err}
use Prim.Native.Nat.{ℕ, ◌*◌, ◌/◌, ◌≤◌, ◌<◌}
use mathlib.Core.Bool.{Bool, true, false, not}
use mathlib.Core.Path.{◌≡◌, refl, sym, ap, ◌∙◌, subst}
use mathlib.Core.List.{List, [], ◌∷◌}
use native.Mathlib.Omega.{arith}
use lib.Dec.{eqb}
use lib.ListN.{length, take}
use borrow.Author.Tests.{not-false, eqb-true, eq-eqb, ne_eqb, le-leb, lt-leb}
use Rattle.records.specs.declared.table.Table.{Table}
use Rattle.records.specs.declared.transaction.Transaction.{Transaction}
use Rattle.records.specs.declared.refusal.Refusal.{Refusal}
use Rattle.records.specs.Tests.{pick}
use Rattle.records.specs.Told.{refusal}
use Rattle.records.specs.Table.{table_at, in_range, table_size, table_refusal, read_table, Accepted}
use Rattle.records.specs.Transaction.{transactions_in, later_in, record_count, list_of, list_fits}
use Rattle.records.proofs.Laws.{passes, read_was}
use Rattle.rules.specs.State.{Held}
use Rattle.rules.proofs.laws.Ranges.{ranges, held}
use Rattle.heads.specs.Queue.{Listed}
use Rattle.lists.specs.Check.{check_bytes}
use Rattle.lists.proofs.Checks.{fine_sized, into_256, into_list, fine_fits}
use Rattle.lists.specs.Packed.{packed, held as holding}
use Rattle.lists.proofs.Packing.{length_packed, lent_held, widened}
use Rattle.admission.specs.declared.admit.WayIn.{WayIn}
use Rattle.admission.specs.Admit.{expects, expecting, admitted, no_way, by_length, way_in}

-- ---- the table

-- a table that is read is accepted
accepted_read : (s : List ℕ) (τ : Table) → read_table s ≡ Ok τ → Accepted τ
unfolding read_table
accepted_read s τ r =
    let w = read_was table_refusal table_at Ok (λ n. Err (refusal n 0 0)) s τ (λ n k. let y : ◌≡◌ {A = ℕ} 0 1 = cc in omega arith) r in
    let e : table_at s ≡ τ = let k = w.1 in cc in
    subst (λ (t : Table). Accepted t) e (taken (length s) (table_at s) w.0)
  where
    taken : (size : ℕ) (t : Table) → table_refusal size t ≡ 0 → Accepted t
    taken size t z =
        let p = passes 1 (not (table_size size)) ((2, not (in_range t)) ∷ []) (λ k. omega arith) z in
        let q = passes 2 (not (in_range t)) [] (λ k. omega arith) p.1 in
        not-false (in_range t) q.0

-- a table that is admitted is read, and is of the expected edition
pub expected_read : (e : ℕ) (s : List ℕ) (τ : Table) → admitted e s ≡ Ok τ → (read_table s ≡ Ok τ) × (τ.edition ≡ e)
unfolding admitted
expected_read e s τ h = on (read_table s) h
  where
    one : (t : Table) (b : Bool) → eqb t.edition e ≡ b → pick b (Ok t) (Err (refusal 10 t.edition t.edition)) ≡ Ok τ → (◌≡◌ {A = Result Table Refusal} (Ok t) (Ok τ)) × (τ.edition ≡ e)
    one t true q h = let k : t ≡ τ = cc in (h, ap (λ (z : Table). z.edition) (sym k) ∙ eqb-true t.edition e q)
    one t false q h = let z : ◌≡◌ {A = ℕ} 0 1 = cc in absurd (omega arith)

    on : (a : Result Table Refusal) → expecting e a ≡ Ok τ → (a ≡ Ok τ) × (τ.edition ≡ e)
    on (Ok t) h = one t (eqb t.edition e) refl h
    on (Err x) h = let z : ◌≡◌ {A = ℕ} 0 1 = cc in absurd (omega arith)

pub read_accepted : (e : ℕ) (s : List ℕ) (τ : Table) → admitted e s ≡ Ok τ → Accepted τ
read_accepted e s τ r = accepted_read s τ (expected_read e s τ r).0

-- a table of the expected edition, and of another
pub expects_same : (e : ℕ) (t : Table) → t.edition ≡ e → Ok t ≡ expects e t
expects_same e t k = rw (eq-eqb t.edition e k) refl

pub expects_other : (e : ℕ) (t : Table) (x : Refusal) → (t.edition ≡ e → ⊥) → x ≡ refusal 10 t.edition t.edition → Err x ≡ expects e t
expects_other e t x k r = rw (ne_eqb t.edition e k, r) refl

-- by what `read_table` answered: a, of the table's bytes s
pub admit_read : (e : ℕ) (s : List ℕ) (a : Result Table Refusal) (t : Table) (r : Result Table Refusal) → a ≡ read_table s → a ≡ Ok t → r ≡ expects e t → r ≡ admitted e s
unfolding admitted
admit_read e s a t r q k h = h ∙ ap (expecting e) (sym k ∙ q)

pub admit_refused : (e : ℕ) (s : List ℕ) (a : Result Table Refusal) (x : Refusal) → a ≡ read_table s → a ≡ Err x → Err x ≡ admitted e s
unfolding admitted
admit_refused e s a x q k = ap (expecting e) (sym k ∙ q)

-- a lent run by its length
pub by_length_few : (n : ℕ) (τ : Table) → n ≤ 256 → record { n = n; table = Ok τ } ≡ by_length n τ
by_length_few n τ h = rw (le-leb n 256 h)

pub by_length_many : (n : ℕ) (τ : Table) (x : Refusal) → 256 < n → x ≡ refusal 3 0 τ.edition → no_way x ≡ by_length n τ
by_length_many n τ x h e = rw (lt-leb n 256 h, e)

-- a is what `admit` answered
pub told_accepted : (w : ℕ) (s : List ℕ) (a : Result Table Refusal) (τ : Table) → a ≡ admitted w s → a ≡ Ok τ → Accepted τ
told_accepted w s a τ e t = read_accepted w s τ (sym e ∙ t)

pub told_held : (w : ℕ) (s : List ℕ) (a : Result Table Refusal) (τ : Table) → a ≡ admitted w s → a ≡ Ok τ → Held τ
told_held w s a τ e t = held τ (ranges τ (told_accepted w s a τ e t))

-- what holds of one answer of `admit` holds of the table's bytes
pub by_admitted : (P : Result Table Refusal → Type 0) (w : ℕ) (s : List ℕ) (a b : Result Table Refusal) → a ≡ admitted w s → a ≡ b → P b → P (admitted w s)
by_admitted P w s a b e t p = subst P (sym t ∙ e) p

-- a lent run of n records, by what `admit` answered
pub way_read : (w : ℕ) (s : List ℕ) (a : Result Table Refusal) → a ≡ admitted w s → (τ : Table) → a ≡ Ok τ → (n : ℕ) (r : WayIn) → r ≡ by_length n τ → r ≡ way_in n (admitted w s)
way_read w s a e τ t n r h = by_admitted (λ (z : Result Table Refusal). r ≡ way_in n z) w s a (Ok τ) e t h

pub way_refused : (w : ℕ) (s : List ℕ) (a : Result Table Refusal) → a ≡ admitted w s → (x : Refusal) → a ≡ Err x → (n : ℕ) → no_way x ≡ way_in n (admitted w s)
way_refused w s a e x t n = by_admitted (λ (z : Result Table Refusal). no_way x ≡ way_in n z) w s a (Err x) e t refl

-- ---- the list

-- the bytes of which the check found nothing to refuse
module _ (τ : Table) (later : Bool) (s : List ℕ) (a : Accepted τ × (check_bytes later τ s ≡ Ok tt)) where
  fine_list : list_fits τ (list_of later s) ≡ true
  fine_list = fine_fits τ (list_of later s) (into_list later τ s 256 (into_256 later τ s ∙ a.1))

  -- of records of 8
  pub fine_listed : later ≡ true → Listed τ s (length s / 8)
  fine_listed t = record { table = a.0; bytes = omega arith; fit = subst (λ (b : Bool). list_fits τ (list_of b s) ≡ true) t fine_list }

  -- and of 4, which are widened
  pub few_plain : later ≡ false → length s / 4 ≤ 256
  few_plain f = subst (λ (b : Bool). record_count b (length s) ≤ 256) f (fine_sized later τ s 256 (into_256 later τ s ∙ a.1)).few

  module _ (f : later ≡ false) (w : List ℕ) (e : w ≡ packed (length s / 4) (transactions_in s)) where
    pub wide_room : 8 * (length s / 4) ≤ length w
    wide_room = omega (arith, few_plain f, ap length e ∙ length_packed (transactions_in s) (length s / 4) (few_plain f))

    pub wide_list : later_in (take (8 * (length s / 4)) w) ≡ list_of later s
    wide_list = lent_held (length s / 4) w wide_room ∙ (ap (holding (length s / 4)) e ∙ (widened s ∙ ap (λ (b : Bool). list_of b s) (sym f)))

    pub wide_listed : Listed τ (take (8 * (length s / 4)) w) (length (take (8 * (length s / 4)) w) / 8)
    wide_listed = record { table = a.0; bytes = omega arith; fit = subst (λ (l : List Transaction). list_fits τ l ≡ true) (sym wide_list) fine_list }

pub by_checked : (P : Result Unit Refusal → Type 0) (τ : Table) (later : Bool) (s : List ℕ) (d b : Result Unit Refusal) → d ≡ check_bytes later τ s → d ≡ b → P b → P (check_bytes later τ s)
by_checked P τ later s d b e t p = subst P (sym t ∙ e) p
