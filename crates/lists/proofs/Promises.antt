-- The promises of `specs/Promise` are kept.
-- Assumes nothing.
use Rattle.std.specs.Prelude.{Result, Ok, Err}
use Prim.Native.Nat.{ℕ, zero, suc, ◌+◌, ◌<◌, ◌≤◌}
use mathlib.Core.Bool.{Bool, true, false}
use mathlib.Core.Path.{◌≡◌, refl, sym, ap, ◌∙◌}
use mathlib.Core.Logic.{◌⊎◌, inl, inr}
use mathlib.Core.List.{List, [], ◌∷◌}
use native.Mathlib.Omega.{arith}
use native.Mathlib.Nat.{add-zero, zero-add}
use lib.Dec.{leb}
use lib.ListN.{length, take, drop}
use lib.Seq.{take_all, take_at, drop_at}
use borrow.Author.Tests.{leb-false}
use Rattle.records.specs.declared.table.Table.{Table}
use Rattle.records.specs.declared.transaction.Transaction.{Transaction}
use Rattle.records.specs.declared.refusal.Refusal.{Refusal}
use Rattle.records.specs.Tests.{pick}
use Rattle.records.specs.Told.{refusal}
use Rattle.records.specs.Transaction.{record_count, list_of, fits_after, list_fits}
use Rattle.records.proofs.Listed.{length_list}
use Rattle.records.proofs.Unique.{one_answer}
use Rattle.lists.specs.Check.{range_from, check_sized, check_list, check_into}
use Rattle.lists.specs.Packed.{held, packed}
use Rattle.lists.specs.Decode.{stored, decoded_by, decoding}
use Rattle.lists.specs.Promise.{kth_in, arrival_before, Lowest, CheckKept, GatherKept, DecodeKept}
use Rattle.lists.proofs.Checks.{Sized, fine_sized, into_list, fine_fits, fits_fine}
use Rattle.lists.proofs.Packing.{length_packed, held_packed, lent_held}
use Rattle.lists.proofs.Storing.{length_stored}

no_case : {A : Type 0} (r : Refusal) → ◌≡◌ {A = Result Unit Refusal} (Err r) (Ok tt) → A
no_case r e = let z : ◌≡◌ {A = ℕ} 0 1 = cc in absurd (omega arith)

-- ---- the lowest

abbrev Found : Table → ℕ → List Transaction → ℕ → Refusal → Type 0
Found τ a l k r = (j : ℕ) × (r ≡ refusal 4 (k + j) τ.edition) × Lowest τ a l j

-- x is in front
before_cons : (a : ℕ) (x : Transaction) (l : List Transaction) (j : ℕ) → arrival_before a (x ∷ l) (suc j) ≡ arrival_before x.arrival l j
before_cons a x l zero = refl
before_cons a x l (suc j) = refl

found : (τ : Table) (a : ℕ) (l : List Transaction) (k : ℕ) (r : Refusal) → range_from τ a l k ≡ Err r → Found τ a l k r
unfolding range_from
found τ a [] k r h = no_case r (sym h)
found τ a (x ∷ l) k r h = on (fits_after a τ x) refl (found τ x.arrival l (k + 1) r) h
  where
    further : fits_after a τ x ≡ true → Found τ x.arrival l (k + 1) r → Found τ a (x ∷ l) k r
    further t (j, e, w) =
        let place : k + 1 + j ≡ k + suc j = omega arith in (
          suc j,
          e ∙ ap (λ (p : ℕ). refusal 4 p τ.edition) place,
          record {
            inside = omega (arith, w.inside);
            out = ap (λ (b : ℕ). fits_after b τ (kth_in l j)) (before_cons a x l j) ∙ w.out;
            lower = below;
          },
        )
      where
        below : (i : ℕ) → i < suc j → fits_after (arrival_before a (x ∷ l) i) τ (kth_in (x ∷ l) i) ≡ true
        below zero h = t
        below (suc i) h = ap (λ (b : ℕ). fits_after b τ (kth_in l i)) (before_cons a x l i) ∙ w.lower i (omega arith)

    on : (b : Bool) → fits_after a τ x ≡ b → (range_from τ x.arrival l (k + 1) ≡ Err r → Found τ x.arrival l (k + 1) r)
        → pick b (range_from τ x.arrival l (k + 1)) (Err (refusal 4 k τ.edition)) ≡ Err r → Found τ a (x ∷ l) k r
    on true t rest h = further t (rest h)
    on false t rest h =
        (0, (cc) ∙ ap (λ (p : ℕ). refusal 4 p τ.edition) (sym (add-zero k)), record { inside = omega arith; out = t; lower = λ i p. absurd (omega arith) })

pub check_kept : (τ : Table) (l : List Transaction) → CheckKept τ l
unfolding check_list
check_kept τ l = record { fine = (fine_fits τ l, fits_fine τ l); refused = λ r h. on (leb (length l) 256) refl r h }
  where
    on : (b : Bool) → leb (length l) 256 ≡ b → (r : Refusal) → check_sized τ b l ≡ Err r
        → ((r ≡ refusal 3 0 τ.edition) × (256 < length l)) ⊎ ((k : ℕ) × (r ≡ refusal 4 k τ.edition) × Lowest τ 0 l k)
    on true t r h = let w = found τ 0 l 0 r h in inr (w.0, w.1 ∙ ap (λ (p : ℕ). refusal 4 p τ.edition) (zero-add w.0), w.2)
    on false t r h = inl ((cc), leb-false (length l) 256 t)

-- ---- a list, gathered

pub gather_kept : (l : List Transaction) (n : ℕ) → GatherKept l n
gather_kept l n = record { gathered = held_packed l n; lent = λ h few. lent_held n (packed n l) (omega (arith, length_packed l n few)) ∙ held_packed l n h }

-- ---- bytes, decoded

module _ (later : Bool) (τ : Table) (s : List ℕ) (l : List Transaction) where
  abbrev xs : List Transaction
  xs = list_of later s

  abbrev count : ℕ
  count = record_count later (length s)

  abbrev AsDone : ℕ → ℕ → List Transaction → Type 0
  AsDone e n k = (e ≡ τ.edition) × (n ≡ length xs) × (held n (packed n k) ≡ xs) × (list_fits τ xs ≡ true) × (drop n k ≡ drop n l)

  done_is : (e n : ℕ) → Sized later (length s) (length l) → check_list τ xs ≡ Ok tt → ◌≡◌ {A = Result (ℕ × ℕ) Refusal} (Ok (τ.edition, count)) (Ok (e, n)) → AsDone e n (stored xs count l)
  done_is e n z fine h =
      let both : ◌≡◌ {A = ℕ × ℕ} (τ.edition, count) (e, n) = (cc) in
      let edition : e ≡ τ.edition = sym (ap (λ (p : ℕ × ℕ). p.0) both) in
      let told : count ≡ n = ap (λ (p : ℕ × ℕ). p.1) both in
      let size : length xs ≡ n = length_list s later ∙ told in
      let all : take count xs ≡ xs = take_all count xs (omega (arith, told, size)) in
      let first : length (take count xs) ≡ n = ap length all ∙ size in
      let room : n ≤ length l = omega (arith, told, z.room) in
      let stays : length (stored xs count l) ≡ length l = length_stored xs l count (omega (arith, told, size)) z.room in (
        edition,
        sym size,
        held_packed (stored xs count l) n (omega (arith, stays, room)) ∙ take_at (take count xs) (drop count l) n first ∙ all,
        fine_fits τ xs fine,
        drop_at (take count xs) (drop count l) n first ∙ ap (λ (m : ℕ). drop m l) told,
      )

  pub decode_kept : DecodeKept later τ s l
  unfolding decoding
  decode_kept = record {
    only = λ x y b d p q. (one_answer _ x y p.0 q.0, one_answer _ b d p.1 q.1);
    done = λ e n h. done_by (check_into later τ s (length l)) (fine_sized later τ s (length l)) (into_list later τ s (length l)) e n h;
    refused = λ r h. refused_by (check_into later τ s (length l)) r h;
  }
    where
      done_by : (c : Result Unit Refusal) → (c ≡ Ok tt → Sized later (length s) (length l)) → (c ≡ Ok tt → check_list τ xs ≡ Ok tt)
          → (e n : ℕ) → (decoded_by c later τ s l).answer ≡ Ok (e, n) → AsDone e n (decoded_by c later τ s l).list
      done_by (Ok _) z fine e n h = done_is e n (z refl) (fine refl) h
      done_by (Err r) z fine e n h = let y : ◌≡◌ {A = ℕ} 0 1 = cc in absurd (omega arith)

      refused_by : (c : Result Unit Refusal) (r : Refusal) → (decoded_by c later τ s l).answer ≡ Err r → (decoded_by c later τ s l).list ≡ l
      refused_by (Ok _) r h = let y : ◌≡◌ {A = ℕ} 0 1 = cc in absurd (omega arith)
      refused_by (Err q) r h = refl
