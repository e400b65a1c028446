-- Reading and writing a capture record are inverse.
-- Assumes nothing.
use Rattle.std.specs.Prelude.{Result, Ok, Err}
use Rattle.records.specs.declared.refusal.Refusal.{Refusal}
use Rattle.std.proofs.Common.{◌≡◌, ℕ, ◌≤◌, not, eqb, List, [], ◌∷◌, ◌++◌, length, get_or, take, sym, ap, ◌∙◌, arith, take_all, eqb-true, le-leb}
use borrow.Author.Tests.{not-false}
use Rattle.records.specs.Told.{refusal, over}
use Rattle.records.proofs.Laws.{read_was, write_is, passes}
use Rattle.records.proofs.Inverse.{Bytes, le16_of, of_le16, elements_from}
use Rattle.stamps.specs.declared.one_record.CaptureRecord.{CaptureRecord}
use Rattle.stamps.specs.Record.{capture_record, record_at, bytes_of_record, record_refusal, read_capture_record, record_room, write_capture_record}

-- what was written is read: the four bytes at the start of a buffer with room
pub record_written_read : (x : CaptureRecord) (s : List ℕ) → 4 ≤ length s → read_capture_record (take 4 (write_capture_record x s).buffer) ≡ Ok x
unfolding read_capture_record write_capture_record
record_written_read x s n = rw (le-leb 4 (length s) n) (ap (λ (t : ℕ). Ok (capture_record t x.kind x.bank)) (le16_of x.stamp))

-- the bytes that were read are written, from the start of any buffer with room
pub record_read_written : (s b : List ℕ) (x : CaptureRecord) → Bytes s → 4 ≤ length b → read_capture_record s ≡ Ok x
    → write_capture_record x b ≡ record { answer = Ok 0; buffer = over s b }
unfolding read_capture_record write_capture_record
record_read_written s b x y n r =
    write_is (record_room (length b)) (record { answer = Ok 0; buffer = over (bytes_of_record x) b }) b (rw (le-leb 4 (length b) n))
    ∙ ap (λ (l : List ℕ). record { answer = Ok 0; buffer = over l b }) (ap bytes_of_record (sym e) ∙ four)
  where
    none : (n : ℕ) → ◌≡◌ {A = Result CaptureRecord Refusal} (Err (refusal n 0 0)) (Ok x) → ⊥
    none n k = let z : ◌≡◌ {A = ℕ} 0 1 = cc in omega arith

    was : (record_refusal (length s) ≡ 0) × (◌≡◌ {A = Result CaptureRecord Refusal} (Ok (record_at s 0)) (Ok x))
    was = read_was (λ n a. record_refusal n) (λ a. record_at a 0) Ok (λ n. Err (refusal n 0 0)) s x none r

    e : record_at s 0 ≡ x
    e = let k = was.1 in cc

    size : length s ≡ 4
    size = eqb-true (length s) 4 (not-false _ (passes 7 (not (eqb (length s) 4)) [] (λ k. omega arith) was.0).0)

    four : bytes_of_record (record_at s 0) ≡ s
    four =
        ap (λ (l : List ℕ). l ++ (get_or s 2 0 ∷ get_or s 3 0 ∷ [])) (of_le16 (get_or s 0 0) (get_or s 1 0) (y 0) (y 1))
        ∙ elements_from 4 0 s (omega (arith, size)) ∙ take_all 4 s (omega (arith, size))
