-- The bytes of a capture are read as the records that were sent.
-- Assumes nothing.
use Prim.Native.Nat.{ℕ, zero, suc, ◌+◌, ◌*◌, ◌/◌, ◌%◌}
use native.Mathlib.Omega.{arith}
use native.Mathlib.Numerals.{towards_suc}
use mathlib.Core.Path.{◌≡◌, refl, ap, ◌∙◌}
use mathlib.Core.List.{List, [], ◌∷◌, ◌++◌}
use lib.ListN.{length}
use Rattle.records.specs.Command.{kind_number}
use Rattle.records.proofs.Inverse.{le16_of}
use Rattle.stamps.specs.declared.one_record.CaptureRecord.{CaptureRecord}
use Rattle.stamps.specs.Record.{record_at}
use Rattle.stamps.specs.Capture.{records_from, records_in}
use Rattle.capture.specs.Answer.{capture_count}
use Rattle.capture.specs.Written.{Sent, sends, ticks, record_of, bytes_sent, capture_bytes}

abbrev pub records_of : List Sent → List CaptureRecord
records_of [] = []
records_of (e ∷ es) = record_of e ∷ records_of es

record_past : (a b c d : ℕ) (s : List ℕ) (at : ℕ) → record_at (a ∷ b ∷ c ∷ d ∷ s) (at + 4) ≡ record_at s at
record_past a b c d s at = simp towards_suc

records_past : (a b c d : ℕ) (s : List ℕ) (n at : ℕ) → records_from (a ∷ b ∷ c ∷ d ∷ s) n (at + 4) ≡ records_from s n at
unfolding records_from
records_past a b c d s zero at = refl
records_past a b c d s (suc n) at =
    ap (λ (x : CaptureRecord). x ∷ records_from (a ∷ b ∷ c ∷ d ∷ s) n (at + 4 + 4)) (record_past a b c d s at)
    ∙ ap (λ (l : List CaptureRecord). record_at s at ∷ l) (records_past a b c d s n (at + 4))

record_first : (e : Sent) (s : List ℕ) → record_at (bytes_sent e ++ s) 0 ≡ record_of e
record_first (sends r) s = rw (le16_of (r.cycle % 65536))
record_first (ticks c) s = rw (le16_of (c % 65536))

past_first : (e : Sent) (s : List ℕ) (n : ℕ) → records_from (bytes_sent e ++ s) n 4 ≡ records_from s n 0
past_first (sends r) s n = records_past (r.cycle % 65536 % 256) (r.cycle % 65536 / 256) (kind_number r.kind) r.bank s n 0
past_first (ticks c) s n = records_past (c % 65536 % 256) (c % 65536 / 256) 255 0 s n 0

records_sent : (es : List Sent) → records_from (capture_bytes es) (length es) 0 ≡ records_of es
unfolding records_from
records_sent [] = refl
records_sent (e ∷ es) =
    ap (λ (x : CaptureRecord). x ∷ records_from (capture_bytes (e ∷ es)) (length es) 4) (record_first e (capture_bytes es))
    ∙ ap (λ (l : List CaptureRecord). record_of e ∷ l) (past_first e (capture_bytes es) (length es) ∙ records_sent es)

pub length_sent : (es : List Sent) → length (capture_bytes es) ≡ 4 * length es
length_sent [] = refl
length_sent (sends r ∷ es) = omega (arith, length_sent es)
length_sent (ticks c ∷ es) = omega (arith, length_sent es)

pub count_sent : (es : List Sent) → capture_count (capture_bytes es) ≡ length es
count_sent es = omega (arith, length_sent es)

pub records_in_lem : (es : List Sent) → records_in (capture_bytes es) ≡ records_of es
records_in_lem es = ap (λ (n : ℕ). records_from (capture_bytes es) n 0) (count_sent es) ∙ records_sent es
