-- Each promise leaves one possible answer, and one possible content of the buffer, refused or not.
-- Assumes nothing.
use Rattle.std.specs.Prelude.{Result}
use Rattle.records.specs.declared.refusal.Refusal.{Refusal}
use Rattle.rules.specs.declared.verdict.Verdict.{Verdict}
use Prim.Native.Nat.{ℕ}
use mathlib.Core.Path.{◌≡◌}
use mathlib.Core.List.{List}
use Rattle.records.specs.Told.{Leaves}
use Rattle.records.proofs.Unique.{one_answer, one_left}
use Rattle.records.specs.declared.table.Table.{Table}
use Rattle.stamps.specs.declared.one_record.CaptureRecord.{CaptureRecord}
use Rattle.stamps.specs.Record.{read_capture_record, write_capture_record}
use Rattle.capture.specs.Answer.{Captured, captured, LeavesCapture}

pub one_captured : (w : Captured) (x y : Result (ℕ × ℕ × Verdict) Refusal) (b d : List ℕ) → LeavesCapture w x b → LeavesCapture w y d → (x ≡ y) × (b ≡ d)
one_captured w x y b d p q = (one_answer w.answer x y p.0 q.0, one_answer w.buffer b d p.1 q.1)

pub judge_capture_only : (τ : Table) (s b₀ : List ℕ) (x y : Result (ℕ × ℕ × Verdict) Refusal) (b d : List ℕ) → LeavesCapture (captured τ s b₀) x b
    → LeavesCapture (captured τ s b₀) y d → (x ≡ y) × (b ≡ d)
judge_capture_only τ s b₀ = one_captured (captured τ s b₀)

pub read_capture_record_only : (s : List ℕ) (x y : Result CaptureRecord Refusal) → x ≡ read_capture_record s → y ≡ read_capture_record s → x ≡ y
read_capture_record_only s = one_answer (read_capture_record s)

pub write_capture_record_only : (c : CaptureRecord) (s : List ℕ) (x y : Result ℕ Refusal) (b d : List ℕ) → Leaves (write_capture_record c s) x b
    → Leaves (write_capture_record c s) y d → (x ≡ y) × (b ≡ d)
write_capture_record_only c s x y b d = one_left (write_capture_record c s) x y b d
