-- One text for each input.
-- Assumes nothing.
use Rattle.std.specs.Prelude.{Result}
use Rattle.records.specs.declared.refusal.Refusal.{Refusal}
use Prim.Native.Nat.{ℕ, ◌/◌}
use mathlib.Core.Bool.{Bool, true, false}
use mathlib.Core.Path.{◌≡◌, sym, ap, ◌∙◌}
use mathlib.Core.List.{List}
use lib.Dec.{ltb}
use lib.ListN.{length, take, drop, replicate}
use Rattle.records.specs.Tests.{pick}
use Rattle.records.specs.Told.{refusal, over}
use Rattle.records.specs.Little.{num}
use Rattle.promises.proofs.Unique.{only as desk-only}
use Rattle.lines.specs.Lines.{refused_line}
use Rattle.listed.specs.Listing.{answer_text, ListsCall, ListsBehind, Lists}
use Rattle.listed.specs.Only.{Only}

call_only : (expected : ℕ) (table list x y : List ℕ) → ListsCall expected table list x → ListsCall expected table list y → x ≡ y
call_only expected table list x y p q =
    p.is
    ∙ ap (λ (a : Result (ℕ × ℕ) Refusal). answer_text a p.room (take (length list / 4) p.finishes)) same.0
    ∙ ap (λ (b : List ℕ). answer_text q.answer b (take (length list / 4) p.finishes)) same.1
    ∙ ap (λ (f : List ℕ). answer_text q.answer q.room (take (length list / 4) f)) same.2
    ∙ sym q.is
  where
    same : (p.answer ≡ q.answer) × (p.room ≡ q.room) × (p.finishes ≡ q.finishes)
    same =
        (desk-only expected table).schedule_bytes false list (replicate 65536 0) (replicate 256 0) p.answer q.answer p.room q.room p.finishes q.finishes
        p.schedules q.schedules

text_only : (input x y : List ℕ) → Lists input x → Lists input y → x ≡ y
text_only input x y = by (ltb (length input) 2)
  where
    told : Bool → List ℕ → Type 0
    told b text = pick b (text ≡ refused_line (refusal 1 0 0)) (ListsBehind (num input 0) (drop 2 input) text)

    by : (b : Bool) → told b x → told b y → x ≡ y
    by true p q = p ∙ sym q
    by false p q = call_only _ _ _ x y p q

pub only : (input : List ℕ) → Only input
only input =
    record {
      text = text_only input;
      written = λ s m n k l p q.
          let e = text_only input p.0 q.0 p.1 q.1 in
          (p.2 ∙ ap length e ∙ sym q.2, p.3 ∙ ap (λ (t : List ℕ). over t s) e ∙ sym q.3);
    }
