-- One text for each input.
-- Assumes nothing.
use Rattle.std.specs.Prelude.{Result}
use Rattle.records.specs.declared.refusal.Refusal.{Refusal}
use Prim.Native.Nat.{ℕ, ◌-◌}
use mathlib.Core.Bool.{Bool, true, false}
use mathlib.Core.Path.{◌≡◌, sym, ap, ◌∙◌}
use mathlib.Core.List.{List}
use lib.Dec.{ltb}
use lib.ListN.{length, get_or, take, drop, replicate}
use Rattle.records.specs.Tests.{pick}
use Rattle.records.specs.Told.{refusal, over}
use Rattle.records.specs.Little.{num}
use Rattle.promises.proofs.Unique.{only as desk-only}
use Rattle.lines.specs.Lines.{refused_line}
use Rattle.patterned.specs.Pattern.{answer_text, Told, PatternOf}
use Rattle.patterned.specs.Only.{Only}

told_only : (expected : ℕ) (table : List ℕ) (type bi bc most : ℕ) (x y : List ℕ) → Told expected table type bi bc most x → Told expected table type bi bc most y → x ≡ y
told_only expected table type bi bc most x y p q =
    p.is
    ∙ ap (λ (a : Result (ℕ × ℕ × ℕ) Refusal). answer_text a p.room) same.0
    ∙ ap (λ (b : List ℕ). answer_text q.answer b) same.1
    ∙ sym q.is
  where
    same : (p.answer ≡ q.answer) × (p.room ≡ q.room)
    same = (desk-only expected table).shortest_pattern type bi bc most (replicate 48 0) p.answer q.answer p.room q.room p.told q.told

text_only : (input x y : List ℕ) → PatternOf input x → PatternOf input y → x ≡ y
text_only input x y = by (ltb (length input) 6)
  where
    told : Bool → List ℕ → Type 0
    told b text =
        let n = length input in
        pick b (text ≡ refused_line (refusal 1 0 0))
        (Told (num input 0) (take (n - 6) (drop 2 input)) (get_or input (n - 4) 0) (get_or input (n - 3) 0) (get_or input (n - 2) 0) (get_or input (n - 1) 0) text)

    by : (b : Bool) → told b x → told b y → x ≡ y
    by true p q = p ∙ sym q
    by false p q = told_only _ _ _ _ _ _ x y p q

pub only : (input : List ℕ) → Only input
only input =
    record {
      text = text_only input;
      written = λ s m n k l p q.
          let e = text_only input p.0 q.0 p.1 q.1 in
          (p.2 ∙ ap length e ∙ sym q.2, p.3 ∙ ap (λ (t : List ℕ). over t s) e ∙ sym q.3);
    }
