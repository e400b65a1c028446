-- The call's answer is what is told, and its text has room.
-- Assumes nothing.
use Rattle.std.specs.Prelude.{Result, Ok, Err}
use Prim.Native.Nat.{ℕ, ◌+◌, ◌-◌, ◌*◌, ◌≤◌, ◌<◌}
use mathlib.Core.Bool.{Bool}
use mathlib.Core.Path.{◌≡◌, sym, ap, subst}
use mathlib.Core.List.{List, ◌++◌}
use native.Mathlib.Omega.{arith}
use lib.ListN.{length, get_or, take, drop, replicate, length-append}
use borrow.Author.Tests.{lt-ltb, le-ltb}
use Rattle.records.specs.Tests.{pick}
use Rattle.records.specs.Told.{refusal}
use Rattle.records.specs.Little.{num}
use Rattle.records.specs.declared.refusal.Refusal.{Refusal}
use Rattle.records.specs.Command.{commands_from}
use Rattle.promises.specs.Admit.{admitted}
use Rattle.promises.specs.Patterns.{ShortestTold}
use Rattle.promises.proofs.Room.{shortest_few}
use Rattle.text.specs.Decimal.{decimal}
use Rattle.text.specs.Puts.{Puts, Writes}
use Rattle.text.proofs.Digits.{at_most, then_long}
use Rattle.text.proofs.Putting.{puts_then}
use Rattle.lines.specs.Words.{newline}
use Rattle.lines.specs.Lines.{refused_line, command_lines}
use Rattle.printed.proofs.Turns.{commands_count}
use Rattle.patterned.specs.Pattern.{length_line, pattern_text, answer_text, Told, PatternOf}

-- ---- the first line, and the records behind it

pub length_long : (e L n : ℕ) → length (length_line e L n) ≡ 8 + length (decimal e) + 8 + length (decimal L) + 10 + length (decimal n ++ newline)
unfolding length_line
length_long e L n = simp length-append

pub length_most : (e L n : ℕ) → e < 65536 → L < 4294967296 → n < 18446744073709551616 → length (length_line e L n) ≤ 62
length_most e L n h i j = omega (arith, length_long e L n, then_long n 10, at_most 4 e (omega arith), at_most 9 L (omega arith), at_most 19 n (omega arith))

pub pattern_put : (e L n : ℕ) (s : List ℕ) (p q : ℕ) (b t u : List ℕ) → Puts (length_line e L n) 0 p b t → Puts (command_lines (commands_from s n 0)) p q t u
    → Puts (pattern_text e L (commands_from s n 0)) 0 q b u
unfolding pattern_text
pattern_put e L n s p q b t u x y = puts_then (subst (λ (k : ℕ). Puts (length_line e L k) 0 p b t) (sym (commands_count s n 0)) x) y

-- ---- the call

module _ (expected : ℕ) (table : List ℕ) (type bi bc most : ℕ) (room : List ℕ) (r : Result (ℕ × ℕ × ℕ) Refusal)
    (h : ShortestTold (admitted expected table) type bi bc most (replicate 48 0) room r) where
  pub call_found : (e L n : ℕ) → r ≡ Ok (e, L, n) → Told expected table type bi bc most (pattern_text e L (commands_from room n 0))
  unfolding answer_text
  call_found e L n p = record { answer = r; room = room; told = h; is = sym (ap (λ (a : Result (ℕ × ℕ × ℕ) Refusal). answer_text a room) p) }

  pub call_refused : (x : Refusal) → r ≡ Err x → Told expected table type bi bc most (refused_line x)
  unfolding answer_text
  call_refused x p = record { answer = r; room = room; told = h; is = sym (ap (λ (a : Result (ℕ × ℕ × ℕ) Refusal). answer_text a room) p) }

  -- six records, the first line
  pub call_room : (e L n size : ℕ) → r ≡ Ok (e, L, n) → length room ≡ 48 → 256 ≤ size → (8 * n ≤ length room) × (62 + 25 * n ≤ size)
  call_room e L n size p a c =
      let k : n ≤ 6 = shortest_few (admitted expected table) type bi bc most (replicate 48 0) room e L n
      (subst (ShortestTold (admitted expected table) type bi bc most (replicate 48 0) room) p h) in
      (omega arith, omega arith)

-- ---- its bytes

-- the text for the input s, by its table's size and the greatest length
abbrev told : List ℕ → ℕ → ℕ → ℕ → List ℕ → Type 0
told s e n most text = Told e (take n (drop 2 s)) (get_or s (length s - 4) 0) (get_or s (length s - 3) 0) (get_or s (length s - 2) 0) most text

pub too_short : (s : List ℕ) (x : Refusal) → length s < 6 → x ≡ refusal 1 0 0 → PatternOf s (refused_line x)
too_short s x h e =
    subst (λ (b : Bool). pick b (refused_line x ≡ refused_line (refusal 1 0 0)) (told s (num s 0) (length s - 6) (get_or s (length s - 1) 0) (refused_line x)))
    (sym (lt-ltb (length s) 6 h)) (ap refused_line e)

-- `&s[2..end]`, as the code lends it
pub long_enough : (s : List ℕ) (e most r : ℕ) (b l : List ℕ) → 6 ≤ length s → e ≡ num s 0 → most ≡ get_or s (length s - 1) 0
    → Writes (told s e (length s - 4 - 2) most) r b l → Writes (PatternOf s) r b l
long_enough s e most r b l h p q w =
    let size : length s - 4 - 2 ≡ length s - 6 = omega arith in
    subst (λ (c : Bool). Writes (λ text. pick c (text ≡ refused_line (refusal 1 0 0)) (told s (num s 0) (length s - 6) (get_or s (length s - 1) 0) text)) r b l)
    (sym (le-ltb (length s) 6 h))
    (subst (λ (k : ℕ). Writes (told s k (length s - 6) (get_or s (length s - 1) 0)) r b l) p
    (subst (λ (k : ℕ). Writes (told s e k (get_or s (length s - 1) 0)) r b l) size (subst (λ (k : ℕ). Writes (told s e (length s - 4 - 2) k) r b l) q w)))
