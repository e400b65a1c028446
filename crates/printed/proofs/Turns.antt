-- A turn of the loops over the commands and the finishes, which is one line more; and the parts of a schedule's text.
-- Assumes nothing.
use Prim.Native.Nat.{ℕ, zero, suc, ◌+◌, ◌*◌, ◌≤◌, ◌<◌}
use mathlib.Core.Path.{◌≡◌, refl, sym, ap, ◌∙◌, subst}
use mathlib.Core.List.{List, [], ◌∷◌, ◌++◌, append-nil, append_assoc}
use native.Mathlib.Omega.{arith}
use native.Mathlib.Numerals.{add-one}
use lib.ListN.{length, get_or, take, length-take}
use lib.Seq.{take-suc}
use Rattle.records.specs.declared.command.Command.{Command}
use Rattle.records.specs.Command.{command_at, commands_from}
use Rattle.text.specs.Puts.{Puts}
use Rattle.text.proofs.Putting.{puts_then}
use Rattle.lines.specs.Lines.{first_line, command_line, finish_line, command_lines, finish_lines, commands_text, schedule_text}

-- ---- commands

lines_last : (l : List Command) (c : Command) → command_lines (l ++ (c ∷ [])) ≡ command_lines l ++ command_line c
unfolding command_lines
lines_last [] c = append-nil (command_line c)
lines_last (d ∷ l) c = ap (λ (z : List ℕ). command_line d ++ z) (lines_last l c) ∙ sym (append_assoc (command_line d) (command_lines l) (command_line c))

from_last : (s : List ℕ) (n at : ℕ) → commands_from s (suc n) at ≡ commands_from s n at ++ (command_at s (at + 8 * n) ∷ [])
unfolding commands_from
from_last s zero at = let e : at ≡ at + 8 * 0 = omega arith in ap (λ (k : ℕ). command_at s k ∷ []) e
from_last s (suc n) at =
    let e : at + 8 + 8 * n ≡ at + 8 * suc n = omega arith in
    ap (λ (l : List Command). command_at s at ∷ l) (from_last s n (at + 8))
    ∙ ap (λ (k : ℕ). command_at s at ∷ (commands_from s n (at + 8) ++ (command_at s k ∷ []))) e

pub command_turn : (s : List ℕ) (i : ℕ) (c : Command) (at p q : ℕ) (b t u : List ℕ) → c ≡ command_at s (8 * i)
    → Puts (command_lines (commands_from s i 0)) at p b t → Puts (command_line c) p q t u → Puts (command_lines (commands_from s (i + 1) 0)) at q b u
command_turn s i c at p q b t u e x y = subst (λ (text : List ℕ). Puts text at q b u) (sym text) (puts_then x y)
  where
    first : 8 * i ≡ 0 + 8 * i
    first = omega arith

    text : command_lines (commands_from s (i + 1) 0) ≡ command_lines (commands_from s i 0) ++ command_line c
    text =
        ap (λ (n : ℕ). command_lines (commands_from s n 0)) (add-one i) ∙ ap command_lines (from_last s i 0)
        ∙ lines_last (commands_from s i 0) (command_at s (0 + 8 * i))
        ∙ ap (λ (d : Command). command_lines (commands_from s i 0) ++ command_line d) (ap (command_at s) (sym first) ∙ sym e)

-- after n turns
pub command_end : (s : List ℕ) (i n at r : ℕ) (b t : List ℕ) → i ≡ n → r ≤ at + 25 * i → Puts (command_lines (commands_from s i 0)) at r b t
    → Puts (command_lines (commands_from s n 0)) at r b t × (r ≤ at + 25 * n)
command_end s i n at r b t e h x = (subst (λ (k : ℕ). Puts (command_lines (commands_from s k 0)) at r b t) e x, omega arith)

-- ---- finishes

finishes_last : (k : ℕ) (l : List ℕ) (x : ℕ) → finish_lines k (l ++ (x ∷ [])) ≡ finish_lines k l ++ finish_line (k + length l) x
unfolding finish_lines
finishes_last k [] x = let e : k ≡ k + 0 = omega arith in append-nil (finish_line k x) ∙ ap (λ (n : ℕ). finish_line n x) e
finishes_last k (y ∷ l) x =
    let e : k + 1 + length l ≡ k + suc (length l) = omega arith in
    ap (λ (z : List ℕ). finish_line k y ++ z) (finishes_last (k + 1) l x)
    ∙ ap (λ (n : ℕ). finish_line k y ++ (finish_lines (k + 1) l ++ finish_line n x)) e
    ∙ sym (append_assoc (finish_line k y) (finish_lines (k + 1) l) (finish_line (k + length (y ∷ l)) x))

pub finish_turn : (s : List ℕ) (i at p q : ℕ) (b t u : List ℕ) → i < length s
    → Puts (finish_lines 0 (take i s)) at p b t → Puts (finish_line i (get_or s i 0)) p q t u → Puts (finish_lines 0 (take (i + 1) s)) at q b u
finish_turn s i at p q b t u h x y = subst (λ (text : List ℕ). Puts text at q b u) (sym text) (puts_then x y)
  where
    here : 0 + length (take i s) ≡ i
    here = omega (arith, length-take i s)

    text : finish_lines 0 (take (i + 1) s) ≡ finish_lines 0 (take i s) ++ finish_line i (get_or s i 0)
    text =
        ap (λ (n : ℕ). finish_lines 0 (take n s)) (add-one i) ∙ ap (finish_lines 0) (take-suc s i 0 h)
        ∙ finishes_last 0 (take i s) (get_or s i 0)
        ∙ ap (λ (n : ℕ). finish_lines 0 (take i s) ++ finish_line n (get_or s i 0)) here

pub finish_end : (s : List ℕ) (i n at r : ℕ) (b t : List ℕ) → i ≡ n → r ≤ at + 39 * i → Puts (finish_lines 0 (take i s)) at r b t
    → Puts (finish_lines 0 (take n s)) at r b t × (r ≤ at + 39 * n)
finish_end s i n at r b t e h x = (subst (λ (k : ℕ). Puts (finish_lines 0 (take k s)) at r b t) e x, omega arith)

-- ---- all of them, behind the first line

pub commands_count : (s : List ℕ) (n at : ℕ) → length (commands_from s n at) ≡ n
unfolding commands_from
commands_count s zero at = refl
commands_count s (suc n) at = ap suc (commands_count s n (at + 8))

pub commands_put : (e n : ℕ) (s : List ℕ) (p q : ℕ) (b t u : List ℕ) → Puts (first_line e n) 0 p b t → Puts (command_lines (commands_from s n 0)) p q t u
    → Puts (commands_text e (commands_from s n 0)) 0 q b u
unfolding commands_text
commands_put e n s p q b t u x y = puts_then (subst (λ (k : ℕ). Puts (first_line e k) 0 p b t) (sym (commands_count s n 0)) x) y

pub schedule_put : (e : ℕ) (l : List Command) (f : List ℕ) (q r : ℕ) (b u v : List ℕ) → Puts (commands_text e l) 0 q b u → Puts (finish_lines 0 f) q r u v
    → Puts (schedule_text e l f) 0 r b v
unfolding schedule_text
schedule_put e l f q r b u v x y = puts_then x y
