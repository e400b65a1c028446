-- How long the lines are.
-- Assumes nothing.
use Prim.Native.Nat.{ℕ, ◌+◌, ◌≤◌, ◌<◌}
use mathlib.Core.Path.{◌≡◌, sym, subst}
use mathlib.Core.List.{List, ◌++◌}
use native.Mathlib.Omega.{arith}
use lib.ListN.{length, get_or, length-append}
use Rattle.text.specs.Decimal.{decimal}
use Rattle.text.specs.Puts.{Puts}
use Rattle.text.proofs.Digits.{at_most, then_long}
use Rattle.records.specs.declared.command.Kind.{Kind}
use Rattle.records.specs.declared.command.Kind.TheVariants.{Act, Rd, Rda, Wr, Wra, Ref, Other}
use Rattle.records.specs.declared.command.Command.{Command}
use Rattle.records.specs.declared.refusal.Refusal.{Refusal}
use Rattle.records.specs.Little.{num, num32}
use Rattle.records.specs.Command.{kind_of, kind_number, command_at}
use Rattle.records.proofs.Inverse.{Bytes, kind_number_lem}
use Rattle.lines.specs.Words.{space, newline, kind_text}
use Rattle.lines.specs.Lines.{first_line, command_line, finish_line, refused_line, broken_line}

pub first_long : (e n : ℕ) → length (first_line e n) ≡ 8 + length (decimal e) + 10 + length (decimal n ++ newline)
unfolding first_line
first_long e n = simp length-append

pub kind_long : (k : Kind) → length (kind_text k ++ space) ≡ length (kind_text k) + 1
kind_long k = length-append (kind_text k) space

pub command_long : (c : Command) → length (command_line c)
    ≡ length (decimal c.cycle ++ space) + length (kind_text c.kind ++ space) + length (decimal c.bank ++ space) + length (decimal c.number ++ newline)
unfolding command_line
command_long c = simp length-append

pub finish_long : (k cycle : ℕ) → length (finish_line k cycle) ≡ 7 + length (decimal k ++ space) + length (decimal cycle ++ newline)
unfolding finish_line
finish_long k cycle = simp length-append (omega arith)

pub refused_long : (x : Refusal) → length (refused_line x)
    ≡ 8 + length (decimal x.number) + 4 + length (decimal x.position) + 9 + length (decimal x.edition ++ newline)
unfolding refused_line
refused_long x = simp length-append

pub broken_long : (n r : ℕ) → length (broken_line n r) ≡ 7 + length (decimal n) + 13 + length (decimal r ++ newline)
unfolding broken_line
broken_long n r = simp length-append

-- ---- a kind that is known

pub kind_room : (k j : Kind) (at n : ℕ) → k ≡ j → at + length (kind_text k) ≤ n → at + length (kind_text j) ≤ n
kind_room k j at n e h = subst (λ (z : Kind). at + length (kind_text z) ≤ n) e h

pub kind_put : (k j : Kind) (at r : ℕ) (s l : List ℕ) → k ≡ j → Puts (kind_text j) at r s l → Puts (kind_text k) at r s l
kind_put k j at r s l e p = subst (λ (z : Kind). Puts (kind_text z) at r s l) (sym e) p

-- ---- how long a line can be

kind_most : (k : Kind) → kind_number k < 256 → length (kind_text k) ≤ 3
unfolding kind_text
kind_most Act h = omega arith
kind_most Rd h = omega arith
kind_most Rda h = omega arith
kind_most Wr h = omega arith
kind_most Wra h = omega arith
kind_most Ref h = omega arith
kind_most (Other n) h = at_most 2 n (omega arith)

-- a command of bytes
pub command_most : (s : List ℕ) (at : ℕ) → Bytes s → length (command_line (command_at s at)) ≤ 25
command_most s at y =
    omega (
      arith,
      command_long (command_at s at),
      then_long (num32 s at) 32,
      kind_long (kind_of b),
      then_long (get_or s (at + 5) 0) 32,
      then_long (num s (at + 6)) 10,
      at_most 9 (num32 s at) (omega (arith, y at, y (at + 1), y (at + 2), y (at + 3))),
      kind_most (kind_of b) (omega (arith, kind_number_lem b, y (at + 4))),
      at_most 2 (get_or s (at + 5) 0) (omega (arith, y (at + 5))),
      at_most 4 (num s (at + 6)) (omega (arith, y (at + 6), y (at + 6 + 1))),
    )
  where
    b : ℕ
    b = get_or s (at + 4) 0

-- a finish of any numbers of 64 and 32 bits
pub finish_most : (k cycle : ℕ) → k < 18446744073709551616 → cycle < 4294967296 → length (finish_line k cycle) ≤ 39
finish_most k cycle h i = omega (arith, finish_long k cycle, then_long k 32, then_long cycle 10, at_most 19 k (omega arith), at_most 9 cycle (omega arith))

pub first_most : (e n : ℕ) → e < 65536 → n < 18446744073709551616 → length (first_line e n) ≤ 44
first_most e n h i = omega (arith, first_long e n, then_long n 10, at_most 4 e (omega arith), at_most 19 n (omega arith))

pub refused_most : (x : Refusal) → x.number < 256 → x.position < 4294967296 → x.edition < 65536 → length (refused_line x) ≤ 40
refused_most x h i j =
    omega (
      arith,
      refused_long x,
      then_long x.edition 10,
      at_most 2 x.number (omega arith),
      at_most 9 x.position (omega arith),
      at_most 4 x.edition (omega arith),
    )

pub broken_most : (n r : ℕ) → n < 4294967296 → r < 4294967296 → length (broken_line n r) ≤ 41
broken_most n r h i = omega (arith, broken_long n r, then_long r 10, at_most 9 n (omega arith), at_most 9 r (omega arith))
