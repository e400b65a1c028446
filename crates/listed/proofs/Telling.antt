-- The call's answer is what is told, and its text has room.
-- Assumes nothing.
use Rattle.std.specs.Prelude.{Result, Ok, Err}
use Prim.Native.Nat.{ℕ, ◌+◌, ◌-◌, ◌*◌, ◌/◌, ◌≤◌, ◌<◌}
use mathlib.Core.Bool.{Bool, false}
use mathlib.Core.Path.{◌≡◌, sym, ap, ◌∙◌, subst}
use mathlib.Core.List.{List}
use native.Mathlib.Omega.{arith}
use lib.ListN.{length, take, drop, replicate, length-drop, drop_of_length-le}
use lib.Seq.{take_all, drop-length}
use borrow.Author.Tests.{lt-ltb, le-ltb}
use Rattle.records.specs.Tests.{pick}
use Rattle.records.specs.declared.refusal.Refusal.{Refusal}
use Rattle.records.specs.Told.{refusal}
use Rattle.records.specs.Little.{num}
use Rattle.records.specs.Transaction.{transactions_in}
use Rattle.records.specs.Command.{commands_from}
use Rattle.lists.specs.Check.{check_bytes}
use Rattle.promises.specs.Admit.{admitted}
use Rattle.promises.specs.Schedules.{Schedules}
use Rattle.promises.proofs.Room.{built_room}
use Rattle.text.specs.Puts.{Writes}
use Rattle.lines.specs.Lines.{schedule_text, refused_line}
use Rattle.listed.specs.Listing.{answer_text, ListsCall, ListsBehind, Lists}

-- ---- the call

module _ (expected : ℕ) (table list room finishes : List ℕ) (r : Result (ℕ × ℕ) Refusal)
    (h : Schedules (λ τ. check_bytes false τ list) (admitted expected table) (transactions_in list) (replicate 65536 0) room (replicate 256 0) finishes r) where
  pub call_built : (e n : ℕ) → r ≡ Ok (e, n) → ListsCall expected table list (schedule_text e (commands_from room n 0) (take (length list / 4) finishes))
  unfolding answer_text
  call_built e n p =
      record {
        answer = r;
        room = room;
        finishes = finishes;
        schedules = h;
        is = sym (ap (λ (a : Result (ℕ × ℕ) Refusal). answer_text a room (take (length list / 4) finishes)) p);
      }

  pub call_refused : (x : Refusal) → r ≡ Err x → ListsCall expected table list (refused_line x)
  unfolding answer_text
  call_refused x p =
      record {
        answer = r;
        room = room;
        finishes = finishes;
        schedules = h;
        is = sym (ap (λ (a : Result (ℕ × ℕ) Refusal). answer_text a room (take (length list / 4) finishes)) p);
      }

  -- 8,192 commands, 256 finishes, the first line
  pub call_room : (e n size : ℕ) → r ≡ Ok (e, n) → length room ≡ 65536 → length finishes ≡ 256 → 262144 ≤ size
      → (8 * n ≤ length room) × (length list / 4 ≤ length finishes) × (44 + 25 * n + 39 * (length list / 4) ≤ size)
  call_room e n size p a b c =
      let k = built_room expected table false list (replicate 65536 0) room (replicate 256 0) finishes r e n h p in (k.0, k.1, omega arith)

-- ---- its bytes

-- `&s[k..]`, as the code lends it
abbrev from : ℕ → List ℕ → List ℕ
from k s = take (length s - k) (drop k s)

from_is : (k : ℕ) (s : List ℕ) → from k s ≡ drop k s
from_is k s = take_all (length s - k) (drop k s) (omega (arith, length-drop k s))

-- fewer than 32 bytes behind the edition are a table cut short, and no transactions
pub behind_short : (expected : ℕ) (s : List ℕ) (r : ℕ) (b l : List ℕ) → length s < 32 → Writes (ListsCall expected s (from (length s) s)) r b l
    → Writes (ListsBehind expected s) r b l
behind_short expected s r b l h w =
    subst (λ (k : List ℕ). Writes (ListsCall expected k (drop 32 s)) r b l) (sym (take_all 32 s (omega arith)))
    (subst (λ (k : List ℕ). Writes (ListsCall expected s k) r b l) none w)
  where
    none : from (length s) s ≡ drop 32 s
    none = let z : length s ≤ 32 = omega arith in from_is (length s) s ∙ drop-length s ∙ sym (drop_of_length-le s z)

pub behind_long : (expected : ℕ) (s : List ℕ) (r : ℕ) (b l : List ℕ) → Writes (ListsCall expected (take 32 s) (from 32 s)) r b l → Writes (ListsBehind expected s) r b l
behind_long expected s r b l w = subst (λ (k : List ℕ). Writes (ListsCall expected (take 32 s) k) r b l) (from_is 32 s) w

pub too_short : (s : List ℕ) (x : Refusal) → length s < 2 → x ≡ refusal 1 0 0 → Lists s (refused_line x)
too_short s x h e =
    subst (λ (b : Bool). pick b (refused_line x ≡ refused_line (refusal 1 0 0)) (ListsBehind (num s 0) (drop 2 s) (refused_line x))) (sym (lt-ltb (length s) 2 h)) (ap refused_line e)

pub long_enough : (s : List ℕ) (e r : ℕ) (b l : List ℕ) → 2 ≤ length s → e ≡ num s 0 → Writes (ListsBehind e (from 2 s)) r b l → Writes (Lists s) r b l
long_enough s e r b l h p w =
    subst (λ (c : Bool). Writes (λ text. pick c (text ≡ refused_line (refusal 1 0 0)) (ListsBehind (num s 0) (drop 2 s) text)) r b l) (sym (le-ltb (length s) 2 h))
    (subst (λ (k : ℕ). Writes (ListsBehind k (drop 2 s)) r b l) p (subst (λ (k : List ℕ). Writes (ListsBehind e k) r b l) (from_is 2 s) w))
