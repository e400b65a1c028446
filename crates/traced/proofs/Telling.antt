-- The call's answer is what is told, and its text has room.
-- Assumes nothing.
use Rattle.std.specs.Prelude.{Result, Ok, Err}
use Rattle.records.specs.declared.table.Table.{Table}
use Prim.Native.Nat.{ℕ, ◌+◌, ◌-◌, ◌*◌, ◌≤◌, ◌<◌}
use mathlib.Core.Bool.{Bool}
use mathlib.Core.Path.{◌≡◌, sym, ap, ◌∙◌, subst, refl}
use mathlib.Core.List.{List, ◌++◌}
use native.Mathlib.Omega.{arith}
use native.Mathlib.Nat.{zero-add}
use lib.ListN.{length, take, drop, length-append, length-drop, replicate, length-replicate, drop_of_length-le}
use lib.Seq.{take_all, drop-length}
use borrow.Author.Tests.{lt-ltb, le-ltb}
use Rattle.records.specs.Tests.{pick}
use Rattle.records.specs.Told.{refusal, over}
use Rattle.records.specs.Little.{num}
use Rattle.records.specs.declared.refusal.Refusal.{Refusal}
use Rattle.records.specs.declared.command.Command.{Command}
use Rattle.records.specs.Command.{commands_from, bytes_of_all}
use Rattle.records.proofs.Laws.{answered}
use Rattle.rules.specs.declared.verdict.Verdict.{Verdict}
use Rattle.rules.specs.declared.verdict.Verdict.TheVariants.{Accepted, Refused as Broken}
use Rattle.rules.specs.declared.verdict.Rule.{Rule}
use Rattle.rules.specs.Verdict.{judge}
use Rattle.capture.specs.Answer.{position_of, commands_seen, capture_refusal, Captured, captured, LeavesCapture}
use Rattle.capture.proofs.Refusals.{taken}
use Rattle.promises.specs.Admit.{admitted}
use Rattle.promises.specs.Numbers.{rule_number}
use Rattle.promises.specs.Tracing.{capturing}
use Rattle.text.specs.Puts.{Puts}
use Rattle.text.proofs.Putting.{puts_then}
use Rattle.lines.proofs.Long.{broken_most}
use Rattle.lines.specs.Lines.{accepted_line, broken_line, refused_line, commands_text}
use Rattle.traced.specs.Trace.{verdict_line, trace_text, answer_text, empty_room, call_text, behind_text, trace_of, Writes}

pub writes : (told text : List ℕ) (r : ℕ) (s l : List ℕ) → told ≡ text → Puts text 0 r s l → Writes told r s l
writes told text r s l e p =
    record {
      size = p.place ∙ zero-add (length text) ∙ ap length (sym e);
      left = p.left ∙ ap (λ (n : ℕ). text ++ drop n s) (zero-add (length text)) ∙ ap (λ (t : List ℕ). over t s) (sym e);
    }

-- ---- a verdict

pub broken_room : (n x at size : ℕ) → at + 41 ≤ size → n < 4294967296 → x < 4294967296 → at + length (broken_line n x) ≤ size
broken_room n x at size h i j = omega (arith, broken_most n x i j)

pub verdict_accepted : (v : Verdict) (at r : ℕ) (s l : List ℕ) → v ≡ Accepted → Puts accepted_line at r s l → Puts (verdict_line v) at r s l
unfolding verdict_line
verdict_accepted v at r s l e p = subst (λ (w : Verdict). Puts (verdict_line w) at r s l) (sym e) p

pub verdict_broken : (v : Verdict) (rule : Rule) (n x at r : ℕ) (s l : List ℕ) → v ≡ Broken rule n → x ≡ rule_number rule → Puts (broken_line n x) at r s l
    → Puts (verdict_line v) at r s l
unfolding verdict_line
verdict_broken v rule n x at r s l e f p =
    subst (λ (w : Verdict). Puts (verdict_line w) at r s l) (sym e) (subst (λ (y : ℕ). Puts (broken_line n y) at r s l) f p)

pub trace_put : (e : ℕ) (commands : List Command) (v : Verdict) (q r : ℕ) (b t u : List ℕ) → Puts (commands_text e commands) 0 q b t
    → Puts (verdict_line v) q r t u → Puts (trace_text e commands v) 0 r b u
unfolding trace_text
trace_put e commands v q r b t u x y = puts_then x y

-- ---- the call

-- what is judged had room in a buffer that held b
fits : (a : Result Table Refusal) (s b : List ℕ) (e n : ℕ) (v : Verdict) → Ok (e, n, v) ≡ (capturing a s b).answer → 8 * n ≤ length b
unfolding capturing captured
fits (Ok τ) s b e n v h =
    let z = capture_refusal s (length b) in
    let k = answered (λ (w : Captured). w.answer) z
    (record { answer = Ok (τ.edition, length (commands_seen s), judge τ (commands_seen s)); buffer = over (bytes_of_all (commands_seen s)) b })
    (record { answer = Err (refusal z (position_of z s) τ.edition); buffer = b })
    (Ok (e, n, v)) (sym h) (λ g. let y : ◌≡◌ {A = ℕ} 0 1 = cc in omega arith) in
    let same : length (commands_seen s) ≡ n = ap (λ (r : Result (ℕ × ℕ × Verdict) Refusal). elim r [ Ok p ↦ p.1 | Err y ↦ n ]) k.1 in
    omega (arith, same, (taken s (length b) k.0).fits)
fits (Err x) s b e n v h = let y : ◌≡◌ {A = ℕ} 0 1 = cc in absurd (omega arith)

zeros_size : (n : ℕ) (b : List ℕ) → b ≡ replicate n 0 → n ≡ length b
zeros_size n b e = sym (ap length e ∙ length-replicate {A = ℕ} n 0)

-- the count is read off the room, so that another count is seen as a number and no list of so many is made
pub room_size : (b : List ℕ) → b ≡ empty_room → 557056 ≡ length b
unfolding empty_room
room_size b e = let s = zeros_size _ b e in s

module _ (expected : ℕ) (table capture room b : List ℕ) (r : Result (ℕ × ℕ × Verdict) Refusal) (blank : b ≡ empty_room) (g : LeavesCapture (capturing (admitted expected table) capture b) r room) where
  h : LeavesCapture (capturing (admitted expected table) capture empty_room) r room
  h = subst (λ (x : List ℕ). LeavesCapture (capturing (admitted expected table) capture x) r room) blank g

  text : call_text expected table capture ≡ answer_text r room
  unfolding call_text
  text =
      sym (ap (λ (a : Result (ℕ × ℕ × Verdict) Refusal). answer_text a room) h.0
      ∙ ap (answer_text (capturing (admitted expected table) capture empty_room).answer) h.1)

  pub call_judged : (e n : ℕ) (v : Verdict) → r ≡ Ok (e, n, v) → call_text expected table capture ≡ trace_text e (commands_from room n 0) v
  unfolding answer_text
  call_judged e n v p = text ∙ ap (λ (a : Result (ℕ × ℕ × Verdict) Refusal). answer_text a room) p

  pub call_refused : (x : Refusal) → r ≡ Err x → call_text expected table capture ≡ refused_line x
  unfolding answer_text
  call_refused x p = text ∙ ap (λ (a : Result (ℕ × ℕ × Verdict) Refusal). answer_text a room) p

  -- 69,632 commands, the first line, the verdict's
  pub call_room : (e n : ℕ) (v : Verdict) (size : ℕ) → r ≡ Ok (e, n, v) → length room ≡ length b → 1741000 ≤ size → (8 * n ≤ length room) × (85 + 25 * n ≤ size)
  call_room e n v size p a c =
      let z = room_size b blank in
      let k : 8 * n ≤ 557056 = subst (λ (m : ℕ). 8 * n ≤ m) (sym (room_size empty_room refl)) (fits (admitted expected table) capture empty_room e n v (sym p ∙ h.0)) in
      (omega arith, omega arith)

pub refusal_room : (size : ℕ) → 1741000 ≤ size → 40 ≤ size
refusal_room size h = omega arith

-- ---- its bytes

same : (a b : List ℕ) (r : ℕ) (s l : List ℕ) → a ≡ b → Writes a r s l → Writes b r s l
same a b r s l e w = subst (λ (t : List ℕ). Writes t r s l) e w

-- `&s[k..]`, as the code lends it
abbrev from : ℕ → List ℕ → List ℕ
from k s = take (length s - k) (drop k s)

from_is : (k : ℕ) (s : List ℕ) → from k s ≡ drop k s
from_is k s = take_all (length s - k) (drop k s) (omega (arith, length-drop k s))

-- fewer than 32 bytes behind the edition are a table cut short, and no capture
pub behind_short : (expected : ℕ) (s : List ℕ) (r : ℕ) (b l : List ℕ) → length s < 32 → Writes (call_text expected s (from (length s) s)) r b l
    → Writes (behind_text expected s) r b l
behind_short expected s r b l h =
    same (call_text expected s (from (length s) s)) (behind_text expected s) r b l
    (ap (call_text expected s) none ∙ ap (λ (k : List ℕ). call_text expected k (drop 32 s)) (sym (take_all 32 s (omega arith))))
  where
    none : from (length s) s ≡ drop 32 s
    none = let z : length s ≤ 32 = omega arith in from_is (length s) s ∙ drop-length s ∙ sym (drop_of_length-le s z)

pub behind_long : (expected : ℕ) (s : List ℕ) (r : ℕ) (b l : List ℕ) → Writes (call_text expected (take 32 s) (from 32 s)) r b l → Writes (behind_text expected s) r b l
behind_long expected s r b l =
    same (call_text expected (take 32 s) (from 32 s)) (behind_text expected s) r b l (ap (call_text expected (take 32 s)) (from_is 32 s))

pub too_short : (s : List ℕ) (x : Refusal) → length s < 2 → x ≡ refusal 1 0 0 → trace_of s ≡ refused_line x
too_short s x h e =
    ap (λ (b : Bool). pick b (refused_line (refusal 1 0 0)) (behind_text (num s 0) (drop 2 s))) (lt-ltb (length s) 2 h) ∙ ap refused_line (sym e)

pub long_enough : (s : List ℕ) (e r : ℕ) (b l : List ℕ) → 2 ≤ length s → e ≡ num s 0 → Writes (behind_text e (from 2 s)) r b l → Writes (trace_of s) r b l
long_enough s e r b l h p =
    same (behind_text e (from 2 s)) (trace_of s) r b l
    (ap (behind_text e) (from_is 2 s) ∙ ap (λ (k : ℕ). behind_text k (drop 2 s)) p
    ∙ sym (ap (λ (c : Bool). pick c (refused_line (refusal 1 0 0)) (behind_text (num s 0) (drop 2 s))) (le-ltb (length s) 2 h)))

-- ---- for who prints it

-- what is written lies within the buffer
pub within : (text : List ℕ) (n : ℕ) (s l : List ℕ) → Writes text n s l → n ≤ length l
within text n s l w = omega (arith, w.size, ap length w.left, length-append text (drop (length text) s))
