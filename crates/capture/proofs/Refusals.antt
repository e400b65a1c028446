-- Numbers 7, 11 and 5 of a capture, and what judging it leaves.
-- Assumes nothing.
use Rattle.std.specs.Prelude.{Result, Ok, Err}
use Rattle.rules.specs.declared.verdict.Verdict.{Verdict}
use Prim.Native.Nat.{ℕ, zero, suc, ◌+◌, ◌*◌, ◌/◌, ◌%◌, ◌≤◌, ◌<◌}
use native.Mathlib.Omega.{arith}
use mathlib.Core.Path.{◌≡◌, refl, sym, ap, ◌∙◌}
use mathlib.Core.Bool.{Bool, true, false, not}
use mathlib.Core.List.{List, [], ◌∷◌}
use lib.Dec.{ltb, eqb}
use lib.ListN.{length, take, drop}
use borrow.Author.Tests.{lt-ltb, le-ltb, ltb-false}
use Rattle.records.specs.Tests.{pick}
use Rattle.records.specs.Told.{refusal, first_failed, over}
use Rattle.records.specs.declared.refusal.Refusal.{Refusal}
use Rattle.records.specs.declared.table.Table.{Table}
use Rattle.records.specs.Command.{kind_of, commands_from, commands_in, bytes_of_all}
use Rattle.records.proofs.Laws.{refuses, answers, answered, passes}
use Rattle.records.proofs.Inverse.{kind_number_lem}
use Rattle.rules.specs.declared.verdict.Verdict as Verdicts
use Rattle.rules.specs.Verdict.{judge}
use Rattle.rules.proofs.laws.TestLaws.{neither}
use Rattle.stamps.specs.declared.one_record.CaptureRecord.{CaptureRecord}
use Rattle.capture.specs.declared.scan.Scanned.{Scanned}
use Rattle.stamps.specs.Capture.{Timed, records_from, records_in, gap, timed_after, timed_of, timed_in, too_late, bad_after, lowest_after, lowest, is_tick, command_of, commands_of}
use Rattle.capture.specs.Answer.{not_a_capture, capture_count, commands_seen, capture_refusal, position_of, checked_capture, Captured, captured, LeavesCapture, Scans}
use Rattle.records.proofs.Written.{Each, Readable, read_back, bytes_stand, read_whole}

-- ---- counts

length_records : (s : List ℕ) (n at : ℕ) → length (records_from s n at) ≡ n
unfolding records_from
length_records s zero at = refl
length_records s (suc n) at = omega (arith, length_records s n (at + 4))

length_after : (p c : ℕ) (l : List CaptureRecord) → length (timed_after p c l) ≡ length l
length_after p c [] = refl
length_after p c (x ∷ l) = omega (arith, length_after x.stamp (c + gap p x.stamp) l)

length_timed : (l : List CaptureRecord) → length (timed_of l) ≡ length l
length_timed [] = refl
length_timed (x ∷ l) = omega (arith, length_after x.stamp x.stamp l)

pub length_in : (s : List ℕ) → length (timed_in s) ≡ capture_count s
unfolding timed_in
length_in s = length_timed (records_in s) ∙ length_records s (capture_count s) 0

most_after : (i p : ℕ) (l : List Timed) → lowest_after i p l ≤ i + length l
most_after i p [] = omega arith
most_after i p (x ∷ l) = on (bad_after p x) (most_after (suc i) x.seen.stamp l)
  where
    on : (b : Bool) → lowest_after (suc i) x.seen.stamp l ≤ suc i + length l
        → pick b i (lowest_after (suc i) x.seen.stamp l) ≤ i + suc (length l)
    on true h = omega arith
    on false h = omega arith

most : (l : List Timed) → lowest l ≤ length l
unfolding lowest
most [] = omega arith
most (x ∷ l) = on (too_late x.cycle) (most_after 1 x.seen.stamp l)
  where
    on : (b : Bool) → lowest_after 1 x.seen.stamp l ≤ 1 + length l → pick b 0 (lowest_after 1 x.seen.stamp l) ≤ suc (length l)
    on true h = omega arith
    on false h = omega arith

fewer : (l : List Timed) → length (commands_of l) ≤ length l
unfolding commands_of
fewer [] = omega arith
fewer (x ∷ l) = on (is_tick x.seen) (fewer l)
  where
    on : (b : Bool) → length (commands_of l) ≤ length l → length (pick b (commands_of l) (command_of x ∷ commands_of l)) ≤ suc (length l)
    on true h = omega arith
    on false h = omega arith

-- ---- the number

abbrev number_by : Bool → Bool → Bool → ℕ
number_by a b c = first_failed ((7, a) ∷ (11, b) ∷ (5, c) ∷ [])

pub few_records : (size : ℕ) → not_a_capture size ≡ false → size / 4 ≤ 69632
few_records size e = ltb-false 69632 (size / 4) (neither (not (eqb (size % 4) 0)) (ltb 69632 (size / 4)) e).1

module _ (s : List ℕ) (room : ℕ) where
  abbrev late : Bool
  late = ltb (lowest (timed_in s)) (capture_count s)

  abbrev tight : Bool
  tight = ltb room (8 * length (commands_seen s))

  by : (a b c : Bool) → not_a_capture (length s) ≡ a → late ≡ b → tight ≡ c → number_by a b c ≡ capture_refusal s room
  unfolding capture_refusal
  by a b c p q r =
      sym (ap (λ (x : Bool). number_by x late tight) p ∙ (ap (λ (x : Bool). number_by a x tight) q ∙ ap (λ (x : Bool). number_by a b x) r))

  pub refused_7 : not_a_capture (length s) ≡ true → 7 ≡ capture_refusal s room
  refused_7 e = by true late tight e refl refl

  pub refused_11 : not_a_capture (length s) ≡ false → lowest (timed_in s) < capture_count s → 11 ≡ capture_refusal s room
  refused_11 e h = by false true tight e (lt-ltb (lowest (timed_in s)) (capture_count s) h) refl

  pub refused_5 : not_a_capture (length s) ≡ false → capture_count s ≤ lowest (timed_in s) → room < 8 * length (commands_seen s) → 5 ≡ capture_refusal s room
  refused_5 e h k =
      by false false true e (le-ltb (lowest (timed_in s)) (capture_count s) h) (lt-ltb room (8 * length (commands_seen s)) k)

  pub refused_none : not_a_capture (length s) ≡ false → capture_count s ≤ lowest (timed_in s) → 8 * length (commands_seen s) ≤ room → 0 ≡ capture_refusal s room
  refused_none e h k = by false false false e (le-ltb (lowest (timed_in s)) (capture_count s) h) (le-ltb room (8 * length (commands_seen s)) k)

  -- what is known of a capture that is not refused
  pub record Taken : Type 0 where
    pub few : capture_count s ≤ 69632
    pub none : lowest (timed_in s) ≡ capture_count s
    pub commands : length (commands_seen s) ≤ capture_count s
    pub fits : 8 * length (commands_seen s) ≤ room

  pub at_most : lowest (timed_in s) ≤ capture_count s
  at_most = omega (arith, most (timed_in s), length_in s)

  pub few_commands : length (commands_seen s) ≤ capture_count s
  unfolding commands_seen
  few_commands = omega (arith, fewer (timed_in s), length_in s)

  pub taken : capture_refusal s room ≡ 0 → Taken
  unfolding capture_refusal
  taken e =
      let a = passes 7 (not_a_capture (length s)) ((11, late) ∷ (5, tight) ∷ []) (λ k. omega arith) e in
      let b = passes 11 late ((5, tight) ∷ []) (λ k. omega arith) a.1 in
      let c = passes 5 tight [] (λ k. omega arith) b.1 in
      record {
        few = few_records (length s) a.0;
        none = omega (arith, at_most, ltb-false (lowest (timed_in s)) (capture_count s) b.0);
        commands = few_commands;
        fits = ltb-false room (8 * length (commands_seen s)) c.0;
      }

-- ---- what the check finds, by the number z

module _ (s : List ℕ) (room e z : ℕ) (h : z ≡ capture_refusal s room) where
  pub check_refuses : (p : ℕ) (q : Refusal) → p ≡ position_of z s → q ≡ refusal z p e → (z ≡ 0 → ⊥) → Err q ≡ checked_capture s room e
  check_refuses p q f g n =
      ap Err (g ∙ ap (λ (y : ℕ). refusal z y e) f)
      ∙ refuses z (capture_refusal s room) h (Ok (length (commands_seen s))) (λ (y : ℕ). Err (refusal y (position_of y s) e)) n

  pub check_passes : (count : ℕ) → count ≡ length (commands_seen s) → z ≡ 0 → Ok count ≡ checked_capture s room e
  check_passes count f k =
      ap Ok f
      ∙ answers z (capture_refusal s room) h (Ok (length (commands_seen s)))
      (Err (refusal (capture_refusal s room) (position_of (capture_refusal s room) s) e)) k

-- r is what the pass over the capture found
module _ (s : List ℕ) (r : Scanned) (found : Scans s r) where
  pub count_told : capture_count s ≤ r.place → r.count ≡ length (commands_seen s)
  count_told q = found.commands (omega (arith, found.place, at_most s 0))

-- what is known where the check answers the count
count_due : (s : List ℕ) (room e count : ℕ) → checked_capture s room e ≡ Ok count → (capture_refusal s room ≡ 0) × (count ≡ length (commands_seen s))
count_due s room e count k =
    let a =
    answered (λ (x : Result ℕ Refusal). x) z (Ok (length (commands_seen s))) (Err (refusal z (position_of z s) e)) (Ok count) k
    (λ y. let w : ◌≡◌ {A = ℕ} 0 1 = cc in absurd (omega arith)) in
    (a.0, ap (λ (r : Result ℕ Refusal). elim r [ Ok n ↦ n | Err x ↦ 0 ]) (sym a.1))
  where
    z : ℕ
    z = capture_refusal s room

pub count_taken : (s : List ℕ) (room e count : ℕ) (r : Result ℕ Refusal) → r ≡ checked_capture s room e → r ≡ Ok count
    → Taken s room × (count ≡ length (commands_seen s))
count_taken s room e count r f g = let d = count_due s room e count (sym f ∙ g) in (taken s room d.0, d.1)

-- ---- the commands that were written are read

readable_one : (x : Timed) → x.cycle ≤ 4294967295 → Readable (command_of x)
readable_one x h = record { cycle = omega arith; kind = ap kind_of (kind_number_lem x.seen.kind) }

readable_more : (x : Timed) (l : List Timed) → x.cycle ≤ 4294967295 → Each Readable (commands_of l) → Each Readable (commands_of (x ∷ l))
unfolding commands_of
readable_more x l h r = on (is_tick x.seen)
  where
    on : (b : Bool) → Each Readable (pick b (commands_of l) (command_of x ∷ commands_of l))
    on true = r
    on false = (readable_one x h, r)

readable_after : (i p : ℕ) (l : List Timed) → i + length l ≤ lowest_after i p l → Each Readable (commands_of l)
unfolding commands_of
readable_after i p [] h = tt
readable_after i p (x ∷ l) h = on (bad_after p x) refl h (readable_after (suc i) x.seen.stamp l)
  where
    on : (b : Bool) → bad_after p x ≡ b → i + suc (length l) ≤ pick b i (lowest_after (suc i) x.seen.stamp l)
        → (suc i + length l ≤ lowest_after (suc i) x.seen.stamp l → Each Readable (commands_of l)) → Each Readable (commands_of (x ∷ l))
    on true e h ih = absurd (omega arith)
    on false e h ih =
        readable_more x l (ltb-false 4294967295 x.cycle (neither (eqb x.seen.stamp p) (too_late x.cycle) e).1) (ih (omega arith))

readable : (l : List Timed) → length l ≤ lowest l → Each Readable (commands_of l)
unfolding lowest commands_of
readable [] h = tt
readable (x ∷ l) h = on (too_late x.cycle) refl h
  where
    on : (b : Bool) → too_late x.cycle ≡ b → suc (length l) ≤ pick b 0 (lowest_after 1 x.seen.stamp l) → Each Readable (commands_of (x ∷ l))
    on true e h = absurd (omega arith)
    on false e h = readable_more x l (ltb-false 4294967295 x.cycle e) (readable_after 1 x.seen.stamp l (omega arith))

pub read_seen : (s : List ℕ) → lowest (timed_in s) ≡ capture_count s → commands_in (bytes_of_all (commands_seen s)) ≡ commands_seen s
unfolding commands_seen
read_seen s e = read_whole (commands_seen s) (readable (timed_in s) (omega (arith, length_in s)))

-- and from the start of a buffer that held b
pub stand_seen : (s b : List ℕ) → lowest (timed_in s) ≡ capture_count s
    → commands_from (over (bytes_of_all (commands_seen s)) b) (length (commands_seen s)) 0 ≡ commands_seen s
unfolding commands_seen
stand_seen s b e =
    read_back [] (commands_seen s) (drop (length (bytes_of_all (commands_seen s))) b) (readable (timed_in s) (omega (arith, length_in s)))

-- ---- what is left

module _ (τ : Table) (s b : List ℕ) where
  abbrev z : ℕ
  z = capture_refusal s (length b)

  abbrev refused : Captured
  refused = record { answer = Err (refusal z (position_of z s) τ.edition); buffer = b }

  abbrev judged : Captured
  judged = record {
    answer = Ok (τ.edition, length (commands_seen s), judge τ (commands_seen s));
    buffer = over (bytes_of_all (commands_seen s)) b;
  }

  pub capture_refused : (q : Result (ℕ × ℕ × Verdict) Refusal) (x : Refusal) → checked_capture s (length b) τ.edition ≡ Err x → q ≡ Err x
      → LeavesCapture (captured τ s b) q b
  unfolding captured
  capture_refused q x k p = on (eqb z 0) k
    where
      on : (t : Bool) → pick t (Ok (length (commands_seen s))) (Err (refusal z (position_of z s) τ.edition)) ≡ Err x
          → LeavesCapture (pick t judged refused) q b
      on true h = let y : ◌≡◌ {A = ℕ} 0 1 = cc in absurd (omega arith)
      on false h = (p ∙ ap (λ (y : Refusal). Err y) (ap (λ (r : Result ℕ Refusal). elim r [ Ok n ↦ x | Err y ↦ y ]) (sym h)), refl)

  pub capture_judged : (count : ℕ) (v : Verdicts.Verdict) (b' : List ℕ) → checked_capture s (length b) τ.edition ≡ Ok count
      → b' ≡ over (bytes_of_all (commands_seen s)) b → v ≡ judge τ (commands_in (take (8 * count) b'))
      → LeavesCapture (captured τ s b) (Ok (τ.edition, count, v)) b'
  unfolding captured
  capture_judged count v b' k f g = (same ∙ ap (λ (w : Captured). w.answer) left, f ∙ ap (λ (w : Captured). w.buffer) left)
    where
      due : (z ≡ 0) × (count ≡ length (commands_seen s))
      due = count_due s (length b) τ.edition count k

      left : judged ≡ captured τ s b
      left = answers z z refl judged refused due.0

      read : commands_in (take (8 * count) b') ≡ commands_seen s
      read =
          ap (λ (m : ℕ). commands_in (take (8 * m) b')) due.1
          ∙ (ap commands_in (bytes_stand (commands_seen s) b b' f) ∙ read_seen s (taken s (length b) due.0).none)

      same : Ok (τ.edition, count, v) ≡ judged.answer
      same =
          ap (λ (m : ℕ). Ok (τ.edition, m, v)) due.1
          ∙ ap (λ (w : Verdict). Ok (τ.edition, length (commands_seen s), w)) (g ∙ ap (judge τ) read)
