-- One turn of the two loops over a capture's records, over plain values.
-- Assumes nothing.
use Prim.Native.Nat.{ℕ, zero, suc, ◌+◌, ◌-◌, ◌*◌, ◌≤◌, ◌<◌}
use native.Mathlib.Nat.{sub-zero}
use native.Mathlib.Numerals.{add-one}
use native.Mathlib.Omega.{arith}
use mathlib.Core.Path.{◌≡◌, refl, sym, ap, ◌∙◌}
use mathlib.Core.Bool.{Bool, true, false, ◌&&◌, ◌||◌}
use mathlib.Core.List.{List, [], ◌∷◌, ◌++◌, append_assoc, append-nil}
use lib.Dec.{ltb, eqb}
use lib.ListN.{length, get_or, length-append}
use borrow.Author.Tests.{lt-ltb, ltb-false}
use Rattle.records.specs.Tests.{pick}
use Rattle.records.specs.declared.command.Command.{Command}
use Rattle.records.specs.Command.{kind_of, command, bytes_of, bytes_of_all}
use Rattle.records.specs.Told.{over, put_at}
use Rattle.rules.proofs.laws.TestLaws.{neither}
use Rattle.stamps.specs.declared.one_record.CaptureRecord.{CaptureRecord}
use Rattle.stamps.specs.Record.{record_at}
use Rattle.stamps.specs.Capture.{records_from, records_in, gap, timed, timed_after, timed_of, timed_in, too_late, lowest_after, lowest, is_tick, commands_of}
use Rattle.capture.specs.Answer.{capture_count, commands_seen}
use Rattle.stamps.proofs.Laws.{gap_first}
use Rattle.records.proofs.Written.{written_more, length_written}

-- ---- before the first record stamp and cycle are 0

abbrev FirstSmall : List CaptureRecord → Type 0
FirstSmall [] = Unit {0}
FirstSmall (x ∷ l) = x.stamp < 65536

first_small : (s : List ℕ) (n : ℕ) → ((i : ℕ) → get_or s i 0 < 256) → FirstSmall (records_from s n 0)
unfolding records_from
first_small s zero b = tt
first_small s (suc n) b = omega (arith, b 0, b 1)

-- number 11 of record i after one with stamp p, d being its true cycle; record 0 follows none
abbrev pub is_bad : ℕ → ℕ → ℕ → ℕ → Bool
is_bad i p q d = (ltb 0 i && eqb q p) || too_late d

abbrev pub lowest_from : ℕ → ℕ → ℕ → List CaptureRecord → ℕ
lowest_from i p c [] = i
lowest_from i p c (x ∷ l) = pick (is_bad i p x.stamp (c + gap p x.stamp)) i (lowest_from (suc i) x.stamp (c + gap p x.stamp) l)

lowest_after_lem : (i p c : ℕ) (l : List CaptureRecord) → lowest_from (suc i) p c l ≡ lowest_after (suc i) p (timed_after p c l)
lowest_after_lem i p c [] = refl
lowest_after_lem i p c (x ∷ l) = rw (lt-ltb 0 (suc i) (omega arith), lowest_after_lem (suc i) x.stamp (c + gap p x.stamp) l)

lowest_first : (l : List CaptureRecord) → FirstSmall l → lowest_from 0 0 0 l ≡ lowest (timed_of l)
unfolding lowest
lowest_first [] h = refl
lowest_first (x ∷ l) h =
    ap (λ (y : ℕ). pick (too_late y) 0 (lowest_from 1 x.stamp y l)) (gap_first x.stamp h)
    ∙ ap (λ (y : ℕ). pick (too_late x.stamp) 0 y) (lowest_after_lem 0 x.stamp x.stamp l)

timed_first : (l : List CaptureRecord) → FirstSmall l → timed_after 0 0 l ≡ timed_of l
timed_first [] h = refl
timed_first (x ∷ l) h = ap (λ (y : ℕ). timed y x ∷ timed_after x.stamp y l) (gap_first x.stamp h)

-- ---- the turn

-- the records that are left from number i on
abbrev pub left : List ℕ → ℕ → List CaptureRecord
left s i = records_from s (capture_count s - i) (i * 4)

one_more_lem : (s : List ℕ) (n at : ℕ) → records_from s (suc n) at ≡ record_at s at ∷ records_from s n (at + 4)
unfolding records_from
one_more_lem s n at = refl

left_next : (s : List ℕ) (i : ℕ) → i < capture_count s → left s i ≡ record_at s (i * 4) ∷ left s (suc i)
left_next s i l =
    let z : capture_count s - i ≡ suc (capture_count s - suc i) = omega arith in
    let y : i * 4 + 4 ≡ suc i * 4 = omega arith in
    ap (λ (n : ℕ). records_from s n (i * 4)) z
    ∙ (one_more_lem s (capture_count s - suc i) (i * 4) ∙ ap (λ (n : ℕ). record_at s (i * 4) ∷ records_from s (capture_count s - suc i) n) y)

left_none : (s : List ℕ) (i : ℕ) → capture_count s ≤ i → left s i ≡ []
unfolding records_from
left_none s i l = let z : capture_count s - i ≡ 0 = omega arith in ap (λ (n : ℕ). records_from s n (i * 4)) z

-- i records are read, the last with stamp p and true cycle c, and k commands are done: what is left gives the whole answer
pub record Turn (s : List ℕ) (i p c k : ℕ) : Type 0 where
  pub low : i ≤ capture_count s
  pub small : c ≤ 4294967295
  pub done : List Command
  pub count : k ≡ length done
  pub few : k ≤ i
  pub number : lowest_from i p c (left s i) ≡ lowest (timed_in s)
  pub rest : done ++ commands_of (timed_after p c (left s i)) ≡ commands_seen s

pub turn_start : (s : List ℕ) → ((i : ℕ) → get_or s i 0 < 256) → Turn s 0 0 0 0
unfolding timed_in commands_seen
turn_start s b =
    let h : FirstSmall (records_in s) = first_small s (capture_count s) b in
    let z : left s 0 ≡ records_in s = ap (λ (n : ℕ). records_from s n 0) (sub-zero (capture_count s)) in
    record {
      low = omega arith;
      small = omega arith;
      done = [];
      count = refl;
      few = omega arith;
      number = ap (lowest_from 0 0 0) z ∙ lowest_first (records_in s) h;
      rest = ap (λ (l : List CaptureRecord). commands_of (timed_after 0 0 l)) z ∙ ap commands_of (timed_first (records_in s) h);
    }

-- x is record i, and d its true cycle
module _ {s : List ℕ} {i p c k : ℕ} (t : Turn s i p c k) (l : i < capture_count s) (x : CaptureRecord) (here : x ≡ record_at s (i * 4))
    (d : ℕ) (e : d ≡ c + gap p x.stamp) where
  abbrev bad : Bool
  bad = is_bad i p x.stamp d

  abbrev more : List Command
  more = commands_of (timed_after x.stamp d (left s (suc i)))

  abbrev its : Command
  its = command d (kind_of x.kind) x.bank 0

  from_here : left s i ≡ x ∷ left s (suc i)
  from_here = left_next s i l ∙ ap (λ (y : CaptureRecord). y ∷ left s (suc i)) (sym here)

  number_goes : lowest (timed_in s) ≡ pick bad i (lowest_from (suc i) x.stamp d (left s (suc i)))
  number_goes =
      sym t.number
      ∙ (ap (lowest_from i p c) from_here
      ∙ ap (λ (y : ℕ). pick (is_bad i p x.stamp y) i (lowest_from (suc i) x.stamp y (left s (suc i)))) (sym e))

  rest_goes : commands_seen s ≡ t.done ++ pick (is_tick x) more (its ∷ more)
  unfolding commands_of
  rest_goes =
      sym t.rest
      ∙ (ap (λ (y : List CaptureRecord). t.done ++ commands_of (timed_after p c y)) from_here
      ∙ ap (λ (y : ℕ). t.done ++ pick (is_tick x) (commands_of (timed_after x.stamp y (left s (suc i)))) (command y (kind_of x.kind) x.bank 0 ∷ commands_of (timed_after x.stamp y (left s (suc i))))) (sym e))

  pub turn_stops : bad ≡ true → i ≡ lowest (timed_in s)
  turn_stops b = sym (number_goes ∙ ap (λ (y : Bool). pick y i (lowest_from (suc i) x.stamp d (left s (suc i)))) b)

  -- where number 11 names no record
  pub turn_fine : lowest (timed_in s) ≡ capture_count s → bad ≡ false
  turn_fine h = on bad refl
    where
      on : (b : Bool) → bad ≡ b → b ≡ false
      on true q = absurd (omega (arith, turn_stops q))
      on false q = refl

  module _ (b : bad ≡ false) where
    pub turn_small : d ≤ 4294967295
    turn_small = ltb-false 4294967295 d (neither (ltb 0 i && eqb x.stamp p) (too_late d) b).1

    number_on : lowest_from (suc i) x.stamp d (left s (suc i)) ≡ lowest (timed_in s)
    number_on = sym (number_goes ∙ ap (λ (y : Bool). pick y i (lowest_from (suc i) x.stamp d (left s (suc i)))) b)

    pub turn_tick : is_tick x ≡ true → Turn s (suc i) x.stamp d k
    turn_tick q = record {
      low = omega arith;
      small = turn_small;
      done = t.done;
      count = t.count;
      few = omega (arith, t.few);
      number = number_on;
      rest = sym (rest_goes ∙ ap (λ (y : Bool). t.done ++ pick y more (its ∷ more)) q);
    }

    module _ (q : is_tick x ≡ false) where
      rest_on : t.done ++ (its ∷ more) ≡ commands_seen s
      rest_on = sym (rest_goes ∙ ap (λ (y : Bool). t.done ++ pick y more (its ∷ more)) q)

      pub turn_room : k + 1 ≤ length (commands_seen s)
      turn_room = omega (arith, t.count, length-append t.done (its ∷ more), ap length rest_on)

      pub turn_command : Turn s (suc i) x.stamp d (k + 1)
      turn_command = record {
        low = omega arith;
        small = turn_small;
        done = t.done ++ (its ∷ []);
        count = omega (arith, t.count, length-append t.done (its ∷ []));
        few = omega (arith, t.few);
        number = number_on;
        rest = append_assoc t.done (its ∷ []) more ∙ rest_on;
      }

    -- as the first loop counts
    pub turn_counted : (m : ℕ) → m ≡ pick (is_tick x) k (k + 1) → Turn s (i + 1) x.stamp d m
    turn_counted m h = on (is_tick x) refl h
      where
        on : (y : Bool) → is_tick x ≡ y → m ≡ pick y k (k + 1) → Turn s (i + 1) x.stamp d m
        on true q h = rw (h, add-one i) (turn_tick q)
        on false q h = rw (h, add-one i) (turn_command q)

module _ {s : List ℕ} {i p c k : ℕ} (t : Turn s i p c k) (l : capture_count s ≤ i) where
  pub turn_end_number : capture_count s ≡ lowest (timed_in s)
  turn_end_number =
      let z : capture_count s ≡ i = omega (arith, t.low) in
      z ∙ (sym (ap (lowest_from i p c) (left_none s i l)) ∙ t.number)

  pub turn_end_done : t.done ≡ commands_seen s
  unfolding commands_of
  turn_end_done =
      sym (append-nil t.done) ∙ (sym (ap (λ (y : List CaptureRecord). t.done ++ commands_of (timed_after p c y)) (left_none s i l)) ∙ t.rest)

  pub turn_end_count : k ≡ length (commands_seen s)
  turn_end_count = t.count ∙ ap length turn_end_done

-- ---- the second loop: the commands done stand in the buffer that held b₀, and all beyond as it stood

pub record Writing (s b₀ b : List ℕ) (i p c k : ℕ) : Type 0 where
  pub turn : Turn s i p c k
  pub buffer : b ≡ over (bytes_of_all turn.done) b₀

pub writing_start : (s b₀ : List ℕ) → ((i : ℕ) → get_or s i 0 < 256) → Writing s b₀ b₀ 0 0 0 0
unfolding turn_start
writing_start s b₀ h = record { turn = turn_start s h; buffer = refl }

-- number 11 names no record, and there is room
module _ {s b₀ b : List ℕ} {i p c k : ℕ} (w : Writing s b₀ b i p c k) (none : lowest (timed_in s) ≡ capture_count s)
    (room : 8 * length (commands_seen s) ≤ length b₀) where
  pub writing_size : length b ≡ length b₀
  writing_size =
      ap length w.buffer
      ∙ length_written w.turn.done b₀ (omega (arith, length-append w.turn.done (commands_of (timed_after p c (left s i))), ap length w.turn.rest))

  module _ (l : i < capture_count s) (x : CaptureRecord) (here : x ≡ record_at s (i * 4)) (d : ℕ) (e : d ≡ c + gap p x.stamp) where
    writing_fine : is_bad i p x.stamp d ≡ false
    writing_fine = turn_fine w.turn l x here d e none

    pub writing_small : d ≤ 4294967295
    writing_small = turn_small w.turn l x here d e writing_fine

    pub writing_tick : is_tick x ≡ true → Writing s b₀ b (i + 1) x.stamp d k
    unfolding turn_tick
    writing_tick q = rw (add-one i) (record { turn = turn_tick w.turn l x here d e writing_fine q; buffer = w.buffer })

    module _ (q : is_tick x ≡ false) where
      pub writing_room : 8 * k + 8 ≤ length b
      writing_room = omega (arith, writing_size, turn_room w.turn l x here d e writing_fine q)

      pub writing_command : (y : Command) (b' : List ℕ) → y ≡ command d (kind_of x.kind) x.bank 0 → b' ≡ put_at b (8 * k) (bytes_of y)
          → Writing s b₀ b' (i + 1) x.stamp d (k + 1)
      unfolding turn_command
      writing_command y b' f g =
          rw (add-one i)
          (record {
            turn = turn_command w.turn l x here d e writing_fine q;
            buffer =
                g
                ∙ (ap (λ (a : List ℕ). put_at a (8 * k) (bytes_of y)) w.buffer
                ∙ (ap (λ (n : ℕ). put_at (over (bytes_of_all w.turn.done) b₀) (8 * n) (bytes_of y)) w.turn.count
                ∙ (ap (λ (z : Command). put_at (over (bytes_of_all w.turn.done) b₀) (8 * length w.turn.done) (bytes_of z)) f
                ∙ written_more w.turn.done (command d (kind_of x.kind) x.bank 0) b₀)));
          })

  pub writing_end : capture_count s ≤ i → b ≡ over (bytes_of_all (commands_seen s)) b₀
  writing_end l = w.buffer ∙ ap (λ (rs : List Command). over (bytes_of_all rs) b₀) (turn_end_done w.turn l)
