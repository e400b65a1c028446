-- A legal schedule, written as a capture with ticks, is read again.
-- Assumes nothing.
use Rattle.std.specs.Prelude.{Ok, Err, Some, None}
use Rattle.rules.specs.Types.{Found}
use Prim.Native.Nat.{ℕ, zero, suc, ◌+◌, ◌*◌, ◌/◌, ◌%◌, ◌≤◌, ◌<◌}
use native.Mathlib.Omega.{arith}
use mathlib.Core.Path.{◌≡◌, refl, sym, ap, ◌∙◌, subst}
use mathlib.Core.Logic.{⊎_elim}
use mathlib.Core.Bool.{Bool, true, false, ◌&&◌}
use mathlib.Core.Option.{some, none-ne-some, some-injective}
use mathlib.Core.List.{List, [], ◌∷◌}
use lib.Dec.{eqb}
use lib.ListN.{length, get_elem?}
use borrow.Author.Tests.{ltb-true, le-ltb, ne_eqb, eq-eqb}
use Rattle.records.specs.Tests.{pick}
use Rattle.records.specs.Told.{over}
use Rattle.records.specs.declared.table.Table.{Table}
use Rattle.records.specs.declared.command.Kind.{Kind}
use Rattle.records.specs.declared.command.Kind.TheVariants.{Act, Rd, Rda, Wr, Wra, Ref, Other}
use Rattle.records.specs.declared.command.Command.{Command}
use Rattle.records.specs.Command.{kind_of, kind_number, command, bytes_of_all}
use Rattle.records.proofs.Laws.{answers}
use Rattle.rules.specs.declared.verdict.Verdict.TheVariants.{Accepted, Refused as Against}
use Rattle.rules.specs.Kinds.{is_known}
use Rattle.rules.specs.History.{later, broken}
use Rattle.rules.specs.Verdict.{judge_from, judge, Legal, unnumbered}
use Rattle.rules.proofs.laws.TestLaws.{true_false, and_fst}
use Rattle.rules.proofs.laws.DataKinds.{kind_back_lem}
use Rattle.rules.proofs.laws.Numbers.{same?}
use Rattle.rules.proofs.history.Judged.{holds}
use Rattle.rules.proofs.history.Unnumbered.{judge_same, length_unnumbered}
use Rattle.stamps.specs.Capture.{Timed, timed, timed_after, timed_of, timed_in, gap, bad_after, lowest_after, lowest, commands_of}
use Rattle.capture.specs.Answer.{not_a_capture, capture_count, commands_seen, capture_refusal, Captured, captured}
use Rattle.capture.specs.Written.{Sent, sends, ticks, cycle_of, record_of, capture_bytes, commands_sent, WrittenAs, ReadAgain}
use Rattle.stamps.proofs.Laws.{gap_cycles, stamps_differ}
use Rattle.records.proofs.Written.{Each}
use Rattle.capture.proofs.Refusals.{refused_none}
use Rattle.capture.proofs.Sent.{records_of, length_sent, count_sent, records_in_lem}

-- ---- true cycles

abbrev timed_sent : List Sent → List Timed
timed_sent [] = []
timed_sent (e ∷ es) = timed (cycle_of e) (record_of e) ∷ timed_sent es

-- each record is later than the one before it, at cycle c, by less than 65,536 cycles
abbrev Chain : ℕ → List Sent → Type 0
Chain c [] = Unit {0}
Chain c (e ∷ es) = (c < cycle_of e) × (cycle_of e < c + 65536) × (cycle_of e ≤ 4294967295) × Chain (cycle_of e) es

stamp_of_lem : (e : Sent) → (record_of e).stamp ≡ cycle_of e % 65536
stamp_of_lem (sends r) = refl
stamp_of_lem (ticks c) = refl

timed_after_lem : (p c : ℕ) (es : List Sent) → p ≡ c % 65536 → Chain c es → timed_after p c (records_of es) ≡ timed_sent es
timed_after_lem p c [] e k = refl
timed_after_lem p c (x ∷ es) e k =
    ap (λ (d : ℕ). timed d (record_of x) ∷ timed_after (record_of x).stamp d (records_of es)) now
    ∙ ap (λ (l : List Timed). timed (cycle_of x) (record_of x) ∷ l) (timed_after_lem (record_of x).stamp (cycle_of x) es (stamp_of_lem x) k.3)
  where
    now : c + gap p (record_of x).stamp ≡ cycle_of x
    now =
        ap (λ (q : ℕ). c + gap q (record_of x).stamp) e
        ∙ (ap (λ (q : ℕ). c + gap (c % 65536) q) (stamp_of_lem x) ∙ gap_cycles c (cycle_of x) (omega (arith, k.0)) k.1)

lowest_after_lem : (i p c : ℕ) (es : List Sent) → p ≡ c % 65536 → Chain c es → lowest_after i p (timed_sent es) ≡ i + length es
lowest_after_lem i p c [] e k = omega arith
lowest_after_lem i p c (x ∷ es) e k =
    ap (λ (b : Bool). pick b i (lowest_after (suc i) (record_of x).stamp (timed_sent es))) fine
    ∙ (lowest_after_lem (suc i) (record_of x).stamp (cycle_of x) es (stamp_of_lem x) k.3 ∙ omega arith)
  where
    other : eqb (record_of x).stamp p ≡ false
    other = ne_eqb (record_of x).stamp p (λ q. stamps_differ c (cycle_of x) k.0 k.1 (sym (stamp_of_lem x) ∙ (q ∙ e)))

    fine : bad_after p (timed (cycle_of x) (record_of x)) ≡ false
    fine = rw (other, le-ltb 4294967295 (cycle_of x) k.2)

-- all of them
abbrev Chained : List Sent → Type 0
Chained [] = Unit {0}
Chained (e ∷ es) = (cycle_of e < 65536) × Chain (cycle_of e) es

timed_all : (es : List Sent) → Chained es → timed_of (records_of es) ≡ timed_sent es
timed_all [] k = refl
timed_all (x ∷ es) k =
    let z : (record_of x).stamp ≡ cycle_of x = stamp_of_lem x ∙ omega (arith, k.0) in
    ap (λ (d : ℕ). timed d (record_of x) ∷ timed_after (record_of x).stamp d (records_of es)) z
    ∙ ap (λ (l : List Timed). timed (cycle_of x) (record_of x) ∷ l) (timed_after_lem (record_of x).stamp (cycle_of x) es (stamp_of_lem x) k.1)

lowest_all : (es : List Sent) → Chained es → lowest (timed_sent es) ≡ length es
unfolding lowest
lowest_all [] k = refl
lowest_all (x ∷ es) k =
    ap (λ (b : Bool). pick b 0 (lowest_after 1 (record_of x).stamp (timed_sent es))) (le-ltb 4294967295 (cycle_of x) (omega (arith, k.0)))
    ∙ (lowest_after_lem 1 (record_of x).stamp (cycle_of x) es (stamp_of_lem x) k.1 ∙ omega arith)

-- ---- commands

abbrev Known : Command → Type 0
Known r = is_known r.kind ≡ true

no_tick : (k : Kind) (b : ℕ) → is_known k ≡ true → (eqb (kind_number k) 255 && eqb b 0) ≡ false
no_tick Act b e = refl
no_tick Rd b e = refl
no_tick Rda b e = refl
no_tick Wr b e = refl
no_tick Wra b e = refl
no_tick Ref b e = refl
no_tick (Other n) b e = true_false false e refl

commands_all : (es : List Sent) → Each Known (commands_sent es) → commands_of (timed_sent es) ≡ unnumbered (commands_sent es)
unfolding commands_of
commands_all [] k = refl
commands_all (sends r ∷ es) k =
    ap (λ (b : Bool). pick b (commands_of (timed_sent es)) (command r.cycle (kind_of (kind_number r.kind)) r.bank 0 ∷ commands_of (timed_sent es)))
    (no_tick r.kind r.bank k.0)
    ∙ (ap (λ (x : Kind). command r.cycle x r.bank 0 ∷ commands_of (timed_sent es)) (kind_back_lem r.kind k.0)
    ∙ ap (λ (l : List Command). command r.cycle r.kind r.bank 0 ∷ l) (commands_all es k.1))
commands_all (ticks c ∷ es) k = commands_all es k

-- ---- what a legal schedule has: known kinds, and each cycle greater than the one before

abbrev Rises : List Command → List Command → Type 0
Rises [] h = Unit {0}
Rises (r ∷ rs) h = Known r × (later r.cycle h ≡ true) × Rises rs (r ∷ h)

rises : (τ : Table) (rs : List Command) (n : ℕ) (h : List Command) → judge_from τ rs n h ≡ Accepted → Rises rs h
rises τ [] n h e = tt
rises τ (r ∷ rs) n h e = on (broken τ r h) refl e (rises τ rs (suc n) (r ∷ h))
  where
    on : (f : Found) → broken τ r h ≡ f → (elim f [ None ↦ judge_from τ rs (suc n) (r ∷ h) | Some x ↦ Against x n ]) ≡ Accepted
        → (judge_from τ rs (suc n) (r ∷ h) ≡ Accepted → Rises rs (r ∷ h)) → Rises (r ∷ rs) h
    on None b e ih = (and_fst (is_known r.kind) _ (holds τ r h b 0), holds τ r h b 1, ih e)
    on (Some x) b e ih = let z : ◌≡◌ {A = ℕ} 0 1 = cc in absurd (omega arith)

known_all : (rs h : List Command) → Rises rs h → Each Known rs
known_all [] h k = tt
known_all (r ∷ rs) h k = (k.0, known_all rs (r ∷ h) k.2)

rises_next : (rs h : List Command) → Rises rs h → (j : ℕ) (r q : Command) → get_elem? rs j ≡ some r → get_elem? rs (suc j) ≡ some q → r.cycle < q.cycle
rises_next [] h k j r q e f = absurd (none-ne-some r e)
rises_next (x ∷ []) h k zero r q e f = absurd (none-ne-some q f)
rises_next (x ∷ y ∷ rs) h k zero r q e f =
    let a : x.cycle < y.cycle = ltb-true x.cycle y.cycle k.2.1 in
    let b : x ≡ r = some-injective x r e in
    let d : y ≡ q = some-injective y q f in
    rw (← b, ← d) a
rises_next (x ∷ rs) h k (suc j) r q e f = rises_next rs (x ∷ h) k.2 j r q e f

-- ---- a command that was sent is one of the schedule's, and two that follow each other follow each other there

sent_at : (es : List Sent) (i : ℕ) (r : Command) → get_elem? es i ≡ some (sends r) → (j : ℕ) × (get_elem? (commands_sent es) j ≡ some r)
sent_at [] i r e = absurd (none-ne-some (sends r) e)
sent_at (sends x ∷ es) zero r e = (0, let k = some-injective (sends x) (sends r) e in let z : x ≡ r = cc in ap some z)
sent_at (ticks c ∷ es) zero r e = let k = some-injective (ticks c) (sends r) e in let z : ◌≡◌ {A = ℕ} 0 1 = cc in absurd (omega arith)
sent_at (sends x ∷ es) (suc i) r e = let j = sent_at es i r e in (suc j.0, j.1)
sent_at (ticks c ∷ es) (suc i) r e = sent_at es i r e

sent_first : (es : List Sent) (q : Command) → get_elem? es 0 ≡ some (sends q) → get_elem? (commands_sent es) 0 ≡ some q
sent_first [] q e = absurd (none-ne-some (sends q) e)
sent_first (sends x ∷ es) q e = let k = some-injective (sends x) (sends q) e in let z : x ≡ q = cc in ap some z
sent_first (ticks c ∷ es) q e = let k = some-injective (ticks c) (sends q) e in let z : ◌≡◌ {A = ℕ} 0 1 = cc in absurd (omega arith)

sent_next : (es : List Sent) (i : ℕ) (r q : Command) → get_elem? es i ≡ some (sends r) → get_elem? es (suc i) ≡ some (sends q)
    → (j : ℕ) × (get_elem? (commands_sent es) j ≡ some r) × (get_elem? (commands_sent es) (suc j) ≡ some q)
sent_next [] i r q e f = absurd (none-ne-some (sends r) e)
sent_next (sends x ∷ es) zero r q e f =
    (0, (let k = some-injective (sends x) (sends r) e in let z : x ≡ r = cc in ap some z), sent_first es q f)
sent_next (ticks c ∷ es) zero r q e f = let k = some-injective (ticks c) (sends r) e in let z : ◌≡◌ {A = ℕ} 0 1 = cc in absurd (omega arith)
sent_next (sends x ∷ es) (suc i) r q e f = let j = sent_next es i r q e f in (suc j.0, j.1, j.2)
sent_next (ticks c ∷ es) (suc i) r q e f = sent_next es i r q e f

-- ---- so each record is later than the one before it

module _ (es : List Sent) (k : Rises (commands_sent es) []) (w : WrittenAs (commands_sent es) es) where
  up : (i : ℕ) (a b : Sent) → get_elem? es i ≡ some a → get_elem? es (suc i) ≡ some b → cycle_of a < cycle_of b
  up i (sends r) (sends q) e f = let j = sent_next es i r q e f in rises_next (commands_sent es) [] k j.0 r q j.1 j.2
  up i (sends r) (ticks d) e f =
      let j = sent_at es i r e in
      ⊎_elim (λ z. absurd (w.apart (suc i) j.0 d r f j.1 z)) (λ z. omega (arith, w.order i (sends r) (ticks d) e f, z)) (same? r.cycle d)
  up i (ticks c) (sends q) e f =
      let j = sent_at es (suc i) q f in
      ⊎_elim (λ z. absurd (w.apart i j.0 c q e j.1 z)) (λ z. omega (arith, w.order i (ticks c) (sends q) e f, z)) (same? q.cycle c)
  up i (ticks c) (ticks d) e f =
      ⊎_elim (λ z. absurd (omega (arith, w.once i (suc i) c e (f ∙ ap (λ (x : ℕ). some (ticks x)) (sym z)))))
      (λ z. omega (arith, w.order i (ticks c) (ticks d) e f, z)) (same? c d)

  small : (i : ℕ) (a : Sent) → get_elem? es i ≡ some a → cycle_of a ≤ 4294967295
  small i (sends r) e = let j = sent_at es i r e in w.cycles j.0 r j.1
  small i (ticks c) e = w.low i c e

chain : (e : Sent) (es : List Sent)
    → ((i : ℕ) (a b : Sent) → get_elem? (e ∷ es) i ≡ some a → get_elem? (e ∷ es) (suc i) ≡ some b → cycle_of a < cycle_of b)
    → ((i : ℕ) (a b : Sent) → get_elem? (e ∷ es) i ≡ some a → get_elem? (e ∷ es) (suc i) ≡ some b → cycle_of b < cycle_of a + 65536)
    → ((i : ℕ) (a : Sent) → get_elem? (e ∷ es) i ≡ some a → cycle_of a ≤ 4294967295) → Chain (cycle_of e) es
chain e [] u n s = tt
chain e (x ∷ es) u n s =
    (u 0 e x refl refl, n 0 e x refl refl, s 1 x refl, chain x es (λ i a b p q. u (suc i) a b p q) (λ i a b p q. n (suc i) a b p q) (λ i a p. s (suc i) a p))

chained : (es : List Sent) → Rises (commands_sent es) [] → WrittenAs (commands_sent es) es → Chained es
chained [] k w = tt
chained (e ∷ es) k w = (w.first e refl, chain e es (up (e ∷ es) k w) w.near (small (e ∷ es) k w))

-- ---- the round trip

module _ (τ : Table) (es : List Sent) (l : Legal τ (commands_sent es)) (w : WrittenAs (commands_sent es) es) where
  k : Rises (commands_sent es) []
  k = rises τ (commands_sent es) 0 [] l

  abbrev s : List ℕ
  s = capture_bytes es

  timed_is : timed_in s ≡ timed_sent es
  unfolding timed_in
  timed_is = ap timed_of (records_in_lem es) ∙ timed_all es (chained es k w)

  size_is : not_a_capture (length s) ≡ false
  size_is =
      let m : length s % 4 ≡ 0 = omega (arith, length_sent es) in
      rw (eq-eqb (length s % 4) 0 m, le-ltb 69632 (length s / 4) (omega (arith, count_sent es, w.few)))

  none_is : lowest (timed_in s) ≡ capture_count s
  none_is = ap lowest timed_is ∙ (lowest_all es (chained es k w) ∙ sym (count_sent es))

  commands_are : commands_seen s ≡ unnumbered (commands_sent es)
  unfolding commands_seen
  commands_are = ap commands_of timed_is ∙ commands_all es (known_all (commands_sent es) [] k)

  abbrev judged : List ℕ → List Command → Captured
  judged b rs = record { answer = Ok (τ.edition, length rs, judge τ rs); buffer = over (bytes_of_all rs) b }

  answer_is : (b : List ℕ) → 8 * length (commands_sent es) ≤ length b
      → captured τ s b ≡ record { answer = Ok (τ.edition, length (commands_sent es), Accepted); buffer = over (bytes_of_all (unnumbered (commands_sent es))) b }
  unfolding captured
  answer_is b h =
      sym (answers 0 (capture_refusal s (length b)) taken (judged b (commands_seen s)) (record { answer = Err _; buffer = b }) refl)
      ∙ (ap (judged b) commands_are
      ∙ (ap (λ (n : ℕ). record { answer = Ok (τ.edition, n, judge τ (unnumbered (commands_sent es))); buffer = over (bytes_of_all (unnumbered (commands_sent es))) b }) (length_unnumbered (commands_sent es))
      ∙ ap (λ v. record { answer = Ok (τ.edition, length (commands_sent es), v); buffer = over (bytes_of_all (unnumbered (commands_sent es))) b }) (judge_same τ (commands_sent es) ∙ l)))
    where
      count : length (commands_seen s) ≡ length (commands_sent es)
      count = ap length commands_are ∙ length_unnumbered (commands_sent es)

      taken : 0 ≡ capture_refusal s (length b)
      taken = refused_none s (length b) size_is (omega (arith, none_is)) (omega (arith, count))

  read_again : ReadAgain τ (commands_sent es) (capture_bytes es)
  read_again = record { size = size_is; none = none_is; commands = commands_are; answer = answer_is }

-- "reading it gives the schedule's cycles, kinds and banks again"
pub round_trip : (τ : Table) (rs : List Command) (es : List Sent) → Legal τ rs → WrittenAs rs es → ReadAgain τ rs (capture_bytes es)
round_trip τ rs es l w =
    subst (λ (y : List Command). ReadAgain τ y (capture_bytes es)) w.schedule
    (read_again τ es (subst (Legal τ) (sym w.schedule) l) (subst (λ (y : List Command). WrittenAs y es) (sym w.schedule) w))
