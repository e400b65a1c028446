-- A list that comes in pieces: what has not arrived makes no difference.
-- Assumes nothing.
use Prim.Native.Nat.{ℕ, zero, suc, ◌+◌, ◌-◌, ◌≤◌, ◌<◌}
use native.Mathlib.Omega.{arith}
use native.Mathlib.Numerals.{add-one}
use mathlib.Core.Path.{◌≡◌, refl, sym, ap, ◌∙◌, subst}
use mathlib.Core.Logic.{◌⊎◌, inl, inr, ⊎_elim}
use mathlib.Core.Bool.{Bool, true, false, ◌||◌}
use mathlib.Core.Option.{Option, none, some}
use mathlib.Core.List.{List, [], ◌∷◌, ◌++◌, append_assoc, append-nil}
use lib.Dec.{ltb, leb}
use lib.ListN.{length, get_elem?}
use borrow.Author.Tests.{leb-true, le-leb, lt-leb, ltb-false}
use Rattle.records.specs.declared.table.Table.{Table}
use Rattle.records.specs.declared.transaction.Transaction.{Transaction}
use Rattle.records.specs.declared.command.Command.{Command}
use Rattle.rules.specs.declared.state.State.{State}
use Rattle.records.specs.Tests.{pick}
use Rattle.records.specs.Table.{Accepted}
use Rattle.records.specs.Transaction.{fits_from, list_fits}
use Rattle.records.proofs.Arrivals.{first_fits}
use Rattle.rules.specs.State.{fresh, after}
use Rattle.rules.specs.Queues.{act_count, act_queue, data_queue}
use Rattle.rules.specs.Pattern.{onto}
use Rattle.rules.specs.CycleRule.{goes, push}
use Rattle.rules.specs.Run.{served, stops, Ran, one_more, run}
use Rattle.rules.specs.Pieces.{lend, first_below, is_late, lent_run, Piece, whole, then_ran, in_pieces, InTime, PiecesKept}
use Rattle.rules.proofs.laws.TestLaws.{true_false, and_both, and_fst, and_snd}
use Rattle.rules.proofs.laws.Numbers.{from?}
use Rattle.rules.proofs.queues.Queue.{place_of, data_count, find, act_length, data_length, sum_append}
use Rattle.rules.proofs.queues.Heads.{seen_place, goes_try}
use Rattle.rules.proofs.bound.Served.{goes_now, one_cycle, steps_cycle}
use Rattle.rules.proofs.runs.RunTo.{stopped, going, run_steps, n_then_m}
use Rattle.rules.proofs.shown.Built.{run_built, run_reports, run_ends}
use Rattle.rules.proofs.runs.Lent.{lend_ran, run_lent, lent_is}

-- all arrive at a or later
abbrev pub From : ℕ → List Transaction → Type 0
From a [] = Unit {0}
From a (x ∷ m) = (a ≤ x.arrival) × From a m

from_down : (a b : ℕ) → b ≤ a → (l : List Transaction) → From a l → From b l
from_down a b h [] f = tt
from_down a b h (x ∷ l) f = (omega (arith, f.0), from_down a b h l f.1)

fits_from_lem : (τ : Table) (a : ℕ) (l : List Transaction) → fits_from a τ l ≡ true → From a l
fits_from_lem τ a [] e = tt
fits_from_lem τ a (x ∷ l) e = let f = first_fits τ a x l e in (f.0, from_down x.arrival a f.0 l (fits_from_lem τ x.arrival l f.2))

fits_rest : (τ : Table) (m l : List Transaction) (a : ℕ) → fits_from a τ (m ++ l) ≡ true → (b : ℕ) × (fits_from b τ l ≡ true)
fits_rest τ [] l a e = (a, e)
fits_rest τ (x ∷ m) l a e = fits_rest τ m l x.arrival (first_fits τ a x (m ++ l) e).2

-- ---- before they arrive, the heads of the queues are those of the list without them

module _ (t a : ℕ) (lt : t < a) (f : Transaction → ℕ) where
  none_seen : (m : List Transaction) → From a m → (i b n : ℕ) → seen_place t (find f m i b n) ≡ none
  none_seen [] h i b n = refl
  none_seen (x ∷ m) h i b n = on (ltb n (f x)) (none_seen m h.1 (suc i) (b + act_count x) (n - f x))
    where
      on : (e : Bool) → seen_place t (find f m (suc i) (b + act_count x) (n - f x)) ≡ none
          → seen_place t (pick e (some (place_of x i b n)) (find f m (suc i) (b + act_count x) (n - f x))) ≡ none
      on true ih = rw (lt-leb x.arrival t (omega (arith, h.0)))
      on false ih = ih

  same_seen : (l m : List Transaction) → From a m → (i b n : ℕ) → seen_place t (find f (l ++ m) i b n) ≡ seen_place t (find f l i b n)
  same_seen [] m h i b n = none_seen m h i b n
  same_seen (x ∷ l) m h i b n = on (ltb n (f x)) (same_seen l m h (suc i) (b + act_count x) (n - f x))
    where
      on : (e : Bool) → seen_place t (find f (l ++ m) (suc i) (b + act_count x) (n - f x)) ≡ seen_place t (find f l (suc i) (b + act_count x) (n - f x))
          → seen_place t (pick e (some (place_of x i b n)) (find f (l ++ m) (suc i) (b + act_count x) (n - f x)))
          ≡ seen_place t (pick e (some (place_of x i b n)) (find f l (suc i) (b + act_count x) (n - f x)))
      on true ih = refl
      on false ih = ih

or_still : (x y b : Bool) → (x ≡ true → y ≡ true) → (y || b) ≡ false → (x || b) ≡ false
or_still true y b f e = true_false (y || b) (ap (λ (z : Bool). z || b) (f refl)) e
or_still false true b f e = true_false true refl e
or_still false false b f e = e

module _ (τ : Table) (l m : List Transaction) where
  goes_same : (a : ℕ) → From a m → (s : State) → s.cycle < a → goes τ (l ++ m) s ≡ goes τ l s
  goes_same a h s lt =
      rw (goes_try τ (l ++ m) s, goes_try τ l s, same_seen s.cycle a lt data_count l m h 0 0 s.datas, same_seen s.cycle a lt act_count l m h 0 0 s.acts)

  -- a list with more at its end is not served before it
  served_front : (s : State) → served τ (l ++ m) s ≡ true → served τ l s ≡ true
  served_front s e =
      let D = leb (length (data_queue τ (l ++ m))) s.datas in
      let A = leb (length (act_queue τ (l ++ m))) s.acts in
      let d : length (data_queue τ (l ++ m)) ≤ s.datas = leb-true (length (data_queue τ (l ++ m))) s.datas (and_fst D A e) in
      let a : length (act_queue τ (l ++ m)) ≤ s.acts = leb-true (length (act_queue τ (l ++ m))) s.acts (and_snd D A e) in
      and_both (leb (length (data_queue τ l)) s.datas) (leb (length (act_queue τ l)) s.acts)
      (le-leb (length (data_queue τ l)) s.datas (omega (arith, d, data_length τ l, data_length τ (l ++ m), sum_append data_count l m)))
      (le-leb (length (act_queue τ l)) s.acts (omega (arith, a, act_length τ l, act_length τ (l ++ m), sum_append act_count l m)))

  stops_more : (s : State) → stops τ l s ≡ false → stops τ (l ++ m) s ≡ false
  stops_more s e = or_still (served τ (l ++ m) s) (served τ l s) (leb 100000000 s.cycle) (served_front s) e

pub run_cycle : (n : ℕ) (τ : Table) (l : List Transaction) (s : State) (h : List Command) → (run n τ l s h).state.cycle ≡ s.cycle + (run n τ l s h).cycles
run_cycle n τ l s h = ap (λ (y : State × List Command). y.0.cycle) (sym (run_steps n τ l s h)) ∙ steps_cycle (run n τ l s h).cycles τ l s h

-- a run of the list so far is a run of the whole list, of as many cycles, if nothing new arrives before it ends
pub piece_run : (n : ℕ) (τ : Table) (l m : List Transaction) (a : ℕ) → From a m → (s : State) (h : List Command) → (run n τ l s h).state.cycle ≤ a
    → run (run n τ l s h).cycles τ (l ++ m) s h ≡ run n τ l s h
piece_run zero τ l m a f s h k = refl
piece_run (suc n) τ l m a f s h k = on (stops τ l s) refl (piece_run n τ l m a f (after τ s (goes τ l s)) (push (goes τ l s) h))
  where
    next : Ran
    next = run n τ l (after τ s (goes τ l s)) (push (goes τ l s) h)

    on : (b : Bool) → stops τ l s ≡ b
        → (next.state.cycle ≤ a → run next.cycles τ (l ++ m) (after τ s (goes τ l s)) (push (goes τ l s) h) ≡ next)
        → run (run (suc n) τ l s h).cycles τ (l ++ m) s h ≡ run (suc n) τ l s h
    on true e ih = rw (stopped (suc n) τ l s h e) refl
    on false e ih =
        let g = going n τ l s h e in
        let k' : next.state.cycle ≤ a = subst (λ (r : Ran). r.state.cycle ≤ a) g k in
        let lt : s.cycle < a =
        omega (arith, k', run_cycle n τ l (after τ s (goes τ l s)) (push (goes τ l s) h), one_cycle τ s (goes τ l s) (goes_now τ l s)) in
        subst (λ (r : Ran). run r.cycles τ (l ++ m) s h ≡ r) (sym g)
        (ap (λ (c : ℕ). run c τ (l ++ m) s h) (add-one next.cycles)
        ∙ (going next.cycles τ (l ++ m) s h (stops_more τ l m s e)
        ∙ (ap (λ (o : Option Command). one_more (run next.cycles τ (l ++ m) (after τ s o) (push o h))) (goes_same τ l m a f s lt)
        ∙ ap one_more (ih k'))))

-- ---- the pieces

module _ (τ : Table) where
  at_seam : (l : List Transaction) (x : Transaction) (m : List Transaction) → get_elem? (l ++ x ∷ m) (length l) ≡ some x
  at_seam [] x m = refl
  at_seam (y ∷ l) x m = at_seam l x m

  -- whatever comes later arrives no earlier than the state's cycle
  not_late_from : (ps : List Piece) (l : List Transaction) (s : State) → s.lent ≡ length l → InTime τ ps l s → (b : ℕ) → fits_from b τ (whole ps) ≡ true
      → From s.cycle (whole ps)
  not_late_from [] l s e q b u = tt
  not_late_from (p ∷ ps) l s e q b u =
      let w = fits_rest τ p.more (whole ps) b u in
      let r = lent_run p.count τ (l ++ p.more) s in
      let ih = not_late_from ps (l ++ p.more) r.state (lent_is p.count τ (l ++ p.more) s) q.1 w.0 w.1 in
      on p.more q.0 u
      (from_down r.state.cycle s.cycle (omega (arith, run_cycle p.count τ (l ++ p.more) (lend (length (l ++ p.more)) s) [])) (whole ps) ih)
    where
      on : (m : List Transaction) → is_late (l ++ m) s ≡ false → fits_from b τ (m ++ whole ps) ≡ true → From s.cycle (whole ps) → From s.cycle (m ++ whole ps)
      on [] k a ih = ih
      on (x ∷ m) k a ih =
          let new : first_below (some x) s.cycle ≡ false = rw (e, at_seam l x m) at k in
          let c : s.cycle ≤ x.arrival = ltb-false x.arrival s.cycle new in (
            c,
            from_down x.arrival s.cycle c (m ++ whole ps)
                (fits_from_lem τ x.arrival (m ++ whole ps) (first_fits τ b x (m ++ whole ps) a).2),
          )

  -- the runs of the pieces are one run of the whole list
  pub pieces_run : (ps : List Piece) (l : List Transaction) (s : State) → s.lent ≡ length l → InTime τ ps l s → (b : ℕ) → fits_from b τ (whole ps) ≡ true
      → in_pieces τ ps l s ≡ lend_ran (length (l ++ whole ps)) (run (in_pieces τ ps l s).cycles τ (l ++ whole ps) s [])
  pieces_run [] l s e q b u = ap (λ (n : ℕ). record { state = lend n s; history = []; cycles = 0 }) (e ∙ ap length (sym (append-nil l)))
  pieces_run (p ∷ ps) l s e q b u =
      ap (then_ran r) (pieces_run ps so r.state (lent_is p.count τ so s) q.1 w.0 w.1)
      ∙ (ap (lend_ran (length W)) (sym one)
      ∙ (ap (lend_ran (length W)) (run_lent (r.cycles + C) (length so) τ W s [])
      ∙ ap (λ (y : List Transaction). lend_ran (length y) (run (r.cycles + C) τ y s [])) (append_assoc l p.more (whole ps))))
    where
      so : List Transaction
      so = l ++ p.more

      W : List Transaction
      W = so ++ whole ps

      r : Ran
      r = lent_run p.count τ so s

      C : ℕ
      C = (in_pieces τ ps so r.state).cycles

      w : (b : ℕ) × (fits_from b τ (whole ps) ≡ true)
      w = fits_rest τ p.more (whole ps) b u

      mine : run r.cycles τ W (lend (length so) s) [] ≡ r
      mine =
          piece_run p.count τ so (whole ps) r.state.cycle
          (not_late_from ps so r.state (lent_is p.count τ so s) q.1 w.0 w.1) (lend (length so) s) [] (omega arith)

      one : run (r.cycles + C) τ W (lend (length so) s) [] ≡ then_ran r (run C τ W r.state [])
      one = n_then_m r.cycles C τ W (lend (length so) s) ∙ ap (λ (y : Ran). then_ran y (run C τ W y.state [])) mine

-- a run that has served its list goes no further
module _ (τ : Table) (l : List Transaction) (s : State) where
  run_stays : (c d : ℕ) → served τ l (run c τ l s []).state ≡ true → run (c + d) τ l s [] ≡ run c τ l s []
  run_stays c d e =
      n_then_m c d τ l s
      ∙ (ap (then_ran (run c τ l s [])) (stopped d τ l (run c τ l s []).state [] (ap (λ (y : Bool). y || leb 100000000 (run c τ l s []).state.cycle) e))
      ∙ ap (λ (n : ℕ). record { state = (run c τ l s []).state; history = (run c τ l s []).history; cycles = n }) (omega arith))

  pub run_same : (c n : ℕ) → served τ l (run c τ l s []).state ≡ true → served τ l (run n τ l s []).state ≡ true → run c τ l s [] ≡ run n τ l s []
  run_same c n e g = ⊎_elim
      (λ k. let z : c + (n - c) ≡ n = omega arith in sym (run_stays c (n - c) e) ∙ ap (λ (y : ℕ). run y τ l s []) z)
      (λ k. ap (λ (y : ℕ). run y τ l s []) k.1 ∙ run_stays n k.0 g) (from? c n)

-- a run is the run of as many cycles as it reports
pub run_counted : (n : ℕ) (τ : Table) (l : List Transaction) (s : State) (h : List Command) → run n τ l s h ≡ run (run n τ l s h).cycles τ l s h
run_counted zero τ l s h = refl
run_counted (suc n) τ l s h = on (stops τ l s) refl (run_counted n τ l (after τ s (goes τ l s)) (push (goes τ l s) h))
  where
    next : Ran
    next = run n τ l (after τ s (goes τ l s)) (push (goes τ l s) h)

    on : (b : Bool) → stops τ l s ≡ b → next ≡ run next.cycles τ l (after τ s (goes τ l s)) (push (goes τ l s) h)
        → run (suc n) τ l s h ≡ run (run (suc n) τ l s h).cycles τ l s h
    on true e ih = stopped (suc n) τ l s h e ∙ ap (λ (r : Ran). run r.cycles τ l s h) (sym (stopped (suc n) τ l s h e))
    on false e ih =
        going n τ l s h e
        ∙ (ap one_more ih
        ∙ (sym (going next.cycles τ l s h e)
        ∙ (ap (λ (k : ℕ). run k τ l s h) (let z : suc next.cycles ≡ (one_more next).cycles = omega arith in z)
        ∙ ap (λ (r : Ran). run r.cycles τ l s h) (sym (going n τ l s h e)))))

-- a run that stops short of its count has stopped by itself
full : (n : ℕ) (τ : Table) (l : List Transaction) (s : State) (h : List Command) → ((run n τ l s h).cycles ≡ n) ⊎ (stops τ l (run n τ l s h).state ≡ true)
full zero τ l s h = inl refl
full (suc n) τ l s h = on (stops τ l s) refl (full n τ l (after τ s (goes τ l s)) (push (goes τ l s) h))
  where
    next : Ran
    next = run n τ l (after τ s (goes τ l s)) (push (goes τ l s) h)

    on : (b : Bool) → stops τ l s ≡ b → (next.cycles ≡ n) ⊎ (stops τ l next.state ≡ true)
        → ((run (suc n) τ l s h).cycles ≡ suc n) ⊎ (stops τ l (run (suc n) τ l s h).state ≡ true)
    on true e ih = inr (rw (stopped (suc n) τ l s h e) e)
    on false e ih =
        subst (λ (r : Ran). (r.cycles ≡ suc n) ⊎ (stops τ l r.state ≡ true)) (sym (going n τ l s h e)) (⊎_elim (λ z. inl (omega (arith, z))) (λ z. inr z) ih)

-- the last run of the pieces
last_run : (τ : Table) (qs : List Piece) (p : Piece) (l : List Transaction) (s : State)
    → (in_pieces τ (qs ++ p ∷ []) l s).state ≡ (lent_run p.count τ (l ++ whole (qs ++ p ∷ [])) (in_pieces τ qs l s).state).state
last_run τ [] p l s = ap (λ (y : List Transaction). (lent_run p.count τ (l ++ y) s).state) (sym (append-nil p.more))
last_run τ (q ∷ qs) p l s =
    last_run τ qs p (l ++ q.more) (lent_run q.count τ (l ++ q.more) s).state
    ∙ ap (λ (y : List Transaction). (lent_run p.count τ y (in_pieces τ (q ∷ qs) l s).state).state) (append_assoc l q.more (whole (qs ++ p ∷ [])))

pub pieces_kept : (τ : Table) → Accepted τ → (ps : List Piece) → list_fits τ (whole ps) ≡ true → InTime τ ps [] (fresh τ) → PiecesKept τ ps
pieces_kept τ acc ps fit q =
    record {
      one_run = one ∙ sym (lent C);
      to_end = λ n e g. one ∙ (ap (lend_ran (length W)) (run_same τ W (fresh τ) C n (served_one e) (rw (lent n) at g)) ∙ sym (lent n));
      commands = λ rs b e. (
        ap (λ (y : Ran). onto y.history []) one ∙ run_built τ acc W fit rs b C (served_one e),
        ap (λ (y : Ran). y.cycles) one ∙ run_reports τ acc W fit rs b C (served_one e),
      );
      ends = λ qs p e k. on qs p e k;
    }
  where
    W : List Transaction
    W = whole ps

    C : ℕ
    C = (in_pieces τ ps [] (fresh τ)).cycles

    one : in_pieces τ ps [] (fresh τ) ≡ lend_ran (length W) (run C τ W (fresh τ) [])
    one = pieces_run τ ps [] (fresh τ) refl q 0 (and_snd (leb (length W) 256) (fits_from 0 τ W) fit)

    lent : (n : ℕ) → lent_run n τ W (fresh τ) ≡ lend_ran (length W) (run n τ W (fresh τ) [])
    lent n = run_lent n (length W) τ W (fresh τ) []

    served_one : served τ W (in_pieces τ ps [] (fresh τ)).state ≡ true → served τ W (run C τ W (fresh τ) []).state ≡ true
    served_one e = subst (λ (y : Ran). served τ W y.state ≡ true) one e

    -- past the limit of a run the list is served
    late : 100000000 ≤ (in_pieces τ ps [] (fresh τ)).state.cycle → served τ W (in_pieces τ ps [] (fresh τ)).state ≡ true
    late k =
        let c : (in_pieces τ ps [] (fresh τ)).state.cycle ≡ C =
        ap (λ (y : Ran). y.state.cycle) one ∙ (run_cycle C τ W (fresh τ) [] ∙ (omega arith ∙ ap (λ (y : Ran). y.cycles) (sym one))) in
        subst (λ (y : Ran). served τ W y.state ≡ true) (sym one) (run_ends τ acc W fit C (omega (arith, k, c)))

    on : (qs : List Piece) (p : Piece) → ps ≡ qs ++ p ∷ [] → 100000000 ≤ p.count → served τ W (in_pieces τ ps [] (fresh τ)).state ≡ true
    on qs p e k =
        ⊎_elim (λ z. late (rw same (omega (arith, run_cycle p.count τ W s [], z))))
        (λ z. stop (served τ W (in_pieces τ ps [] (fresh τ)).state) refl (subst (λ (y : State). stops τ W y ≡ true) (sym same) z)) (full p.count τ W s [])
      where
        s : State
        s = lend (length W) (in_pieces τ qs [] (fresh τ)).state

        same : (in_pieces τ ps [] (fresh τ)).state ≡ (run p.count τ W s []).state
        same =
            ap (λ (y : List Piece). (in_pieces τ y [] (fresh τ)).state) e
            ∙ (last_run τ qs p [] (fresh τ) ∙ ap (λ (y : List Piece). (lent_run p.count τ (whole y) (in_pieces τ qs [] (fresh τ)).state).state) (sym e))

        stop : (b : Bool) → served τ W (in_pieces τ ps [] (fresh τ)).state ≡ b → stops τ W (in_pieces τ ps [] (fresh τ)).state ≡ true
            → served τ W (in_pieces τ ps [] (fresh τ)).state ≡ true
        stop true z t = z
        stop false z t = late (leb-true 100000000 (in_pieces τ ps [] (fresh τ)).state.cycle (rw z at t))
