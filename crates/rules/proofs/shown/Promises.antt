-- The promises on the built schedule and on runs, for every table that is accepted and every list that fits it.
-- Assumes nothing.
use Rattle.std.specs.Prelude.{Some}
use Prim.Native.Nat.{ℕ, zero, suc, ◌+◌, ◌≤◌, ◌<◌}
use native.Mathlib.Omega.{arith}
use native.Mathlib.Numerals.{add-one}
use mathlib.Core.Path.{◌≡◌, refl, sym, ap, ◌∙◌, subst}
use mathlib.Core.Bool.{Bool, true, false, ◌&&◌}
use mathlib.Core.Option.{some}
use mathlib.Core.List.{List, [], ◌∷◌, ◌++◌}
use lib.Dec.{leb, ltb, eqb}
use lib.ListN.{length, get_elem?, length-append}
use borrow.Author.Tests.{ltb-true, le-leb}
use Rattle.records.specs.declared.table.Table.{Table}
use Rattle.records.specs.declared.transaction.Transaction.{Transaction}
use Rattle.records.specs.declared.command.Command.{Command}
use Rattle.records.specs.Tests.{pick, every}
use Rattle.records.specs.Table.{Accepted}
use Rattle.records.specs.Transaction.{is_write, is_refresh, fits_from, list_fits}
use Rattle.records.proofs.Arrivals.{fits_front, few_listed}
use Rattle.rules.specs.Kinds.{can_end}
use Rattle.rules.specs.Pattern.{onto}
use Rattle.rules.specs.CycleRule.{gone, Built}
use Rattle.rules.specs.Bound.{span, start_at}
use Rattle.rules.specs.Finish.{last_command_in, last_command, finish_of, count_from, finish, map_stamp}
use Rattle.rules.specs.Promise.{of_first, cycle_of, last_command_cycle, finish_cycle, Kept, RunsKept}
use Rattle.rules.proofs.laws.TestLaws.{and_both, and_fst, and_snd}
use Rattle.rules.proofs.laws.Ranges.{ranges}
use Rattle.rules.proofs.bound.Finishes.{nth, Finishes}
use Rattle.rules.proofs.bound.Served.{total}
use Rattle.rules.proofs.runs.RunTo.{n_then_m}
use Rattle.rules.proofs.runs.Places.{past_kept_lem, past_unread_lem}
use Rattle.rules.proofs.runs.HowMany.{every_onto, run_room}
use Rattle.rules.proofs.runs.Arrived.{built_arrived, run_arrived}
use Rattle.rules.proofs.added.OfFirst.{first_onto, last_first}
use Rattle.rules.proofs.added.NothingMoves.{front_unmoved}
use Rattle.rules.proofs.shown.Built.{each_fits, history_at, by_state, stop_built, enough, exists, built_only, built_at, built_count, built_passes, built_early, built_bound, run_built, run_reports, run_ends}

-- a transaction of a list, by its number
at_number : (l : List Transaction) (k : ℕ) (x : Transaction) → get_elem? l k ≡ some x → (nth l k ≡ x) × (k < length l)
at_number [] k x e = let z : ◌≡◌ {A = ℕ} 0 1 = cc in absurd (omega arith)
at_number (y ∷ l) zero x e = (cc, omega arith)
at_number (y ∷ l) (suc k) x e = let z = at_number l k x e in (z.0, omega (arith, z.1))

-- a list that fits has a front that fits
front_fits : (τ : Table) (xs ys : List Transaction) → list_fits τ (xs ++ ys) ≡ true → list_fits τ xs ≡ true
front_fits τ xs ys e =
    and_both (leb (length xs) 256) (fits_from 0 τ xs) (le-leb (length xs) 256 (omega (arith, few_listed τ (xs ++ ys) e, length-append xs ys)))
    (fits_front τ xs ys 0 (and_snd (leb (length (xs ++ ys)) 256) (fits_from 0 τ (xs ++ ys)) e))

-- what a later last command does to the finish
later : (τ : Table) (x : Transaction) (c d : ℕ) → c ≤ d → finish_of τ x c ≤ finish_of τ x d
later τ x c d h = on (is_refresh x) (is_write x)
  where
    on : (f w : Bool) → pick f (c + τ.rfc) (pick w c (c + τ.rl + τ.b)) ≤ pick f (d + τ.rfc) (pick w d (d + τ.rl + τ.b))
    on true w = omega arith
    on false true = h
    on false false = omega arith

-- where all commands go early, the last commands do
early_last : (k : ℕ) (h : List Command) → every (λ r. ltb r.cycle 100000000) h ≡ true → cycle_of (last_command_in k h) < 100000000
early_last k [] e = omega arith
early_last k (r ∷ h) e = on (eqb r.number k && can_end r.kind) (early_last k h (and_snd (ltb r.cycle 100000000) (every (λ r. ltb r.cycle 100000000) h) e))
  where
    on : (b : Bool) → cycle_of (last_command_in k h) < 100000000 → cycle_of (pick b (Some r.cycle) (last_command_in k h)) < 100000000
    on true i = ltb-true r.cycle 100000000 (and_fst (ltb r.cycle 100000000) (every (λ r. ltb r.cycle 100000000) h) e)
    on false i = i

module _ (τ : Table) (acc : Accepted τ) where
  module _ (l : List Transaction) (fit : list_fits τ l ≡ true) (rs : List Command) (b : Built τ l rs) where
    abbrev fin : (last : ℕ → ℕ) × (start : ℕ → ℕ) × Finishes τ l (length l) last start (onto rs [])
    fin = built_bound τ acc l fit rs b

    last_is : (k : ℕ) → k < length l → last_command k rs ≡ Some (last_command_cycle k rs)
    last_is k z = let e = fin.2.got k z in e ∙ ap Some (sym (ap cycle_of e))

    -- a last command is within its span after where its count started
    within_span : (k : ℕ) (x : Transaction) → get_elem? l k ≡ some x → last_command_cycle k rs ≤ start_at x (fin.1 k) + span τ x
    within_span k x e =
        let a = at_number l k x e in
        let n : fin.0 k ≤ start_at x (fin.1 k) + span τ x = rw a.0 at (fin.2.near k a.1) in
        omega (arith, ap cycle_of (fin.2.got k a.1), n)

    first_in_lem : (x : Transaction) → get_elem? l 0 ≡ some x → last_command_cycle 0 rs ≤ start_at x 0 + span τ x
    first_in_lem x e = omega (arith, within_span 0 x e, ap (start_at x) fin.2.zeroth)

    next_in_lem : (k : ℕ) (w x : Transaction) → get_elem? l k ≡ some w → get_elem? l (suc k) ≡ some x
        → last_command_cycle (suc k) rs ≤ start_at x (count_from τ w (last_command_cycle k rs)) + span τ x
    next_in_lem k w x d e = omega (arith, within_span (suc k) x e, ap (start_at x) counted)
      where
        counted : fin.1 (suc k) ≡ count_from τ w (last_command_cycle k rs)
        counted =
            let a = at_number l k w d in
            ap fin.1 (sym (add-one k))
            ∙ (fin.2.next k a.1 ∙ (ap (λ (y : Transaction). count_from τ y (fin.0 k)) a.0 ∙ ap (count_from τ w) (sym (ap cycle_of (fin.2.got k a.1)))))

    -- a transaction finishes no later than if its last command went at the limit
    finish_at_lem : (k : ℕ) (x : Transaction) → get_elem? l k ≡ some x → finish τ x k rs ≡ Some (finish_of τ x (last_command_cycle k rs))
    finish_at_lem k x e = ap (map_stamp (finish_of τ x)) (last_is k (at_number l k x e).1)

    finish_by : (k m : ℕ) (x : Transaction) → get_elem? l k ≡ some x → last_command_cycle k rs ≤ m → finish_cycle τ x k rs ≤ finish_of τ x m
    finish_by k m x e h = rw (finish_at_lem k x e) (later τ x (last_command_cycle k rs) m h)

    last_early_lem : (k : ℕ) → last_command_cycle k rs < 100000000
    last_early_lem k = early_last k (onto rs []) (every_onto (λ r. ltb r.cycle 100000000) rs [] (built_early τ acc l fit rs b) refl)

    finish_fits_lem : (k : ℕ) (x : Transaction) → get_elem? l k ≡ some x → finish_cycle τ x k rs < 4294967296
    finish_fits_lem k x e =
        let r = ranges τ acc in
        let z : finish_of τ x 99999999 ≤ 99999999 + τ.rl + τ.b + τ.rfc = by_type (is_refresh x) (is_write x) in
        omega (arith, finish_by k 99999999 x e (omega (arith, last_early_lem k)), z, r.rl.most, r.b.most, r.rfc)
      where
        by_type : (f w : Bool) → pick f (99999999 + τ.rfc) (pick w 99999999 (99999999 + τ.rl + τ.b)) ≤ 99999999 + τ.rl + τ.b + τ.rfc
        by_type true w = omega arith
        by_type false true = omega arith
        by_type false false = omega arith

  -- transactions added at the end move no command of the earlier ones
  module _ (xs ys : List Transaction) (fit : list_fits τ (xs ++ ys) ≡ true) where
    pub unmoved_at : (n : ℕ) → of_first (length xs) (gone n τ (xs ++ ys)) ≡ gone n τ xs
    unmoved_at n =
        rw (by_state τ acc (xs ++ ys) fit n, by_state τ acc xs (front_fits τ xs ys fit) n)
        (front_unmoved τ (ranges τ acc) xs ys (each_fits τ acc xs (front_fits τ xs ys fit)) n)

    unmoved : (rs : List Command) → Built τ (xs ++ ys) rs → Built τ xs (of_first (length xs) rs)
    unmoved rs b = subst (Built τ xs) (sym same) (stop_built τ acc xs (front_fits τ xs ys fit) n (enough τ acc xs (front_fits τ xs ys fit) n (omega arith)))
      where
        n : ℕ
        n = total τ (xs ++ ys) (length (xs ++ ys)) + total τ xs (length xs) + 1

        same : of_first (length xs) rs ≡ onto (history_at τ acc xs (front_fits τ xs ys fit) n) []
        same =
            ap (of_first (length xs)) (built_at τ acc (xs ++ ys) fit n (omega arith) rs b)
            ∙ (first_onto (length xs) (gone n τ (xs ++ ys)) [] ∙ ap (λ (h : List Command). onto h []) (unmoved_at n ∙ by_state τ acc xs (front_fits τ xs ys fit) n))

  -- every promise, of whatever is the built schedule
  pub kept : (l : List Transaction) → list_fits τ l ≡ true → (rs : List Command) → Built τ l rs → Kept τ l rs
  kept l fit rs b =
      record {
        built = b;
        only = λ rs' b'. built_only τ acc l fit rs' rs b' b;
        count = built_count τ acc l fit rs b;
        passes = built_passes τ acc l fit rs b;
        not_before = built_arrived l τ rs b;
        finishes = last_is l fit rs b;
        first_in = first_in_lem l fit rs b;
        next_in = next_in_lem l fit rs b;
        finish_at = finish_at_lem l fit rs b;
        first_finish = λ x e. finish_by l fit rs b 0 (start_at x 0 + span τ x) x e (first_in_lem l fit rs b x e);
        next_finish = λ k w x d e. finish_by l fit rs b (suc k) (start_at x (count_from τ w (last_command_cycle k rs)) + span τ x) x e (next_in_lem l fit rs b k w x d e);
        finish_fits = finish_fits_lem l fit rs b;
        unmoved = λ xs ys e. unmoved xs ys (subst (λ (y : List Transaction). list_fits τ y ≡ true) e fit) rs (subst (λ (y : List Transaction). Built τ y rs) e b);
        same_finish = λ xs ys e k z. ap (last_command_in k) (sym (first_onto (length xs) rs [])) ∙ last_first k (length xs) z (onto rs []);
        early = built_early τ acc l fit rs b;
        last_early = last_early_lem l fit rs b;
        running = λ n e. (run_built τ acc l fit rs b n e, run_reports τ acc l fit rs b n e);
        ends = run_ends τ acc l fit;
      }

  -- and there is one
  pub promise : (l : List Transaction) → list_fits τ l ≡ true → (rs : List Command) × Kept τ l rs
  promise l fit = let b = exists τ acc l fit in (b.0, kept l fit b.0 b.1)

  -- of runs from any state
  pub runs_kept : (l : List Transaction) → list_fits τ l ≡ true → RunsKept τ l
  runs_kept l fit =
      record {
        splits = λ n m s. n_then_m n m τ l s;
        not_before = run_arrived l τ;
        edition = λ n s. (past_kept_lem τ (ranges τ acc).groups.least l (each_fits τ acc l fit) n s []).edition;
        lent = λ n s. (past_kept_lem τ (ranges τ acc).groups.least l (each_fits τ acc l fit) n s []).lent;
        size = λ n s. (past_kept_lem τ (ranges τ acc).groups.least l (each_fits τ acc l fit) n s []).bank_count;
        past_kept = λ n s. (past_kept_lem τ (ranges τ acc).groups.least l (each_fits τ acc l fit) n s []).past_banks;
        group_size = λ n s. (past_kept_lem τ (ranges τ acc).groups.least l (each_fits τ acc l fit) n s []).group_count;
        groups_kept = λ n s. (past_kept_lem τ (ranges τ acc).groups.least l (each_fits τ acc l fit) n s []).past_groups;
        past_unread = λ n s u q. past_unread_lem τ (ranges τ acc).groups.least l (each_fits τ acc l fit) n s u [] q;
        room = λ n s a d. run_room τ l n s a d;
      }
