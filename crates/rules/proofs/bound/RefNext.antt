-- While a REF is next in the ACT queue: it goes within S of where its count starts.
-- Assumes nothing.
use Prim.Native.Nat.{ℕ, ◌+◌, ◌≤◌, ◌<◌}
use native.Mathlib.Omega.{arith}
use mathlib.Core.Path.{◌≡◌, refl, sym, ap, ◌∙◌, subst}
use mathlib.Core.Logic.{◌⊎◌, inl, inr, ⊎_elim}
use mathlib.Core.Bool.{Bool, true, false, not}
use mathlib.Core.Option.{Option, none, some}
use mathlib.Core.List.{List, [], ◌∷◌, ◌++◌, append_assoc}
use lib.Dec.{leb}
use lib.ListN.{length}
use borrow.Author.Tests.{le-ltb, leb-false}
use Rattle.records.specs.declared.table.Table.{Table}
use Rattle.records.specs.declared.transaction.Transaction.{Transaction}
use Rattle.records.specs.declared.command.Kind.TheVariants.{Ref}
use Rattle.records.specs.declared.command.Command.{Command}
use Rattle.records.specs.Tests.{pick}
use Rattle.records.specs.Transaction.{is_refresh}
use Rattle.records.specs.Command.{command}
use Rattle.rules.specs.declared.state.State.{State}
use Rattle.rules.specs.Square.{write_tail}
use Rattle.rules.specs.State.{bank_of, at_rest, breaks_none, note, idle, after}
use Rattle.rules.specs.Queues.{act_count}
use Rattle.rules.specs.CycleRule.{otherwise, goes}
use Rattle.rules.specs.Bound.{bound_s, span}
use Rattle.rules.specs.Finish.{count_from}
use Rattle.rules.proofs.laws.TestLaws.{true_false, OnSome}
use Rattle.rules.proofs.laws.Ranges.{Ranges}
use Rattle.rules.proofs.laws.Numbers.{same?, from?}
use Rattle.rules.proofs.laws.Below.{below_all}
use Rattle.rules.proofs.queues.Queue.{Place, data_count, place_of, act_place, data_place, data_due, act_of_place, is_act_at, act_sum, data_sum, at_own, sum_append}
use Rattle.rules.proofs.queues.Fit.{Refreshing}
use Rattle.rules.proofs.queues.Front.{find_back}
use Rattle.rules.proofs.queues.Heads.{seen_place, on_seen_lem, data_from, act_from, try_data, try_act, goes_try, refresh_ok}
use Rattle.rules.proofs.bound.Recent.{Upto, upto_map, upto_past, ext, ext_other}
use Rattle.rules.proofs.bound.GoneActs.{Base, base_idle, base_ref}
use Rattle.rules.proofs.bound.Due.{S-one, S-ras, S-rd, S-wr}
use Rattle.rules.proofs.bound.Phase.{Between}
use Rattle.rules.proofs.bound.Steps.{OfNumber, LastOf}

-- a REF is next: A commands of the ACT queue and M data commands have gone, all of transactions that are done, the last of them at c; its count
-- started at F
pub record RefNext (τ : Table) (l : List Transaction) (A M F : ℕ) (ta : ℕ → ℕ) (c : ℕ) (s : State) : Type 0 where
  pub base : Base τ l A ta c s
  pub cnt : s.datas ≡ M
  pub here : s.acts ≡ A
  pub old : (i : ℕ) → i < A → is_act_at l i ≡ true → ta i + τ.rcd ≤ c
  pub cf : c ≤ F
  pub lo : c ≤ s.cycle
  pub refresh_f : Upto τ.rfc F s.refresh
  pub ref_time : s.cycle ≤ F + bound_s τ

module _ (τ : Table) (rng : Ranges τ) (l : List Transaction) (A M F : ℕ) (ref : is_act_at l A ≡ false) where
  pub enter_ref : (c : ℕ) (ta : ℕ → ℕ) (s : State) → Between τ l A M c F ta s → RefNext τ l A M F ta c s
  enter_ref c ta s q =
      record {
        base = q.base;
        cnt = q.cnt;
        here = ⊎_elim (λ y. true_false (is_act_at l A) (q.base.all_acts A (omega arith) y) ref) (λ y. omega (arith, y.1, q.base.le)) (from? A s.acts);
        old = q.old;
        cf = q.cf;
        lo = q.lo;
        refresh_f = q.refresh_f;
        ref_time = omega (arith, q.hi, S-one τ);
      }

  module _ (ta : ℕ → ℕ) (c : ℕ) (s : State) (q : RefNext τ l A M F ta c s) where
    -- it may go S after its count started, at the latest
    refresh_ready : F + bound_s τ ≤ s.cycle → refresh_ok τ s ≡ true
    refresh_ready h =
        rw (
          below_all τ.banks (λ b. at_rest τ (bank_of s b) s.cycle) rests,
          upto_past τ.rfc s.cycle s.refresh (upto_map τ.rfc F τ.rfc s.cycle s.refresh (λ y k. omega arith) q.refresh_f),
        )
      where
        rests : (b : ℕ) → b < τ.banks → at_rest τ (bank_of s b) s.cycle ≡ true
        rests b k = ⊎_elim
            (λ z.
            let t = s.cycle in
            let w = bank_of s b in
            rw (
              z.0,
              upto_past (τ.ras + τ.rp) t w.act (upto_map τ.rcd c (τ.ras + τ.rp) t w.act (λ y g. omega (arith, S-ras τ, q.cf)) z.1),
              upto_past (τ.rtp + τ.rp) t w.rd (upto_map 0 c (τ.rtp + τ.rp) t w.rd (λ y g. omega (arith, S-rd τ, q.cf)) (q.base.rd_bank b k)),
              upto_past (write_tail τ + τ.rp) t w.wr (upto_map 0 c (write_tail τ + τ.rp) t w.wr (λ y g. omega (arith, S-wr τ, q.cf)) (q.base.wr_bank b k)),
            ))
            (λ z. absurd (omega (arith, z.1, z.2, q.here))) (q.base.cold b k)

    refresh_waits : refresh_ok τ s ≡ false → s.cycle + 1 ≤ F + bound_s τ
    refresh_waits e = ⊎_elim (λ y. omega arith) (λ y. true_false (refresh_ok τ s) (refresh_ready (omega (arith, y.1))) e) (from? s.cycle (F + bound_s τ))

    -- nothing goes
    refresh_idle : s.cycle + 1 ≤ F + bound_s τ → RefNext τ l A M F ta c (idle s)
    refresh_idle e =
        record {
          base = base_idle τ l A ta c s q.base;
          cnt = q.cnt;
          here = q.here;
          old = q.old;
          cf = q.cf;
          lo = omega (arith, q.lo);
          refresh_f = q.refresh_f;
          ref_time = e;
        }

    -- it goes, and the next count starts at its finish
    refresh_goes : Between τ l (A + 1) M s.cycle (s.cycle + τ.rfc) (ext ta s.acts s.cycle) (note τ s s.cycle Ref 0)
    refresh_goes =
        record {
          base = base_ref τ l A ta c s q.base s.cycle q.lo q.here;
          cnt = q.cnt;
          old = λ i k a. ⊎_elim (λ e. true_false (is_act_at l A) (rw (← q.here, ← e) a) ref)
              (λ h. rw (ext_other ta s.acts s.cycle i h) (omega (arith, q.old i (omega (arith, h, q.here)) a, q.lo))) (same? i s.acts);
          cf = omega arith;
          lo = omega arith;
          hi = omega arith;
          refresh_f = omega arith;
          refresh_now = inl (omega (arith, q.here));
        }

-- it waits on, or goes with the command o, in time
unfoldable pub NextRef : (τ : Table) (l : List Transaction) (A M : ℕ) (x : Transaction) (F K : ℕ) (s : State) (o : Option Command) → Type 0
NextRef τ l A M x F K s o =
    (OnSome (OfNumber K) o × ((ta : ℕ → ℕ) × (c : ℕ) × RefNext τ l A M F ta c (after τ s o)))
    ⊎ ((s.cycle ≤ F + span τ x) × ((c : Command) × (o ≡ some c) × LastOf K s.cycle c)
    × ((ta : ℕ → ℕ) × Between τ l (A + act_count x) (M + data_count x) s.cycle (count_from τ x s.cycle) ta (after τ s o)))

-- the place of the REF of x, after the transactions p
pub ref_place : (p : List Transaction) (x : Transaction) (rest : List Transaction) → is_refresh x ≡ true
    → act_place (p ++ x ∷ rest) (act_sum p) ≡ some (place_of x (length p) (act_sum p) 0)
ref_place p x rest er =
    let z : act_sum p ≡ act_sum p + 0 = omega arith in
    ap (act_place (p ++ x ∷ rest)) z ∙ at_own act_count x rest p 0 (rw er (omega arith))

module _ (τ : Table) (rng : Ranges τ) (p : List Transaction) (x : Transaction) (rest : List Transaction) (w : Refreshing τ x) where
  abbrev L : List Transaction
  L = p ++ x ∷ rest

  pub not_act : is_act_at L (act_sum p) ≡ false
  not_act = ap act_of_place (ref_place p x rest w.refresh) ∙ ap not w.refresh

  no_datas : data_count x ≡ 0
  no_datas = rw w.no_i (omega arith)

  module _ (F : ℕ) (ta : ℕ → ℕ) (c : ℕ) (s : State) (q : RefNext τ L (act_sum p) (data_sum p) F ta c s) where
    -- the head of the data queue comes after the REF
    no_data : try_data τ L s ≡ none
    no_data =
        on (seen_place s.cycle (data_place L s.datas)) (on_seen_lem Beyond s.cycle (data_place L s.datas)
        (subst (λ (y : List Transaction). OnSome Beyond (data_place y s.datas)) (append_assoc p (x ∷ []) rest) beyond))
      where
        Beyond : Place → Type 0
        Beyond y = (0 + length (p ++ x ∷ []) ≤ y.number) × (0 + act_sum (p ++ x ∷ []) ≤ y.before)

        beyond : OnSome Beyond (data_place ((p ++ x ∷ []) ++ rest) s.datas)
        beyond = find_back data_count rest (p ++ x ∷ []) 0 0 s.datas (omega (arith, sum_append data_count p (x ∷ []), no_datas, q.cnt))

        more : act_sum (p ++ x ∷ []) ≡ act_sum p + 1
        more = sum_append act_count p (x ∷ []) ∙ rw w.refresh (omega arith)

        on : (o : Option Place) → OnSome Beyond o → data_from (breaks_none τ s) τ s.cycle s.acts o ≡ none
        on none h = refl
        on (some y) h = rw (le-ltb (data_due τ y).act s.acts (omega (arith, h.1, more, q.here)))

    pub refresh_step : x.arrival ≤ F → NextRef τ L (act_sum p) (data_sum p) x F (length p) s (goes τ L s)
    unfolding NextRef
    refresh_step ar =
        subst (λ (o : Option Command). NextRef τ L (act_sum p) (data_sum p) x F (length p) s o) (sym total) (on_seen (leb x.arrival s.cycle) refl)
      where
        cmd : Command
        cmd = command s.cycle Ref 0 (length p)

        P : Place
        P = place_of x (length p) (act_sum p) 0

        plain : act_from (breaks_none τ s) τ s.cycle (some P) ≡ pick (refresh_ok τ s) (some cmd) none
        plain = rw w.refresh

        total : goes τ L s ≡ act_from (breaks_none τ s) τ s.cycle (seen_place s.cycle (some P))
        total =
            goes_try τ L s
            ∙ (ap (λ (o : Option Command). otherwise o (try_act τ L s)) no_data
            ∙ ap (λ (o : Option Place). act_from (breaks_none τ s) τ s.cycle (seen_place s.cycle o)) (ap (act_place L) q.here ∙ ref_place p x rest w.refresh))

        next : Between τ L (act_sum p + act_count x) (data_sum p + data_count x) s.cycle (count_from τ x s.cycle) (ext ta s.acts s.cycle) (note τ s s.cycle Ref 0)
        next =
            let e : data_sum p + data_count x ≡ data_sum p = omega (arith, no_datas) in
            rw (e, w.refresh) (refresh_goes τ rng L (act_sum p) (data_sum p) F not_act ta c s q)

        in_time_lem : s.cycle ≤ F + span τ x
        in_time_lem = rw w.refresh q.ref_time

        on : (y : Bool) → refresh_ok τ s ≡ y → NextRef τ L (act_sum p) (data_sum p) x F (length p) s (pick y (some cmd) none)
        on true ok = inr (in_time_lem, (cmd, refl, (refl, refl, refl)), (ext ta s.acts s.cycle, next))
        on false bad =
            inl (tt, (ta, c, refresh_idle τ rng L (act_sum p) (data_sum p) F not_act ta c s q (refresh_waits τ rng L (act_sum p) (data_sum p) F not_act ta c s q bad)))

        on_seen : (y : Bool) → leb x.arrival s.cycle ≡ y
            → NextRef τ L (act_sum p) (data_sum p) x F (length p) s (act_from (breaks_none τ s) τ s.cycle (pick y (some P) none))
        on_seen true ey = subst (λ (o : Option Command). NextRef τ L (act_sum p) (data_sum p) x F (length p) s o) (sym plain) (on (refresh_ok τ s) refl)
        on_seen false ey =
            inl (tt, (ta, c, refresh_idle τ rng L (act_sum p) (data_sum p) F not_act ta c s q (omega (arith, leb-false x.arrival s.cycle ey))))
