-- From a state that number 9 does not refuse a run leaves one that number 9 does not refuse, unless for its cycle.
-- Assumes nothing.
use Prim.Native.Nat.{ℕ, zero, suc, ◌+◌, ◌%◌, ◌≤◌, ◌<◌}
use native.Mathlib.Omega.{arith}
use native.Mathlib.Numerals.{add-one}
use mathlib.Core.Bool.{Bool, true, false, not, ◌&&◌, and-true}
use mathlib.Core.Path.{◌≡◌, refl, sym, ap, ◌∙◌, subst}
use mathlib.Core.Option.{Option, none, some, map-eq-some_iff}
use mathlib.Core.List.{List, [], ◌∷◌}
use lib.Dec.{leb, ltb, eqb}
use lib.ListN.{length, get_elem?, take, replicate}
use borrow.Author.Tests.{ltb-true, ltb-false, lt-ltb, le-ltb, leb-true, le-leb, eqb-true, eq-eqb, not-true}
use Rattle.records.specs.Tests.{every}
use Rattle.records.specs.Transaction.{is_write}
use Rattle.records.specs.declared.table.Table.{Table}
use Rattle.records.specs.declared.transaction.Transaction.{Transaction}
use Rattle.records.specs.declared.command.Command.{Command}
use Rattle.rules.specs.declared.state.State.{State}
use Rattle.rules.specs.Kinds.{in_act_queue, is_data}
use Rattle.rules.specs.State.{breaks_none, shut, quiet, fresh, after}
use Rattle.rules.specs.Queues.{Due, due_at, act_queue, data_queue, head_after}
use Rattle.rules.specs.CycleRule.{goes}
use Rattle.rules.specs.Run.{run}
use Rattle.rules.specs.Pieces.{lend, over_lent}
use Rattle.rules.proofs.laws.TestLaws.{and_both, and_fst, and_snd, OnSome, on_map}
use Rattle.rules.proofs.queues.Queue.{Place, act_due, data_due, act_place, data_place, act_head, data_head}
use Rattle.rules.proofs.laws.DataKinds.{not_in_acts, is_data_lem, act_queued, act_no_data}
use Rattle.rules.proofs.queues.Heads.{test_at}
use Rattle.rules.proofs.history.Legal.{goes_all}
use Rattle.sound.specs.Refused.{banks_before, groups_before, last_before, backed, sound}
use Rattle.refusals.proofs.Backed.{in_list}
use Rattle.sound.proofs.StoredKept.{Stored, stored_later, stored_after, goes_now, next_cycle_lem, run_keeps, every_map}

-- the tests of number 9 but that of the cycle
pub record Tested (τ : Table) (l : List Transaction) (s : State) : Type 0 where
  pub edition : s.edition ≡ τ.edition
  pub stored : Stored s.cycle τ.banks τ.groups s
  pub acts : s.acts ≤ length (act_queue τ l)
  pub datas : s.datas ≤ length (data_queue τ l)
  pub had : backed τ l s.acts s.datas ≡ true
  pub lent : s.lent ≤ length l

module _ (τ : Table) (l : List Transaction) where
  abbrev tests : State → List Bool
  tests s =
      ltb s.cycle 100000000
      ∷ eqb s.edition τ.edition
      ∷ banks_before s.cycle τ.banks s.banks
      ∷ groups_before s.cycle τ.groups s.groups
      ∷ last_before s.cycle s
      ∷ leb s.acts (length (act_queue τ l))
      ∷ (leb s.datas (length (data_queue τ l)) && backed τ l s.acts s.datas)
      ∷ not (over_lent l s)
      ∷ []

  pub sound_tested : (s : State) → sound τ l s ≡ true → (s.cycle < 100000000) × Tested τ l s
  unfolding sound
  sound_tested s e = (
    ltb-true s.cycle 100000000 (test_at (tests s) 0 e),
    record {
      edition = eqb-true s.edition τ.edition (test_at (tests s) 1 e);
      stored = record { banks = test_at (tests s) 2 e; groups = test_at (tests s) 3 e; last = test_at (tests s) 4 e };
      acts = leb-true s.acts (length (act_queue τ l)) (test_at (tests s) 5 e);
      datas = leb-true s.datas (length (data_queue τ l)) (and_fst (leb s.datas (length (data_queue τ l))) (backed τ l s.acts s.datas) (test_at (tests s) 6 e));
      had = and_snd (leb s.datas (length (data_queue τ l))) (backed τ l s.acts s.datas) (test_at (tests s) 6 e);
      lent = ltb-false (length l) s.lent (not-true (over_lent l s) (test_at (tests s) 7 e));
    },
  )

  pub tested_sound : (s : State) → s.cycle < 100000000 → Tested τ l s → sound τ l s ≡ true
  unfolding sound
  tested_sound s h q =
      rw (
        lt-ltb s.cycle 100000000 h,
        eq-eqb s.edition τ.edition q.edition,
        q.stored.banks,
        q.stored.groups,
        q.stored.last,
        le-leb s.acts (length (act_queue τ l)) q.acts,
        le-leb s.datas (length (data_queue τ l)) q.datas,
        q.had,
        le-ltb (length l) s.lent q.lent,
      )

  one_more_lem : (a : ℕ) (q : List Due) (k : ℕ) (d : Due) → get_elem? q k ≡ some d → every (λ x. ltb x.act a) (take k q) ≡ true → ltb d.act a ≡ true
      → every (λ x. ltb x.act a) (take (suc k) q) ≡ true
  one_more_lem a [] k d e h u = refl
  one_more_lem a (x ∷ q) zero d e h u = let z : x ≡ d = cc in rw z (rw u)
  one_more_lem a (x ∷ q) (suc k) d e h u =
      and_both (ltb x.act a) (every (λ x. ltb x.act a) (take (suc k) q)) (test_at (ltb x.act a ∷ every (λ x. ltb x.act a) (take k q) ∷ []) 0 h')
      (one_more_lem a q k d e (test_at (ltb x.act a ∷ every (λ x. ltb x.act a) (take k q) ∷ []) 1 h') u)
    where
      h' : (ltb x.act a && (every (λ x. ltb x.act a) (take k q) && true)) ≡ true
      h' = ap (λ (t : Bool). ltb x.act a && t) (and-true (every (λ x. ltb x.act a) (take k q))) ∙ h

  data_kind_lem : (d : ℕ) (x : Due) → head_after (data_queue τ l) d ≡ some x → (in_act_queue x.kind ≡ false) × (is_data x.kind ≡ true)
  data_kind_lem d x e =
      let m = (map-eq-some_iff (data_due τ) (data_place l d)).0 (sym (data_head τ l d) ∙ e) in
      subst (λ (y : Due). (in_act_queue y.kind ≡ false) × (is_data y.kind ≡ true)) m.2 (kinds m.0)
    where
      kinds : (p : Place) → (in_act_queue (data_due τ p).kind ≡ false) × (is_data (data_due τ p).kind ≡ true)
      kinds p = let w = is_write p.transaction in let z = eqb (p.offset % p.transaction.bc + 1) p.transaction.bc in (not_in_acts w z, is_data_lem w z)

  act_kind_lem : (a : ℕ) (x : Due) → head_after (act_queue τ l) a ≡ some x → (in_act_queue x.kind ≡ true) × (is_data x.kind ≡ false)
  act_kind_lem a x e =
      let m = (map-eq-some_iff (act_due τ) (act_place l a)).0 (sym (act_head τ l a) ∙ e) in
      subst (λ (y : Due). (in_act_queue y.kind ≡ true) × (is_data y.kind ≡ false)) m.2 (act_queued m.0.transaction, act_no_data m.0.transaction)

  -- the counts that a command leaves
  abbrev CountsFit : State → Type 0
  CountsFit s = (s.acts ≤ length (act_queue τ l)) × (s.datas ≤ length (data_queue τ l)) × (backed τ l s.acts s.datas ≡ true)

  module _ (s : State) (q : Tested τ l s) where
    data_counts : (x : Due) → head_after (data_queue τ l) s.datas ≡ some x → ltb x.act s.acts ≡ true → CountsFit (after τ s (some (due_at s.cycle x)))
    data_counts x e u =
        rw ((data_kind_lem s.datas x e).0, (data_kind_lem s.datas x e).1)
        (q.acts, omega (arith, in_list (data_queue τ l) s.datas x e), rw (add-one s.datas) (one_more_lem s.acts (data_queue τ l) s.datas x e q.had u))

    act_counts : (x : Due) → head_after (act_queue τ l) s.acts ≡ some x → CountsFit (after τ s (some (due_at s.cycle x)))
    act_counts x e =
        rw ((act_kind_lem s.acts x e).0, (act_kind_lem s.acts x e).1) (
          omega (arith, in_list (act_queue τ l) s.acts x e),
          q.datas,
          every_map (λ x. ltb x.act s.acts) (λ x. ltb x.act (s.acts + 1))
              (λ x h. lt-ltb x.act (s.acts + 1) (omega (arith, ltb-true x.act s.acts h))) (take s.datas (data_queue τ l)) q.had,
        )

    goes_counts : OnSome (λ c. CountsFit (after τ s (some c))) (goes τ l s)
    goes_counts =
        goes_all (breaks_none τ s) τ l s.cycle s.acts s.datas (λ c. CountsFit (after τ s (some c))) (λ x e u k. data_counts x e u) (λ x e k. act_counts x e)

  after_counts : (s : State) (o : Option Command) → Tested τ l s → OnSome (λ c. CountsFit (after τ s (some c))) o → CountsFit (after τ s o)
  after_counts s none q h = (q.acts, q.datas, q.had)
  after_counts s (some c) q h = h

  after_edition : (s : State) (o : Option Command) → (after τ s o).edition ≡ s.edition
  after_edition s none = refl
  after_edition s (some c) = refl

  after_lent : (s : State) (o : Option Command) → (after τ s o).lent ≡ s.lent
  after_lent s none = refl
  after_lent s (some c) = refl

  after_tested : (s : State) → Tested τ l s → Tested τ l (after τ s (goes τ l s))
  after_tested s q =
      let k = after_counts s (goes τ l s) q (goes_counts s q) in
      record {
        edition = after_edition s (goes τ l s) ∙ q.edition;
        stored = subst (λ (t : ℕ). Stored t τ.banks τ.groups (after τ s (goes τ l s))) (sym (next_cycle_lem τ l s (goes τ l s) (goes_now τ l s)))
            (stored_after τ (s.cycle + 1) τ.banks τ.groups s (goes τ l s)
            (on_map {P = λ c. c.cycle ≡ s.cycle} {Q = λ c. c.cycle < s.cycle + 1} (goes τ l s) (λ c e. omega arith) (goes_now τ l s))
            (stored_later s.cycle (s.cycle + 1) τ.banks τ.groups (omega arith) s q.stored));
        acts = k.0;
        datas = k.1;
        had = k.2;
        lent = omega (arith, q.lent, after_lent s (goes τ l s));
      }

  pub run_tested : (n : ℕ) (s : State) (h : List Command) → Tested τ l s → Tested τ l (run n τ l s h).state
  run_tested n s h q = run_keeps τ l (Tested τ l) (λ s e q. after_tested s q) n s h q

  pub run_sound : (n : ℕ) (s : State) (h : List Command) → sound τ l s ≡ true → (run n τ l s h).state.cycle < 100000000 → sound τ l (run n τ l s h).state ≡ true
  run_sound n s h e k = tested_sound (run n τ l s h).state k (run_tested n s h (sound_tested s e).1)

  -- nor one that the list was lent to since
  pub lend_sound : (s : State) → sound τ l s ≡ true → sound τ l (lend (length l) s) ≡ true
  lend_sound s e =
      let q = sound_tested s e in
      tested_sound (lend (length l) s) q.0 (record {
        edition = q.1.edition;
        stored = record { banks = q.1.stored.banks; groups = q.1.stored.groups; last = q.1.stored.last };
        acts = q.1.acts;
        datas = q.1.datas;
        had = q.1.had;
        lent = omega arith;
      })

  -- number 9 refuses no fresh state
  pub fresh_sound : sound τ l (fresh τ) ≡ true
  fresh_sound =
      tested_sound (fresh τ) (omega arith)
      (record { edition = refl; stored = record { banks = nothing τ.banks 16; groups = no_group τ.groups 8; last = refl }; acts = omega arith; datas = omega arith; had = refl; lent = omega arith })
    where
      nothing : (n k : ℕ) → banks_before 0 n (replicate k shut) ≡ true
      nothing zero k = refl
      nothing (suc n) zero = refl
      nothing (suc n) (suc k) = nothing n k

      no_group : (n k : ℕ) → groups_before 0 n (replicate k quiet) ≡ true
      no_group zero k = refl
      no_group (suc n) zero = refl
      no_group (suc n) (suc k) = no_group n k
