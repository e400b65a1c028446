-- A head breaks no rule exactly from its earliest cycle on, and so what goes at a cycle is told by the two earliest cycles.
-- Assumes nothing.
use Rattle.std.specs.Prelude.{Some, None}
use Rattle.rules.specs.Types.{Stamp}
use Prim.Native.Nat.{ℕ, zero, suc, ◌+◌, ◌≤◌, ◌<◌, min, max}
use native.Mathlib.Omega.{arith}
use mathlib.Core.Path.{◌≡◌, refl, sym, ap, ◌∙◌}
use mathlib.Core.Bool.{Bool, true, false, not, ◌&&◌, and-true}
use mathlib.Core.Option.{Option, none, some}
use mathlib.Core.List.{List, [], ◌∷◌}
use lib.Dec.{leb, ltb, eqb}
use lib.ListN.{get_or}
use borrow.Author.Tests.{le-leb, lt-leb, leb-true, leb-false}
use Rattle.records.specs.Tests.{pick, all_of, every_below}
use Rattle.records.specs.declared.table.Table.{Table}
use Rattle.records.specs.declared.transaction.Transaction.{Transaction}
use Rattle.records.specs.declared.command.Kind.{Kind}
use Rattle.records.specs.declared.command.Kind.TheVariants.{Act, Rd, Rda, Wr, Wra, Ref, Other}
use Rattle.records.specs.declared.command.Command.{Command}
use Rattle.rules.specs.declared.state.Bank.{Bank}
use Rattle.rules.specs.declared.state.Group.{Group}
use Rattle.rules.specs.declared.state.State.{State}
use Rattle.rules.specs.Bound.{greatest}
use Rattle.rules.specs.Square.{group_of, rrd_of, square, side, cell, write_tail}
use Rattle.rules.specs.State.{past, is_open, bank_of, quiet, charged, acts_far, far_by, data_far, at_rest, rule7, rule11, rule12, data_tests_of, tests_by, breaks_none}
use Rattle.rules.specs.Queues.{Due, due_at, act_queue, data_queue, head_after}
use Rattle.rules.specs.CycleRule.{seen, had_act, legal_at, otherwise, goes}
use Rattle.rules.proofs.laws.TestLaws.{and_fst, and_snd, bool_eq}
use Rattle.earliest.specs.Earliest.{limit, since, gate, most_below, charged_from, acts_from, far_from, datas_from, rest_from, rests_from, data_from, free_from, head_from, act_due_from, data_due_from, act_head_from, data_head_from}
use Rattle.earliest.specs.Jump.{at_cycle}

pub leb_max : (a b t : ℕ) → leb (max a b) t ≡ (leb a t && leb b t)
leb_max a b t = bool_eq (leb (max a b) t) (leb a t && leb b t) (λ e. two (leb-true (max a b) t e)) one
  where
    two : max a b ≤ t → (leb a t && leb b t) ≡ true
    two h = rw (le-leb a t (omega arith), le-leb b t (omega arith))

    one : (leb a t && leb b t) ≡ true → leb (max a b) t ≡ true
    one e = le-leb (max a b) t (omega (arith, leb-true a t (and_fst (leb a t) (leb b t) e), leb-true b t (and_snd (leb a t) (leb b t) e)))

leb_zero : (t : ℕ) → true ≡ leb 0 t
leb_zero t = sym (le-leb 0 t (omega arith))

-- ---- tests, each of which holds from a cycle on: one rule more is one pair more

pub both_from : (t : ℕ) (x y : Bool) (a b : ℕ) → x ≡ leb a t → y ≡ leb b t → (x && y) ≡ leb (max a b) t
both_from t x y a b p q = rw (p, q) (sym (leb_max a b t))

abbrev pub Each : ℕ → List Bool → List ℕ → Type 0
Each t [] [] = Unit {0}
Each t [] (x ∷ l) = ⊥
Each t (b ∷ bs) [] = ⊥
Each t (b ∷ bs) (x ∷ l) = (b ≡ leb x t) × Each t bs l

pub all_from : (t : ℕ) (bs : List Bool) (l : List ℕ) → Each t bs l → all_of bs ≡ leb (greatest l) t
all_from t [] [] e = leb_zero t
all_from t [] (x ∷ l) e = absurd e
all_from t (b ∷ bs) [] e = absurd e
all_from t (b ∷ bs) (x ∷ l) e = both_from t b (all_of bs) x (greatest l) e.0 (all_from t bs l e.1)

pub below_from : (t n : ℕ) (f : ℕ → Bool) (g : ℕ → ℕ) → ((b : ℕ) → f b ≡ leb (g b) t) → every_below n f ≡ leb (most_below n g) t
below_from t zero f g e = leb_zero t
below_from t (suc n) f g e = both_from t (f n) (every_below n f) (g n) (most_below n g) (e n) (below_from t n f g e)

-- ---- each rule, at a cycle of a run

module _ (τ : Table) (t : ℕ) (early : t < limit) where
  pub past_since : (x : Stamp) (d : ℕ) → past x d t ≡ leb (since x d) t
  past_since None d = leb_zero t
  past_since (Some c) d = on (leb (c + d) t) refl
    where
      on : (b : Bool) → leb (c + d) t ≡ b → b ≡ leb (min limit c + d) t
      on true e = sym (le-leb (min limit c + d) t (omega (arith, leb-true (c + d) t e)))
      on false e = sym (lt-leb (min limit c + d) t (omega (arith, leb-false (c + d) t e)))

  pub gate_from : (b : Bool) → b ≡ leb (gate b) t
  gate_from true = leb_zero t
  gate_from false = sym (lt-leb limit t early)

  charged_from_lem : (k : Bank) → charged τ k t ≡ leb (charged_from τ k) t
  charged_from_lem k =
      rw (← and-true (past k.wr (write_tail τ + τ.rp) t))
      (all_from t (past k.act (τ.ras + τ.rp) t ∷ past k.rd (τ.rtp + τ.rp) t ∷ past k.wr (write_tail τ + τ.rp) t ∷ [])
      (since k.act (τ.ras + τ.rp) ∷ since k.rd (τ.rtp + τ.rp) ∷ since k.wr (write_tail τ + τ.rp) ∷ [])
      (past_since k.act _, (past_since k.rd _, (past_since k.wr _, tt))))

  acts_from_lem : (gs : List Group) (own : ℕ) → acts_far τ gs own t ≡ leb (acts_from τ gs own) t
  acts_from_lem gs own =
      below_from t τ.groups (λ g. past (get_or gs g quiet).act (rrd_of τ (eqb g own)) t) (λ g. since (get_or gs g quiet).act (rrd_of τ (eqb g own)))
      (λ g. past_since (get_or gs g quiet).act (rrd_of τ (eqb g own)))

  far_from_lem : (q : List (List ℕ)) (rd wr : Stamp) (w : Bool) → far_by q rd wr w t ≡ leb (far_from q rd wr w) t
  far_from_lem q rd wr w = both_from t _ _ _ _ (past_since rd (cell q 0 (side w))) (past_since wr (cell q 1 (side w)))

  datas_from_lem : (gs : List Group) (own : ℕ) (w : Bool) → data_far τ gs own w t ≡ leb (datas_from τ gs own w) t
  datas_from_lem gs own w =
      below_from t τ.groups (λ g. far_by (square τ (eqb g own)) (get_or gs g quiet).rd (get_or gs g quiet).wr w t)
      (λ g. far_from (square τ (eqb g own)) (get_or gs g quiet).rd (get_or gs g quiet).wr w)
      (λ g. far_from_lem (square τ (eqb g own)) (get_or gs g quiet).rd (get_or gs g quiet).wr w)

  rest_from_lem : (k : Bank) → at_rest τ k t ≡ leb (rest_from τ k) t
  rest_from_lem k = both_from t (not (is_open k)) (charged τ k t) (gate (not (is_open k))) (charged_from τ k) (gate_from (not (is_open k))) (charged_from_lem k)

  rests_from_lem : (s : State) → rule11 τ s t ≡ leb (rests_from τ s) t
  rests_from_lem s = below_from t τ.banks (λ b. at_rest τ (bank_of s b) t) (λ b. rest_from τ (bank_of s b)) (λ b. rest_from_lem (bank_of s b))

  -- ---- all rules

  act_from_lem : (s : State) (b : ℕ) → all_of (tests_by τ s Act t b) ≡ leb (free_from τ s Act b) t
  act_from_lem s b =
      all_from t (not (is_open k) ∷ charged τ k t ∷ past k.act τ.rc t ∷ acts_far τ s.groups own t ∷ rule7 τ s t ∷ rule12 τ s t ∷ [])
      (gate (not (is_open k)) ∷ charged_from τ k ∷ since k.act τ.rc ∷ acts_from τ s.groups own ∷ since s.a4 τ.faw ∷ since s.refresh τ.rfc ∷ [])
      (gate_from (not (is_open k)), (charged_from_lem k, (past_since k.act τ.rc, (acts_from_lem s.groups own, (past_since s.a4 τ.faw, (past_since s.refresh τ.rfc, tt))))))
    where
      k : Bank
      k = bank_of s b

      own : ℕ
      own = group_of τ b

  data_from_lem : (s : State) (w : Bool) (b : ℕ)
      → all_of (data_tests_of τ (bank_of s b) (data_far τ s.groups (group_of τ b) w t) t) ≡ leb (data_from τ (bank_of s b) (datas_from τ s.groups (group_of τ b) w)) t
  data_from_lem s w b =
      all_from t (is_open k ∷ past k.act τ.rcd t ∷ data_far τ s.groups own w t ∷ []) (gate (is_open k) ∷ since k.act τ.rcd ∷ datas_from τ s.groups own w ∷ [])
      (gate_from (is_open k), (past_since k.act τ.rcd, (datas_from_lem s.groups own w, tt)))
    where
      k : Bank
      k = bank_of s b

      own : ℕ
      own = group_of τ b

  refresh_from : (s : State) (b : ℕ) → all_of (tests_by τ s Ref t b) ≡ leb (free_from τ s Ref b) t
  refresh_from s b =
      both_from t (rule11 τ s t) (rule12 τ s t && true) (rests_from τ s) (since s.refresh τ.rfc) (rests_from_lem s) (and-true (rule12 τ s t) ∙ past_since s.refresh τ.rfc)

  pub free_from_lem : (s : State) (k : Kind) (b : ℕ) → all_of (tests_by τ s k t b) ≡ leb (free_from τ s k b) t
  free_from_lem s Act b = act_from_lem s b
  free_from_lem s Rd b = data_from_lem s false b
  free_from_lem s Rda b = data_from_lem s false b
  free_from_lem s Wr b = data_from_lem s true b
  free_from_lem s Wra b = data_from_lem s true b
  free_from_lem s Ref b = refresh_from s b
  free_from_lem s (Other n) b = leb_zero t

  -- ---- the heads

  -- no rule reads the state's own cycle
  same_tests : (s : State) (k : Kind) (b : ℕ) → tests_by τ (at_cycle s t) k t b ≡ tests_by τ s k t b
  same_tests s Act b = refl
  same_tests s Rd b = refl
  same_tests s Rda b = refl
  same_tests s Wr b = refl
  same_tests s Wra b = refl
  same_tests s Ref b = refl
  same_tests s (Other n) b = refl

  free_at : (s : State) (d : Due) → breaks_none τ (at_cycle s t) (due_at t d) ≡ leb (free_from τ s d.kind d.bank) t
  free_at s d = ap all_of (same_tests s d.kind d.bank) ∙ free_from_lem s d.kind d.bank

  -- a head as a command at cycle t
  abbrev pub head_at : Option Due → Option Command
  head_at none = none
  head_at (some d) = some (due_at t d)

  -- a head that goes from cycle x on
  abbrev pub from_on : ℕ → Option Due → Option Command
  from_on x o = pick (leb x t) (head_at o) none

  act_head_from_lem : (s : State) (o : Option Due) → legal_at (breaks_none τ (at_cycle s t)) t (seen t o) ≡ from_on (head_from (act_due_from τ s) o) o
  act_head_from_lem s none = rw (lt-leb limit t early)
  act_head_from_lem s (some d) =
      on (leb d.arrival t)
      ∙ ap (λ (b : Bool). pick b (some (due_at t d)) none) (both_from t (leb d.arrival t) (breaks_none τ (at_cycle s t) (due_at t d)) d.arrival (free_from τ s d.kind d.bank) refl (free_at s d))
    where
      on : (b : Bool) → legal_at (breaks_none τ (at_cycle s t)) t (pick b (some d) none) ≡ pick (b && breaks_none τ (at_cycle s t) (due_at t d)) (some (due_at t d)) none
      on true = refl
      on false = refl

  data_head_from_lem : (s : State) (o : Option Due) → legal_at (breaks_none τ (at_cycle s t)) t (had_act s.acts (seen t o)) ≡ from_on (head_from (data_due_from τ s) o) o
  data_head_from_lem s none = rw (lt-leb limit t early)
  data_head_from_lem s (some d) =
      one (leb d.arrival t)
      ∙ ap (λ (b : Bool). pick b (some (due_at t d)) none)
      (all_from t (leb d.arrival t ∷ ltb d.act s.acts ∷ breaks_none τ (at_cycle s t) (due_at t d) ∷ [])
      (d.arrival ∷ gate (ltb d.act s.acts) ∷ free_from τ s d.kind d.bank ∷ []) (refl, (gate_from (ltb d.act s.acts), (free_at s d, tt))))
    where
      two : (y : Bool) → legal_at (breaks_none τ (at_cycle s t)) t (pick y (some d) none) ≡ pick (all_of (y ∷ breaks_none τ (at_cycle s t) (due_at t d) ∷ [])) (some (due_at t d)) none
      two true = ap (λ (b : Bool). pick b (some (due_at t d)) none) (sym (and-true (breaks_none τ (at_cycle s t) (due_at t d))))
      two false = refl

      one : (x : Bool) → legal_at (breaks_none τ (at_cycle s t)) t (had_act s.acts (pick x (some d) none))
          ≡ pick (all_of (x ∷ ltb d.act s.acts ∷ breaks_none τ (at_cycle s t) (due_at t d) ∷ [])) (some (due_at t d)) none
      one true = two (ltb d.act s.acts)
      one false = refl

  -- what goes at cycle t, when nothing has gone since
  pub goes_from : (l : List Transaction) (s : State)
      → goes τ l (at_cycle s t)
      ≡ otherwise (from_on (data_head_from τ l s) (head_after (data_queue τ l) s.datas)) (from_on (act_head_from τ l s) (head_after (act_queue τ l) s.acts))
  goes_from l s = rw (data_head_from_lem s (head_after (data_queue τ l) s.datas), act_head_from_lem s (head_after (act_queue τ l) s.acts))

  -- nothing before either head is free
  pub quiet_before : (l : List Transaction) (s : State) → t < data_head_from τ l s → t < act_head_from τ l s → goes τ l (at_cycle s t) ≡ none
  quiet_before l s d a = goes_from l s ∙ rw (lt-leb (data_head_from τ l s) t d, lt-leb (act_head_from τ l s) t a)
