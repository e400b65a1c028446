-- Each step of the cycle rule keeps the phase, or ends it in time.
-- Assumes nothing.
use Prim.Native.Nat.{ℕ, ◌+◌, ◌*◌, ◌/◌, ◌%◌, ◌≤◌, ◌<◌}
use native.Mathlib.Omega.{arith}
use native.Mathlib.Nat.{mul-add-div_right, mul-add-mod_self_right, div-eq_of_lt, mod-eq_of_lt, mul-le-mul_right}
use mathlib.Core.Path.{◌≡◌, refl, sym, ap, ◌∙◌, subst}
use mathlib.Core.Logic.{◌≢◌, ◌⊎◌, inl, inr}
use mathlib.Core.Bool.{Bool, true, false, not}
use mathlib.Core.Option.{Option, none, some}
use mathlib.Core.List.{List}
use lib.Dec.{eqb, leb}
use borrow.Author.Tests.{eqb-true, eqb-false, leb-false}
use Rattle.records.specs.declared.table.Table.{Table}
use Rattle.records.specs.declared.transaction.Transaction.{Transaction}
use Rattle.records.specs.declared.command.Kind.TheVariants.{Act, Ref}
use Rattle.records.specs.declared.command.Command.{Command}
use Rattle.rules.specs.declared.state.State.{State}
use Rattle.records.specs.Tests.{pick, all_of}
use Rattle.records.specs.Transaction.{is_write, is_refresh}
use Rattle.records.specs.Command.{command}
use Rattle.rules.specs.Kinds.{can_end}
use Rattle.rules.specs.State.{tests_by, breaks_none, note, after}
use Rattle.rules.specs.Queues.{bank_at, data_kind, act_count}
use Rattle.rules.specs.CycleRule.{otherwise, goes}
use Rattle.rules.specs.Bound.{span}
use Rattle.rules.proofs.laws.TestLaws.{true_false, OnSome}
use Rattle.rules.proofs.laws.Ranges.{Ranges}
use Rattle.rules.proofs.laws.Numbers.{from?}
use Rattle.rules.proofs.queues.Queue.{Place, place_of, act_place, data_place, bank_of_place, act_bank, act_of_place, is_act_at}
use Rattle.rules.proofs.queues.Fit.{AllFit, Inside, place_at, act_bank_lem}
use Rattle.rules.proofs.laws.DataKinds.{can_end_lem, rules_kind}
use Rattle.rules.proofs.queues.Heads.{seen_place, data_from, act_from, try_act, goes_try, act_ok, refresh_ok}
use Rattle.rules.proofs.bound.Recent.{ext}
use Rattle.rules.proofs.bound.Due.{due_next, due_turn, due_span}
use Rattle.rules.proofs.bound.Phase.{Spot, head_test, by_data, Serving, Between}
use Rattle.rules.proofs.bound.Ready.{no_refresh, not_due}
use Rattle.rules.proofs.bound.EachWay.{step_idle, step_act, step_data, step_last}

-- a command that is no data command or REF of another transaction than K
abbrev pub OfNumber : ℕ → Command → Type 0
OfNumber K c = can_end c.kind ≡ true → c.number ≡ K

abbrev pub LastOf : ℕ → ℕ → Command → Type 0
LastOf K t c = (can_end c.kind ≡ true) × (c.number ≡ K) × (c.cycle ≡ t)

-- the phase goes on, or it ends with the command o, in time
unfoldable pub Next : (τ : Table) (l : List Transaction) (A0 M0 : ℕ) (x : Transaction) (F K : ℕ) (s : State) (o : Option Command) → Type 0
Next τ l A0 M0 x F K s o =
    (OnSome (OfNumber K) o × ((ta : ℕ → ℕ) × (j : ℕ) × (r : ℕ) × Serving τ l A0 M0 x F ta j r (after τ s o)))
    ⊎ ((s.cycle ≤ F + span τ x) × ((c : Command) × (o ≡ some c) × LastOf K s.cycle c)
    × ((ta : ℕ → ℕ) × Between τ l (A0 + x.bi) (M0 + x.bi * x.bc) s.cycle s.cycle ta (after τ s o)))

module _ (τ : Table) (rng : Ranges τ) (l : List Transaction) (v : AllFit τ l) (A0 M0 : ℕ) (x : Transaction) (sp : Spot τ l A0 M0 x) (F : ℕ) (ta : ℕ → ℕ) (j r : ℕ)
    (s : State) (q : Serving τ l A0 M0 x F ta j r s) where
  abbrev head : Bool → Command
  head z = command s.cycle (data_kind (is_write x) z) (bank_at τ x j) sp.K

  abbrev test : Bool
  test = head_test τ A0 x j s

  data_goes : test ≡ true → (z : Bool) → eqb (r + 1) x.bc ≡ z → Next τ l A0 M0 x F sp.K s (some (head z))
  unfolding Next
  data_goes ok false e =
      let ne : r + 1 ≢ x.bc = eqb-false (r + 1) x.bc e in
      inl (
        λ u. refl,
        (
          ta,
          j,
          r + 1,
          step_data τ rng l A0 M0 x sp F ta j r s q ok false j (r + 1) refl (omega arith) (omega arith) q.jIn (omega (arith, ne, q.rIn)) (due_next τ x.bc j r),
        ),
      )
  data_goes ok true e = on (from? (j + 1) x.bi)
    where
      er : r + 1 ≡ x.bc
      er = eqb-true (r + 1) x.bc e

      on : (j + 1 < x.bi) ⊎ ((d : ℕ) × (j + 1 ≡ x.bi + d)) → Next τ l A0 M0 x F sp.K s (some (head true))
      on (inl h) =
          inl (
            λ u. refl,
            (
              ta,
              j + 1,
              0,
              step_data τ rng l A0 M0 x sp F ta j r s q ok true (j + 1) 0 (omega arith) (omega arith) (omega (arith, er)) h (omega (arith, sp.ok.one))
                  (due_turn τ x.bc j r er),
            ),
          )
      on (inr h) =
          let ej : j + 1 ≡ x.bi = omega (arith, h.1, q.jIn) in
          inr (
            omega (arith, q.data_time, due_span τ x j r sp.ok.plain q.jIn q.rIn),
            (head true, refl, (can_end_lem (is_write x) true, refl, refl)),
            (
              ta,
              step_last τ rng l A0 M0 x sp F ta j r s q ok true refl ej er,
            ),
          )

  act_goes : s.cycle + 1 ≤ by_data τ F x j r → (o : Option Place) → act_place l s.acts ≡ o → OnSome (Inside τ act_count) o
      → Next τ l A0 M0 x F sp.K s (act_from (breaks_none τ s) τ s.cycle (seen_place s.cycle o))
  unfolding Next
  act_goes e none eo a = inl (tt, (ta, j, r, step_idle τ rng l A0 M0 x sp F ta j r s q e (λ k ek kl fl. absurd (no_none k ek kl))))
    where
      no_none : (k : ℕ) → s.acts ≡ A0 + k → k < x.bi → ⊥
      no_none k ek kl =
          let g = sp.act_k k kl in
          let p : act_place l (A0 + k) ≡ none = rw ek at eo in
          let z : ◌≡◌ {A = ℕ} 0 1 = cc (p, g) in omega arith
  act_goes e (some p) eo a = on_seen (leb p.transaction.arrival s.cycle) refl
    where
      pb : ℕ
      pb = bank_at τ p.transaction p.offset

      is_act_lem : is_act_at l s.acts ≡ not (is_refresh p.transaction)
      is_act_lem = ap act_of_place eo

      -- what stands there is an ACT
      on_a : is_refresh p.transaction ≡ false → pb ≡ act_bank τ l s.acts → pb < τ.banks → (y : Bool) → act_ok τ s pb ≡ y
          → Next τ l A0 M0 x F sp.K s (pick y (some (command s.cycle Act pb p.number)) none)
      on_a er b lt true ok =
          inl (
            λ u. absurd (true_false false u refl),
            (
              ext ta s.acts s.cycle,
              j,
              r,
              subst (λ (y : ℕ). Serving τ l A0 M0 x F (ext ta s.acts s.cycle) j r (note τ s s.cycle Act y)) (sym b)
                  (step_act τ rng l A0 M0 x sp F ta j r s q e (is_act_lem ∙ ap not er) (subst (λ (y : ℕ). y < τ.banks) b lt) (subst (λ (y : ℕ). act_ok τ s y ≡ true) b ok)),
            ),
          )
      on_a er b lt false bad = inl (tt, (ta, j, r, step_idle τ rng l A0 M0 x sp F ta j r s q e (λ k ek kl fl. subst (λ (y : ℕ). act_ok τ s y ≡ false) (same_bank k ek kl) bad)))
        where
          same_bank : (k : ℕ) → s.acts ≡ A0 + k → k < x.bi → pb ≡ bank_at τ x k
          same_bank k ek kl = b ∙ (ap (act_bank τ l) ek ∙ sp.bank_k k kl)

      -- a REF is no command of this transaction, and does not go while a bank is open
      beyond : is_refresh p.transaction ≡ true → (k : ℕ) → s.acts ≡ A0 + k → k < x.bi → ⊥
      beyond er k ek kl =
          true_false (is_act_at l s.acts) (ap (is_act_at l) ek ∙ (ap act_of_place (sp.act_k k kl) ∙ ap not sp.ok.plain)) (is_act_lem ∙ ap not er)

      on_r : is_refresh p.transaction ≡ true → (y : Bool) → refresh_ok τ s ≡ y
          → Next τ l A0 M0 x F sp.K s (pick y (some (command s.cycle Ref 0 p.number)) none)
      on_r er true ok = absurd (no_refresh τ rng l A0 M0 x sp F ta j r s q ok (beyond er))
      on_r er false bad = inl (tt, (ta, j, r, step_idle τ rng l A0 M0 x sp F ta j r s q e (λ k ek kl fl. absurd (beyond er k ek kl))))

      on : (z : Bool) → is_refresh p.transaction ≡ z → pick z 0 pb ≡ act_bank τ l s.acts → pick z 0 pb < τ.banks
          → Next τ l A0 M0 x F sp.K s
          (pick (all_of (tests_by τ s (pick z Ref Act) s.cycle (pick z 0 pb))) (some (command s.cycle (pick z Ref Act) (pick z 0 pb) p.number)) none)
      on true er b lt = on_r er (refresh_ok τ s) refl
      on false er b lt = on_a er b lt (act_ok τ s pb) refl

      -- where it is not seen yet it is none of this transaction's, once F is reached
      own_arrival : (k : ℕ) → s.acts ≡ A0 + k → k < x.bi → p.transaction.arrival ≡ x.arrival
      own_arrival k ek kl =
          let z : act_place l (A0 + k) ≡ some p = rw ek at eo in
          let g = sp.act_k k kl in cc (z, g)

      on_seen : (y : Bool) → leb p.transaction.arrival s.cycle ≡ y
          → Next τ l A0 M0 x F sp.K s (act_from (breaks_none τ s) τ s.cycle (pick y (some p) none))
      on_seen true ey = on (is_refresh p.transaction) refl (sym (ap (bank_of_place τ) eo)) (act_bank_lem τ p a)
      on_seen false ey =
          inl (
            tt,
            (
              ta,
              j,
              r,
              step_idle τ rng l A0 M0 x sp F ta j r s q e
                  (λ k ek kl fl. absurd (omega (arith, fl, leb-false p.transaction.arrival s.cycle ey, own_arrival k ek kl, q.arrived))),
            ),
          )

  pub phase_step : Next τ l A0 M0 x F sp.K s (goes τ l s)
  unfolding Next
  phase_step =
      subst (λ (o : Option Command). Next τ l A0 M0 x F sp.K s o) (sym total) (on_seen (leb x.arrival s.cycle) refl)
    where
      m_lt : j * x.bc + r < x.bi * x.bc
      m_lt = omega (arith, mul-le-mul_right x.bc q.jIn, q.rIn)

      g : data_place l (M0 + (j * x.bc + r)) ≡ some (place_of x sp.K A0 (j * x.bc + r))
      g = sp.data_m (j * x.bc + r) m_lt

      e1 : (j * x.bc + r) / x.bc ≡ j
      e1 = mul-add-div_right sp.ok.one j r ∙ (ap (λ (y : ℕ). j + y) (div-eq_of_lt q.rIn) ∙ omega arith)

      e2 : (j * x.bc + r) % x.bc ≡ r
      e2 = mul-add-mod_self_right j x.bc r ∙ mod-eq_of_lt q.rIn

      eq_t : data_from (breaks_none τ s) τ s.cycle s.acts (some (place_of x sp.K A0 (j * x.bc + r))) ≡ pick test (some (head (eqb (r + 1) x.bc))) none
      eq_t = rw (e1, e2, rules_kind τ s (is_write x) (eqb (r + 1) x.bc) s.cycle (bank_at τ x j))

      total : goes τ l s
          ≡ otherwise (data_from (breaks_none τ s) τ s.cycle s.acts (seen_place s.cycle (some (place_of x sp.K A0 (j * x.bc + r))))) (try_act τ l s)
      total =
          goes_try τ l s
          ∙ ap (λ (o : Option Place). otherwise (data_from (breaks_none τ s) τ s.cycle s.acts (seen_place s.cycle o)) (try_act τ l s)) (ap (data_place l) q.cnt ∙ g)

      act_turn : s.cycle + 1 ≤ by_data τ F x j r → Next τ l A0 M0 x F sp.K s (try_act τ l s)
      act_turn e = act_goes e (act_place l s.acts) refl (place_at τ act_count l v 0 0 s.acts)

      on : (b : Bool) → test ≡ b → Next τ l A0 M0 x F sp.K s (otherwise (pick b (some (head (eqb (r + 1) x.bc))) none) (try_act τ l s))
      on true ok = data_goes ok (eqb (r + 1) x.bc) refl
      on false bad = act_turn (not_due τ rng l A0 M0 x sp F ta j r s q bad)

      on_seen : (y : Bool) → leb x.arrival s.cycle ≡ y
          → Next τ l A0 M0 x F sp.K s
          (otherwise (data_from (breaks_none τ s) τ s.cycle s.acts (pick y (some (place_of x sp.K A0 (j * x.bc + r))) none)) (try_act τ l s))
      on_seen true ey = subst (λ (o : Option Command). Next τ l A0 M0 x F sp.K s (otherwise o (try_act τ l s))) (sym eq_t) (on test refl)
      on_seen false ey = act_turn (omega (arith, leb-false x.arrival s.cycle ey, q.arrived))
