-- Request 12: the run by jumps is the run by cycles.
-- Assumes nothing.
use Prim.Native.Nat.{ℕ, zero, suc, ◌+◌, ◌-◌, ◌≤◌, ◌<◌, min, max}
use native.Mathlib.Omega.{arith}
use mathlib.Core.Path.{◌≡◌, refl, sym, ap, ◌∙◌}
use mathlib.Core.Bool.{Bool, true, false, ◌||◌}
use mathlib.Core.Option.{Option, none}
use mathlib.Core.List.{List}
use lib.Dec.{leb}
use borrow.Author.Tests.{leb-true, leb-false, lt-leb}
use Rattle.records.specs.declared.table.Table.{Table}
use Rattle.records.specs.declared.transaction.Transaction.{Transaction}
use Rattle.records.specs.declared.command.Command.{Command}
use Rattle.rules.specs.declared.state.State.{State}
use Rattle.rules.specs.State.{after}
use Rattle.rules.specs.CycleRule.{goes, push}
use Rattle.rules.specs.Run.{served, stops, Ran, one_more, run}
use Rattle.rules.proofs.runs.RunTo.{stopped, going}
use Rattle.earliest.specs.Earliest.{limit}
use Rattle.earliest.specs.Jump.{at_cycle, leaves_at, left_of, ends_at, later, jumps, jump}
use Rattle.earliest.proofs.Free.{quiet_before}

or_right : (x y : Bool) → (x || y) ≡ false → y ≡ false
or_right true y e = let z : ◌≡◌ {A = ℕ} 0 1 = cc in absurd (omega arith)
or_right false y e = e

or_left : (x y : Bool) → (x || y) ≡ false → x ≡ false
or_left true y e = let z : ◌≡◌ {A = ℕ} 0 1 = cc in absurd (omega arith)
or_left false y e = refl

or_true : (x y : Bool) → y ≡ true → (x || y) ≡ true
or_true true y e = refl
or_true false y e = e

end_split : (c n e : ℕ) → c < limit → e ≡ min limit (c + n) → n ≡ e - c + (n - (e - c))
end_split c n e h p = omega arith

none_left : (c n e : ℕ) → c < limit → e ≡ min limit (c + n) → e < limit → n - (e - c) ≡ 0
none_left c n e h p q = omega arith

one_less : (n k : ℕ) → k < n → n - k ≡ suc (n - (k + 1))
one_less n k h = omega arith

apart : (n k : ℕ) → k < n → n ≡ k + (n - k)
apart n k h = omega arith

module _ (τ : Table) (l : List Transaction) (s : State) where
  -- a list that is not served stays so, whatever the cycle
  pub still_at : (t : ℕ) → served τ l s ≡ false → t < limit → stops τ l (at_cycle s t) ≡ false
  still_at t e h = rw (e, lt-leb limit t h)

  -- nothing goes from the state's cycle to the next at which a command leaves
  pub nothing_before : (t : ℕ) → t < limit → s.cycle ≤ t → t < leaves_at τ l s → goes τ l (at_cycle s t) ≡ none
  nothing_before t e h k = quiet_before τ t e l s (omega arith) (omega arith)

  -- idle cycles may be left out
  pub skips : served τ l s ≡ false → (k m t : ℕ) (h : List Command) → s.cycle ≤ t → t + k ≤ limit → t + k ≤ leaves_at τ l s
      → run (k + m) τ l (at_cycle s t) h ≡ later k (run m τ l (at_cycle s (t + k)) h)
  skips e zero m t h p q r =
      let z : 0 + m ≡ m = omega arith in
      let y : t + 0 ≡ t = omega arith in
      let x : 0 + (run m τ l (at_cycle s t) h).cycles ≡ (run m τ l (at_cycle s t) h).cycles = omega arith in rw (z, y, x)
  skips e (suc k) m t h p q r = on (skips e k m (t + 1) h (omega arith) (omega arith) (omega arith))
    where
      on : run (k + m) τ l (at_cycle s (t + 1)) h ≡ later k (run m τ l (at_cycle s (t + 1 + k)) h)
          → run (suc k + m) τ l (at_cycle s t) h ≡ later (suc k) (run m τ l (at_cycle s (t + suc k)) h)
      on ih =
          let z : suc k + m ≡ suc (k + m) = omega arith in
          let y : t + 1 + k ≡ t + suc k = omega arith in
          ap (λ (j : ℕ). run j τ l (at_cycle s t) h) z
          ∙ (going (k + m) τ l (at_cycle s t) h (still_at t e (omega arith))
          ∙ (ap (λ (o : Option Command). one_more (run (k + m) τ l (after τ (at_cycle s t) o) (push o h))) (nothing_before t (omega arith) p (omega arith))
          ∙ (ap one_more ih
          ∙ (ap (λ (j : ℕ). one_more (later k (run m τ l (at_cycle s j) h))) y
          ∙ ap (λ (c : ℕ). record { state = w.state; history = w.history; cycles = c }) (omega arith)))))
        where
          w : Ran
          w = run m τ l (at_cycle s (t + suc k)) h

  -- a run that has stopped ends where it is
  stopped_ends : (n : ℕ) → stops τ l s ≡ true → ends_at τ l n s ≡ s.cycle
  stopped_ends n e = on (served τ l s) refl
    where
      on : (b : Bool) → served τ l s ≡ b → max s.cycle (min limit (s.cycle + left_of b n)) ≡ s.cycle
      on true k = omega arith
      on false k = omega (arith, leb-true limit s.cycle (rw k at e))

  module _ (e : stops τ l s ≡ false) where
    pub early : s.cycle < limit
    early = leb-false limit s.cycle (or_right (served τ l s) (leb limit s.cycle) e)

    pub unserved : served τ l s ≡ false
    unserved = or_left (served τ l s) (leb limit s.cycle) e

    going_ends : (n : ℕ) → ends_at τ l n s ≡ min limit (s.cycle + n)
    going_ends n = rw unserved (omega (arith, early))

    to_end_going : (n : ℕ) (h : List Command) → ends_at τ l n s ≤ leaves_at τ l s
        → run n τ l s h ≡ record { state = at_cycle s (ends_at τ l n s); history = h; cycles = ends_at τ l n s - s.cycle }
    to_end_going n h p =
        ap (λ (j : ℕ). run j τ l s h) split
        ∙ (skips unserved k (n - k) s.cycle h (omega arith) (omega (arith, early, going_ends n)) (omega (arith, early, going_ends n))
        ∙ (ap (λ (j : ℕ). later k (run (n - k) τ l (at_cycle s j) h)) at_end ∙ (ap (later k) rest ∙ ap (λ (c : ℕ). record { state = at_cycle s t; history = h; cycles = c }) (omega arith))))
      where
        t : ℕ
        t = ends_at τ l n s

        k : ℕ
        k = t - s.cycle

        split : n ≡ k + (n - k)
        split = end_split s.cycle n t early (going_ends n)

        at_end : s.cycle + k ≡ t
        at_end = omega (arith, early, going_ends n)

        -- the count is out, or the cycle is the last
        rest : run (n - k) τ l (at_cycle s t) h ≡ record { state = at_cycle s t; history = h; cycles = 0 }
        rest = on (leb limit t) refl
          where
            on : (b : Bool) → leb limit t ≡ b → run (n - k) τ l (at_cycle s t) h ≡ record { state = at_cycle s t; history = h; cycles = 0 }
            on true q = stopped (n - k) τ l (at_cycle s t) h (or_true (served τ l s) (leb limit t) q)
            on false q = let z : n - k ≡ 0 = none_left s.cycle n t early (going_ends n) (leb-false limit t q) in ap (λ (j : ℕ). run j τ l (at_cycle s t) h) z

  -- nothing goes before the run's end
  pub to_end_lem : (n : ℕ) (h : List Command) → ends_at τ l n s ≤ leaves_at τ l s
      → run n τ l s h ≡ record { state = at_cycle s (ends_at τ l n s); history = h; cycles = ends_at τ l n s - s.cycle }
  to_end_lem n h p = on (stops τ l s) refl
    where
      on : (b : Bool) → stops τ l s ≡ b → run n τ l s h ≡ record { state = at_cycle s (ends_at τ l n s); history = h; cycles = ends_at τ l n s - s.cycle }
      on true e =
          let z : s.cycle - s.cycle ≡ 0 = omega arith in
          stopped n τ l s h e ∙ sym (ap (λ (t : ℕ). record { state = at_cycle s t; history = h; cycles = t - s.cycle }) (stopped_ends n e) ∙ ap (λ (c : ℕ). record { state = s; history = h; cycles = c }) z)
      on false e = to_end_going e n h p

  module _ (n : ℕ) (p : leaves_at τ l s < ends_at τ l n s) where
    -- a run that a command leaves before its end has not stopped
    pub goes_on : stops τ l s ≡ false
    goes_on = on (stops τ l s) refl
      where
        on : (b : Bool) → stops τ l s ≡ b → b ≡ false
        on true e = absurd (omega (arith, p, stopped_ends n e))
        on false e = refl

    ends : ends_at τ l n s ≡ min limit (s.cycle + n)
    ends = going_ends goes_on n

    pub in_time_lem : (leaves_at τ l s < limit) × (leaves_at τ l s - s.cycle < n)
    in_time_lem = (omega (arith, p, ends), omega (arith, p, ends))

    -- the idle cycles up to the next command
    pub to_next : (h : List Command)
        → run n τ l s h ≡ later (leaves_at τ l s - s.cycle) (run (n - (leaves_at τ l s - s.cycle)) τ l (at_cycle s (leaves_at τ l s)) h)
    to_next h =
        ap (λ (j : ℕ). run j τ l s h) split
        ∙ (skips (unserved goes_on) k (n - k) s.cycle h (omega arith) (omega (arith, in_time_lem.0)) (omega arith)
        ∙ ap (λ (j : ℕ). later k (run (n - k) τ l (at_cycle s j) h)) there)
      where
        k : ℕ
        k = leaves_at τ l s - s.cycle

        split : n ≡ k + (n - k)
        split = apart n k in_time_lem.1

        there : s.cycle + k ≡ leaves_at τ l s
        there = omega arith

    pub still_there : stops τ l (at_cycle s (leaves_at τ l s)) ≡ false
    still_there = still_at (leaves_at τ l s) (unserved goes_on) in_time_lem.0

    -- and its own
    pub past_next : (h : List Command)
        → let u = at_cycle s (leaves_at τ l s) in let w = leaves_at τ l s - s.cycle + 1 in
        run n τ l s h ≡ later w (run (n - w) τ l (after τ u (goes τ l u)) (push (goes τ l u) h))
    past_next h =
        to_next h
        ∙ (ap (λ (j : ℕ). later k (run j τ l u h)) split
        ∙ (ap (later k) (going (n - (k + 1)) τ l u h still_there)
        ∙ ap (λ (c : ℕ). record { state = w.state; history = w.history; cycles = c }) (omega arith)))
      where
        k : ℕ
        k = leaves_at τ l s - s.cycle

        u : State
        u = at_cycle s (leaves_at τ l s)

        split : n - k ≡ suc (n - (k + 1))
        split = one_less n k in_time_lem.1

        w : Ran
        w = run (n - (k + 1)) τ l (after τ u (goes τ l u)) (push (goes τ l u) h)

-- "its commands, finishing cycles, states and reported cycle counts equal those of the cycle rule for every input"
jumps_run : (f n : ℕ) (τ : Table) (l : List Transaction) (s : State) (h : List Command) → n ≤ f → jumps f n τ l s h ≡ run n τ l s h
jumps_run zero n τ l s h p = let z : n ≡ 0 = omega arith in sym (ap (λ (j : ℕ). run j τ l s h) z)
jumps_run (suc f) n τ l s h p =
    on (leb (ends_at τ l n s) (leaves_at τ l s)) refl (jumps_run f (n - w) τ l (after τ u (goes τ l u)) (push (goes τ l u) h) (omega arith))
  where
    w : ℕ
    w = leaves_at τ l s - s.cycle + 1

    u : State
    u = at_cycle s (leaves_at τ l s)

    on : (b : Bool) → leb (ends_at τ l n s) (leaves_at τ l s) ≡ b
        → jumps f (n - w) τ l (after τ u (goes τ l u)) (push (goes τ l u) h) ≡ run (n - w) τ l (after τ u (goes τ l u)) (push (goes τ l u) h)
        → jumps (suc f) n τ l s h ≡ run n τ l s h
    on true q ih = rw (q, jumps) (sym (to_end_lem τ l s n h (leb-true (ends_at τ l n s) (leaves_at τ l s) q)))
    on false q ih = rw (q, jumps) (ap (later w) ih ∙ sym (past_next τ l s n (leb-false (ends_at τ l n s) (leaves_at τ l s) q) h))

pub jump_run : (n : ℕ) (τ : Table) (l : List Transaction) (s : State) (h : List Command) → jump n τ l s h ≡ run n τ l s h
jump_run n τ l s h = jumps_run n n τ l s h (omega arith)
