-- A run that stops: n cycles and then m are n + m, and its cycles are steps of the cycle rule.
-- Assumes nothing.
use Prim.Native.Nat.{ℕ, zero, suc, ◌+◌, ◌≤◌}
use native.Mathlib.Omega.{arith}
use native.Mathlib.Numerals.{add-one}
use mathlib.Core.Path.{◌≡◌, refl, sym, ap, ◌∙◌}
use mathlib.Core.Bool.{Bool, true, false}
use mathlib.Core.Option.{Option, none, some}
use mathlib.Core.List.{List, [], ◌++◌}
use Rattle.records.specs.declared.table.Table.{Table}
use Rattle.records.specs.declared.transaction.Transaction.{Transaction}
use Rattle.records.specs.declared.command.Command.{Command}
use Rattle.rules.specs.declared.state.State.{State}
use Rattle.rules.specs.State.{after}
use Rattle.rules.specs.CycleRule.{goes, push}
use Rattle.rules.specs.Run.{stops, steps, Ran, one_more, run}

-- the cycles of a second run added to those of a first
abbrev pub join : Ran → Ran → Ran
join a b = record { state = b.state; history = b.history; cycles = a.cycles + b.cycles }

pub stopped : (m : ℕ) (τ : Table) (l : List Transaction) (s : State) (h : List Command) → stops τ l s ≡ true → run m τ l s h ≡ record { state = s; history = h; cycles = 0 }
stopped zero τ l s h e = refl
stopped (suc m) τ l s h e = rw (e, run)

pub going : (n : ℕ) (τ : Table) (l : List Transaction) (s : State) (h : List Command) → stops τ l s ≡ false
    → run (suc n) τ l s h ≡ one_more (run n τ l (after τ s (goes τ l s)) (push (goes τ l s) h))
going n τ l s h e = rw (e, run)

pub run_add : (n m : ℕ) (τ : Table) (l : List Transaction) (s : State) (h : List Command)
    → run (n + m) τ l s h ≡ join (run n τ l s h) (run m τ l (run n τ l s h).state (run n τ l s h).history)
run_add zero m τ l s h =
    let z : 0 + m ≡ m = omega arith in
    let z' : 0 + (run m τ l s h).cycles ≡ (run m τ l s h).cycles = omega arith in rw (z, z')
run_add (suc n) m τ l s h =
    let z : suc n + m ≡ suc (n + m) = omega arith in
    rw z (on (stops τ l s) refl (run_add n m τ l (after τ s (goes τ l s)) (push (goes τ l s) h)))
  where
    next : Ran
    next = run n τ l (after τ s (goes τ l s)) (push (goes τ l s) h)

    on : (b : Bool) → stops τ l s ≡ b → run (n + m) τ l (after τ s (goes τ l s)) (push (goes τ l s) h) ≡ join next (run m τ l next.state next.history)
        → run (suc (n + m)) τ l s h ≡ join (run (suc n) τ l s h) (run m τ l (run (suc n) τ l s h).state (run (suc n) τ l s h).history)
    on true e ih = rw (stopped (suc (n + m)) τ l s h e, stopped (suc n) τ l s h e, stopped m τ l s h e)
    on false e ih =
        rw (going (n + m) τ l s h e, going n τ l s h e)
        (ap one_more ih ∙ ap (λ (c : ℕ). record { state = b.state; history = b.history; cycles = c }) (omega arith))
      where
        b : Ran
        b = run m τ l next.state next.history

pub run_steps : (n : ℕ) (τ : Table) (l : List Transaction) (s : State) (h : List Command)
    → steps (run n τ l s h).cycles τ l s h ≡ ((run n τ l s h).state, (run n τ l s h).history)
run_steps zero τ l s h = refl
run_steps (suc n) τ l s h = on (stops τ l s) refl (run_steps n τ l (after τ s (goes τ l s)) (push (goes τ l s) h))
  where
    next : Ran
    next = run n τ l (after τ s (goes τ l s)) (push (goes τ l s) h)

    on : (b : Bool) → stops τ l s ≡ b → steps next.cycles τ l (after τ s (goes τ l s)) (push (goes τ l s) h) ≡ (next.state, next.history)
        → steps (run (suc n) τ l s h).cycles τ l s h ≡ ((run (suc n) τ l s h).state, (run (suc n) τ l s h).history)
    on true e ih = rw (stopped (suc n) τ l s h e) refl
    on false e ih = rw (going n τ l s h e, add-one next.cycles) ih

pub run_cycles : (n : ℕ) (τ : Table) (l : List Transaction) (s : State) (h : List Command) → (run n τ l s h).cycles ≤ n
run_cycles zero τ l s h = omega arith
run_cycles (suc n) τ l s h = on (stops τ l s) refl (run_cycles n τ l (after τ s (goes τ l s)) (push (goes τ l s) h))
  where
    on : (b : Bool) → stops τ l s ≡ b → (run n τ l (after τ s (goes τ l s)) (push (goes τ l s) h)).cycles ≤ n → (run (suc n) τ l s h).cycles ≤ suc n
    on true e ih = rw (stopped (suc n) τ l s h e) (omega arith)
    on false e ih = rw (going n τ l s h e) (omega arith)

-- what is written after older commands is what is written after none, before them
abbrev before_older : List Command → Ran → Ran
before_older h r = record { state = r.state; history = r.history ++ h; cycles = r.cycles }

push_append : (o : Option Command) (g h : List Command) → push o (g ++ h) ≡ push o g ++ h
push_append none g h = refl
push_append (some c) g h = refl

history_over : (n : ℕ) (τ : Table) (l : List Transaction) (s : State) (g h : List Command) → run n τ l s (g ++ h) ≡ before_older h (run n τ l s g)
history_over zero τ l s g h = refl
history_over (suc n) τ l s g h = on (stops τ l s) refl (history_over n τ l (after τ s (goes τ l s)) (push (goes τ l s) g) h)
  where
    on : (b : Bool) → stops τ l s ≡ b
        → run n τ l (after τ s (goes τ l s)) (push (goes τ l s) g ++ h) ≡ before_older h (run n τ l (after τ s (goes τ l s)) (push (goes τ l s) g))
        → run (suc n) τ l s (g ++ h) ≡ before_older h (run (suc n) τ l s g)
    on true e ih = stopped (suc n) τ l s (g ++ h) e ∙ ap (before_older h) (sym (stopped (suc n) τ l s g e))
    on false e ih =
        going n τ l s (g ++ h) e
        ∙ (ap (λ (k : List Command). one_more (run n τ l (after τ s (goes τ l s)) k)) (push_append (goes τ l s) g h)
        ∙ (ap one_more ih ∙ ap (before_older h) (sym (going n τ l s g e))))

-- n cycles and then m give the commands and the state of n + m at once, each run writing its own commands
pub n_then_m : (n m : ℕ) (τ : Table) (l : List Transaction) (s : State)
    → run (n + m) τ l s [] ≡ record {
      state = (run m τ l (run n τ l s []).state []).state;
      history = (run m τ l (run n τ l s []).state []).history ++ (run n τ l s []).history;
      cycles = (run n τ l s []).cycles + (run m τ l (run n τ l s []).state []).cycles;
    }
n_then_m n m τ l s = run_add n m τ l s [] ∙ ap (join (run n τ l s [])) (history_over m τ l (run n τ l s []).state [] (run n τ l s []).history)
