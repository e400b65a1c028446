-- What was lent before is not read by a run, which leaves it at the list's length.
-- Assumes nothing.
use Prim.Native.Nat.{ℕ, zero, suc}
use native.Mathlib.Omega.{arith}
use mathlib.Core.Path.{◌≡◌, refl, sym, ap, ◌∙◌}
use mathlib.Core.Bool.{Bool, true, false}
use mathlib.Core.Option.{Option, none, some}
use mathlib.Core.List.{List, [], ◌∷◌, ◌++◌}
use lib.ListN.{length, get_elem?, length-append}
use borrow.Author.Tests.{le-ltb}
use Rattle.records.specs.declared.table.Table.{Table}
use Rattle.records.specs.declared.transaction.Transaction.{Transaction}
use Rattle.records.specs.declared.command.Kind.{Kind}
use Rattle.records.specs.declared.command.Kind.TheVariants.{Act, Rd, Rda, Wr, Wra, Ref, Other}
use Rattle.records.specs.declared.command.Command.{Command}
use Rattle.rules.specs.declared.state.State.{State}
use Rattle.records.specs.Tests.{all_of}
use Rattle.rules.specs.State.{tests_by, breaks_none, after}
use Rattle.rules.specs.CycleRule.{goes, push}
use Rattle.rules.specs.Run.{stops, Ran, one_more, run}
use Rattle.rules.specs.Pieces.{lend, first_below, lent_run, then_ran, LentKept}
use Rattle.rules.proofs.history.Legal.{goes_agree}
use Rattle.rules.proofs.runs.RunTo.{stopped, going, n_then_m}

abbrev pub lend_ran : ℕ → Ran → Ran
lend_ran n r = record { state = lend n r.state; history = r.history; cycles = r.cycles }

breaks_lent : (k : ℕ) (τ : Table) (s : State) (c : Command) → breaks_none τ (lend k s) c ≡ breaks_none τ s c
breaks_lent k τ s c = on c.kind
  where
    on : (K : Kind) → all_of (tests_by τ (lend k s) K c.cycle c.bank) ≡ all_of (tests_by τ s K c.cycle c.bank)
    on Act = refl
    on Rd = refl
    on Rda = refl
    on Wr = refl
    on Wra = refl
    on Ref = refl
    on (Other n) = refl

goes_lent : (k : ℕ) (τ : Table) (l : List Transaction) (s : State) → goes τ l (lend k s) ≡ goes τ l s
goes_lent k τ l s = goes_agree (breaks_none τ (lend k s)) (breaks_none τ s) (breaks_lent k τ s) τ l s.cycle s.acts s.datas

after_lent : (k : ℕ) (τ : Table) (s : State) (o : Option Command) → after τ (lend k s) o ≡ lend k (after τ s o)
after_lent k τ s none = refl
after_lent k τ s (some c) = refl

pub run_lent : (n k : ℕ) (τ : Table) (l : List Transaction) (s : State) (h : List Command) → run n τ l (lend k s) h ≡ lend_ran k (run n τ l s h)
run_lent zero k τ l s h = refl
run_lent (suc n) k τ l s h = on (stops τ l s) refl (run_lent n k τ l (after τ s (goes τ l s)) (push (goes τ l s) h))
  where
    on : (b : Bool) → stops τ l s ≡ b
        → run n τ l (lend k (after τ s (goes τ l s))) (push (goes τ l s) h) ≡ lend_ran k (run n τ l (after τ s (goes τ l s)) (push (goes τ l s) h))
        → run (suc n) τ l (lend k s) h ≡ lend_ran k (run (suc n) τ l s h)
    on true e ih = stopped (suc n) τ l (lend k s) h e ∙ ap (lend_ran k) (sym (stopped (suc n) τ l s h e))
    on false e ih =
        going n τ l (lend k s) h e
        ∙ (ap (λ (o : Option Command). one_more (run n τ l (after τ (lend k s) o) (push o h))) (goes_lent k τ l s)
        ∙ (ap (λ (u : State). one_more (run n τ l u (push (goes τ l s) h))) (after_lent k τ s (goes τ l s))
        ∙ (ap one_more ih ∙ ap (lend_ran k) (sym (going n τ l s h e)))))

-- a run leaves "lent before" at the list's length, whatever its count
pub lent_is : (n : ℕ) (τ : Table) (l : List Transaction) (s : State) → (lent_run n τ l s).state.lent ≡ length l
lent_is n τ l s = ap (λ (r : Ran). r.state.lent) (run_lent n (length l) τ l s [])

-- none arrives before cycle 0
early : (o : Option Transaction) → first_below o 0 ≡ false
early none = refl
early (some x) = le-ltb x.arrival 0 (omega arith)

at_end : (l : List Transaction) → get_elem? l (length l) ≡ none
at_end [] = refl
at_end (x ∷ l) = at_end l

-- one list: nothing new
pub lent_kept : (τ : Table) (l : List Transaction) → LentKept τ l
lent_kept τ l =
    record {
      fresh_in_time = early (get_elem? l 0);
      lent = λ n s. lent_is n τ l s;
      not_late = λ n s. rw (lent_is n τ l s, at_end l);
      not_over = λ n s more. rw (lent_is n τ l s) (le-ltb (length (l ++ more)) (length l) (omega (arith, length-append l more)));
      splits = λ n m s.
          n_then_m n m τ l (lend (length l) s)
          ∙ ap (λ (u : State). then_ran (lent_run n τ l s) (run m τ l u [])) (ap (λ (k : ℕ). lend k (lent_run n τ l s).state) (lent_is n τ l s));
    }
