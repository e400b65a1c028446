-- The commands of the first transactions: what a push, a turn and a last command make of them.
-- Assumes nothing.
use Prim.Native.Nat.{ℕ, ◌≤◌, ◌<◌}
use native.Mathlib.Omega.{arith}
use mathlib.Core.Path.{◌≡◌, refl, ◌∙◌}
use mathlib.Core.Bool.{Bool, true, false}
use mathlib.Core.Option.{Option, none, some}
use mathlib.Core.List.{List, [], ◌∷◌}
use lib.Dec.{ltb}
use borrow.Author.Tests.{ltb-false, lt-ltb, le-ltb, ne_eqb}
use Rattle.records.specs.declared.command.Command.{Command}
use Rattle.records.specs.Tests.{pick}
use Rattle.rules.specs.Pattern.{onto}
use Rattle.rules.specs.CycleRule.{push}
use Rattle.rules.specs.Finish.{last_command_in}
use Rattle.rules.specs.Promise.{of_first}
use Rattle.rules.proofs.laws.TestLaws.{OnSome}

pub keep_own : (k : ℕ) (o : Option Command) (g : List Command) → OnSome (λ c. c.number < k) o → of_first k (push o g) ≡ push o (of_first k g)
keep_own k none g u = refl
keep_own k (some c) g u = rw (lt-ltb c.number k u)

pub keep_other : (k : ℕ) (o : Option Command) (g : List Command) → OnSome (λ c. k ≤ c.number) o → of_first k (push o g) ≡ of_first k g
keep_other k none g u = refl
keep_other k (some c) g u = rw (le-ltb c.number k u)

pub first_onto : (k : ℕ) (a b : List Command) → of_first k (onto a b) ≡ onto (of_first k a) (of_first k b)
first_onto k [] b = refl
first_onto k (r ∷ a) b = first_onto k a (r ∷ b) ∙ on (ltb r.number k)
  where
    on : (e : Bool) → onto (of_first k a) (pick e (r ∷ of_first k b) (of_first k b)) ≡ onto (pick e (r ∷ of_first k a) (of_first k a)) (of_first k b)
    on true = refl
    on false = refl

-- the last command of one of the first transactions
pub last_first : (k K : ℕ) → k < K → (h : List Command) → last_command_in k (of_first K h) ≡ last_command_in k h
last_first k K lt [] = refl
last_first k K lt (r ∷ h) = on (ltb r.number K) refl (last_first k K lt h)
  where
    on : (e : Bool) → ltb r.number K ≡ e → last_command_in k (of_first K h) ≡ last_command_in k h → last_command_in k (pick e (r ∷ of_first K h) (of_first K h)) ≡ last_command_in k (r ∷ h)
    on true e ih = rw ih
    on false e ih = rw (ne_eqb r.number k (λ p. omega (arith, ltb-false r.number K e))) ih
