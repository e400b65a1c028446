-- The examples, by what the pass and the scan find.
-- Assumes nothing.
use Prim.Native.Nat.{ℕ, zero, suc, ◌+◌, ◌<◌}
use native.Mathlib.Omega.{arith}
use mathlib.Core.Path.{◌≡◌, refl, ap, ◌∙◌}
use mathlib.Core.Logic.{⊎_elim}
use mathlib.Core.Bool.{Bool, true, false}
use mathlib.Core.List.{List, [], ◌∷◌}
use lib.Dec.{leb}
use lib.ListN.{length}
use borrow.Author.Tests.{leb-true}
use Rattle.records.specs.Tests.{pick}
use Rattle.records.specs.declared.table.Table.{Table}
use Rattle.records.specs.declared.transaction.Transaction.{Transaction}
use Rattle.records.specs.declared.command.Command.{Command}
use Rattle.records.specs.Table.{Accepted}
use Rattle.records.specs.Transaction.{arriving, list_fits}
use Rattle.records.specs.House.{table_a, table_d}
use Rattle.rules.specs.Pattern.{onto}
use Rattle.rules.specs.Verdict.{Legal}
use Rattle.rules.specs.Queues.{data_queue}
use Rattle.rules.specs.Worked.{read, table_r, refreshed, one, twelve, All}
use Rattle.rules.specs.WorkedGroups.{hidden_act}
use Rattle.rules.proofs.laws.Numbers.{from?}
use Rattle.rules.proofs.laws.Ranges.{ranges}
use Rattle.rules.proofs.shown.Built.{each_fits}
use Rattle.serves.specs.declared.answer.Served.{Served}
use Rattle.serves.specs.Serves.{Says}
use Rattle.serves.specs.Check.{faulty, least_by, wrong, any_outside, FirstAt, answer_of}
use Rattle.serves.specs.Worked.{any_order, beyond, bursts, closed_twice, data_turned, doubled, exchanged, missed, of_bursts, outside_before, ref_first, ref_last, stray_before, strayed, three, two, two_alike, two_refs, without, wrong_type, serve_examples}
use Rattle.serves.proofs.Acts.{at_in, at_in_lem}
use Rattle.serves.proofs.Lowest.{says}

-- of k numbers from x on, the first that passes p; x + k where none does
abbrev pub first_from : (ℕ → Bool) → ℕ → ℕ → ℕ
first_from p zero x = x
first_from p (suc k) x = pick (p x) x (first_from p k (suc x))

first_from_lem : (p : ℕ → Bool) (k x m : ℕ) → x + k ≡ m → ((j : ℕ) → j < x → p j ≡ false) → FirstAt p m (first_from p k x)
first_from_lem p zero x m e f = record { within = omega (arith, e); none_before = f; there = λ h. absurd (omega (arith, e, h)) }
first_from_lem p (suc k) x m e f = on (p x) refl (first_from_lem p k (suc x) m (omega (arith, e)))
  where
    on : (b : Bool) → p x ≡ b → (((j : ℕ) → j < suc x → p j ≡ false) → FirstAt p m (first_from p k (suc x))) → FirstAt p m (pick b x (first_from p k (suc x)))
    on true q ih = record { within = omega (arith, e); none_before = f; there = λ h. q }
    on false q ih = ih (λ j h. ⊎_elim (f j) (λ z. let i : j ≡ x = omega (arith, z.1, h) in ap p i ∙ q) (from? j x))

module _ (τ : Table) (l : List Transaction) (rs : List Command) where
  abbrev pub lowest : ℕ
  lowest = first_from (wrong τ.banks (length l) (at_in l) (onto rs [])) (least_by (length l) (faulty τ.banks (length l) (at_in l)) (onto rs [])) 0

  -- what the pass and the scan find is what is answered
  abbrev pub finds : Served
  finds = answer_of (length l) lowest (any_outside (length l) (onto rs []))

  pub found : Accepted τ → list_fits τ l ≡ true → Legal τ rs → leb (length rs) 69632 ≡ true → Says τ l rs finds
  found acc fit legal few =
      says τ (ranges τ acc).banks.most l (each_fits τ acc l fit) (at_in l) (at_in_lem l) rs legal (leb-true (length rs) 69632 few) lowest
      (first_from_lem (wrong τ.banks (length l) (at_in l) (onto rs [])) (least_by (length l) (faulty τ.banks (length l) (at_in l)) (onto rs [])) 0
      (least_by (length l) (faulty τ.banks (length l) (at_in l)) (onto rs [])) (omega arith) (λ j h. absurd (omega arith)))

infixr 4 ◌⨾◌
-- a proof of the first statement, and of the rest
abbrev ◌⨾◌ : {P Q : Type 0} → P → Q → P × Q
p ⨾ ps = (p, ps)

pub worked : All serve_examples
unfolding data_queue
worked =
    found table_r three refreshed refl refl refl refl
    ⨾ found table_a (read 7 2 1 ∷ []) twelve refl refl refl refl
    ⨾ found table_d (read 0 2 1 ∷ read 4 1 1 ∷ []) (hidden_act 20) refl refl refl refl
    ⨾ found table_a bursts of_bursts refl refl refl refl
    ⨾ refl
    ⨾ found table_a (arriving (read 0 1 1) 25 ∷ []) one refl refl refl refl
    ⨾ found table_a two any_order refl refl refl refl
    ⨾ found table_a bursts missed refl refl refl refl
    ⨾ found table_a bursts doubled refl refl refl refl
    ⨾ found table_a bursts strayed refl refl refl refl
    ⨾ found table_a bursts closed_twice refl refl refl refl
    ⨾ found table_a two wrong_type refl refl refl refl
    ⨾ found table_r three without refl refl refl refl
    ⨾ found table_r three two_refs refl refl refl refl
    ⨾ found table_r three one refl refl refl refl
    ⨾ found table_a two_alike exchanged refl refl refl refl
    ⨾ found table_a two data_turned refl refl refl refl
    ⨾ found table_r three ref_last refl refl refl refl
    ⨾ found table_r three ref_first refl refl refl refl
    ⨾ found table_r three stray_before refl refl refl refl
    ⨾ found table_r three outside_before refl refl refl refl
    ⨾ found table_r three beyond refl refl refl refl
    ⨾ found table_a [] one refl refl refl refl
    ⨾ found table_a [] [] refl refl refl refl
    ⨾ refl
    ⨾ refl
    ⨾ tt
