-- Turns of the small loops, and what comes next to a bank, over plain values.
-- Assumes nothing.
use Prim.Native.Nat.{ℕ, zero, suc, ◌+◌, ◌*◌, ◌≤◌, ◌<◌}
use native.Mathlib.Nat.{mul-le-mul}
use native.Mathlib.Omega.{arith}
use mathlib.Core.Path.{◌≡◌, refl, sym, ap, ◌∙◌, subst}
use mathlib.Core.Bool.{Bool, true, false, not, ◌||◌}
use mathlib.Core.List.{List}
use lib.Dec.{ltb, eqb}
use lib.ListN.{length, set}
use lib.Seq.{get_or-set_same, get_or-set_other}
use borrow.Author.Tests.{lt-ltb, eqb-true, eqb-false}
use Rattle.records.specs.declared.table.Table.{Table}
use Rattle.records.specs.declared.command.Kind.{Kind}
use Rattle.records.specs.declared.command.Command.{Command}
use Rattle.records.specs.Command.{command, kind_of, kind_number}
use Rattle.rules.specs.Kinds.{is_ref, is_known}
use Rattle.rules.specs.State.{add_if}
use Rattle.rules.specs.History.{in_table}
use Rattle.rules.specs.Queues.{data_kind}
use Rattle.rules.proofs.laws.TestLaws.{true_false, and_both}
use Rattle.shortest.specs.Shortest.{kind_at}
use Rattle.shortest.specs.Search.{nil, nth, tally, CanStand, Placeable, Shaped}

pub few_records : (bi bc : ℕ) → bi < 256 → bc < 256 → bi * suc bc ≤ 65280
few_records bi bc l m = mul-le-mul {n₁ = bi} {m₁ = suc bc} {n₂ = 255} {m₂ = 256} (omega arith) (omega arith)

pub kind_later : (w : Bool) (bc m : ℕ) → (m ≡ 0 → ⊥) → data_kind w (eqb m bc) ≡ kind_at w bc m
kind_later w bc zero f = absurd (f refl)
kind_later w bc (suc m) f = refl

pub tally_few : (b : ℕ) (x : List Command) (m : ℕ) → tally b x m ≤ m
tally_few b x zero = omega arith
tally_few b x (suc m) = on (eqb (nth x m).bank b) (tally_few b x m)
  where
    on : (e : Bool) → tally b x m ≤ m → add_if e (tally b x m) ≤ suc m
    on true l = omega arith
    on false l = omega arith

pub add_same : (e : Bool) (n : ℕ) → e ≡ true → n + 1 ≡ add_if e n
add_same true n f = refl
add_same false n f = true_false false f refl

-- ---- what a pattern's commands are

-- a kind that is read back, and no REF
abbrev Plain : Kind → Type 0
Plain k = (is_known k ≡ true) × (is_ref k ≡ false) × (kind_of (kind_number k) ≡ k)

data_plain : (w e : Bool) → Plain (data_kind w e)
data_plain true true = (refl, refl, refl)
data_plain true false = (refl, refl, refl)
data_plain false true = (refl, refl, refl)
data_plain false false = (refl, refl, refl)

pub kind_plain : (w : Bool) (bc m : ℕ) → Plain (kind_at w bc m)
kind_plain w bc zero = (refl, refl, refl)
kind_plain w bc (suc m) = data_plain w (eqb (suc m) bc)

can_stand : (τ : Table) (w : Bool) (bc m b t n : ℕ) → b < τ.banks → CanStand τ (command t (kind_at w bc m) b n)
can_stand τ w bc m b t n l =
    let p = kind_plain w bc m in
    (and_both (is_known (kind_at w bc m)) _ p.0 (and_both (ltb b τ.banks) _ (lt-ltb b τ.banks l) (ap (λ (e : Bool). not e || eqb b 0) p.1)), p.1)

-- one record more, or another in its place
pub placeable_set : (τ : Table) (m n i : ℕ) (x : List Command) (r : Command) → i < length x → CanStand τ r → ((j : ℕ) → j < n → (j ≡ i → ⊥) → j < m)
    → Placeable τ m x → Placeable τ n (set x i r)
placeable_set τ m n i x r room now old f j lj = on (eqb j i) refl
  where
    on : (e : Bool) → eqb j i ≡ e → CanStand τ (nth (set x i r) j)
    on true e = subst (CanStand τ) (sym (ap (nth (set x i r)) (eqb-true j i e) ∙ get_or-set_same x i r nil room)) now
    on false e = subst (CanStand τ) (sym (get_or-set_other x i j r nil (eqb-false j i e))) (f j (old j lj (eqb-false j i e)))

pub placeable_put : (τ : Table) (w : Bool) (bc m : ℕ) (x : List Command) (t s b : ℕ) → m < length x → b < τ.banks → Placeable τ m x
    → Placeable τ (m + 1) (set x m (command t (kind_at w bc s) b 0))
placeable_put τ w bc m x t s b room l f = placeable_set τ m (m + 1) m x (command t (kind_at w bc s) b 0) room (can_stand τ w bc s b t 0 l) (λ j lj ne. omega (arith, ne)) f

pub shaped_placeable : (τ : Table) {w : Bool} {bi bc L k : ℕ} {x : List Command} → bi ≤ τ.banks → Shaped w bi bc L k x → Placeable τ k x
shaped_placeable τ {w} {bi} {bc} {L} {k} {x} l q i li =
    subst (λ (kind : Kind). (in_table τ kind (nth x i).bank ≡ true) × (is_ref kind ≡ false)) (sym (q.kind i li))
    (can_stand τ w bc (tally (nth x i).bank x i) (nth x i).bank 0 0 (omega (arith, q.bank i li)))
