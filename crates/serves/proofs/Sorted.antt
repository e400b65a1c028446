-- Two lists of commands in ascending order that have each command equally often are one list.
-- Assumes nothing.
use Prim.Native.Nat.{ℕ, zero, suc, ◌≤◌}
use native.Mathlib.Omega.{arith}
use mathlib.Core.Path.{◌≡◌, refl, sym, ap, ◌∙◌}
use mathlib.Core.Bool.{Bool, true, false}
use mathlib.Core.Option.{some}
use mathlib.Core.List.{List, [], ◌∷◌}
use Rattle.records.specs.declared.command.Kind.{Kind}
use Rattle.records.specs.declared.command.Command.{Command}
use Rattle.rules.specs.State.{add_if}
use Rattle.serves.specs.Serves.{is_the, records_of, Stands}
use Rattle.serves.proofs.Tests.{same_some, none_some}
use Rattle.serves.proofs.Alike.{Alike, of_alike, Recorded, records_found_lem}

-- Q holds of each
abbrev pub AllOf : (Command → Type 0) → List Command → Type 0
AllOf Q [] = Unit {0}
AllOf Q (w ∷ l) = Q w × AllOf Q l

pub all_at : (Q : Command → Type 0) (l : List Command) → AllOf Q l → (i : ℕ) (w : Command) → Stands l i w → ((c : Command) → c ≡ w → Q c → Q w) → Q w
all_at Q [] a i w s f = none_some w s
all_at Q (c ∷ l) a zero w s f = f c (same_some (some c) c w refl s) a.0
all_at Q (c ∷ l) a (suc i) w s f = all_at Q l a.1 i w s f

one_more_lem : (b : Bool) (m n : ℕ) → add_if b m ≡ add_if b n → m ≡ n
one_more_lem true m n e = omega (arith, e)
one_more_lem false m n e = e

-- by a key that commands which are alike share, and by which two commands of which P holds are told apart
module _ (K : Command → ℕ) (alike_key : (r w : Command) → Alike r.kind r.bank r.number w.kind w.bank w.number → K r ≡ K w)
    (P : Command → Type 0) (apart : (r w : Command) → P r → P w → K r ≡ K w → r ≡ w) where
  abbrev pub Sorted : List Command → Type 0
  Sorted [] = Unit {0}
  Sorted (w ∷ l) = AllOf (λ c. K w ≤ K c) l × Sorted l

  -- the first is the least
  least : (d e : Command) (q : List Command) → Sorted (d ∷ q) → 1 ≤ records_of e.kind e.bank e.number (d ∷ q) → K d ≤ K e
  least d e q s h = on f.place f.one f.stands (alike_key f.one e f.alike)
    where
      f : Recorded e.kind e.bank e.number (d ∷ q)
      f = records_found_lem e.kind e.bank e.number (d ∷ q) h

      on : (i : ℕ) (w : Command) → Stands (d ∷ q) i w → K w ≡ K e → K d ≤ K e
      on zero w s' z = omega (arith, ap K (same_some (some d) d w refl s'), z)
      on (suc i) w s' z = omega (arith, all_at (λ c. K d ≤ K c) q s.0 i w s' (λ c g u. omega (arith, u, ap K g)), z)

  has_first : (e : Command) (a : List Command) → 1 ≤ records_of e.kind e.bank e.number (e ∷ a)
  has_first e a = rw (of_alike e.kind e.bank e.number e.kind e.bank e.number refl refl refl) (omega arith)

  pub sorted_same : (a q : List Command) → AllOf P a → AllOf P q → Sorted a → Sorted q → ((k : Kind) (b x : ℕ) → records_of k b x a ≡ records_of k b x q) → a ≡ q
  sorted_same [] [] pa pq sa sq f = refl
  sorted_same [] (d ∷ q) pa pq sa sq f = absurd (omega (arith, has_first d q, f d.kind d.bank d.number))
  sorted_same (e ∷ a) [] pa pq sa sq f = absurd (omega (arith, has_first e a, f e.kind e.bank e.number))
  sorted_same (e ∷ a) (d ∷ q) pa pq sa sq f =
      ap (λ (l : List Command). e ∷ l) (sorted_same a q pa.1 pq.1 sa.1 sq.1 rest) ∙ ap (λ (c : Command). c ∷ q) same
    where
      same : e ≡ d
      same =
          apart e d pa.0 pq.0
          (omega (
            arith,
            least d e q sq (omega (arith, has_first e a, f e.kind e.bank e.number)),
            least e d a sa (omega (arith, has_first d q, f d.kind d.bank d.number)),
          ))

      rest : (k : Kind) (b x : ℕ) → records_of k b x a ≡ records_of k b x q
      rest k b x =
          one_more_lem (is_the d.kind d.bank d.number k b x) (records_of k b x a) (records_of k b x q)
          (ap (λ (c : Command). add_if (is_the c.kind c.bank c.number k b x) (records_of k b x a)) (sym same) ∙ f k b x)
