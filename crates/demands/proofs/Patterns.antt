-- The call for the shortest pattern: the cause of each refusal, the edition, the records in the buffer.
-- Assumes nothing.
use Rattle.std.specs.Prelude.{Result, Ok, Err}
use Prim.Native.Nat.{ℕ, suc, ◌*◌}
use native.Mathlib.Omega.{arith}
use mathlib.Core.Bool.{Bool, true, false, not}
use mathlib.Core.Path.{◌≡◌, refl, sym, ap, ◌∙◌, subst}
use mathlib.Core.Logic.{inl, inr}
use mathlib.Core.List.{List, [], ◌∷◌}
use lib.Dec.{ltb, eqb}
use lib.ListN.{length}
use Rattle.records.specs.Tests.{pick}
use Rattle.records.specs.Told.{first_failed, over}
use Rattle.records.specs.Table.{table_at}
use Rattle.records.specs.declared.table.Table.{Table}
use Rattle.records.specs.declared.refusal.Refusal.{Refusal}
use Rattle.records.specs.declared.command.Command.{Command}
use Rattle.records.specs.Command.{commands_from, bytes_of_all}
use Rattle.shortest.specs.Shortest.{Shortest, NoneUpTo}
use Rattle.shortest.specs.Answer.{is_asked, Cause}
use Rattle.shortest.proofs.Calls.{pattern_stands}
use Rattle.promises.specs.Admit.{admitted}
use Rattle.promises.specs.Patterns.{ShortestTold}
use Rattle.promises.specs.Numbers.{Numbers, telling, refusing, shortest_numbers}
use Rattle.demands.specs.Causes.{row, FirstRow}
use Rattle.demands.specs.Patterns.{shortest_rows, Patterns}
use Rattle.demands.proofs.FirstRows.{three, by_table}
use Rattle.demands.proofs.Edition.{told, own}

-- ---- three rows

abbrev first : Bool → Bool → Bool → ℕ
first p q o = first_failed ((4, p) ∷ (5, q) ∷ (13, o) ∷ [])

-- where neither 4 nor 5 applies, the third row tells, and else they do
pass : (p q o : Bool) → first_failed ((4, p) ∷ (5, q) ∷ []) ≡ 0 → first p q o ≡ pick o 13 0
pass true q o e = absurd (omega arith)
pass false true o e = absurd (omega arith)
pass false false o e = refl

stop : (p q o : Bool) → (first_failed ((4, p) ∷ (5, q) ∷ []) ≡ 0 → ⊥) → first p q o ≡ first_failed ((4, p) ∷ (5, q) ∷ [])
stop true q o n = refl
stop false true o n = refl
stop false false o n = absurd (n refl)

module _ (type bi bc most : ℕ) (b₀ b : List ℕ) where
  -- the numbers that the call may tell, by what `admit` answered
  abbrev Tells : Result Table Refusal → Numbers → Type 0
  Tells z a = (r : Result (ℕ × ℕ × ℕ) Refusal) × ShortestTold z type bi bc most b₀ b r × (a ≡ shortest_numbers r)

  refused_by : (x : Refusal) (a : Numbers) → Tells (Err x) a → a ≡ refusing x
  unfolding ShortestTold
  refused_by x a (r, h, e) = e ∙ ap shortest_numbers h.0

  module _ (τ : Table) (none : Bool) (yes : none ≡ true → NoneUpTo τ (eqb type 1) bi bc most) (but : none ≡ false → NoneUpTo τ (eqb type 1) bi bc most → ⊥) where
    abbrev four : Bool
    four = not (is_asked τ.banks type bi bc most)

    abbrev five : Bool
    five = ltb (length b₀) (8 * (bi * suc bc))

    rows : (r : Result (ℕ × ℕ × ℕ) Refusal) → ShortestTold (Ok τ) type bi bc most b₀ b r → FirstRow (shortest_rows τ type bi bc most (length b₀) none) (shortest_numbers r)
    unfolding ShortestTold
    rows (Ok (e, L, n)) p =
        three 4 5 13 four five none (telling e (L ∷ n ∷ []))
        (sym (pass four five none p.0 ∙ on none refl), refl)
      where
        on : (o : Bool) → none ≡ o → ◌≡◌ {A = ℕ} (pick o 13 0) 0
        on true e = absurd (yes e L p.2.shortest.inside p.2.pattern p.2.shortest.is)
        on false e = refl
    rows (Err x) p = by p.0
      where
        by : Cause τ type bi bc most b₀ x → FirstRow (shortest_rows τ type bi bc most (length b₀) none) (refusing x)
        by (inl c) =
            three 4 5 13 four five none (refusing x)
            (ap (λ (y : Refusal). y.number) c.1 ∙ sym (stop four five none c.0), ap (λ (y : Refusal). y.position) c.1)
        by (inr c) =
            three 4 5 13 four five none (refusing x) (
              ap (λ (y : Refusal). y.number) c.2
                  ∙ sym (pass four five none c.0 ∙ on none refl),
              ap (λ (y : Refusal). y.position) c.2,
            )
          where
            on : (o : Bool) → none ≡ o → ◌≡◌ {A = ℕ} (pick o 13 0) 13
            on true e = refl
            on false e = absurd (but e c.1)

    all_rows : (a : Numbers) → Tells (Ok τ) a → FirstRow (shortest_rows τ type bi bc most (length b₀) none) a
    all_rows a (r, h, e) = subst (FirstRow (shortest_rows τ type bi bc most (length b₀) none)) (sym e) (rows r h)

  -- ---- by what `admit` answered

  unchanged : (a : Result Table Refusal) (x : Refusal) → ShortestTold a type bi bc most b₀ b (Err x) → b ≡ b₀
  unfolding ShortestTold
  unchanged (Ok τ) x p = p.1
  unchanged (Err y) x p = p.1

  names : (a : Result Table Refusal) (r : Result (ℕ × ℕ × ℕ) Refusal) → ShortestTold a type bi bc most b₀ b r → (shortest_numbers r).edition ≡ told a
  unfolding ShortestTold
  names (Ok τ) (Ok (e, L, n)) p = p.1
  names (Ok τ) (Err x) p = on p.0
    where
      on : Cause τ type bi bc most b₀ x → x.edition ≡ τ.edition
      on (inl c) = ap (λ (y : Refusal). y.edition) c.1
      on (inr c) = ap (λ (y : Refusal). y.edition) c.2
  names (Err y) r p = ap (λ (z : Result (ℕ × ℕ × ℕ) Refusal). (shortest_numbers z).edition) p.0

  stands : (a : Result Table Refusal) (e L n : ℕ) → ShortestTold a type bi bc most b₀ b (Ok (e, L, n))
      → (τ : Table) × (a ≡ Ok τ) × (n ≡ length (commands_from b n 0)) × Shortest τ (eqb type 1) bi bc most L (commands_from b n 0)
      × (b ≡ over (bytes_of_all (commands_from b n 0)) b₀)
  unfolding ShortestTold
  stands (Ok τ) e L n p =
      let s = sym (pattern_stands τ type bi bc most b₀ b e L n p) in (
        τ,
        refl,
        p.2.count ∙ ap length s,
        subst (Shortest τ (eqb type 1) bi bc most L) s p.2.shortest,
        p.2.buffer ∙ ap (λ (l : List Command). over (bytes_of_all l) b₀) s,
      )
  stands (Err y) e L n p = let k = p.0 in let z : ◌≡◌ {A = ℕ} 0 1 = cc in absurd (omega arith)

pub patterns : (expected : ℕ) (table : List ℕ) → Patterns expected table
patterns expected table =
    let a = admitted expected table in
    record {
      causes = λ type bi bc most b₀ b r none h yes but.
          by_table expected table (Tells type bi bc most b₀ b) (shortest_rows (table_at table) type bi bc most (length b₀) none) (refused_by type bi bc most b₀ b)
          (all_rows type bi bc most b₀ b (table_at table) none yes but) (shortest_numbers r) (r, h, refl);
      unwritten = λ type bi bc most b₀ b x. unchanged type bi bc most b₀ b a x;
      edition = λ type bi bc most b₀ b r h. names type bi bc most b₀ b a r h ∙ own expected table;
      found = λ type bi bc most b₀ b e L n. stands type bi bc most b₀ b a e L n;
    }
