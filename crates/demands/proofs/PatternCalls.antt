-- The public call for the shortest pattern answers as the list says.
-- Assumes nothing.
use Rattle.std.specs.Prelude.{Result, Ok, Err}
use Prim.Native.Nat.{ℕ}
use mathlib.Core.Path.{◌≡◌, refl, ap}
use mathlib.Core.Logic.{◌⊎◌, inl, inr}
use mathlib.Core.List.{List, [], ◌∷◌}
use lib.ListN.{replicate}
use Rattle.records.specs.declared.table.Table.{Table}
use Rattle.records.specs.declared.refusal.Refusal.{Refusal}
use Rattle.records.specs.Told.{refusal}
use Rattle.records.specs.Table.{table_at, read_table}
use Rattle.records.specs.House.{table_a}
use Rattle.rules.specs.Worked.{All}
use Rattle.shortest.specs.Answer.{limits, LeavesShortest}
use Rattle.promises.specs.Admit.{admitted}
use Rattle.promises.specs.Patterns.{ShortestTold}
use Rattle.promises.specs.Numbers.{shortest_numbers}
use Rattle.promises.proofs.Unique.{only}
use Rattle.demands.specs.Handed.{A, ccd1, cut}
use Rattle.demands.specs.PatternCalls.{two, NotSought, pattern_calls}
use Rattle.demands.proofs.CallLaws.{◌⨾◌, some}

module _ (e : ℕ) (t : List ℕ) (type bi bc most : ℕ) (b₀ : List ℕ) where
  -- what every answer that keeps the promise tells is what one does
  tells : (v : Result (ℕ × ℕ × ℕ) Refusal) → ShortestTold (admitted e t) type bi bc most b₀ b₀ v → NotSought e t type bi bc most b₀ (shortest_numbers v)
  tells v w b r p = let q = (only e t).shortest_pattern type bi bc most b₀ r v b b₀ p w in (ap shortest_numbers q.0, q.1)

sought : (τ : Table) (type bi bc most : ℕ) (b₀ b : List ℕ) (r : Result (ℕ × ℕ × ℕ) Refusal) → limits τ type bi bc most b₀ ≡ 0 → LeavesShortest τ type bi bc most b₀ b r
    → ((shortest_numbers r).refused ≡ 0) ⊎ ((shortest_numbers r).refused ≡ 13)
sought τ type bi bc most b₀ b (Ok (e, L, n)) z p = inl refl
sought τ type bi bc most b₀ b (Err x) z (inl c, q) = absurd (c.0 z)
sought τ type bi bc most b₀ b (Err x) z (inr c, q) = inr (ap (λ (y : Refusal). y.number) c.2)

pub of_patterns : All pattern_calls
unfolding admitted read_table ShortestTold
of_patterns =
    tells 8 cut 2 1 1 128 [] (Err (refusal 1 0 0)) (refl, refl)
    ⨾ tells 8 ccd1 2 1 1 128 [] (Err (refusal 2 0 0)) (refl, refl)
    ⨾ tells 8 A 2 1 1 128 [] (Err (refusal 10 7 7)) (refl, refl)
    ⨾ tells 7 A 2 1 1 128 [] (Err (refusal 4 0 7)) (inl (some 3, refl), refl)
    ⨾ tells 7 A 0 1 1 128 (replicate 15 9) (Err (refusal 5 0 7)) (inl (some 4, refl), refl)
    ⨾ tells 7 A 1 3 1 128 (replicate 47 9) (Err (refusal 5 0 7)) (inl (some 4, refl), refl)
    ⨾ tells 7 A 0 0 1 128 (replicate 48 9) (Err (refusal 4 0 7)) (inl (some 3, refl), refl)
    ⨾ tells 7 A 0 1 0 128 (replicate 48 9) (Err (refusal 4 0 7)) (inl (some 3, refl), refl)
    ⨾ tells 7 A 0 1 6 128 (replicate 48 9) (Err (refusal 4 0 7)) (inl (some 3, refl), refl)
    ⨾ tells 7 A 0 4 1 128 (replicate 48 9) (Err (refusal 4 0 7)) (inl (some 3, refl), refl)
    ⨾ tells 7 A 0 1 1 0 (replicate 48 9) (Err (refusal 4 0 7)) (inl (some 3, refl), refl)
    ⨾ tells 7 A 0 1 1 129 (replicate 48 9) (Err (refusal 4 0 7)) (inl (some 3, refl), refl)
    ⨾ tells 7 two 0 3 1 128 (replicate 48 9) (Err (refusal 4 0 7)) (inl (some 3, refl), refl)
    ⨾ (λ b r. sought table_a 0 1 1 1 (replicate 16 9) b r refl)
    ⨾ (λ b r. sought table_a 1 1 5 128 (replicate 48 9) b r refl)
    ⨾ (λ b r. sought table_a 1 3 1 128 (replicate 48 9) b r refl)
    ⨾ (λ b r. sought (table_at two) 0 2 2 128 (replicate 48 9) b r refl)
    ⨾ tt
