-- What the call's numbers mean, over plain values.
-- Assumes nothing.
use Rattle.std.specs.Prelude.{Ok}
use Prim.Native.Nat.{ℕ, suc, ◌*◌, ◌≤◌, ◌<◌}
use native.Mathlib.Omega.{arith}
use mathlib.Core.Path.{◌≡◌, sym, ap, ◌∙◌}
use mathlib.Core.Bool.{Bool, true, false, not}
use mathlib.Core.List.{List, [], ◌∷◌}
use lib.Dec.{leb, ltb}
use lib.ListN.{length, get_or, take, drop}
use borrow.Author.Tests.{leb-true, ltb-false, not-false}
use Rattle.records.specs.Tests.{within}
use Rattle.records.specs.Told.{first_failed, over}
use Rattle.records.specs.declared.table.Table.{Table}
use Rattle.records.specs.declared.command.Command.{Command}
use Rattle.records.specs.Command.{commands_from, bytes_of_all}
use Rattle.records.proofs.Laws.{passes}
use Rattle.records.proofs.Written.{read_back}
use Rattle.rules.proofs.laws.TestLaws.{and_snd, and_at}
use Rattle.shortest.specs.Shortest.{Shortest}
use Rattle.shortest.specs.Answer.{is_asked, shortest_refusal, Stands, LeavesShortest}
use Rattle.shortest.proofs.Shape.{pattern_length}
use Rattle.shortest.proofs.Written.{pattern_readable}

-- what number 4 lets pass: a type, BI, BC, their records, the length; BI is within the banks
asked_each : (banks type bi bc most : ℕ) → is_asked banks type bi bc most ≡ true
    → (i : ℕ) → get_or (leb type 1 ∷ leb 1 bi ∷ leb 1 bc ∷ leb (bi * suc bc) 6 ∷ within 1 128 most ∷ []) i (leb bi banks) ≡ true
asked_each banks type bi bc most e i =
    and_at (leb type 1 ∷ leb 1 bi ∷ leb 1 bc ∷ leb (bi * suc bc) 6 ∷ within 1 128 most ∷ []) (leb bi banks) i e

pub asked_few : (banks type bi bc most : ℕ) → is_asked banks type bi bc most ≡ true → bi * suc bc ≤ 6
asked_few banks type bi bc most e = leb-true (bi * suc bc) 6 (asked_each banks type bi bc most e 3)

-- what a call that is not refused by 4 or 5 is given
pub record Granted (banks bi bc most room : ℕ) : Type 0 where
  pub some : 0 < bi
  pub datas : 0 < bc
  pub few : bi * suc bc ≤ 6
  pub short : most ≤ 128
  pub low : bi ≤ banks
  pub fits : 8 * (bi * suc bc) ≤ room

pub granted : (banks type bi bc most room : ℕ) → shortest_refusal banks type bi bc most room ≡ 0 → Granted banks bi bc most room
granted banks type bi bc most room e =
    record {
      some = leb-true 1 bi (asked 1);
      datas = leb-true 1 bc (asked 2);
      few = leb-true (bi * suc bc) 6 (asked 3);
      short = leb-true most 128 (and_snd (leb 1 most) (leb most 128) (asked 4));
      low = leb-true bi banks (asked 5);
      fits = ltb-false room (8 * (bi * suc bc)) (passes 5 (ltb room (8 * (bi * suc bc))) [] (λ k. omega arith) four.1).0;
    }
  where
    four : (not (is_asked banks type bi bc most) ≡ false) × (first_failed ((5, ltb room (8 * (bi * suc bc))) ∷ []) ≡ 0)
    four = passes 4 (not (is_asked banks type bi bc most)) ((5, ltb room (8 * (bi * suc bc))) ∷ []) (λ k. omega arith) e

    asked : (i : ℕ) → get_or (leb type 1 ∷ leb 1 bi ∷ leb 1 bc ∷ leb (bi * suc bc) 6 ∷ within 1 128 most ∷ []) i (leb bi banks) ≡ true
    asked = asked_each banks type bi bc most (not-false (is_asked banks type bi bc most) four.0)

pub stands : {τ : Table} {w : Bool} {bi bc most L n : ℕ} (x : List Command) {b₀ b : List ℕ} → n ≡ bi * suc bc → Shortest τ w bi bc most L (take (bi * suc bc) x)
    → b ≡ over (bytes_of_all (take n x)) b₀ → Stands τ w bi bc most b₀ b L n
stands {τ} {w} {bi} {bc} {most} {L} {n} x {b₀} {b} e s f =
    record {
      pattern = take (bi * suc bc) x;
      shortest = s;
      count = e ∙ sym (pattern_length s.is);
      buffer = f ∙ ap (λ (m : ℕ). over (bytes_of_all (take m x)) b₀) e;
    }

-- ---- of an answer that is a pattern

module _ (τ : Table) (type bi bc most : ℕ) (b₀ b : List ℕ) (e L n : ℕ) (p : LeavesShortest τ type bi bc most b₀ b (Ok (e, L, n))) where
  g : Granted τ.banks bi bc most (length b₀)
  g = granted τ.banks type bi bc most (length b₀) p.0

  pub pattern_few : n ≤ 6
  pattern_few = omega (arith, p.2.count, pattern_length p.2.shortest.is, g.few)

  -- the buffer's first records are the pattern's
  pub pattern_stands : commands_from b n 0 ≡ p.2.pattern
  pattern_stands =
      ap (λ (s : List ℕ). commands_from s n 0) p.2.buffer
      ∙ (ap (λ (m : ℕ). commands_from (over (bytes_of_all p.2.pattern) b₀) m 0) p.2.count
      ∙ read_back [] p.2.pattern (drop (length (bytes_of_all p.2.pattern)) b₀)
      (pattern_readable (omega (arith, p.2.shortest.inside, g.short)) p.2.shortest.is))
