-- The program shows the table's refusal, number 4, number 13 exactly if there is no pattern, or the shortest.
-- Assumes nothing.
use Rattle.std.specs.Prelude.{Result, Ok, Err}
use Rattle.records.specs.declared.refusal.Refusal.{Refusal}
use Prim.Native.Nat.{ℕ, suc, ◌*◌, ◌≤◌}
use native.Mathlib.Omega.{arith}
use mathlib.Core.Path.{◌≡◌, refl, sym, ap, ◌∙◌, subst}
use mathlib.Core.Bool.{Bool, true, false, not}
use mathlib.Core.Logic.{◌⊎◌, inl, inr}
use mathlib.Core.List.{List, [], ◌∷◌}
use lib.Dec.{ltb}
use lib.ListN.{length, replicate, length-replicate}
use borrow.Author.Tests.{ltb-true, not-false}
use Rattle.records.specs.Told.{refusal, first_failed}
use Rattle.records.specs.declared.table.Table.{Table}
use Rattle.records.specs.Command.{commands_from}
use Rattle.records.proofs.Laws.{passes}
use Rattle.shortest.specs.Answer.{is_asked, shortest_refusal, Cause, LeavesShortest}
use Rattle.shortest.proofs.Calls.{asked_few, pattern_stands}
use Rattle.promises.specs.Admit.{admitted}
use Rattle.promises.specs.Patterns.{ShortestTold}
use Rattle.lines.specs.Lines.{refused_line}
use Rattle.patterned.specs.Pattern.{pattern_text, answer_text, Told}
use Rattle.patterned.specs.Shows.{Shows4, Shows13, ShowsPattern, Shows}

module _ (τ : Table) (type bi bc most : ℕ) where
  abbrev asked : Bool
  asked = is_asked τ.banks type bi bc most

  abbrev Shown : List ℕ → Type 0
  Shown text = Shows4 τ type bi bc most text ⊎ (Shows13 τ type bi bc most text ⊎ ShowsPattern τ type bi bc most text)

  -- 4 or 5 fails nowhere but by 4: there is room for six records
  limit : (b₀ : List ℕ) → 48 ≤ length b₀ → (a t : Bool) → asked ≡ a → ltb (length b₀) (8 * (bi * suc bc)) ≡ t
      → (first_failed ((4, not a) ∷ (5, t) ∷ []) ≡ 0 → ⊥) → (a ≡ false) × (first_failed ((4, not a) ∷ (5, t) ∷ []) ≡ 4)
  limit b₀ l true true p q n =
      absurd (omega (arith, ltb-true (length b₀) (8 * (bi * suc bc)) q, asked_few τ.banks type bi bc most p))
  limit b₀ l true false p q n = absurd (n refl)
  limit b₀ l false t p q n = (refl, refl)

  fits : (b₀ : List ℕ) → shortest_refusal τ.banks type bi bc most (length b₀) ≡ 0 → asked ≡ true
  fits b₀ e = not-false asked (passes 4 (not asked) ((5, ltb (length b₀) (8 * (bi * suc bc))) ∷ []) (λ k. omega arith) e).0

  shown : (b₀ b : List ℕ) (r : Result (ℕ × ℕ × ℕ) Refusal) → 48 ≤ length b₀ → LeavesShortest τ type bi bc most b₀ b r → Shown (answer_text r b)
  unfolding answer_text
  shown b₀ b (Ok (e, L, n)) l p =
      inr (inr (record {
        limits = fits b₀ p.0;
        L = L;
        pattern = p.2.pattern;
        shortest = p.2.shortest;
        is =
            ap (λ (d : ℕ). pattern_text d L (commands_from b n 0)) p.1
            ∙ ap (pattern_text τ.edition L) (pattern_stands τ type bi bc most b₀ b e L n p);
      }))
  shown b₀ b (Err x) l p = on p.0
    where
      on : Cause τ type bi bc most b₀ x → Shown (refused_line x)
      on (inl c) =
          let z = limit b₀ l asked (ltb (length b₀) (8 * (bi * suc bc))) refl refl c.0 in
          inl (record { limits = z.0; is = ap refused_line (c.1 ∙ ap (λ (k : ℕ). refusal k 0 τ.edition) z.1) })
      on (inr c) = inr (inl (record { limits = fits b₀ c.0; none = c.1; is = ap refused_line c.2 }))

enough : (n : ℕ) → n ≡ 48 → 48 ≤ n
enough n e = omega arith

pub shows : (expected : ℕ) (table : List ℕ) (type bi bc most : ℕ) (text : List ℕ) → Told expected table type bi bc most text → Shows expected table type bi bc most text
unfolding ShortestTold answer_text
shows expected table type bi bc most text t = on (admitted expected table) refl t.answer t.told t.is
  where
    on : (a : Result Table Refusal) → admitted expected table ≡ a → (r : Result (ℕ × ℕ × ℕ) Refusal) → ShortestTold a type bi bc most (replicate 48 0) t.room r
        → text ≡ answer_text r t.room → Shows expected table type bi bc most text
    on (Ok τ) e r p f = inr (τ, e, move (shown τ type bi bc most (replicate 48 0) t.room r (enough (length {A = ℕ} (replicate 48 0)) (length-replicate {A = ℕ} 48 0)) p))
      where
        move : Shown τ type bi bc most (answer_text r t.room) → Shown τ type bi bc most text
        move = λ z. subst (Shown τ type bi bc most) (sym f) z
    on (Err x) e r p f = inl (x, e, f ∙ ap (λ (a : Result (ℕ × ℕ × ℕ) Refusal). answer_text a t.room) p.0)
