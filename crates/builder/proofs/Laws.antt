-- What the proofs of building cite: the number told is the definition's, and what each answer leaves.
-- Assumes nothing.
use Rattle.std.specs.Prelude.{Ok, Err}
use Prim.Native.Nat.{ℕ, ◌+◌, ◌*◌, ◌≤◌}
use mathlib.Core.Path.{◌≡◌, refl, sym, ap, ◌∙◌}
use mathlib.Core.List.{List, [], ◌∷◌}
use native.Mathlib.Omega.{arith}
use lib.Dec.{ltb}
use lib.ListN.{length}
use borrow.Author.Tests.{ltb-false}
use Rattle.records.specs.declared.table.Table.{Table}
use Rattle.records.specs.declared.transaction.Transaction.{Transaction}
use Rattle.records.specs.declared.refusal.Refusal.{Refusal}
use Rattle.records.specs.Told.{refusal, first_failed}
use Rattle.records.specs.Transaction.{later_from}
use Rattle.records.proofs.Laws.{passes}
use Rattle.rules.specs.Queues.{act_queue, data_queue}
use Rattle.heads.proofs.Laws.{length_from}
use Rattle.engine.specs.declared.build.Schedule.{Schedule}
use Rattle.engine.specs.Build.{Builds}
use Rattle.builder.specs.Build.{build_refusal, LeavesBuild}

-- numbers 5 and 6 by counts
abbrev number_of : ℕ → ℕ → ℕ → ℕ → ℕ → ℕ
number_of acts datas room n places = first_failed ((5, ltb room (8 * (acts + datas))) ∷ (6, ltb places n) ∷ [])

module _ (τ : Table) (bs : List ℕ) (n : ℕ) where
  abbrev list : List Transaction
  list = later_from bs n 0

  pub number_told : (acts datas room places z : ℕ) → acts ≡ length (act_queue τ list) → datas ≡ length (data_queue τ list)
      → z ≡ number_of acts datas room n places → z ≡ build_refusal τ list room places
  number_told acts datas room places z a d e =
      e ∙ ap (λ (k : ℕ). number_of k datas room n places) a ∙ ap (λ (k : ℕ). number_of (length (act_queue τ list)) k room n places) d
      ∙ ap (λ (k : ℕ). number_of (length (act_queue τ list)) (length (data_queue τ list)) room k places) (sym (length_from bs n 0))

module _ (τ : Table) (l : List Transaction) (b₀ f₀ : List ℕ) (z : ℕ) (told : z ≡ build_refusal τ l (length b₀) (length f₀)) where
  -- a refused build changes neither buffer
  pub refused_left_lem : (q : Refusal) → q ≡ refusal z 0 τ.edition → (z ≡ 0 → ⊥) → LeavesBuild τ l b₀ b₀ f₀ f₀ (Err q)
  refused_left_lem q e h = (λ k. h (told ∙ k), e ∙ ap (λ (y : ℕ). refusal y 0 τ.edition) told, refl, refl)

  -- both buffers are long enough
  pub both_fit : z ≡ 0 → (8 * (length (act_queue τ l) + length (data_queue τ l)) ≤ length b₀) × (length l ≤ length f₀)
  both_fit e =
      let p = passes 5 (ltb (length b₀) (8 * (length (act_queue τ l) + length (data_queue τ l)))) ((6, ltb (length f₀) (length l)) ∷ []) (λ k. omega arith) (sym told ∙ e) in
      let q = passes 6 (ltb (length f₀) (length l)) [] (λ k. omega arith) p.1 in
      (ltb-false (length b₀) (8 * (length (act_queue τ l) + length (data_queue τ l))) p.0, ltb-false (length f₀) (length l) q.0)

  pub built_left : (b f : List ℕ) (s : Schedule) → z ≡ 0 → Builds τ l b₀ b f₀ f s → LeavesBuild τ l b₀ b f₀ f (Ok (τ.edition, s.commands))
  built_left b f s e k =
      (sym told ∙ e, refl, record { schedule = k.schedule; built = k.built; count = k.commands; buffer = k.buffer; finishes = k.finishes })
