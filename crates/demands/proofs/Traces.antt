-- The round trip, nothing lost, and number 11's record, of the public call.
-- Assumes nothing.
use Rattle.std.specs.Prelude.{Result, Ok, Err}
use Prim.Native.Nat.{ℕ, ◌*◌, ◌<◌}
use native.Mathlib.Omega.{arith}
use mathlib.Core.Path.{◌≡◌, refl, sym, ap, ◌∙◌, subst}
use mathlib.Core.Bool.{Bool, true, false}
use mathlib.Core.List.{List, [], ◌∷◌}
use lib.Dec.{ltb, eqb}
use lib.ListN.{length, get_or}
use borrow.Author.Tests.{ltb-true}
use Rattle.records.specs.declared.table.Table.{Table}
use Rattle.records.specs.declared.command.Command.{Command}
use Rattle.records.specs.declared.refusal.Refusal.{Refusal}
use Rattle.records.specs.Tests.{pick}
use Rattle.records.specs.Told.{first_failed, over}
use Rattle.records.specs.Command.{bytes_of_all}
use Rattle.rules.specs.declared.verdict.Rule.{Rule}
use Rattle.rules.specs.declared.verdict.Verdict.{Verdict}
use Rattle.rules.specs.declared.verdict.Verdict.TheVariants.{Refused as Broken}
use Rattle.rules.specs.Verdict.{judge, unnumbered}
use Rattle.stamps.specs.Capture.{records_in, timed_in, lowest}
use Rattle.capture.specs.Answer.{not_a_capture, capture_count, commands_seen, capture_refusal, captured}
use Rattle.capture.specs.Eleven.{Such}
use Rattle.capture.specs.Written.{capture_bytes, all_stamped, without_ticks}
use Rattle.capture.proofs.Refusals.{length_in}
use Rattle.capture.proofs.Eleven.{names_lowest}
use Rattle.capture.proofs.RoundTrip.{round_trip}
use Rattle.capture.proofs.NothingLost.{nothing_lost}
use Rattle.promises.specs.Admit.{admitted}
use Rattle.promises.specs.Tracing.{capturing}
use Rattle.demands.specs.Traces.{Traces}
use Rattle.demands.proofs.Captures.{said, refused, by}

-- what `shown` says of the commands rs
abbrev Shown : Table → List ℕ → List ℕ → ℕ → ℕ → Verdict → List ℕ → List Command → Type 0
Shown τ s b e n v d rs =
    (e ≡ τ.edition) × (n ≡ length rs) × (v ≡ judge τ rs) × (d ≡ over (bytes_of_all rs) b) × (all_stamped rs ≡ without_ticks (records_in s)) × (unnumbered rs ≡ rs)

-- what `eleven` says of a position
abbrev Lowest : List ℕ → ℕ → Type 0
Lowest s p = Such (timed_in s) p × ((i : ℕ) → i < p → Such (timed_in s) i → ⊥)

module _ (τ : Table) (s b : List ℕ) where
  shown_by : (z e n : ℕ) (v : Verdict) → ((i : ℕ) → get_or s i 0 < 256) → (by τ s b z).answer ≡ Ok (e, n, v) → Shown τ s b e n v (by τ s b z).buffer (commands_seen s)
  shown_by z e n v y = on (eqb z 0)
    where
      on : (t : Bool) → (pick t (said τ s b) (refused τ s b z)).answer ≡ Ok (e, n, v)
          → Shown τ s b e n v (pick t (said τ s b) (refused τ s b z)).buffer (commands_seen s)
      on true h =
          let k = nothing_lost s y in
          let q : ◌≡◌ {A = ℕ × ℕ × Verdict} (τ.edition, length (commands_seen s), judge τ (commands_seen s)) (e, n, v) = (cc) in (
            sym (ap (λ (p : ℕ × ℕ × Verdict). p.0) q),
            sym (ap (λ (p : ℕ × ℕ × Verdict). p.1) q),
            sym (ap (λ (p : ℕ × ℕ × Verdict). p.2) q),
            refl,
            k.records,
            k.numbers,
          )
      on false h = let q : ◌≡◌ {A = ℕ} 0 1 = cc in absurd (omega arith)

  against_by : (z e n i : ℕ) (x : Rule) → (by τ s b z).answer ≡ Ok (e, n, Broken x i) → (by τ s b z).buffer ≡ over (bytes_of_all (commands_seen s)) b
  against_by z e n i x = on (eqb z 0)
    where
      on : (t : Bool) → (pick t (said τ s b) (refused τ s b z)).answer ≡ Ok (e, n, Broken x i)
          → (pick t (said τ s b) (refused τ s b z)).buffer ≡ over (bytes_of_all (commands_seen s)) b
      on true h = refl
      on false h = let q : ◌≡◌ {A = ℕ} 0 1 = cc in absurd (omega arith)

  at_lowest : lowest (timed_in s) < capture_count s → Lowest s (lowest (timed_in s))
  at_lowest h = let k = names_lowest (timed_in s) in (k.such (omega (arith, length_in s)), k.before)

  eleven_by : (x₀ y z : Bool) (x : Refusal) → y ≡ ltb (lowest (timed_in s)) (capture_count s)
      → (by τ s b (first_failed ((7, x₀) ∷ (11, y) ∷ (5, z) ∷ []))).answer ≡ Err x → x.number ≡ 11 → Lowest s x.position
  eleven_by true y z x e h n = let q : ◌≡◌ {A = ℕ} 7 11 = cc in absurd (omega arith)
  eleven_by false true z x e h n = let q : lowest (timed_in s) ≡ x.position = cc in subst (Lowest s) q (at_lowest (ltb-true (lowest (timed_in s)) (capture_count s) (sym e)))
  eleven_by false false true x e h n = let q : ◌≡◌ {A = ℕ} 5 11 = cc in absurd (omega arith)
  eleven_by false false false x e h n = let q : ◌≡◌ {A = ℕ} 0 1 = cc in absurd (omega arith)

pub traces : (expected : ℕ) (table : List ℕ) (τ : Table) → admitted expected table ≡ Ok τ → Traces expected table τ
unfolding capturing captured capture_refusal
traces expected table τ q =
    record {
      again = λ rs es l w b h. ap (λ (z : Result Table Refusal). capturing z (capture_bytes es) b) q ∙ (round_trip τ rs es l w).answer b h;
      shown = λ s b e n v y h.
          let k = shown_by τ s b (capture_refusal s (length b)) e n v y (sym (ap (λ (z : Result Table Refusal). (capturing z s b).answer) q) ∙ h) in
          (commands_seen s, k.0, k.1, k.2, ap (λ (z : Result Table Refusal). (capturing z s b).buffer) q ∙ k.3, k.4, k.5);
      against = λ s b e n i x h.
          ap (λ (z : Result Table Refusal). (capturing z s b).buffer) q
          ∙ against_by τ s b (capture_refusal s (length b)) e n i x (sym (ap (λ (z : Result Table Refusal). (capturing z s b).answer) q) ∙ h);
      eleven = λ s b x h n.
          eleven_by τ s b (not_a_capture (length s)) (ltb (lowest (timed_in s)) (capture_count s)) (ltb (length b) (8 * length (commands_seen s))) x refl
          (sym (ap (λ (z : Result Table Refusal). (capturing z s b).answer) q) ∙ h) n;
    }
