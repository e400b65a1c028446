-- Each promise leaves one possible answer and one possible content of each buffer, refused or not.
-- Assumes nothing.
use Rattle.std.specs.Prelude.{Result, Ok, Err}
use Rattle.records.specs.declared.refusal.Refusal.{Refusal}
use Prim.Native.Nat.{ℕ}
use mathlib.Core.Bool.{true}
use mathlib.Core.Path.{◌≡◌, sym, ap, ◌∙◌}
use mathlib.Core.List.{List}
use lib.ListN.{length}
use Rattle.records.specs.declared.table.Table.{Table}
use Rattle.records.specs.declared.transaction.Transaction.{Transaction}
use Rattle.records.specs.declared.command.Command.{Command}
use Rattle.records.specs.Told.{over}
use Rattle.records.specs.Table.{Accepted}
use Rattle.records.specs.Transaction.{list_fits}
use Rattle.records.specs.Command.{bytes_of_all}
use Rattle.records.proofs.Unique.{one_answer}
use Rattle.rules.proofs.shown.Built.{built_only}
use Rattle.engine.specs.Build.{finishes_from}
use Rattle.builder.specs.Build.{LeavesBuild}
use Rattle.builder.specs.Bound.{bound_told}

pub bound_only : (τ : Table) (bi bc : ℕ) (x y : Result (ℕ × ℕ) Refusal) → x ≡ bound_told τ bi bc → y ≡ bound_told τ bi bc → x ≡ y
bound_only τ bi bc = one_answer (bound_told τ bi bc)

module _ (τ : Table) (acc : Accepted τ) (l : List Transaction) (fit : list_fits τ l ≡ true) (b₀ f₀ : List ℕ) where
  pub build_only : (x y : Result (ℕ × ℕ) Refusal) (b d f g : List ℕ) → LeavesBuild τ l b₀ b f₀ f x → LeavesBuild τ l b₀ d f₀ g y → (x ≡ y) × (b ≡ d) × (f ≡ g)
  build_only (Ok (e, n)) (Ok (e', n')) b d f g p q =
      let k : p.2.schedule ≡ q.2.schedule = built_only τ acc l fit p.2.schedule q.2.schedule p.2.built q.2.built in
      let c : n ≡ n' = p.2.count ∙ ap length k ∙ sym q.2.count in (
        ap (λ (z : ℕ). Ok (z, n)) (p.1 ∙ sym q.1) ∙ ap (λ (z : ℕ). Ok (e', z)) c,
        p.2.buffer ∙ ap (λ (rs : List Command). over (bytes_of_all rs) b₀) k ∙ sym q.2.buffer,
        p.2.finishes ∙ ap (λ (rs : List Command). over (finishes_from τ l 0 rs) f₀) k ∙ sym q.2.finishes,
      )
  build_only (Ok (e, n)) (Err r) b d f g p q = absurd (q.0 p.0)
  build_only (Err r) (Ok (e, n)) b d f g p q = absurd (p.0 q.0)
  build_only (Err r) (Err r') b d f g p q = (ap Err (p.1 ∙ sym q.1), p.2 ∙ sym q.2, p.3 ∙ sym q.3)
