-- Document 02, request 11: what the call answers and leaves, and what it refuses.
use Rattle.std.specs.Prelude.{ℕ, suc, ◌*◌, Bool, not, ◌&&◌, ◌≡◌, ◌⊎◌, List, [], ◌∷◌, leb, ltb, eqb, length, Result, Ok, Err}
use Rattle.records.specs.Tests.{within}
use Rattle.records.specs.Told.{refusal, first_failed, over}
use Rattle.records.specs.declared.table.Table.{Table}
use Rattle.records.specs.declared.refusal.Refusal.{Refusal}
use Rattle.records.specs.declared.command.Command.{Command}
use Rattle.records.specs.Command.{bytes_of_all}
use Rattle.shortest.specs.Shortest.{Shortest, NoneUpTo}

-- "For a type, BI and BC from 1 with BI × (1 + BC) at most 6, and a greatest length of 1 to 128"; not "a type not read or write, or BI above banks"
abbrev pub is_asked : ℕ → ℕ → ℕ → ℕ → ℕ → Bool
is_asked banks type bi bc most =
    leb type 1 && (leb 1 bi && (leb 1 bc && (leb (bi * suc bc) 6 && (within 1 128 most && leb bi banks))))

-- "Inputs outside these limits .. get number 4; then number 5 asks room for BI × (1 + BC) records"
abbrev pub shortest_refusal : ℕ → ℕ → ℕ → ℕ → ℕ → ℕ → ℕ
shortest_refusal banks type bi bc most room = first_failed ((4, not (is_asked banks type bi bc most)) ∷ (5, ltb room (8 * (bi * suc bc))) ∷ [])

-- the shortest pattern, of length L and n records, stands from the buffer's start, all beyond as it stood
pub record Stands (τ : Table) (w : Bool) (bi bc most : ℕ) (b₀ b : List ℕ) (L n : ℕ) : Type 0 where
  pub pattern : List Command
  pub shortest : Shortest τ w bi bc most L pattern
  pub count : n ≡ length pattern
  pub buffer : b ≡ over (bytes_of_all pattern) b₀

module _ (τ : Table) (type bi bc most : ℕ) (b₀ : List ℕ) where
  -- 4, 5 or neither
  abbrev pub limits : ℕ
  limits = shortest_refusal τ.banks type bi bc most (length b₀)

  -- the refusal is 4 or 5, or else 13, "exactly if none exists up to the greatest length"; "The position is 0 for all three"
  abbrev pub Cause : Refusal → Type 0
  Cause x =
      ((limits ≡ 0 → ⊥) × (x ≡ refusal limits 0 τ.edition))
      ⊎ ((limits ≡ 0) × NoneUpTo τ (eqb type 1) bi bc most × (x ≡ refusal 13 0 τ.edition))

  -- what the call answers, and leaves in a buffer that held b₀: the table's edition, the least length and the pattern, or a refusal and no change
  abbrev pub LeavesShortest : List ℕ → Result (ℕ × ℕ × ℕ) Refusal → Type 0
  LeavesShortest b (Ok (e, L, n)) = (limits ≡ 0) × (e ≡ τ.edition) × Stands τ (eqb type 1) bi bc most b₀ b L n
  LeavesShortest b (Err x) = Cause x × (b ≡ b₀)
