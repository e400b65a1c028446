-- The commands written so far, and what the turns have stored of them at their numbers.
-- Assumes nothing.
use Prim.Native.Nat.{ℕ, ◌+◌, ◌*◌, ◌<◌}
use native.Mathlib.Omega.{arith}
use mathlib.Core.Path.{◌≡◌, refl, sym, ap, ◌∙◌}
use mathlib.Core.Bool.{true, false}
use mathlib.Core.List.{List, [], ◌∷◌, ◌++◌, append-nil}
use lib.ListN.{length, set, length-append}
use Rattle.records.specs.Told.{over, put_at}
use Rattle.records.specs.declared.command.Command.{Command}
use Rattle.records.specs.Command.{commands_from, bytes_of, bytes_of_all}
use Rattle.records.proofs.Bytes.{over_more}
use Rattle.records.proofs.Written.{bytes_append, length_bytes, Each, Readable, read_back}
use Rattle.rules.specs.Kinds.{can_end}
use Rattle.finishing.specs.Finish.{Marked}
use Rattle.finishing.proofs.Marks.{marks, passes}

pub record Marking (b₀ b f₀ f : List ℕ) (k : ℕ) : Type 0 where
  pub commands : List Command
  pub size : k ≡ length commands
  pub bytes : b ≡ over (bytes_of_all commands) b₀
  pub readable : Each Readable commands
  pub marked : Marked commands f₀ f

pub unmarked : (b f : List ℕ) → Marking b b f f 0
unmarked b f = record { commands = []; size = refl; bytes = refl; readable = tt; marked = record { size = refl; each = λ k. refl } }

each_more : (cs : List Command) (c : Command) → Each Readable cs → Readable c → Each Readable (cs ++ (c ∷ []))
each_more [] c u v = (v, tt)
each_more (r ∷ cs) c u v = (u.0, each_more cs c u.1 v)

module _ {b₀ b f₀ f : List ℕ} {k : ℕ} (m : Marking b₀ b f₀ f k) (c : Command) (r : Readable c) (b' : List ℕ) (e : b' ≡ put_at b (8 * k) (bytes_of c)) where
  abbrev cs : List Command
  cs = m.commands

  count : k + 1 ≡ length (cs ++ (c ∷ []))
  count = omega (arith, m.size, length-append cs (c ∷ []))

  more : b' ≡ over (bytes_of_all (cs ++ (c ∷ []))) b₀
  more =
      let z : 8 * k ≡ length (bytes_of_all cs) = omega (arith, m.size, length_bytes cs) in
      e ∙ (ap (λ (v : List ℕ). put_at v (8 * k) (bytes_of c)) m.bytes
      ∙ (ap (λ (i : ℕ). put_at (over (bytes_of_all cs) b₀) i (bytes_of c)) z
      ∙ (over_more (bytes_of_all cs) (bytes_of c) b₀ ∙ ap (λ (l : List ℕ). over l b₀) (sym (bytes_append cs (c ∷ []) ∙ ap (λ (l : List ℕ). bytes_of_all cs ++ l) (append-nil (bytes_of c)))))))

  -- a data command, or a REF, is stored at its number
  pub marks_it : can_end c.kind ≡ true → c.number < length f → Marking b₀ b' f₀ (set f c.number c.cycle) (k + 1)
  marks_it q p = record { commands = cs ++ (c ∷ []); size = count; bytes = more; readable = each_more cs c m.readable r; marked = marks cs f₀ f m.marked c q p }

  -- an ACT is not
  pub passes_it : can_end c.kind ≡ false → Marking b₀ b' f₀ f (k + 1)
  passes_it q = record { commands = cs ++ (c ∷ []); size = count; bytes = more; readable = each_more cs c m.readable r; marked = passes cs f₀ f m.marked c q }

-- what was written is read back
pub marked_as : {b₀ b f₀ f : List ℕ} {k : ℕ} → Marking b₀ b f₀ f k → Marked (commands_from b k 0) f₀ f
marked_as {b₀} {b} {f₀} {f} {k} m = rw (m.bytes, m.size, read_back [] m.commands _ m.readable) m.marked
