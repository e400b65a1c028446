-- Records that are written, and what the judge says of them.
-- Assumes nothing.
use Prim.Native.Nat.{ℕ, zero, suc, ◌+◌, ◌*◌, ◌≤◌, ◌<◌}
use native.Mathlib.Numerals.{add-one}
use native.Mathlib.Omega.{arith}
use mathlib.Core.Path.{◌≡◌, refl, sym, ap, ◌∙◌, subst}
use mathlib.Core.Bool.{Bool, true, false}
use mathlib.Core.List.{List, [], ◌∷◌, ◌++◌}
use lib.ListN.{length, take}
use lib.Seq.{take-suc, take-length, length-take-le}
use Rattle.records.specs.declared.table.Table.{Table}
use Rattle.records.specs.declared.command.Command.{Command}
use Rattle.records.specs.Told.{over, put_at}
use Rattle.records.specs.Command.{commands_in, bytes_of, bytes_of_all}
use Rattle.records.proofs.Written.{written_more, length_written, Each, Readable, bytes_stand, read_whole}
use Rattle.rules.specs.declared.verdict.PatternVerdict.{PatternVerdict}
use Rattle.rules.specs.declared.verdict.PatternVerdict.TheVariants.{Accepted, Refused}
use Rattle.rules.specs.Pattern.{EveryNumberLegal, copies}
use Rattle.rules.proofs.laws.TestLaws.{true_false}
use Rattle.rules.proofs.patterns.FiveDecide.{five_legal}
use Rattle.shortest.specs.Shortest.{IsPattern}
use Rattle.shortest.specs.Search.{nil, nth, tally, Shaped, all_passed}
use Rattle.shortest.proofs.Shape.{pattern_within, pattern_kind}
use Rattle.shortest.proofs.Turns.{kind_plain}

module _ (x : List Command) (b₀ b : List ℕ) (i : ℕ) (e : b ≡ over (bytes_of_all (take i x)) b₀) where
  pub wrote_more : (b' : List ℕ) → i < length x → b' ≡ put_at b (8 * i) (bytes_of (nth x i)) → b' ≡ over (bytes_of_all (take (i + 1) x)) b₀
  wrote_more b' l f =
      let z : i ≡ length (take i x) = sym (length-take-le i x (omega arith)) in
      let t : take (i + 1) x ≡ take i x ++ (nth x i ∷ []) = rw (add-one i) (take-suc x i nil l) in
      f ∙ (ap (λ (y : List ℕ). put_at y (8 * i) (bytes_of (nth x i))) e
      ∙ (ap (λ (m : ℕ). put_at (over (bytes_of_all (take i x)) b₀) (8 * m) (bytes_of (nth x i))) z
      ∙ (written_more (take i x) (nth x i) b₀ ∙ ap (λ (y : List Command). over (bytes_of_all y) b₀) (sym t))))

  pub wrote_length : (n : ℕ) → i ≤ n → n ≤ length x → 8 * n ≤ length b₀ → length b ≡ length b₀
  wrote_length n l m h = ap length e ∙ length_written (take i x) b₀ (omega (arith, length-take-le i x (omega arith)))

-- ---- the judge on them

pub read_records : (x : List Command) (n : ℕ) → n ≤ length x → Each Readable (take n x) → (b₀ b : List ℕ) → b ≡ over (bytes_of_all (take n x)) b₀
    → commands_in (take (8 * n) b) ≡ take n x
read_records x n room r b₀ b e =
    ap commands_in (ap (λ (m : ℕ). take (8 * m) b) (sym (length-take-le n x room)) ∙ bytes_stand (take n x) b₀ b e) ∙ read_whole (take n x) r

module _ (τ : Table) (L : ℕ) (p : List Command) where
  passed : (v : PatternVerdict) → all_passed v ≡ true → v ≡ Accepted
  passed Accepted e = refl
  passed (Refused x c i) e = true_false false e refl

  pub judged_true : all_passed (copies τ L p 5) ≡ true → EveryNumberLegal τ L p
  judged_true e = (five_legal τ L p).0 (passed (copies τ L p 5) e)

  pub judged_false : all_passed (copies τ L p 5) ≡ false → EveryNumberLegal τ L p → ⊥
  judged_false e f = true_false (all_passed (copies τ L p 5)) (ap all_passed ((five_legal τ L p).1 f)) e

-- each of the first n records is readable
each_take : (P : Command → Type 0) (n : ℕ) (x : List Command) → n ≤ length x → ((i : ℕ) → i < n → P (nth x i)) → Each P (take n x)
each_take P zero x l f = tt
each_take P (suc n) [] l f = absurd (omega arith)
each_take P (suc n) (r ∷ x) l f = (f 0 (omega arith), each_take P n x (omega arith) (λ i m. f (suc i) (omega arith)))

pub shaped_readable : {w : Bool} {bi bc L n : ℕ} {x : List Command} → L ≤ 128 → Shaped w bi bc L n x → Each Readable (take n x)
shaped_readable {w} {bi} {bc} {L} {n} {x} l q =
    each_take Readable n x q.room
    (λ i m. record { cycle = omega (arith, q.cycle i m); kind = rw (q.kind i m) (kind_plain w bc (tally (nth x i).bank x i)).2 })

pub pattern_readable : {τ : Table} {w : Bool} {bi bc L : ℕ} {p : List Command} → L ≤ 128 → IsPattern τ w bi bc L p → Each Readable p
pattern_readable {τ} {w} {bi} {bc} {L} {p} l q =
    subst (Each Readable) (take-length p)
    (each_take Readable (length p) p (omega arith)
    (λ i m. record { cycle = omega (arith, pattern_within q i m); kind = rw (pattern_kind q i m) (kind_plain w bc (tally (nth p i).bank p i)).2 }))
