-- One answer and one content of the buffer: the shortest pattern is one.
-- Assumes nothing.
use Rattle.std.specs.Prelude.{Result, Ok, Err}
use Rattle.records.specs.declared.refusal.Refusal.{Refusal}
use Prim.Native.Nat.{ℕ, ◌<◌}
use native.Mathlib.Omega.{arith}
use mathlib.Core.Path.{◌≡◌, refl, sym, ap, ◌∙◌, subst}
use mathlib.Core.Logic.{◌⊎◌, inl, inr}
use mathlib.Core.Bool.{Bool, true, false, ◌&&◌, ◌||◌}
use mathlib.Core.List.{List, [], ◌∷◌}
use lib.Dec.{ltb, eqb}
use borrow.Author.Tests.{ltb-true, ltb-false, eqb-true}
use Rattle.records.specs.Tests.{every}
use Rattle.records.specs.Told.{over}
use Rattle.records.specs.declared.table.Table.{Table}
use Rattle.records.specs.declared.command.Kind.{Kind}
use Rattle.records.specs.declared.command.Command.{Command}
use Rattle.records.specs.Command.{command, kind_number, bytes_of_all}
use Rattle.rules.proofs.laws.TestLaws.{and_fst, and_snd, either}
use Rattle.shortest.specs.Shortest.{earlier, Alike, NoLater, IsPattern, Shortest}
use Rattle.shortest.specs.Answer.{Cause, LeavesShortest}

-- a record that is earlier comes first by numbers
abbrev First : Command → Command → Type 0
First r s =
    (r.cycle < s.cycle)
    ⊎ ((r.cycle ≡ s.cycle) × ((kind_number r.kind < kind_number s.kind) ⊎ ((kind_number r.kind ≡ kind_number s.kind) × (r.bank < s.bank))))

first_of : (r s : Command) → earlier r s ≡ true → First r s
first_of r s e = on (either (ltb r.cycle s.cycle) _ e)
  where
    kind : (ltb (kind_number r.kind) (kind_number s.kind) || (eqb (kind_number r.kind) (kind_number s.kind) && ltb r.bank s.bank)) ≡ true
        → (kind_number r.kind < kind_number s.kind) ⊎ ((kind_number r.kind ≡ kind_number s.kind) × (r.bank < s.bank))
    kind f = on_k (either (ltb (kind_number r.kind) (kind_number s.kind)) _ f)
      where
        on_k : (ltb (kind_number r.kind) (kind_number s.kind) ≡ true) ⊎ ((eqb (kind_number r.kind) (kind_number s.kind) && ltb r.bank s.bank) ≡ true)
            → (kind_number r.kind < kind_number s.kind) ⊎ ((kind_number r.kind ≡ kind_number s.kind) × (r.bank < s.bank))
        on_k (inl g) = inl (ltb-true (kind_number r.kind) (kind_number s.kind) g)
        on_k (inr g) =
            inr (
              eqb-true (kind_number r.kind) (kind_number s.kind) (and_fst (eqb (kind_number r.kind) (kind_number s.kind)) (ltb r.bank s.bank) g),
              ltb-true r.bank s.bank (and_snd (eqb (kind_number r.kind) (kind_number s.kind)) (ltb r.bank s.bank) g),
            )

    on : (ltb r.cycle s.cycle ≡ true) ⊎ ((eqb r.cycle s.cycle && (ltb (kind_number r.kind) (kind_number s.kind) || (eqb (kind_number r.kind) (kind_number s.kind) && ltb r.bank s.bank))) ≡ true) → First r s
    on (inl f) = inl (ltb-true r.cycle s.cycle f)
    on (inr f) = inr (eqb-true r.cycle s.cycle (and_fst (eqb r.cycle s.cycle) _ f), kind (and_snd (eqb r.cycle s.cycle) _ f))

never_both : {A : Type 0} (r s : Command) → First r s → First s r → A
never_both r s (inl a) (inl b) = absurd (omega arith)
never_both r s (inl a) (inr b) = absurd (omega (arith, b.0))
never_both r s (inr a) (inl b) = absurd (omega (arith, a.0))
never_both r s (inr a) (inr b) = on a.1 b.1
  where
    on : {A : Type 0} → (kind_number r.kind < kind_number s.kind) ⊎ ((kind_number r.kind ≡ kind_number s.kind) × (r.bank < s.bank))
        → (kind_number s.kind < kind_number r.kind) ⊎ ((kind_number s.kind ≡ kind_number r.kind) × (s.bank < r.bank)) → A
    on (inl c) (inl d) = absurd (omega arith)
    on (inl c) (inr d) = absurd (omega (arith, d.0))
    on (inr c) (inl d) = absurd (omega (arith, c.0))
    on (inr c) (inr d) = absurd (omega (arith, c.1, d.1))

never_alike : {A : Type 0} (r s : Command) → First r s → Alike s r → A
never_alike r s (inl a) e = absurd (omega (arith, e.0))
never_alike r s (inr (a, inl b)) e = absurd (omega (arith, ap kind_number e.1))
never_alike r s (inr (a, inr b)) e = absurd (omega (arith, b.1, e.2))

-- all records carry transaction number 0
abbrev Zeros : List Command → Type 0
Zeros p = every (λ r. eqb r.number 0) p ≡ true

alike_one : (r s : Command) → Alike r s → r.number ≡ 0 → s.number ≡ 0 → r ≡ s
alike_one r s e m n =
    ap (λ (i : ℕ). command i r.kind r.bank r.number) e.0
    ∙ (ap (λ (k : Kind). command s.cycle k r.bank r.number) e.1
    ∙ (ap (λ (i : ℕ). command s.cycle s.kind i r.number) e.2
    ∙ ap (λ (i : ℕ). command s.cycle s.kind s.bank i) (m ∙ sym n)))

-- two patterns of which each comes first are one
both_first : (p q : List Command) → Zeros p → Zeros q → NoLater p q → NoLater q p → p ≡ q
both_first [] [] m n a b = refl
both_first [] (s ∷ q) m n a b = absurd b
both_first (r ∷ p) [] m n a b = absurd a
both_first (r ∷ p) (s ∷ q) m n (inl a) (inl b) = never_both r s (first_of r s a) (first_of s r b)
both_first (r ∷ p) (s ∷ q) m n (inl a) (inr b) = never_alike r s (first_of r s a) b.0
both_first (r ∷ p) (s ∷ q) m n (inr a) (inl b) = never_alike s r (first_of s r b) a.0
both_first (r ∷ p) (s ∷ q) m n (inr a) (inr b) =
    ap (λ (x : Command). x ∷ p) (alike_one r s a.0 (zero_of r p m) (zero_of s q n))
    ∙ ap (λ (l : List Command). s ∷ l)
    (both_first p q (and_snd (eqb r.number 0) (every (λ r. eqb r.number 0) p) m) (and_snd (eqb s.number 0) (every (λ r. eqb r.number 0) q) n) a.1 b.1)
  where
    zero_of : (r : Command) (p : List Command) → Zeros (r ∷ p) → r.number ≡ 0
    zero_of r p m = eqb-true r.number 0 (and_fst (eqb r.number 0) (every (λ r. eqb r.number 0) p) m)

module _ {τ : Table} {w : Bool} {bi bc most L M : ℕ} {p q : List Command} (a : Shortest τ w bi bc most L p) (b : Shortest τ w bi bc most M q) where
  pub one_length : L ≡ M
  one_length = on (ltb L M) (ltb M L) refl refl
    where
      on : (c d : Bool) → ltb L M ≡ c → ltb M L ≡ d → L ≡ M
      on true d e f = absurd (b.least L (ltb-true L M e) p a.is)
      on false true e f = absurd (a.least M (ltb-true M L f) q b.is)
      on false false e f = omega (arith, ltb-false L M e, ltb-false M L f)

  pub one_pattern : p ≡ q
  one_pattern =
      both_first p q a.numbers b.numbers
      (a.first q (subst (λ (N : ℕ). IsPattern τ w bi bc N q) (sym one_length) b.is))
      (b.first p (subst (λ (N : ℕ). IsPattern τ w bi bc N p) one_length a.is))

-- one answer and one content of the buffer
pub shortest_only : (τ : Table) (type bi bc most : ℕ) (b₀ b b' : List ℕ) (x y : Result (ℕ × ℕ × ℕ) Refusal)
    → LeavesShortest τ type bi bc most b₀ b x → LeavesShortest τ type bi bc most b₀ b' y → (x ≡ y) × (b ≡ b')
shortest_only τ type bi bc most b₀ b b' (Ok (e, L, n)) (Ok (f, M, m)) p q =
    let s = p.2 in
    let u = q.2 in
    let z : L ≡ M = one_length s.shortest u.shortest in
    let v : s.pattern ≡ u.pattern = one_pattern s.shortest u.shortest in
    (rw (p.1, q.1, z, s.count, u.count, v), s.buffer ∙ (ap (λ (l : List Command). over (bytes_of_all l) b₀) v ∙ sym u.buffer))
shortest_only τ type bi bc most b₀ b b' (Ok (e, L, n)) (Err y) p q = on q.0
  where
    on : Cause τ type bi bc most b₀ y → (◌≡◌ {A = Result (ℕ × ℕ × ℕ) Refusal} (Ok (e, L, n)) (Err y)) × (b ≡ b')
    on (inl c) = absurd (c.0 p.0)
    on (inr c) = absurd (c.1 L p.2.shortest.inside p.2.pattern p.2.shortest.is)
shortest_only τ type bi bc most b₀ b b' (Err x) (Ok (e, L, n)) p q = on p.0
  where
    on : Cause τ type bi bc most b₀ x → (◌≡◌ {A = Result (ℕ × ℕ × ℕ) Refusal} (Err x) (Ok (e, L, n))) × (b ≡ b')
    on (inl c) = absurd (c.0 q.0)
    on (inr c) = absurd (c.1 L q.2.shortest.inside q.2.pattern q.2.shortest.is)
shortest_only τ type bi bc most b₀ b b' (Err x) (Err y) p q = (ap Err (on p.0 q.0), p.1 ∙ sym q.1)
  where
    on : Cause τ type bi bc most b₀ x → Cause τ type bi bc most b₀ y → x ≡ y
    on (inl c) (inl d) = c.1 ∙ sym d.1
    on (inl c) (inr d) = absurd (c.0 d.0)
    on (inr c) (inl d) = absurd (d.0 c.0)
    on (inr c) (inr d) = c.2 ∙ sym d.2
