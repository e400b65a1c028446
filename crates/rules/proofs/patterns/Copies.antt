-- Four copies or more back, one copy more changes nothing that a rule reads but the cycles, which are L later.
-- Assumes nothing.
use Rattle.std.specs.Prelude.{Some, None}
use Rattle.rules.specs.Types.{Stamp}
use Prim.Native.Nat.{ℕ, zero, suc, ◌+◌, ◌*◌, ◌≤◌, ◌<◌}
use native.Mathlib.Nat.{mul-le-mul_left}
use native.Mathlib.Omega.{arith}
use mathlib.Core.Path.{◌≡◌, refl, sym, ap, ◌∙◌}
use mathlib.Core.Logic.{◌⊎◌, inl, inr}
use mathlib.Core.Bool.{Bool, true, false}
use mathlib.Core.List.{List, [], ◌∷◌, ◌++◌}
use lib.Dec.{eqb}
use borrow.Author.Tests.{eqb-true}
use Rattle.records.specs.Tests.{pick, all_of}
use Rattle.records.specs.declared.table.Table.{Table}
use Rattle.records.specs.declared.command.Kind.{Kind}
use Rattle.records.specs.declared.command.Kind.TheVariants.{Act, Rd, Rda, Wr, Wra, Ref, Other}
use Rattle.records.specs.declared.command.Command.{Command}
use Rattle.rules.specs.declared.state.Bank.{Bank}
use Rattle.rules.specs.Kinds.{is_act, is_ref, is_known}
use Rattle.rules.specs.State.{is_open, shut, bank_after, add_if}
use Rattle.rules.specs.History.{open_in, rules_by}
use Rattle.rules.specs.Pattern.{moved, copy, onto}
use Rattle.rules.proofs.laws.TestLaws.{true_false, and_fst}
use Rattle.rules.proofs.history.Newest.{back_in, bank_on, bank_in, Rising}
use Rattle.rules.proofs.history.BankRules.{open_same}
use Rattle.rules.proofs.history.Judged.{holds, in_known, LegalHistory, legal_rising}
use Rattle.rules.proofs.patterns.Moved.{stamp_later, bank_later, Alike, alike_moved}

-- the history after k copies
abbrev pub after_copies : ℕ → List Command → ℕ → List Command
after_copies L p zero = []
after_copies L p (suc k) = onto (copy L p k) (after_copies L p k)

onto_older : (rs a b : List Command) → onto rs (a ++ b) ≡ onto rs a ++ b
onto_older [] a b = refl
onto_older (r ∷ rs) a b = onto_older rs (r ∷ a) b

moved_onto : (d : ℕ) (rs h : List Command) → moved d (onto rs h) ≡ onto (moved d rs) (moved d h)
moved_onto d [] h = refl
moved_onto d (r ∷ rs) h = moved_onto d rs (r ∷ h)

pub moved_append : (d : ℕ) (a b : List Command) → moved d (a ++ b) ≡ moved d a ++ moved d b
moved_append d [] b = refl
moved_append d (r ∷ a) b = rw (moved_append d a b)

pub moved_copy : (L k : ℕ) (p : List Command) → moved L (copy L p k) ≡ copy L p (suc k)
moved_copy L k [] = refl
moved_copy L k (r ∷ p) = let z : r.cycle + L * k + L ≡ r.cycle + L * suc k = omega arith in rw (z, moved_copy L k p)

-- k + 1 copies are k copies, moved, after the first
first_apart : (L : ℕ) (p : List Command) (k : ℕ) → after_copies L p (suc k) ≡ moved L (after_copies L p k) ++ after_copies L p 1
first_apart L p zero = refl
first_apart L p (suc k) =
    ap (onto (copy L p (suc k))) (first_apart L p k)
    ∙ (onto_older (copy L p (suc k)) (moved L (after_copies L p k)) (after_copies L p 1)
    ∙ ap (λ (y : List Command). y ++ after_copies L p 1)
    (ap (λ (y : List Command). onto y (moved L (after_copies L p k))) (sym (moved_copy L k p)) ∙ sym (moved_onto L (copy L p k) (after_copies L p k))))

-- how many records are of the class p
abbrev count_in : (Kind → ℕ → Bool) → List Command → ℕ
count_in p [] = 0
count_in p (r ∷ h) = add_if (p r.kind r.bank) (count_in p h)

add_append : (e : Bool) (x a b : ℕ) → x ≡ a + b → add_if e x ≡ add_if e a + b
add_append true x a b h = omega arith
add_append false x a b h = h

count_append : (p : Kind → ℕ → Bool) (a b : List Command) → count_in p (a ++ b) ≡ count_in p a + count_in p b
count_append p [] b = omega arith
count_append p (r ∷ a) b = add_append (p r.kind r.bank) (count_in p (a ++ b)) (count_in p a) (count_in p b) (count_append p a b)

count_moved : (p : Kind → ℕ → Bool) (d : ℕ) (h : List Command) → count_in p (moved d h) ≡ count_in p h
count_moved p d [] = refl
count_moved p d (r ∷ h) = ap (add_if (p r.kind r.bank)) (count_moved p d h)

count_copies : (p : Kind → ℕ → Bool) (L : ℕ) (rs : List Command) (k : ℕ) → count_in p (after_copies L rs k) ≡ k * count_in p (after_copies L rs 1)
count_copies p L rs zero = omega arith
count_copies p L rs (suc k) =
    rw (first_apart L rs k, count_append p (moved L (after_copies L rs k)) (after_copies L rs 1), count_moved p L (after_copies L rs k))
    (omega (arith, count_copies p L rs k))

none_of : (e : Bool) (n : ℕ) → add_if e n ≡ 0 → (e ≡ false) × (n ≡ 0)
none_of true n h = absurd (omega arith)
none_of false n h = (refl, h)

-- of a class with no records there is none to look back to
back_none : (p : Kind → ℕ → Bool) (n : ℕ) (h : List Command) → count_in p h ≡ 0 → back_in p n h ≡ None
back_none p n [] e = refl
back_none p zero (r ∷ h) e = let z = none_of (p r.kind r.bank) (count_in p h) e in rw z.0 (back_none p zero h z.1)
back_none p (suc n) (r ∷ h) e = let z = none_of (p r.kind r.bank) (count_in p h) e in rw z.0 (back_none p (suc n) h z.1)

pick_same : (e : Bool) (x x' y y' : Stamp) → (e ≡ true → x ≡ x') → (e ≡ false → y ≡ y') → pick e x y ≡ pick e x' y'
pick_same true x x' y y' f g = f refl
pick_same false x x' y y' f g = g refl

-- older records are not looked back to, if the newer ones are enough or the older are none of the class
back_append : (p : Kind → ℕ → Bool) (n : ℕ) (a b : List Command) → (count_in p a ≤ n → count_in p b ≡ 0) → back_in p n (a ++ b) ≡ back_in p n a
back_append p n [] b f = back_none p n b (f (omega arith))
back_append p zero (r ∷ a) b f =
    pick_same (p r.kind r.bank) (Some r.cycle) (Some r.cycle) (back_in p 0 (a ++ b)) (back_in p 0 a) (λ e. refl)
    (λ e. back_append p zero a b (λ l. f (rw e l)))
back_append p (suc n) (r ∷ a) b f =
    pick_same (p r.kind r.bank) (back_in p n (a ++ b)) (back_in p n a) (back_in p (suc n) (a ++ b)) (back_in p (suc n) a)
    (λ e. back_append p n a b (λ l. f (rw e (omega arith))))
    (λ e. back_append p (suc n) a b (λ l. f (rw e l)))

bank_append : (b : ℕ) (a c : List Command) (k : Bank) → bank_on b (a ++ c) k ≡ bank_on b a (bank_on b c k)
bank_append b [] c k = refl
bank_append b (r ∷ a) c k = ap (λ (y : Bank). pick (eqb r.bank b) (bank_after r.kind r.cycle y) y) (bank_append b a c k)

data_open : (τ : Table) (k : Kind) (t b : ℕ) (h : List Command) → is_act k ≡ false → is_ref k ≡ false → is_known k ≡ true → all_of (rules_by τ k t b h) ≡ true → open_in b h ≡ true
data_open τ Act t b h a f n e = true_false true refl a
data_open τ Rd t b h a f n e = and_fst (open_in b h) _ e
data_open τ Rda t b h a f n e = and_fst (open_in b h) _ e
data_open τ Wr t b h a f n e = and_fst (open_in b h) _ e
data_open τ Wra t b h a f n e = and_fst (open_in b h) _ e
data_open τ Ref t b h a f n e = true_false true refl f
data_open τ (Other m) t b h a f n e = true_false false n refl

after_act : (k : Kind) (c : ℕ) (x y : Bank) → is_act k ≡ true → bank_after k c x ≡ bank_after k c y
after_act Act c x y e = refl
after_act Rd c x y e = true_false false e refl
after_act Rda c x y e = true_false false e refl
after_act Wr c x y e = true_false false e refl
after_act Wra c x y e = true_false false e refl
after_act Ref c x y e = true_false false e refl
after_act (Other m) c x y e = true_false false e refl

-- a REF leaves every bank as it is
after_ref : (k : Kind) (c : ℕ) (x : Bank) → is_ref k ≡ true → bank_after k c x ≡ x
after_ref Act c x e = true_false false e refl
after_ref Rd c x e = true_false false e refl
after_ref Rda c x e = true_false false e refl
after_ref Wr c x e = true_false false e refl
after_ref Wra c x e = true_false false e refl
after_ref Ref c x e = refl
after_ref (Other m) c x e = refl

-- a bank is not reached, or its first record is an ACT, so that nothing before tells
first_act : (τ : Table) (c : List Command) → LegalHistory τ c → (b d : ℕ)
    → (bank_in b c ≡ shut) ⊎ ((y : Bank) → bank_on b (moved d c) y ≡ bank_in b (moved d c))
first_act τ [] l b d = inl refl
first_act τ (r ∷ c) l b d = on (eqb r.bank b) refl (is_act r.kind) refl (is_ref r.kind) refl (first_act τ c l.1 b d)
  where
    on : (e : Bool) → eqb r.bank b ≡ e → (a : Bool) → is_act r.kind ≡ a → (f : Bool) → is_ref r.kind ≡ f → (bank_in b c ≡ shut) ⊎ ((y : Bank) → bank_on b (moved d c) y ≡ bank_in b (moved d c))
        → (pick e (bank_after r.kind r.cycle (bank_in b c)) (bank_in b c) ≡ shut)
        ⊎ ((y : Bank) → pick e (bank_after r.kind (r.cycle + d) (bank_on b (moved d c) y)) (bank_on b (moved d c) y)
        ≡ pick e (bank_after r.kind (r.cycle + d) (bank_in b (moved d c))) (bank_in b (moved d c)))
    on false ee a ea f ef ih = ih
    on true ee a ea f ef (inr g) = inr (λ y. ap (bank_after r.kind (r.cycle + d)) (g y))
    on true ee true ea f ef (inl s) = inr (λ y. after_act r.kind (r.cycle + d) (bank_on b (moved d c) y) (bank_in b (moved d c)) ea)
    on true ee false ea true ef (inl s) = inl (after_ref r.kind r.cycle (bank_in b c) ef ∙ s)
    on true ee false ea false ef (inl s) =
        let o : open_in r.bank c ≡ true = data_open τ r.kind r.cycle r.bank c ea ef (in_known τ r.kind r.bank (holds τ r c l.0 0)) (holds τ r c l.0 2) in
        let o' : open_in b c ≡ true = rw (eqb-true r.bank b ee) at o in
        true_false (open_in b c) o' (open_same b c ∙ ap is_open s)

module _ (τ : Table) (L : ℕ) (p : List Command) where
  abbrev H : ℕ → List Command
  H k = after_copies L p k

  pub alike_next : (k : ℕ) → 3 ≤ k → LegalHistory τ (H 1) → LegalHistory τ (H (suc k)) → Rising (H (suc (suc k))) → Alike L (H (suc k)) (H (suc (suc k)))
  alike_next k z l1 l i =
      record { bank = bank_e; back = back_e; rising = legal_rising τ (H (suc k)) l; rising' = i }
    where
      m : Alike L (H (suc k)) (moved L (H (suc k)))
      m = alike_moved L (H (suc k)) (legal_rising τ (H (suc k)) l)

      enough : (f : Kind → ℕ → Bool) (n c : ℕ) → n < 4 → count_in f (H 1) ≡ c → count_in f (moved L (H (suc k))) ≤ n → c ≡ 0
      enough f n zero y e g = refl
      enough f n (suc c) y e g =
          let many : suc k * 1 ≤ suc k * count_in f (H 1) = mul-le-mul_left (suc k) (omega arith) in
          absurd (omega (arith, count_moved f L (H (suc k)), count_copies f L p (suc k)))

      back_e : (f : Kind → ℕ → Bool) (n : ℕ) → n < 4 → back_in f n (H (suc (suc k))) ≡ stamp_later L (back_in f n (H (suc k)))
      back_e f n y =
          ap (back_in f n) (first_apart L p (suc k))
          ∙ (back_append f n (moved L (H (suc k))) (H 1) (enough f n (count_in f (H 1)) y refl) ∙ m.back f n y)

      bank_e : (b : ℕ) → bank_in b (H (suc (suc k))) ≡ bank_later L (bank_in b (H (suc k)))
      bank_e b =
          ap (bank_in b) (first_apart L p (suc k))
          ∙ (bank_append b (moved L (H (suc k))) (H 1) shut ∙ (drop_first (first_act τ (H 1) l1 b L) ∙ m.bank b))
        where
          split : (y : Bank) → bank_on b (moved L (H (suc k))) y ≡ bank_on b (moved L (moved L (H k))) (bank_on b (moved L (H 1)) y)
          split y =
              ap (λ (h : List Command). bank_on b h y) (ap (moved L) (first_apart L p k) ∙ moved_append L (moved L (H k)) (H 1))
              ∙ bank_append b (moved L (moved L (H k))) (moved L (H 1)) y

          drop_first : (bank_in b (H 1) ≡ shut) ⊎ ((y : Bank) → bank_on b (moved L (H 1)) y ≡ bank_in b (moved L (H 1)))
              → bank_on b (moved L (H (suc k))) (bank_in b (H 1)) ≡ bank_in b (moved L (H (suc k)))
          drop_first (inl s) = ap (bank_on b (moved L (H (suc k)))) s
          drop_first (inr f) = split (bank_in b (H 1)) ∙ (ap (bank_on b (moved L (moved L (H k)))) (f (bank_in b (H 1))) ∙ sym (split shut))
