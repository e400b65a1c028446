-- What is tried of a head: its own group first, then all groups, and together every rule.
-- Assumes nothing.
use Prim.Native.Nat.{ℕ, ◌<◌}
use mathlib.Core.Path.{◌≡◌, refl, sym, ap, ◌∙◌}
use mathlib.Core.Logic.{◌⊎◌, inl, inr}
use mathlib.Core.Bool.{Bool, true, false, not, ◌&&◌}
use lib.Dec.{ltb, eqb}
use borrow.Author.Tests.{eqb-true, not-false}
use Rattle.records.specs.Tests.{all_of}
use Rattle.records.specs.declared.table.Table.{Table}
use Rattle.records.specs.declared.command.Kind.{Kind}
use Rattle.records.specs.declared.command.Kind.TheVariants.{Act, Rd, Rda, Wr, Wra, Ref, Other}
use Rattle.records.specs.Command.{command}
use Rattle.rules.specs.declared.state.State.{State}
use Rattle.rules.specs.Kinds.{is_wr, is_ref, is_data, in_act_queue}
use Rattle.rules.specs.Square.{group_of}
use Rattle.rules.specs.State.{bank_of, group_at, acts_far, data_far, rule7, rule11, rule12, act_tests_of, act_tests, data_tests_of, data_tests, tests_by, breaks_none}
use Rattle.rules.proofs.laws.TestLaws.{true_false}
use Rattle.heads.specs.declared.head.Head.{Head}
use Rattle.grouped.proofs.Grouped.{Rest, act_rest, data_rest}
use Rattle.choices.specs.Choose.{command_of, seen_at, data_free, act_free}

-- what code found of the groups, y: it asked them all where the own group lets the command go, x, and the table has more than one
abbrev pub Asked : ℕ → Bool → Bool → Bool → Type 0
Asked n x y far = (((x && not (eqb n 1)) ≡ true) × (y ≡ far)) ⊎ (((x && not (eqb n 1)) ≡ false) × (y ≡ true))

pub apart : (h k m : Bool) → ((h && k) && m) ≡ (h && (k && m))
apart true k m = refl
apart false k m = refl

-- the test x of a command is that of its own group, where u says that it is tried; all of them together are `full`
asked_all : (n : ℕ) (x y far u own full : Bool) → x ≡ (u && own) → ((v : Bool) → Rest n v far → (own && v) ≡ full) → Asked n x y far → (x && y) ≡ (u && full)
asked_all n x y far u own full p f (inl (e, q)) = ap (λ (b : Bool). b && y) p ∙ (apart u own y ∙ ap (λ (b : Bool). u && b) (f y (inr q)))
asked_all n true y far u own full p f (inr (e, q)) =
    ap (λ (b : Bool). b && y) p ∙ (apart u own y ∙ ap (λ (b : Bool). u && b) (f y (inl (eqb-true n 1 (not-false (eqb n 1) e), q))))
asked_all n false y far false own full p f (inr (e, q)) = refl
asked_all n false y far true own full p f (inr (e, q)) = ap (λ (b : Bool). b && far) p ∙ f far (inr refl)

there_same : (x u v : Bool) → (x ≡ true → u ≡ v) → (x && u) ≡ (x && v)
there_same true u v e = e refl
there_same false u v e = refl

module _ (τ : Table) (s : State) (t : ℕ) where
  -- the rules of a data command, of an ACT and of a REF are those of its bank and its type
  data_rules_lem : (k : Kind) (b : ℕ) → is_data k ≡ true → tests_by τ s k t b ≡ data_tests τ s (is_wr k) t b
  data_rules_lem Act b e = true_false false e refl
  data_rules_lem Rd b e = refl
  data_rules_lem Rda b e = refl
  data_rules_lem Wr b e = refl
  data_rules_lem Wra b e = refl
  data_rules_lem Ref b e = true_false false e refl
  data_rules_lem (Other n) b e = true_false false e refl

  act_rules_lem : (k : Kind) (b : ℕ) → in_act_queue k ≡ true → is_ref k ≡ false → tests_by τ s k t b ≡ act_tests τ s t b
  act_rules_lem Act b e f = refl
  act_rules_lem Rd b e f = true_false false e refl
  act_rules_lem Rda b e f = true_false false e refl
  act_rules_lem Wr b e f = true_false false e refl
  act_rules_lem Wra b e f = true_false false e refl
  act_rules_lem Ref b e f = true_false true refl f
  act_rules_lem (Other n) b e f = true_false false e refl

  pub ref_rules : (k : Kind) (b i : ℕ) → is_ref k ≡ true → (rule12 τ s t && rule11 τ s t) ≡ breaks_none τ s (command t k b i)
  ref_rules Act b i e = true_false false e refl
  ref_rules Rd b i e = true_false false e refl
  ref_rules Rda b i e = true_false false e refl
  ref_rules Wr b i e = true_false false e refl
  ref_rules Wra b i e = true_false false e refl
  ref_rules Ref b i e = turned (rule12 τ s t) (rule11 τ s t)
    where
      turned : (x y : Bool) → (x && y) ≡ (y && (x && true))
      turned true true = refl
      turned true false = refl
      turned false true = refl
      turned false false = refl
  ref_rules (Other n) b i e = true_false false e refl

  -- a head that is tried by its own group g, and then by all groups, is tried by every rule
  module _ (h : Head) (g : ℕ) (e : g ≡ group_of τ h.bank) (l : g < τ.groups) (x y : Bool) where
    pub data_all : (acts : ℕ) → (seen_at t h ≡ true → is_data h.kind ≡ true)
        → x ≡ (seen_at t h && (ltb h.act acts && data_free τ (bank_of s h.bank) (group_at s g) (command_of h t)))
        → Asked τ.groups x y (data_far τ s.groups g (is_wr h.kind) t)
        → (x && y) ≡ (seen_at t h && (ltb h.act acts && breaks_none τ s (command_of h t)))
    data_all acts k p r =
        asked_all τ.groups x y (data_far τ s.groups g (is_wr h.kind) t) (seen_at t h && ltb h.act acts)
        (data_free τ (bank_of s h.bank) (group_at s g) (command_of h t)) (full g)
        (p ∙ sym (apart (seen_at t h) (ltb h.act acts) (data_free τ (bank_of s h.bank) (group_at s g) (command_of h t))))
        (λ v. data_rest τ s.groups g t l v (bank_of s h.bank) (is_wr h.kind)) r
        ∙ (apart (seen_at t h) (ltb h.act acts) (full g)
        ∙ there_same (seen_at t h) (ltb h.act acts && full g) (ltb h.act acts && breaks_none τ s (command_of h t))
        (λ w. ap (λ (b : Bool). ltb h.act acts && b) (ap full e ∙ sym (ap all_of (data_rules_lem h.kind h.bank (k w))))))
      where
        full : ℕ → Bool
        full i = all_of (data_tests_of τ (bank_of s h.bank) (data_far τ s.groups i (is_wr h.kind) t) t)

    pub act_all : (seen_at t h ≡ true → in_act_queue h.kind ≡ true) → is_ref h.kind ≡ false
        → x ≡ (seen_at t h && act_free τ (bank_of s h.bank) (group_at s g) s.a4 s.refresh (command_of h t)) → Asked τ.groups x y (acts_far τ s.groups g t)
        → (x && y) ≡ (seen_at t h && breaks_none τ s (command_of h t))
    act_all k f p r =
        asked_all τ.groups x y (acts_far τ s.groups g t) (seen_at t h) (act_free τ (bank_of s h.bank) (group_at s g) s.a4 s.refresh (command_of h t)) (full g) p
        (λ v. act_rest τ s.groups g t l v (bank_of s h.bank) (rule7 τ s t) (rule12 τ s t)) r
        ∙ there_same (seen_at t h) (full g) (breaks_none τ s (command_of h t)) (λ w. ap full e ∙ sym (ap all_of (act_rules_lem h.kind h.bank (k w) f)))
      where
        full : ℕ → Bool
        full i = all_of (act_tests_of τ (bank_of s h.bank) (acts_far τ s.groups i t) (rule7 τ s t) (rule12 τ s t) t)
