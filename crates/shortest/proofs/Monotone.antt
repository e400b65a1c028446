-- The rules are lower bounds: what breaks no rule after a history breaks none after one of the same commands, none of them later.
-- Assumes nothing.
use Rattle.std.specs.Prelude.{Some, None}
use Rattle.rules.specs.Types.{Stamp}
use Prim.Native.Nat.{ℕ, zero, suc, ◌+◌, ◌≤◌}
use native.Mathlib.Omega.{arith}
use mathlib.Core.Path.{◌≡◌, refl, sym, ap, ◌∙◌}
use mathlib.Core.Bool.{Bool, true, false, not, ◌&&◌, ◌||◌}
use mathlib.Core.List.{List, [], ◌∷◌}
use lib.Dec.{leb, eqb}
use borrow.Author.Tests.{le-leb, leb-true, lt-ltb, ltb-true}
use Rattle.records.specs.Tests.{pick, every, all_of}
use Rattle.records.specs.declared.table.Table.{Table}
use Rattle.records.specs.declared.command.Kind.{Kind}
use Rattle.records.specs.declared.command.Kind.TheVariants.{Act, Rd, Rda, Wr, Wra, Ref, Other}
use Rattle.records.specs.declared.command.Command.{Command}
use Rattle.rules.specs.Kinds.{is_act, is_rd, is_wr, is_ref}
use Rattle.rules.specs.Square.{group_of, rrd_of, from_rd, from_wr, write_tail}
use Rattle.rules.specs.State.{past}
use Rattle.rules.specs.History.{later, open_in, act_in, greater, precharge_after, precharge_in, act_back, fourth_act, far, far_act, far_data, far_refresh, at_rest_in, all_at_rest, act_rules, refresh_rules, data_rules, rules_by, rules, broken, is_fine}
use Rattle.rules.proofs.laws.TestLaws.{and_both, and_fst, and_snd}
use Rattle.rules.proofs.laws.Below.{below_all, below_each}
use Rattle.rules.proofs.history.Judged.{fine_rules, is_fine_lem}
use Rattle.shortest.specs.Search.{Below}
use Rattle.shortest.specs.Lifting.{Lower}

-- ---- stamps

abbrev StampLower : Stamp → Stamp → Type 0
StampLower None s = Unit {0}
StampLower (Some a) None = ⊥
StampLower (Some a) (Some b) = a ≤ b

past_lower : (s s' : Stamp) (d t : ℕ) → StampLower s s' → past s' d t ≡ true → past s d t ≡ true
past_lower None s' d t q e = refl
past_lower (Some a) None d t q e = absurd q
past_lower (Some a) (Some b) d t q e = le-leb (a + d) t (omega (arith, leb-true (b + d) t e))

pick_lower : (e : Bool) (x x' y y' : Stamp) → StampLower x x' → StampLower y y' → StampLower (pick e x y) (pick e x' y')
pick_lower true x x' y y' p q = p
pick_lower false x x' y y' p q = q

greater_lower : (n n' : ℕ) (s s' : Stamp) → n ≤ n' → StampLower s s' → StampLower (greater n s) (greater n' s')
greater_lower n n' None None l q = l
greater_lower n n' None (Some b) l q = omega arith
greater_lower n n' (Some a) None l q = absurd q
greater_lower n n' (Some a) (Some b) l q = omega arith

-- ---- what the rules read

later_lower : (t : ℕ) (h h' : List Command) → Lower h h' → later t h' ≡ true → later t h ≡ true
later_lower t [] h' q e = refl
later_lower t (x ∷ h) [] q e = absurd q
later_lower t (x ∷ h) (r ∷ h') q e = lt-ltb x.cycle t (omega (arith, ltb-true r.cycle t e, q.0.2))

open_lower : (b : ℕ) (h h' : List Command) → Lower h h' → open_in b h ≡ open_in b h'
open_lower b [] [] q = refl
open_lower b [] (r ∷ h') q = absurd q
open_lower b (x ∷ h) [] q = absurd q
open_lower b (x ∷ h) (r ∷ h') q = rw (q.0.0, q.0.1, open_lower b h h' q.1)

act_lower : (b : ℕ) (h h' : List Command) → Lower h h' → StampLower (act_in b h) (act_in b h')
act_lower b [] h' q = tt
act_lower b (x ∷ h) [] q = absurd q
act_lower b (x ∷ h) (r ∷ h') q =
    rw (q.0.0, q.0.1)
    (pick_lower (eqb r.bank b && is_act r.kind) (Some x.cycle) (Some r.cycle) (act_in b h) (act_in b h') q.0.2 (act_lower b h h' q.1))

after_lower : (τ : Table) (k : Kind) (c c' : ℕ) (s s' : Stamp) → c ≤ c' → StampLower s s' → StampLower (precharge_after τ c k s) (precharge_after τ c' k s')
after_lower τ Act c c' s s' l q = omega arith
after_lower τ Rd c c' s s' l q = greater_lower (c + τ.rtp) (c' + τ.rtp) s s' (omega arith) q
after_lower τ Rda c c' s s' l q = greater_lower (c + τ.rtp) (c' + τ.rtp) s s' (omega arith) q
after_lower τ Wr c c' s s' l q = greater_lower (c + write_tail τ) (c' + write_tail τ) s s' (omega arith) q
after_lower τ Wra c c' s s' l q = greater_lower (c + write_tail τ) (c' + write_tail τ) s s' (omega arith) q
after_lower τ Ref c c' s s' l q = q
after_lower τ (Other n) c c' s s' l q = q

precharge_lower : (τ : Table) (b : ℕ) (h h' : List Command) → Lower h h' → StampLower (precharge_in τ b h) (precharge_in τ b h')
precharge_lower τ b [] h' q = tt
precharge_lower τ b (x ∷ h) [] q = absurd q
precharge_lower τ b (x ∷ h) (r ∷ h') q =
    rw (q.0.0, q.0.1)
    (pick_lower (eqb r.bank b) (precharge_after τ x.cycle r.kind (precharge_in τ b h)) (precharge_after τ r.cycle r.kind (precharge_in τ b h'))
    (precharge_in τ b h) (precharge_in τ b h')
    (after_lower τ r.kind x.cycle r.cycle (precharge_in τ b h) (precharge_in τ b h') q.0.2 (precharge_lower τ b h h' q.1))
    (precharge_lower τ b h h' q.1))

back_lower : (n : ℕ) (h h' : List Command) → Lower h h' → StampLower (act_back n h) (act_back n h')
back_lower n [] h' q = tt
back_lower n (x ∷ h) [] q = absurd q
back_lower zero (x ∷ h) (r ∷ h') q =
    rw q.0.0 (pick_lower (is_act r.kind) (Some x.cycle) (Some r.cycle) (act_back 0 h) (act_back 0 h') q.0.2 (back_lower 0 h h' q.1))
back_lower (suc n) (x ∷ h) (r ∷ h') q =
    rw q.0.0
    (pick_lower (is_act r.kind) (act_back n h) (act_back n h') (act_back (suc n) h) (act_back (suc n) h') (back_lower n h h' q.1) (back_lower (suc n) h h' q.1))

-- ---- distances to all earlier records

-- a test that holds of a record holds of the same command no later
abbrev Monotone : (Command → Bool) → Type 0
Monotone f = (x r : Command) → Below x r → f r ≡ true → f x ≡ true

every_lower : (f : Command → Bool) → Monotone f → (h h' : List Command) → Lower h h' → every f h' ≡ true → every f h ≡ true
every_lower f m [] h' q e = refl
every_lower f m (x ∷ h) [] q e = absurd q
every_lower f m (x ∷ h) (r ∷ h') q e =
    and_both (f x) (every f h) (m x r q.0 (and_fst (f r) (every f h') e)) (every_lower f m h h' q.1 (and_snd (f r) (every f h') e))

-- a distance hangs on the earlier record's bank alone
far_mono : (p : Kind → Bool) (d : ℕ → ℕ) (t : ℕ) → Monotone (λ r. far p (d r.bank) t r)
far_mono p d t x r q e = rw (q.0, q.1) (on (p r.kind) e)
  where
    on : (b : Bool) → (not b || leb (r.cycle + d r.bank) t) ≡ true → (not b || leb (x.cycle + d r.bank) t) ≡ true
    on true e = le-leb (x.cycle + d r.bank) t (omega (arith, leb-true (r.cycle + d r.bank) t e, q.2))
    on false e = refl

module _ (τ : Table) (b t : ℕ) where
  -- bank a is of bank b's group
  abbrev near : ℕ → Bool
  near a = eqb (group_of τ a) (group_of τ b)

  far_act_mono : Monotone (far_act τ b t)
  far_act_mono = far_mono is_act (λ a. rrd_of τ (near a)) t

  far_data_mono : (w : Bool) → Monotone (far_data τ w b t)
  far_data_mono w x r q e =
      and_both (rd x) (wr x)
      (far_mono is_rd (λ a. from_rd τ (near a) w) t x r q (and_fst (rd r) (wr r) e))
      (far_mono is_wr (λ a. from_wr τ (near a) w) t x r q (and_snd (rd r) (wr r) e))
    where
      rd : Command → Bool
      rd y = far is_rd (from_rd τ (near y.bank) w) t y

      wr : Command → Bool
      wr y = far is_wr (from_wr τ (near y.bank) w) t y

far_refresh_mono : (τ : Table) (t : ℕ) → Monotone (far_refresh τ t)
far_refresh_mono τ t = far_mono is_ref (λ a. τ.rfc) t

-- ---- the rules

-- each test of the second list holds where that of the first does
abbrev Implied : List Bool → List Bool → Type 0
Implied x [] = Unit {0}
Implied [] (b ∷ y) = ⊥
Implied (a ∷ x) (b ∷ y) = (a ≡ true → b ≡ true) × Implied x y

all_implied : (x y : List Bool) → Implied x y → all_of x ≡ true → all_of y ≡ true
all_implied x [] q e = refl
all_implied [] (b ∷ y) q e = absurd q
all_implied (a ∷ x) (b ∷ y) q e = and_both b (all_of y) (q.0 (and_fst a (all_of x) e)) (all_implied x y q.1 (and_snd a (all_of x) e))

module _ (τ : Table) (t b : ℕ) (h h' : List Command) (q : Lower h h') where
  shut_lower : (c : ℕ) → not (open_in c h') ≡ true → not (open_in c h) ≡ true
  shut_lower c e = ap not (open_lower c h h' q) ∙ e

  charged_lower : (c : ℕ) → past (precharge_in τ c h') τ.rp t ≡ true → past (precharge_in τ c h) τ.rp t ≡ true
  charged_lower c = past_lower (precharge_in τ c h) (precharge_in τ c h') τ.rp t (precharge_lower τ c h h' q)

  acted_lower : (d : ℕ) → past (act_in b h') d t ≡ true → past (act_in b h) d t ≡ true
  acted_lower d = past_lower (act_in b h) (act_in b h') d t (act_lower b h h' q)

  -- rules 11 and 12
  rest_lower : all_at_rest τ t h' ≡ true → all_at_rest τ t h ≡ true
  rest_lower e =
      below_all τ.banks (at_rest_in τ t h)
      (λ c l.
      let f = below_each τ.banks (at_rest_in τ t h') e c l in
      and_both (not (open_in c h)) (past (precharge_in τ c h) τ.rp t)
      (shut_lower c (and_fst (not (open_in c h')) (past (precharge_in τ c h') τ.rp t) f))
      (charged_lower c (and_snd (not (open_in c h')) (past (precharge_in τ c h') τ.rp t) f)))

  refresh_lower : every (far_refresh τ t) h' ≡ true → every (far_refresh τ t) h ≡ true
  refresh_lower = every_lower (far_refresh τ t) (far_refresh_mono τ t) h h' q

  always : true ≡ true → true ≡ true
  always e = e

  act_implied : Implied (act_rules τ t b h') (act_rules τ t b h)
  act_implied = (
    shut_lower b,
    (
      charged_lower b,
      (
        acted_lower τ.rc,
        (
          every_lower (far_act τ b t) (far_act_mono τ b t) h h' q,
          (past_lower (fourth_act h) (fourth_act h') τ.faw t (back_lower 3 h h' q), (always, (always, (always, (refresh_lower, tt))))),
        ),
      ),
    ),
  )

  refresh_implied : Implied (refresh_rules τ t h') (refresh_rules τ t h)
  refresh_implied = (always, (always, (always, (always, (always, (always, (always, (rest_lower, (refresh_lower, tt)))))))))

  data_implied : (w : Bool) → Implied (data_rules τ w t b h') (data_rules τ w t b h)
  data_implied w = (
    (λ e. open_lower b h h' q ∙ e),
    (
      always,
      (
        always,
        (
          always,
          (
            always,
            (
              acted_lower τ.rcd,
              (every_lower (far_data τ w b t) (far_data_mono τ b t w) h h' q, tt),
            ),
          ),
        ),
      ),
    ),
  )

  rules_implied : (k : Kind) → Implied (rules_by τ k t b h') (rules_by τ k t b h)
  rules_implied Act = act_implied
  rules_implied Rd = data_implied false
  rules_implied Rda = data_implied false
  rules_implied Wr = data_implied true
  rules_implied Wra = data_implied true
  rules_implied Ref = refresh_implied
  rules_implied (Other n) = tt

-- the law that everything rests on
pub fine_lower : (τ : Table) (r : Command) (h h' : List Command) → Lower h h' → broken τ r h' ≡ None → broken τ r h ≡ None
fine_lower τ r h h' q e =
    is_fine_lem (broken τ r h)
    (fine_rules τ r h
    ∙ all_implied (rules τ r h') (rules τ r h)
    ((λ f. f), (later_lower r.cycle h h' q, rules_implied τ r.cycle r.bank h h' q r.kind))
    (sym (fine_rules τ r h') ∙ ap is_fine e))
