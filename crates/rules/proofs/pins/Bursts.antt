-- The distances of rule 9 keep the bursts on the data pins in order, and a write's two cycles away from a read's before it.
-- Assumes nothing.
use Prim.Native.Nat.{ℕ, zero, suc, ◌+◌, ◌≤◌, ◌<◌}
use native.Mathlib.Omega.{arith}
use mathlib.Core.Path.{◌≡◌, refl, subst}
use mathlib.Core.Bool.{Bool, true, false, not, ◌&&◌, ◌||◌}
use mathlib.Core.Option.{some}
use mathlib.Core.List.{List, [], ◌∷◌}
use lib.Dec.{leb, ltb}
use lib.ListN.{length, get_elem?, take}
use borrow.Author.Tests.{leb-true, ltb-true}
use Rattle.records.specs.Tests.{pick, all_of, every}
use Rattle.records.specs.declared.table.Table.{Table}
use Rattle.records.specs.declared.command.Kind.{Kind}
use Rattle.records.specs.declared.command.Kind.TheVariants.{Act, Rd, Rda, Wr, Wra, Ref, Other}
use Rattle.records.specs.declared.command.Command.{Command}
use Rattle.rules.specs.Kinds.{is_rd, is_wr, is_data}
use Rattle.rules.specs.Square.{from_rd, from_wr}
use Rattle.rules.specs.History.{far, near_to, far_data, data_rules, rules_by}
use Rattle.rules.specs.Pattern.{onto}
use Rattle.rules.specs.Demands.{FineTo}
use Rattle.rules.specs.Pins.{holds_from, holds_until, holds_at}
use Rattle.rules.proofs.laws.TestLaws.{true_false, and_fst, and_snd, OnSome, every_at}
use Rattle.rules.proofs.laws.Ranges.{Ranges}
use Rattle.rules.proofs.queues.Heads.{test_at}
use Rattle.rules.proofs.history.Judged.{holds}

-- the later burst starts no earlier than the earlier one ends
abbrev pub InOrder : Table → List Command → Type 0
InOrder τ rs =
    (i j : ℕ) (x y : Command) → i < j → get_elem? rs i ≡ some x → get_elem? rs j ≡ some y → is_data x.kind ≡ true → is_data y.kind ≡ true
    → holds_until τ x ≤ holds_from τ y

-- and two cycles later, from a read to a write
abbrev pub TurnOrder : Table → List Command → Type 0
TurnOrder τ rs =
    (i j : ℕ) (x y : Command) → i < j → get_elem? rs i ≡ some x → get_elem? rs j ≡ some y → is_rd x.kind ≡ true → is_wr y.kind ≡ true
    → holds_until τ x + 2 ≤ holds_from τ y

-- ---- what it says that a record holds the pins in a cycle

module _ (τ : Table) (r : Command) (t : ℕ) (h : holds_at τ r t ≡ true) where
  abbrev inside : Bool
  inside = leb (holds_from τ r) t && ltb t (holds_until τ r)

  pub moves : is_data r.kind ≡ true
  moves = and_fst (is_data r.kind) inside h

  pub begun : holds_from τ r ≤ t
  begun = leb-true (holds_from τ r) t (and_fst (leb (holds_from τ r) t) (ltb t (holds_until τ r)) (and_snd (is_data r.kind) inside h))

  pub on : t < holds_until τ r
  on = ltb-true t (holds_until τ r) (and_snd (leb (holds_from τ r) t) (ltb t (holds_until τ r)) (and_snd (is_data r.kind) inside h))

-- ---- one earlier record, and one later

-- rule 9, of a data command that breaks no rule
nine : (τ : Table) (k : Kind) (t b : ℕ) (h : List Command) → is_data k ≡ true → all_of (rules_by τ k t b h) ≡ true → every (far_data τ (is_wr k) b t) h ≡ true
nine τ Act t b h d e = true_false false d refl
nine τ Rd t b h d e = test_at (data_rules τ false t b h) 6 e
nine τ Rda t b h d e = test_at (data_rules τ false t b h) 6 e
nine τ Wr t b h d e = test_at (data_rules τ true t b h) 6 e
nine τ Wra t b h d e = test_at (data_rules τ true t b h) 6 e
nine τ Ref t b h d e = true_false false d refl
nine τ (Other n) t b h d e = true_false false d refl

read_no_write : (k : Kind) → is_rd k ≡ true → is_wr k ≡ false
read_no_write Act e = refl
read_no_write Rd e = refl
read_no_write Rda e = refl
read_no_write Wr e = true_false false e refl
read_no_write Wra e = true_false false e refl
read_no_write Ref e = refl
read_no_write (Other n) e = refl

pub read_data : (k : Kind) → is_rd k ≡ true → is_data k ≡ true
read_data k r = rw r

pub write_data : (k : Kind) → is_wr k ≡ true → is_data k ≡ true
write_data k e = rw e (or_right (is_rd k))
  where
    or_right : (a : Bool) → (a || true) ≡ true
    or_right true = refl
    or_right false = refl

-- what is implied, of a class that the record is of
of_class : (p z : Bool) → (not p || z) ≡ true → p ≡ true → z ≡ true
of_class true z e q = e
of_class false z e q = true_false false q refl

-- all of a history that `onto` makes
every_onto : (f : Command → Bool) (rs h : List Command) → every f (onto rs h) ≡ true → (every f rs ≡ true) × (every f h ≡ true)
every_onto f [] h e = (refl, e)
every_onto f (r ∷ rs) h e =
    let ih = every_onto f rs (r ∷ h) e in
    let first : f r ≡ true = and_fst (f r) (every f h) ih.1 in
    (rw (first, ih.0), and_snd (f r) (every f h) ih.1)

take_at : (rs : List Command) (i j : ℕ) (x : Command) → i < j → get_elem? rs i ≡ some x → get_elem? (take j rs) i ≡ some x
take_at [] i j x l e = let z : ◌≡◌ {A = ℕ} 0 1 = cc in absurd (omega arith)
take_at (r ∷ rs) i zero x l e = absurd (omega arith)
take_at (r ∷ rs) zero (suc j) x l e = e
take_at (r ∷ rs) (suc i) (suc j) x l e = take_at rs i j x (omega arith) e

at_less : (rs : List Command) (i : ℕ) (x : Command) → get_elem? rs i ≡ some x → i < length rs
at_less [] i x e = let z : ◌≡◌ {A = ℕ} 0 1 = cc in absurd (omega arith)
at_less (r ∷ rs) zero x e = omega arith
at_less (r ∷ rs) (suc i) x e = omega (arith, at_less rs i x e)

module _ (τ : Table) (rng : Ranges τ) where
  -- the distances keep the bursts apart
  gap_rd : (e w : Bool) (c t : ℕ) → c + from_rd τ e w ≤ t → c + τ.rl + τ.b ≤ t + pick w τ.wl τ.rl
  gap_rd true true c t h = omega (arith, rng.burst, rng.ccdl.least)
  gap_rd true false c t h = omega (arith, rng.burst, rng.ccdl.least)
  gap_rd false true c t h = omega (arith, rng.burst)
  gap_rd false false c t h = omega (arith, rng.burst)

  gap_wr : (e w : Bool) (c t : ℕ) → c + from_wr τ e w ≤ t → c + τ.wl + τ.b ≤ t + pick w τ.wl τ.rl
  gap_wr true true c t h = omega (arith, rng.burst, rng.ccdl.least)
  gap_wr true false c t h = omega arith
  gap_wr false true c t h = omega (arith, rng.burst)
  gap_wr false false c t h = omega arith

  gap_turn : (e : Bool) (c t : ℕ) → c + from_rd τ e true ≤ t → c + τ.rl + τ.b + 2 ≤ t + τ.wl
  gap_turn true c t h = omega (arith, rng.burst, rng.ccdl.least)
  gap_turn false c t h = omega (arith, rng.burst)

  -- x is far enough before y
  module _ (x y : Command) (f : far_data τ (is_wr y.kind) y.bank y.cycle x ≡ true) where
    abbrev e : Bool
    e = near_to τ y.bank x

    from_rd_lem : is_rd x.kind ≡ true → x.cycle + from_rd τ e (is_wr y.kind) ≤ y.cycle
    from_rd_lem r =
        leb-true (x.cycle + from_rd τ e (is_wr y.kind)) y.cycle
        (of_class (is_rd x.kind) (leb (x.cycle + from_rd τ e (is_wr y.kind)) y.cycle)
        (and_fst (far is_rd (from_rd τ e (is_wr y.kind)) y.cycle x) (far is_wr (from_wr τ e (is_wr y.kind)) y.cycle x) f) r)

    from_wr_lem : is_wr x.kind ≡ true → x.cycle + from_wr τ e (is_wr y.kind) ≤ y.cycle
    from_wr_lem r =
        leb-true (x.cycle + from_wr τ e (is_wr y.kind)) y.cycle
        (of_class (is_wr x.kind) (leb (x.cycle + from_wr τ e (is_wr y.kind)) y.cycle)
        (and_snd (far is_rd (from_rd τ e (is_wr y.kind)) y.cycle x) (far is_wr (from_wr τ e (is_wr y.kind)) y.cycle x) f) r)

    pair_order : is_data x.kind ≡ true → holds_until τ x ≤ holds_from τ y
    pair_order d = on (is_wr x.kind) refl
      where
        is_rd_lem : (a b : Bool) → (a || b) ≡ true → b ≡ false → a ≡ true
        is_rd_lem true b p q = refl
        is_rd_lem false b p q = true_false b p q

        on : (w : Bool) → is_wr x.kind ≡ w → x.cycle + pick w τ.wl τ.rl + τ.b ≤ holds_from τ y
        on true p = gap_wr e (is_wr y.kind) x.cycle y.cycle (from_wr_lem p)
        on false p = gap_rd e (is_wr y.kind) x.cycle y.cycle (from_rd_lem (is_rd_lem (is_rd x.kind) (is_wr x.kind) d p))

    pair_turn : is_rd x.kind ≡ true → is_wr y.kind ≡ true → holds_until τ x + 2 ≤ holds_from τ y
    pair_turn r w =
        let k : x.cycle + from_rd τ e true ≤ y.cycle = subst (λ (z : Bool). x.cycle + from_rd τ e z ≤ y.cycle) w (from_rd_lem r) in
        rw (read_no_write x.kind r, w) (gap_turn e x.cycle y.cycle k)

  -- ---- a schedule of which no record breaks a rule
  module _ (rs : List Command) (fine : FineTo τ [] rs (length rs)) where
    earlier : (i j : ℕ) (x y : Command) → i < j → get_elem? rs i ≡ some x → get_elem? rs j ≡ some y → is_data y.kind ≡ true
        → far_data τ (is_wr y.kind) y.bank y.cycle x ≡ true
    earlier i j x y l ex ey d =
        let h = onto (take j rs) [] in
        let all = nine τ y.kind y.cycle y.bank h d (holds τ y h (fine j y (at_less rs j y ey) ey) 2) in
        subst (OnSome (λ r. far_data τ (is_wr y.kind) y.bank y.cycle r ≡ true)) (take_at rs i j x l ex)
        (every_at (far_data τ (is_wr y.kind) y.bank y.cycle) (take j rs) i
        (every_onto (far_data τ (is_wr y.kind) y.bank y.cycle) (take j rs) [] all).0)

    pub in_order : InOrder τ rs
    in_order i j x y l ex ey dx dy = pair_order x y (earlier i j x y l ex ey dy) dx

    pub turn_order : TurnOrder τ rs
    turn_order i j x y l ex ey r w = pair_turn x y (earlier i j x y l ex ey (write_data y.kind w)) r w
