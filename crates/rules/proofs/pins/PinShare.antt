-- The pins are busy for B cycles a data command; the shares of the worked examples.
-- Assumes nothing.
use Prim.Native.Nat.{ℕ, zero, suc, ◌+◌, ◌*◌, ◌≤◌, ◌<◌, max}
use native.Mathlib.Omega.{arith}
use mathlib.Core.Path.{◌≡◌, refl, ap, ◌∙◌}
use mathlib.Core.Bool.{Bool, true, false, ◌&&◌, ◌||◌}
use mathlib.Core.Option.{some}
use mathlib.Core.List.{List, [], ◌∷◌}
use lib.Dec.{leb, ltb}
use lib.ListN.{length, get_elem?}
use borrow.Author.Tests.{le-leb, lt-leb, le-ltb, lt-ltb}
use Rattle.records.specs.Tests.{pick}
use Rattle.records.specs.declared.table.Table.{Table}
use Rattle.records.specs.declared.command.Command.{Command}
use Rattle.rules.specs.Kinds.{is_data}
use Rattle.rules.specs.Pins.{holds_from, holds_until, holds_at, busy, ShareACycle}
use Rattle.rules.specs.PinShare.{cycles_of, busy_cycles, bursts_end, data_commands, ShareShown, share_examples}
use Rattle.rules.specs.Worked.{All}
use Rattle.rules.proofs.laws.TestLaws.{true_false}
use Rattle.rules.proofs.pins.Pins.{legal_pins}

-- ---- counting cycles

none_of : (f : ℕ → Bool) (k n : ℕ) → ((t : ℕ) → k ≤ t → f t ≡ false) → length (cycles_of f k n) ≡ 0
none_of f k zero h = refl
none_of f k (suc n) h = rw (h k (omega arith)) (none_of f (suc k) n (λ t l. h t (omega arith)))

-- of two tests that never hold together the counts add up
either : (f g h : ℕ → Bool) → ((t : ℕ) → h t ≡ (f t || g t)) → ((t : ℕ) → f t ≡ true → g t ≡ true → ⊥)
    → (k n : ℕ) → length (cycles_of h k n) ≡ length (cycles_of f k n) + length (cycles_of g k n)
either f g h e apart k zero = refl
either f g h e apart k (suc n) = rw (e k) (on (f k) refl (g k) refl (either f g h e apart (suc k) n))
  where
    on : (a : Bool) → f k ≡ a → (b : Bool) → g k ≡ b
        → length (cycles_of h (suc k) n) ≡ length (cycles_of f (suc k) n) + length (cycles_of g (suc k) n)
        → length (pick (a || b) (k ∷ cycles_of h (suc k) n) (cycles_of h (suc k) n))
        ≡ length (pick a (k ∷ cycles_of f (suc k) n) (cycles_of f (suc k) n)) + length (pick b (k ∷ cycles_of g (suc k) n) (cycles_of g (suc k) n))
    on true p true q ih = absurd (apart k p q)
    on true p false q ih = omega (arith, ih)
    on false p true q ih = omega (arith, ih)
    on false p false q ih = ih

-- the m cycles from a on
module _ (a m : ℕ) where
  abbrev inside : ℕ → Bool
  inside t = leb a t && ltb t (a + m)

  from_inside : (d n k : ℕ) → a ≤ k → k + d ≡ a + m → d ≤ n → length (cycles_of inside k n) ≡ d
  from_inside zero n k l e h = none_of inside k n (λ t q. rw (le-leb a t (omega arith), le-ltb t (a + m) (omega arith)))
  from_inside (suc d) zero k l e h = absurd (omega arith)
  from_inside (suc d) (suc n) k l e h =
      rw (le-leb a k l, lt-ltb k (a + m) (omega arith)) (ap suc (from_inside d n (suc k) (omega arith) (omega arith) (omega arith)))

  from_before : (d n k : ℕ) → k + d ≡ a → a + m ≤ k + n → length (cycles_of inside k n) ≡ m
  from_before zero n k e h = from_inside m n k (omega arith) (omega arith) (omega arith)
  from_before (suc d) zero k e h = absurd (omega arith)
  from_before (suc d) (suc n) k e h = rw (lt-leb a k (omega arith)) (from_before d n (suc k) (omega arith) (omega arith))

-- ---- the bursts of a schedule

module _ (τ : Table) where
  -- a busy cycle is held by a record
  busy_by : (rs : List Command) (t : ℕ) → busy τ rs t ≡ true → (i : ℕ) × (x : Command) × (get_elem? rs i ≡ some x) × (holds_at τ x t ≡ true)
  busy_by [] t e = true_false false e refl
  busy_by (r ∷ rs) t e = on (holds_at τ r t) refl e (λ q. busy_by rs t q)
    where
      on : (b : Bool) → holds_at τ r t ≡ b → (b || busy τ rs t) ≡ true
          → (busy τ rs t ≡ true → (i : ℕ) × (x : Command) × (get_elem? rs i ≡ some x) × (holds_at τ x t ≡ true))
          → (i : ℕ) × (x : Command) × (get_elem? (r ∷ rs) i ≡ some x) × (holds_at τ x t ≡ true)
      on true p q ih = (0, r, refl, p)
      on false p q ih = let k = ih q in (suc k.0, k.1, k.2, k.3)

  busy_count : (rs : List Command) → ((i j : ℕ) (x y : Command) → i < j → get_elem? rs i ≡ some x → get_elem? rs j ≡ some y → ShareACycle τ x y → ⊥)
      → (n : ℕ) → bursts_end τ rs ≤ n → length (busy_cycles τ rs 0 n) ≡ data_commands rs * τ.b
  busy_count [] alone n h = none_of (busy τ []) 0 n (λ t l. refl) ∙ omega arith
  busy_count (r ∷ rs) alone n h = on (is_data r.kind) refl h (λ q. busy_count rs (λ i j x y l. alone (suc i) (suc j) x y (omega arith)) n q)
    where
      apart : (t : ℕ) → holds_at τ r t ≡ true → busy τ rs t ≡ true → ⊥
      apart t p q = let k = busy_by rs t q in alone 0 (suc k.0) r k.1 (omega arith) refl k.2 (t, p, k.3)

      on : (d : Bool) → is_data r.kind ≡ d → pick d (max (holds_until τ r) (bursts_end τ rs)) (bursts_end τ rs) ≤ n
          → (bursts_end τ rs ≤ n → length (busy_cycles τ rs 0 n) ≡ data_commands rs * τ.b)
          → length (busy_cycles τ (r ∷ rs) 0 n) ≡ pick d (suc (data_commands rs)) (data_commands rs) * τ.b
      on true e q ih =
          let both = either (inside (holds_from τ r) τ.b) (busy τ rs) (busy τ (r ∷ rs))
          (λ t. ap (λ (z : Bool). (z && inside (holds_from τ r) τ.b t) || busy τ rs t) e)
          (λ t p. apart t (ap (λ (z : Bool). z && inside (holds_from τ r) τ.b t) e ∙ p)) 0 n in
          omega (arith, both, from_before (holds_from τ r) τ.b (holds_from τ r) n 0 (omega arith) (omega arith), ih (omega arith))
      on false e q ih =
          let both = either (λ t. false) (busy τ rs) (busy τ (r ∷ rs))
          (λ t. ap (λ (z : Bool). (z && inside (holds_from τ r) τ.b t) || busy τ rs t) e) (λ t p. true_false false p refl) 0 n in
          omega (arith, both, none_of (λ t. false) 0 n (λ t l. refl), ih q)

pub share_shown : ShareShown
share_shown τ acc rs k = busy_count τ rs (legal_pins τ acc rs k).alone

pub shares : All share_examples
shares = (refl, (refl, (refl, (refl, (refl, (refl, (refl, (refl, (refl, (refl, tt))))))))))
