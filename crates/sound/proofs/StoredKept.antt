-- What a run keeps of the command cycles that a state stores: each stays before the state's own cycle.
-- Assumes nothing.
use Rattle.std.specs.Prelude.{Some, None}
use Rattle.rules.specs.Types.{Stamp}
use Prim.Native.Nat.{ℕ, zero, suc, ◌+◌, ◌≤◌, ◌<◌}
use native.Mathlib.Omega.{arith}
use mathlib.Core.Bool.{Bool, true, false}
use mathlib.Core.Path.{◌≡◌, refl, ap}
use mathlib.Core.Option.{Option, none, some}
use mathlib.Core.List.{List, [], ◌∷◌}
use lib.ListN.{get_or, get_elem?, set, take}
use borrow.Author.Tests.{leb-true, le-leb}
use Rattle.records.specs.Tests.{pick, every}
use Rattle.records.specs.declared.table.Table.{Table}
use Rattle.records.specs.declared.transaction.Transaction.{Transaction}
use Rattle.records.specs.declared.command.Kind.{Kind}
use Rattle.records.specs.declared.command.Kind.TheVariants.{Act, Rd, Rda, Wr, Wra, Ref, Other}
use Rattle.records.specs.declared.command.Command.{Command}
use Rattle.rules.specs.declared.state.Bank.{Bank}
use Rattle.rules.specs.declared.state.Group.{Group}
use Rattle.rules.specs.declared.state.State.{State}
use Rattle.rules.specs.Kinds.{is_act, is_rd, is_wr, is_ref}
use Rattle.rules.specs.Square.{group_of}
use Rattle.rules.specs.State.{shut, bank_of, quiet, group_at, breaks_none, bank_after, group_after, note, after}
use Rattle.rules.specs.CycleRule.{goes, push}
use Rattle.rules.specs.Run.{stops, run}
use Rattle.rules.proofs.laws.TestLaws.{and_both, and_fst, and_snd, OnSome, every_at}
use Rattle.rules.proofs.history.Legal.{goes_all}
use Rattle.rules.proofs.runs.RunTo.{stopped, going}
use Rattle.sound.specs.Refused.{before, bank_stamps, group_stamps, last_stamps, bank_before, banks_before, group_before, groups_before, last_before}

-- a command cycle of a state's first n banks, of its first m groups, of its four ACTs and of its last REF is before cycle t
pub record Stored (t n m : ℕ) (s : State) : Type 0 where
  pub banks : banks_before t n s.banks ≡ true
  pub groups : groups_before t m s.groups ≡ true
  pub last : last_before t s ≡ true

-- tests of each of some banks or groups, one of which is read or changed
module _ {A : Type 0} (x : A) (f : A → Bool) where
  every_get : (n : ℕ) (ks : List A) (b : ℕ) → every f (take n ks) ≡ true → b < n → f x ≡ true → f (get_or ks b x) ≡ true
  every_get zero ks b e h z = absurd (omega arith)
  every_get (suc n) [] b e h z = z
  every_get (suc n) (k ∷ ks) zero e h z = and_fst (f k) (every f (take n ks)) e
  every_get (suc n) (k ∷ ks) (suc b) e h z = every_get n ks b (and_snd (f k) (every f (take n ks)) e) (omega arith) z

  every_set : (n : ℕ) (ks : List A) (b : ℕ) (v : A) → every f (take n ks) ≡ true → (b < n → f v ≡ true) → every f (take n (set ks b v)) ≡ true
  every_set zero ks b v e g = refl
  every_set (suc n) [] b v e g = e
  every_set (suc n) (k ∷ ks) zero v e g = and_both (f v) (every f (take n ks)) (g (omega arith)) (and_snd (f k) (every f (take n ks)) e)
  every_set (suc n) (k ∷ ks) (suc b) v e g =
      and_both (f k) (every f (take n (set ks b v))) (and_fst (f k) (every f (take n ks)) e)
      (every_set n ks b v (and_snd (f k) (every f (take n ks)) e) (λ h. g (omega arith)))

pub every_map : {A : Type 0} (f g : A → Bool) → ((x : A) → f x ≡ true → g x ≡ true) → (l : List A) → every f l ≡ true → every g l ≡ true
every_map f g h [] e = refl
every_map f g h (x ∷ l) e = and_both (g x) (every g l) (h x (and_fst (f x) (every f l) e)) (every_map f g h l (and_snd (f x) (every f l) e))

-- before a cycle is before a later one
before_later : (t u : ℕ) → t ≤ u → (s : Stamp) → before t s ≡ true → before u s ≡ true
before_later t u h None e = refl
before_later t u h (Some c) e = le-leb (c + 1) u (omega (arith, leb-true (c + 1) t e))

pub stored_later : (t u n m : ℕ) → t ≤ u → (s : State) → Stored t n m s → Stored u n m s
stored_later t u n m h s q =
    record {
      banks = every_map (bank_before t) (bank_before u) (λ k. every_map (before t) (before u) (before_later t u h) (bank_stamps k)) (take n s.banks) q.banks;
      groups = every_map (group_before t) (group_before u) (λ k. every_map (before t) (before u) (before_later t u h) (group_stamps k)) (take m s.groups) q.groups;
      last = every_map (before t) (before u) (before_later t u h) (last_stamps s) q.last;
    }

module _ (t c : ℕ) (h : c < t) where
  now : before t (Some c) ≡ true
  now = le-leb (c + 1) t (omega arith)

  either : (b : Bool) (x y : Stamp) → before t x ≡ true → before t y ≡ true → before t (pick b x y) ≡ true
  either true x y p q = p
  either false x y p q = q

  three : (x y z : Stamp) → before t x ≡ true → before t y ≡ true → before t z ≡ true → every (before t) (x ∷ y ∷ z ∷ []) ≡ true
  three x y z p q r = rw (p, q, r)

  bank_noted : (k : Kind) (b : Bank) → bank_before t b ≡ true → bank_before t (bank_after k c b) ≡ true
  bank_noted k b e = on k
    where
      at : (i : ℕ) → OnSome (λ x. before t x ≡ true) (get_elem? (bank_stamps b) i)
      at i = every_at (before t) (bank_stamps b) i e

      on : (k : Kind) → bank_before t (bank_after k c b) ≡ true
      on Act = three (Some c) None None now refl refl
      on Rd = three b.act (Some c) b.wr (at 0) now (at 2)
      on Rda = three b.act (Some c) b.wr (at 0) now (at 2)
      on Wr = three b.act b.rd (Some c) (at 0) (at 1) now
      on Wra = three b.act b.rd (Some c) (at 0) (at 1) now
      on Ref = e
      on (Other n) = e

  group_noted : (k : Kind) (g : Group) → group_before t g ≡ true → group_before t (group_after k c g) ≡ true
  group_noted k g e =
      three (pick (is_act k) (Some c) g.act) (pick (is_rd k) (Some c) g.rd) (pick (is_wr k) (Some c) g.wr)
      (either (is_act k) (Some c) g.act now (at 0)) (either (is_rd k) (Some c) g.rd now (at 1)) (either (is_wr k) (Some c) g.wr now (at 2))
    where
      at : (i : ℕ) → OnSome (λ x. before t x ≡ true) (get_elem? (group_stamps g) i)
      at i = every_at (before t) (group_stamps g) i e

  last_noted : (τ : Table) (s : State) (k : Kind) (b : ℕ) → last_before t s ≡ true → last_before t (note τ s c k b) ≡ true
  last_noted τ s k b e =
      rw (
        either (is_act k) (Some c) s.a1 now (at 0),
        either (is_act k) s.a1 s.a2 (at 0) (at 1),
        either (is_act k) s.a2 s.a3 (at 1) (at 2),
        either (is_act k) s.a3 s.a4 (at 2) (at 3),
        either (is_ref k) (Some c) s.refresh now (at 4),
      )
    where
      at : (i : ℕ) → OnSome (λ x. before t x ≡ true) (get_elem? (last_stamps s) i)
      at i = every_at (before t) (last_stamps s) i e

pub stored_after : (τ : Table) (t n m : ℕ) (s : State) (o : Option Command) → OnSome (λ c. c.cycle < t) o → Stored t n m s → Stored t n m (after τ s o)
stored_after τ t n m s none h q = record { banks = q.banks; groups = q.groups; last = q.last }
stored_after τ t n m s (some c) h q =
    record {
      banks = every_set shut (bank_before t) n s.banks c.bank (bank_after c.kind c.cycle (bank_of s c.bank)) q.banks
          (λ g. bank_noted t c.cycle h c.kind (bank_of s c.bank) (every_get shut (bank_before t) n s.banks c.bank q.banks g refl));
      groups = every_set quiet (group_before t) m s.groups (group_of τ c.bank) (group_after c.kind c.cycle (group_at s (group_of τ c.bank))) q.groups
          (λ g. group_noted t c.cycle h c.kind (group_at s (group_of τ c.bank)) (every_get quiet (group_before t) m s.groups (group_of τ c.bank) q.groups g refl));
      last = last_noted t c.cycle h τ s c.kind c.bank q.last;
    }

module _ (τ : Table) (l : List Transaction) where
  -- what goes has the state's own cycle
  pub goes_now : (s : State) → OnSome (λ c. c.cycle ≡ s.cycle) (goes τ l s)
  goes_now s = goes_all (breaks_none τ s) τ l s.cycle s.acts s.datas (λ c. c.cycle ≡ s.cycle) (λ x e u k. refl) (λ x e k. refl)

  pub next_cycle_lem : (s : State) (o : Option Command) → OnSome (λ c. c.cycle ≡ s.cycle) o → (after τ s o).cycle ≡ s.cycle + 1
  next_cycle_lem s none k = refl
  next_cycle_lem s (some c) k = ap (λ (y : ℕ). y + 1) k

  -- what each step keeps a run keeps
  pub run_keeps : (P : State → Type 0) → ((s : State) → stops τ l s ≡ false → P s → P (after τ s (goes τ l s)))
      → (n : ℕ) (s : State) (h : List Command) → P s → P (run n τ l s h).state
  run_keeps P f zero s h p = p
  run_keeps P f (suc n) s h p = on (stops τ l s) refl (λ e. run_keeps P f n (after τ s (goes τ l s)) (push (goes τ l s) h) (f s e p))
    where
      on : (b : Bool) → stops τ l s ≡ b → (stops τ l s ≡ false → P (run n τ l (after τ s (goes τ l s)) (push (goes τ l s) h)).state) → P (run (suc n) τ l s h).state
      on true e g = rw (stopped (suc n) τ l s h e) p
      on false e g = rw (going n τ l s h e) (g e)
