-- The runs of a list, and of it with more transactions at its end, side by side.
-- Assumes nothing.
use Prim.Native.Nat.{ℕ, ◌+◌, ◌≤◌, ◌<◌}
use native.Mathlib.Omega.{arith}
use native.Mathlib.Nat.{zero-add}
use mathlib.Core.Path.{◌≡◌, refl, sym, ap, ◌∙◌, subst}
use mathlib.Core.Logic.{⊎_elim}
use mathlib.Core.Option.{Option, none, some}
use mathlib.Core.List.{List, ◌++◌}
use lib.ListN.{length}
use borrow.Author.Tests.{le-ltb}
use Rattle.records.specs.declared.table.Table.{Table}
use Rattle.records.specs.declared.transaction.Transaction.{Transaction}
use Rattle.records.specs.declared.command.Command.{Command}
use Rattle.rules.specs.declared.state.Group.{Group}
use Rattle.rules.specs.declared.state.State.{State}
use Rattle.rules.specs.State.{bank_of, group_at, breaks_none, idle, after}
use Rattle.rules.specs.Queues.{act_count}
use Rattle.rules.specs.CycleRule.{goes, push}
use Rattle.rules.specs.Promise.{of_first}
use Rattle.rules.proofs.laws.TestLaws.{OnSome, on_map}
use Rattle.rules.proofs.laws.Numbers.{from?}
use Rattle.rules.proofs.queues.Queue.{Place, data_count, find, act_place, data_place, data_due, act_bank, sum, act_sum, data_sum, find_end}
use Rattle.rules.proofs.queues.Heads.{seen_place, on_seen_lem, data_from, goes_place, try_data, goes_try}
use Rattle.rules.proofs.queues.Counts.{after_size, acts_up, datas_up, none_left}
use Rattle.rules.proofs.queues.Front.{find_number, find_front, find_back, act_of}
use Rattle.rules.proofs.added.OfFirst.{keep_own, keep_other}

-- every command that goes is of a transaction whose number has P
goes_number : (P : ℕ → Type 0) (τ : Table) (l : List Transaction) (s : State) → OnSome (λ p. P p.number) (data_place l s.datas)
    → OnSome (λ p. P p.number) (act_place l s.acts) → OnSome (λ c. P c.number) (goes τ l s)
goes_number P τ l s d a =
    goes_place (breaks_none τ s) τ l s.cycle s.acts s.datas (λ c. P c.number)
    (λ p e. subst (OnSome (λ p. P p.number)) e d) (λ p e. subst (OnSome (λ p. P p.number)) e a)

-- two groups that tell the same RD and WR
abbrev pub SameData : Group → Group → Type 0
SameData x y = (x.rd ≡ y.rd) × (x.wr ≡ y.wr)

module _ (τ : Table) (xs ys : List Transaction) where
  -- all ACTs of xs have gone in both; the two agree on what its data commands due are tested by
  pub record Mid (s u : State) : Type 0 where
    pub acts_s : act_sum xs ≤ s.acts
    pub acts_u : act_sum xs ≤ u.acts
    pub size_s : τ.banks ≤ length s.banks
    pub size_u : τ.banks ≤ length u.banks
    pub cycle : s.cycle ≡ u.cycle
    pub datas : s.datas ≡ u.datas
    pub group_size : length s.groups ≡ length u.groups
    pub group : (g : ℕ) → SameData (group_at s g) (group_at u g)
    pub bank : (n : ℕ) → s.datas ≤ n → n < data_sum xs → bank_of s (act_bank τ xs (act_of xs n)) ≡ bank_of u (act_bank τ xs (act_of xs n))

  -- nothing of xs is left in either
  pub record Late (s u : State) : Type 0 where
    pub acts_s : act_sum xs ≤ s.acts
    pub acts_u : act_sum xs ≤ u.acts
    pub datas_s : data_sum xs ≤ s.datas
    pub datas_u : data_sum xs ≤ u.datas

  -- the states s of a run of xs and u of a run of xs ++ ys, at the same cycle
  pub data Side : State → State → Type 0 where
    early : {s u : State} → s ≡ u → s.acts < act_sum xs → Side s u
    mid : {s u : State} → s.datas < data_sum xs → Mid s u → Side s u
    late : {s u : State} → Late s u → Side s u

  pub sort : (s u : State) → Mid s u → Side s u
  sort s u q = ⊎_elim (λ h. mid h q)
      (λ h. late (record { acts_s = q.acts_s; acts_u = q.acts_u; datas_s = omega (arith, h.1); datas_u = omega (arith, h.1, q.datas) })) (from? s.datas (data_sum xs))

  pub same : (s : State) → τ.banks ≤ length s.banks → Side s s
  same s z = ⊎_elim (λ h. early refl h)
      (λ h. let a : act_sum xs ≤ s.acts = omega (arith, h.1) in
      sort s s (record { acts_s = a; acts_u = a; size_s = z; size_u = z; cycle = refl; datas = refl; group_size = refl; group = λ g. (refl, refl); bank = λ n k k'. refl })) (from? s.acts (act_sum xs))

  -- while an ACT of xs is left, the same command goes
  early_data : (s : State) → s.acts < act_sum xs → try_data τ (xs ++ ys) s ≡ try_data τ xs s
  early_data s h = ⊎_elim (λ k. ap sees (find_front data_count ys xs 0 0 s.datas k))
      (λ k. let k' : data_sum xs ≤ s.datas = omega (arith, k.1) in
      on (seen_place s.cycle (data_place (xs ++ ys) s.datas))
      (on_seen_lem (λ p. (0 + length xs ≤ p.number) × (0 + act_sum xs ≤ p.before)) s.cycle (data_place (xs ++ ys) s.datas) (find_back data_count ys xs 0 0 s.datas k')) ∙ sym (ap sees (find_end data_count xs 0 0 s.datas k'))) (from? s.datas (data_sum xs))
    where
      from : Option Place → Option Command
      from o = data_from (breaks_none τ s) τ s.cycle s.acts o

      sees : Option Place → Option Command
      sees o = from (seen_place s.cycle o)

      on : (o : Option Place) → OnSome (λ p. (0 + length xs ≤ p.number) × (0 + act_sum xs ≤ p.before)) o → from o ≡ none
      on none k = refl
      on (some p) k = rw (le-ltb (data_due τ p).act s.acts (omega (arith, k.1)))

  early_goes : (s : State) → s.acts < act_sum xs → goes τ (xs ++ ys) s ≡ goes τ xs s
  early_goes s h = rw (goes_try τ (xs ++ ys) s, goes_try τ xs s, early_data s h, find_front act_count ys xs 0 0 s.acts h)

  pub own_number : (s : State) → OnSome (λ c. c.number < length xs) (goes τ xs s)
  own_number s = goes_number (λ k. k < length xs) τ xs s
      (subst (λ (z : ℕ). OnSome (λ p. p.number < z) (data_place xs s.datas)) (zero-add (length xs)) (find_number data_count xs 0 0 s.datas))
      (subst (λ (z : ℕ). OnSome (λ p. p.number < z) (act_place xs s.acts)) (zero-add (length xs)) (find_number act_count xs 0 0 s.acts))

  pub later_number : (f : Transaction → ℕ) (n : ℕ) → sum f xs ≤ n → OnSome (λ p. length xs ≤ p.number) (find f (xs ++ ys) 0 0 n)
  later_number f n k =
      on_map {P = λ p. (0 + length xs ≤ p.number) × (0 + act_sum xs ≤ p.before)} {Q = λ p. length xs ≤ p.number} (find f (xs ++ ys) 0 0 n) (λ p z. omega (arith, z.0))
      (find_back f ys xs 0 0 n k)

  -- the next states, and what the histories keep
  unfoldable pub Step : (s u : State) (h g : List Command) → Option Command → Option Command → Type 0
  Step s u h g o o' = Side (after τ s o) (after τ u o') × (of_first (length xs) (push o' g) ≡ push o h)

  pub step_early : (s : State) (h g : List Command) → τ.banks ≤ length s.banks → s.acts < act_sum xs → of_first (length xs) g ≡ h
      → Step s s h g (goes τ xs s) (goes τ (xs ++ ys) s)
  unfolding Step
  step_early s h g z k e =
      rw (early_goes s k)
      (same (after τ s (goes τ xs s)) (rw after_size z), keep_own (length xs) (goes τ xs s) g (own_number s) ∙ ap (push (goes τ xs s)) e)

  pub step_late : (s u : State) (h g : List Command) → Late s u → of_first (length xs) g ≡ h → Step s u h g (goes τ xs s) (goes τ (xs ++ ys) u)
  unfolding Step
  step_late s u h g q e =
      rw (none_left τ xs s q.datas_s q.acts_s) (
        late {s = idle s} {u = after τ u (goes τ (xs ++ ys) u)} (record {
          acts_s = q.acts_s;
          acts_u = omega (arith, q.acts_u, acts_up τ u (goes τ (xs ++ ys) u));
          datas_s = q.datas_s;
          datas_u = omega (arith, q.datas_u, datas_up τ u (goes τ (xs ++ ys) u));
        }),
        keep_other (length xs) (goes τ (xs ++ ys) u) g
            (goes_number (λ k. length xs ≤ k) τ (xs ++ ys) u (later_number data_count u.datas q.datas_u) (later_number act_count u.acts q.acts_u)) ∙ e,
      )
