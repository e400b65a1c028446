-- Where the loop of a run by jumps stands, and what a turn of it does: it goes to the next command, or to the run's end.
-- Assumes nothing.
use Prim.Native.Nat.{ℕ, ◌+◌, ◌-◌, ◌≤◌, ◌<◌, min, max}
use native.Mathlib.Omega.{arith}
use mathlib.Core.Path.{◌≡◌, refl, sym, ap, ◌∙◌, subst}
use mathlib.Core.Logic.{◌⊎◌, inl, inr, ⊎_elim}
use mathlib.Core.Bool.{Bool, true, false}
use mathlib.Core.Option.{Option, none, some}
use mathlib.Core.List.{List, []}
use lib.Dec.{leb}
use lib.ListN.{length}
use borrow.Author.Tests.{le-leb, lt-leb, leb-true, leb-false}
use Rattle.records.specs.Tests.{pick}
use Rattle.records.specs.declared.table.Table.{Table}
use Rattle.records.specs.declared.transaction.Transaction.{Transaction}
use Rattle.records.specs.declared.command.Command.{Command}
use Rattle.rules.specs.declared.state.State.{State}
use Rattle.rules.specs.Queues.{Due, act_queue, data_queue, head_after}
use Rattle.rules.specs.CycleRule.{goes, otherwise}
use Rattle.rules.specs.Run.{served, stops, Ran, run}
use Rattle.rules.proofs.laws.TestLaws.{and_fst, and_snd}
use Rattle.heads.specs.declared.head.Head.{Head}
use Rattle.heads.specs.declared.queue.Queues.{Queues}
use Rattle.heads.specs.Head.{due_of}
use Rattle.heads.specs.Queue.{queue_of}
use Rattle.heads.proofs.Laws.{first, head_past}
use Rattle.choices.specs.Choose.{command_of}
use Rattle.engine.specs.Run.{Ready}
use Rattle.heads.proofs.Laws.{here}
use Rattle.engine.proofs.Going.{Going, Moving}
use Rattle.earliest.specs.Earliest.{limit, head_from, act_due_from, data_due_from, act_head_from, data_head_from}
use Rattle.earliest.specs.Jump.{at_cycle, leaves_at, ends_at, later}
use Rattle.earliest.proofs.Free.{head_at, from_on, goes_from}
use Rattle.earliest.proofs.Jump.{to_end_lem, to_next, still_there}
use Rattle.jump.proofs.Heads.{Agree}

-- a head that is free before the limit stands there
there_if : (q : Option Due) (f : Due → ℕ) (b : Bool) (x : Due) → pick b (some x) none ≡ q → head_from f q < limit → b ≡ true
there_if q f true x e h = refl
there_if q f false x e h = absurd (omega (arith, ap (head_from f) e))

-- ---- numbers that agree

agree_below : {x a : ℕ} → Agree x a → x < limit → x ≡ a
agree_below u h = ⊎_elim (λ e. e) (λ e. absurd (omega (arith, e.0))) u

agree_past : {x a : ℕ} (t : ℕ) → Agree x a → t < limit → t < x → t < a
agree_past t u h p = ⊎_elim (λ e. omega (arith, p)) (λ e. omega (arith, e.1)) u

agree_limit : {x : ℕ} → Agree x limit → limit ≤ x
agree_limit u = ⊎_elim (λ e. omega arith) (λ e. e.0) u

-- the earlier of two
below? : (m : ℕ) → (m < limit) ⊎ (limit ≤ m)
below? m = on (leb limit m) refl
  where
    on : (b : Bool) → leb limit m ≡ b → (m < limit) ⊎ (limit ≤ m)
    on true e = inr (leb-true limit m e)
    on false e = inl (leb-false limit m e)

agree_min : (x y a d : ℕ) → Agree x a → Agree y d → Agree (min y x) (min d a)
agree_min x y a d (inl e) (inl f) = inl (omega (arith, e, f))
agree_min x y a d (inl e) (inr f) = ⊎_elim (λ l. inl (omega (arith, e, f.0, f.1, l))) (λ l. inr (omega (arith, f.0, l), omega (arith, e, f.1, l))) (below? x)
agree_min x y a d (inr e) (inl f) = ⊎_elim (λ l. inl (omega (arith, f, e.0, e.1, l))) (λ l. inr (omega (arith, e.0, l), omega (arith, f, e.1, l))) (below? y)
agree_min x y a d (inr e) (inr f) = inr (omega (arith, e.0, f.0), omega (arith, e.1, f.1))

-- no cycle was run yet
pub none_yet : (c : ℕ) → 0 ≡ c - c
none_yet c = omega arith

pub few_cycles : {a b : ℕ} → a ≤ b → b < 4294967296 → a < 4294967296
few_cycles p q = omega arith

-- the end of a run that started at cycle c₀, for one that stands at cycle c, i cycles later
end_same : (c₀ c i count e : ℕ) → c₀ + i ≡ c → e ≡ max c₀ (min limit (c₀ + count)) → c ≤ e → (i ≤ count) × (e ≡ max c (min limit (c + (count - i))))
end_same c₀ c i count e p q h = let z : i ≤ count = omega arith in let w : c + (count - i) ≡ c₀ + count = omega arith in (z, rw w (omega arith))

module _ {τ : Table} {bs : List ℕ} {n : ℕ} {s₀ : State} {count : ℕ} {b₀ b : List ℕ} {s : State} {q : Queues} {i k : ℕ}
    (g : Going τ bs n s₀ count b₀ b s q i k) where
  abbrev l : List Transaction
  l = first bs n

  abbrev a : Head
  a = q.acts.head

  abbrev d : Head
  d = q.datas.head

  act_head : due_of a ≡ head_after (act_queue τ l) s.acts
  act_head = g.queues.of_acts.head

  data_head : due_of d ≡ head_after (data_queue τ l) s.datas
  data_head = g.queues.of_datas.head

  -- x and y are what the loop has for the heads of the ACT queue and of the data queue, t for the next command, e for the end of a run that stands
  -- where it does
  pub record Turn (x y t e : ℕ) : Type 0 where
    pub from_a : Agree x (act_head_from τ l s)
    pub from_d : Agree y (data_head_from τ l s)
    pub at : t ≡ max s.cycle (min y x)
    pub ran : s₀.cycle + i ≡ s.cycle
    pub end : e ≡ max s₀.cycle (min limit (s₀.cycle + count))
    pub within : s.cycle ≤ e

  -- past the end of a queue stands nothing
  none_past : (f : Due → ℕ) (b : Bool) (m : ℕ) → leb (length (queue_of b τ l)) m ≡ true → head_from f (head_after (queue_of b τ l) m) ≡ limit
  none_past f b m e =
      let z = leb-true (length (queue_of b τ l)) m e in
      let w : length (queue_of b τ l) + (m - length (queue_of b τ l)) ≡ m = omega (arith, z) in
      ap (head_from f) (ap (head_after (queue_of b τ l)) (sym w) ∙ head_past b τ l (m - length (queue_of b τ l)))

  module _ {x y t e : ℕ} (u : Turn x y t e) where
    both : Agree (min y x) (min (data_head_from τ l s) (act_head_from τ l s))
    both = agree_min x y (act_head_from τ l s) (data_head_from τ l s) u.from_a u.from_d

    ends_as : (v : Bool) → served τ l s ≡ v → pick v s.cycle e ≡ ends_at τ l (count - i) s
    ends_as true p = rw p (omega arith)
    ends_as false p = rw p (end_same s₀.cycle s.cycle i count e u.ran u.end u.within).1

    -- the end is no later than the count
    pub end_in : (v : Bool) (z : ℕ) → z ≡ pick v s.cycle e → (s₀.cycle ≤ z) × (s.cycle ≤ z) × (i + (z - s.cycle) ≡ z - s₀.cycle) × (z - s₀.cycle ≤ count)
    end_in true z p = (omega (arith, u.ran), omega arith, omega (arith, u.ran), omega (arith, u.ran, (end_same s₀.cycle s.cycle i count e u.ran u.end u.within).0))
    end_in false z p = (omega (arith, u.ran, u.within), omega (arith, u.within), omega (arith, u.ran, u.within), omega (arith, u.ran, u.within, u.end))

    pub ends : e ≤ t → (v : Bool) → v ≡ served τ l s → (z : ℕ) → z ≡ pick v s.cycle e
        → run count τ l s₀ [] ≡ record { state = at_cycle s z; history = g.history; cycles = z - s₀.cycle }
    ends h v ev z ez =
        g.whole ∙ (ap (later i) (to_end_lem τ l s (count - i) g.history (late v ev))
        ∙ (ap (λ (m : ℕ). record { state = at_cycle s m; history = g.history; cycles = i + (m - s.cycle) }) (sym (ez ∙ ends_as v (sym ev)))
        ∙ ap (λ (m : ℕ). record { state = at_cycle s z; history = g.history; cycles = m }) (end_in v z ez).2))
      where
        past : e ≤ max s.cycle (min (data_head_from τ l s) (act_head_from τ l s))
        past = ⊎_elim (λ p. omega (arith, h, u.at, p)) (λ p. omega (arith, p.1, u.end, u.ran)) both

        late : (v : Bool) → v ≡ served τ l s → ends_at τ l (count - i) s ≤ leaves_at τ l s
        late true p = omega (arith, ends_as true (sym p))
        late false p = omega (arith, ends_as false (sym p), past)

    module _ (h : t < e) where
      low : t < limit
      low = omega (arith, h, u.at, u.end, u.ran)

      at_is : t ≡ leaves_at τ l s
      at_is = u.at ∙ ap (max s.cycle) (agree_below both (omega (arith, low, u.at)))

      -- a list that is served has no heads
      unserved : served τ l s ≡ false
      unserved = on (served τ l s) refl
        where
          on : (v : Bool) → served τ l s ≡ v → v ≡ false
          on true p =
              let da = none_past (data_due_from τ s) true s.datas (and_fst (leb (length (data_queue τ l)) s.datas) (leb (length (act_queue τ l)) s.acts) p) in
              let aa = none_past (act_due_from τ s) false s.acts (and_snd (leb (length (data_queue τ l)) s.datas) (leb (length (act_queue τ l)) s.acts) p) in
              absurd (omega (arith, low, u.at, agree_limit (subst (Agree y) da u.from_d), agree_limit (subst (Agree x) aa u.from_a)))
          on false p = refl

      before_end : leaves_at τ l s < ends_at τ l (count - i) s
      before_end = omega (arith, h, at_is, ends_as false unserved)

      pub soon : (t < limit) × (s.cycle ≤ t) × (i + (t - s.cycle) < count)
      soon = (low, omega (arith, u.at), omega (arith, h, u.at, u.end, u.ran, low))

      -- where the next turn stands
      pub onward : (s₀.cycle + (i + (t - s.cycle) + 1) ≡ t + 1) × (t + 1 ≤ e)
      onward = (omega (arith, u.ran, u.at), omega (arith, h))

      waits : Going τ bs n s₀ count b₀ b (at_cycle s t) q (i + (t - s.cycle)) k
      waits =
          record {
            history = g.history;
            whole = g.whole ∙ (ap (later i) on ∙ again);
            size = g.size;
            buffer = g.buffer;
            capped = g.capped;
            queues = g.queues;
          }
        where
          on : run (count - i) τ l s g.history ≡ later (t - s.cycle) (run (count - i - (t - s.cycle)) τ l (at_cycle s t) g.history)
          on =
              to_next τ l s (count - i) before_end g.history
              ∙ ap (λ (m : ℕ). later (m - s.cycle) (run (count - i - (m - s.cycle)) τ l (at_cycle s m) g.history)) (sym at_is)

          less : count - i - (t - s.cycle) ≡ count - (i + (t - s.cycle))
          less = omega arith

          again : later i (later (t - s.cycle) (run (count - i - (t - s.cycle)) τ l (at_cycle s t) g.history))
              ≡ later (i + (t - s.cycle)) (run (count - (i + (t - s.cycle))) τ l (at_cycle s t) g.history)
          again =
              ap (λ (m : ℕ). later i (later (t - s.cycle) (run m τ l (at_cycle s t) g.history))) less
              ∙ ap (λ (z : ℕ). record { state = w.state; history = w.history; cycles = z }) (omega arith)
            where
              w : Ran
              w = run (count - (i + (t - s.cycle))) τ l (at_cycle s t) g.history

      module _ (r : Ready τ bs n s₀ count (length b₀)) where
        moving : (c : Command) → goes τ l (at_cycle s t) ≡ some c → Moving τ bs n s₀ count b₀ b (at_cycle s t) q (i + (t - s.cycle)) k c
        moving c e =
            record {
              going = waits;
              ready = r;
              more = soon.2;
              still = subst (λ (m : ℕ). stops τ l (at_cycle s m) ≡ false) (sym at_is) (still_there τ l s (count - i) before_end);
              goes = e;
            }

        -- the data queue's head goes
        module _ (p : y ≤ t) where
          data_is : y ≡ data_head_from τ l s
          data_is = agree_below u.from_d (omega (arith, p, low))

          pub data_there : d.there ≡ true
          data_there =
              let z : data_head_from τ l s < limit = omega (arith, low, p, data_is) in
              there_if (head_after (data_queue τ l) s.datas) (data_due_from τ s) d.there (here d) data_head z

          goes_data : goes τ l (at_cycle s t) ≡ some (command_of d t)
          goes_data =
              goes_from τ t low l s
              ∙ (ap (λ (z : Bool). otherwise (pick z (head_at τ t low (head_after (data_queue τ l) s.datas)) none) other) (le-leb (data_head_from τ l s) t (omega (arith, p, data_is)))
              ∙ (ap (λ (o : Option Due). otherwise (head_at τ t low o) other) (sym data_head)
              ∙ ap (λ (z : Bool). otherwise (head_at τ t low (pick z (some (here d)) none)) other) data_there))
            where
              other : Option Command
              other = from_on τ t low (act_head_from τ l s) (head_after (act_queue τ l) s.acts)

          pub moving_data : Moving τ bs n s₀ count b₀ b (at_cycle s t) q (i + (t - s.cycle)) k (command_of d t)
          moving_data = moving (command_of d t) goes_data

        -- the ACT queue's head goes
        module _ (p : t < y) where
          pub first_act : x ≤ t
          first_act = omega (arith, p, u.at)

          act_is : x ≡ act_head_from τ l s
          act_is = agree_below u.from_a (omega (arith, first_act, low))

          pub act_there : a.there ≡ true
          act_there =
              let z : act_head_from τ l s < limit = omega (arith, low, first_act, act_is) in
              there_if (head_after (act_queue τ l) s.acts) (act_due_from τ s) a.there (here a) act_head z

          goes_act : goes τ l (at_cycle s t) ≡ some (command_of a t)
          goes_act =
              goes_from τ t low l s
              ∙ (ap (λ (z : Bool). otherwise (pick z (head_at τ t low (head_after (data_queue τ l) s.datas)) none) (from_on τ t low (act_head_from τ l s) (head_after (act_queue τ l) s.acts)))
              (lt-leb (data_head_from τ l s) t (agree_past t u.from_d low p))
              ∙ (ap (λ (z : Bool). pick z (head_at τ t low (head_after (act_queue τ l) s.acts)) none) (le-leb (act_head_from τ l s) t (omega (arith, first_act, act_is)))
              ∙ (ap (head_at τ t low) (sym act_head)
              ∙ ap (λ (z : Bool). head_at τ t low (pick z (some (here a)) none)) act_there)))

          pub moving_act : Moving τ bs n s₀ count b₀ b (at_cycle s t) q (i + (t - s.cycle)) k (command_of a t)
          moving_act = moving (command_of a t) goes_act
