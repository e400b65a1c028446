-- What goes of two heads is what the cycle rule says goes, and what is known of it.
-- Assumes nothing.
use Prim.Native.Nat.{ℕ, ◌+◌, ◌%◌, ◌≤◌, ◌<◌}
use native.Mathlib.Omega.{arith}
use mathlib.Core.Path.{◌≡◌, refl, sym, ap, ◌∙◌, subst}
use mathlib.Core.Bool.{Bool, true, false, not, ◌&&◌}
use mathlib.Core.Option.{Option, none, some, map}
use mathlib.Core.List.{List}
use lib.Dec.{ltb, leb, eqb}
use Rattle.records.specs.Tests.{pick}
use Rattle.records.specs.declared.table.Table.{Table}
use Rattle.records.specs.declared.transaction.Transaction.{Transaction}
use Rattle.records.specs.declared.command.Kind.{Kind}
use Rattle.records.specs.declared.command.Kind.TheVariants.{Act, Rd, Rda, Wr, Wra, Ref, Other}
use Rattle.records.specs.declared.command.Command.{Command}
use Rattle.records.specs.Transaction.{is_write}
use Rattle.rules.specs.declared.state.State.{State}
use Rattle.rules.specs.Kinds.{is_act, is_wr, is_ref, is_data, in_act_queue}
use Rattle.rules.specs.Square.{group_of}
use Rattle.rules.specs.State.{bank_of, group_at, acts_far, data_far, rule11, rule12, breaks_none}
use Rattle.rules.specs.Queues.{Due, act_count, act_queue, data_queue, head_after}
use Rattle.rules.specs.CycleRule.{seen, had_act, legal_at, otherwise, goes}
use Rattle.rules.proofs.laws.TestLaws.{and_fst, OnSome}
use Rattle.rules.proofs.laws.Ranges.{ranges}
use Rattle.rules.proofs.queues.Fit.{AllFit, Inside, place_at, act_bank_lem, data_bank}
use Rattle.rules.proofs.laws.DataKinds.{is_data_lem, not_in_acts, act_queued, act_no_data}
use Rattle.rules.proofs.queues.Queue.{Place, data_count, act_place, data_place, act_due, data_due, act_head, data_head}
use Rattle.rules.proofs.queues.Heads.{goes_place}
use Rattle.heads.specs.declared.head.Head.{Head}
use Rattle.heads.specs.declared.queue.Queues.{Queues}
use Rattle.heads.specs.Head.{due_of}
use Rattle.heads.specs.Queue.{Listed, BothStand}
use Rattle.heads.proofs.Laws.{first, first_fits, here}
use Rattle.choices.specs.Choose.{command_of, seen_at, data_free, act_free}
use Rattle.engine.proofs.Tried.{Asked, apart, ref_rules, data_all, act_all}

-- ---- a head that is tried

module _ (f : Command → Bool) (t : ℕ) (h : Head) where
  is_seen : seen t (due_of h) ≡ pick (seen_at t h) (some (here h)) none
  is_seen = on h.there
    where
      on : (x : Bool) → seen t (pick x (some (here h)) none) ≡ pick (x && leb h.arrival t) (some (here h)) none
      on true = refl
      on false = refl

  legal : (x : Bool) → legal_at f t (pick x (some (here h)) none) ≡ pick (x && f (command_of h t)) (some (command_of h t)) none
  legal true = refl
  legal false = refl

  pub tried_act : legal_at f t (seen t (due_of h)) ≡ pick (seen_at t h && f (command_of h t)) (some (command_of h t)) none
  tried_act = ap (legal_at f t) is_seen ∙ legal (seen_at t h)

  pub tried_data : (acts : ℕ) → legal_at f t (had_act acts (seen t (due_of h))) ≡ pick (seen_at t h && (ltb h.act acts && f (command_of h t))) (some (command_of h t)) none
  tried_data acts = ap (λ (o : Option Due). legal_at f t (had_act acts o)) is_seen ∙ on (seen_at t h)
    where
      on : (x : Bool) → legal_at f t (had_act acts (pick x (some (here h)) none)) ≡ pick (x && (ltb h.act acts && f (command_of h t))) (some (command_of h t)) none
      on true = legal (ltb h.act acts)
      on false = refl

-- the cycle rule for the heads a and d, at cycle t, when `acts` have left the ACT queue; f tests a head
abbrev chosen : (Command → Bool) → Head → Head → ℕ → ℕ → Option Command
chosen f a d acts t = otherwise (legal_at f t (had_act acts (seen t (due_of d)))) (legal_at f t (seen t (due_of a)))

-- what is chosen, by the two tests in the order of the code
module _ (f : Command → Bool) (a d : Head) (acts t : ℕ) (x : Bool) (p : x ≡ (seen_at t d && (ltb d.act acts && f (command_of d t)))) where
  chosen_data : x ≡ true → some (command_of d t) ≡ chosen f a d acts t
  chosen_data q =
      sym (ap (λ (o : Option Command). otherwise o (legal_at f t (seen t (due_of a))))
      (tried_data f t d acts ∙ ap (λ (y : Bool). pick y (some (command_of d t)) none) (sym p ∙ q)))

  chosen_act : x ≡ false → (z : Bool) → z ≡ (seen_at t a && f (command_of a t)) → pick z (some (command_of a t)) none ≡ chosen f a d acts t
  chosen_act q z r =
      sym (ap (λ (o : Option Command). otherwise o (legal_at f t (seen t (due_of a))))
      (tried_data f t d acts ∙ ap (λ (y : Bool). pick y (some (command_of d t)) none) (sym p ∙ q))
      ∙ (tried_act f t a ∙ ap (λ (y : Bool). pick y (some (command_of a t)) none) (sym r)))

-- the kinds of what stands in the queues
pub data_kinds : (τ : Table) (l : List Transaction) (n : ℕ) → OnSome (λ x. is_data x.kind ≡ true) (head_after (data_queue τ l) n)
data_kinds τ l n = rw (data_head τ l n) (on (data_place l n))
  where
    on : (o : Option Place) → OnSome (λ x. is_data x.kind ≡ true) (map (data_due τ) o)
    on none = tt
    on (some p) = is_data_lem (is_write p.transaction) (eqb (p.offset % p.transaction.bc + 1) p.transaction.bc)

pub act_kinds : (τ : Table) (l : List Transaction) (n : ℕ) → OnSome (λ x. in_act_queue x.kind ≡ true) (head_after (act_queue τ l) n)
act_kinds τ l n = rw (act_head τ l n) (on (act_place l n))
  where
    on : (o : Option Place) → OnSome (λ x. in_act_queue x.kind ≡ true) (map (act_due τ) o)
    on none = tt
    on (some p) = act_queued p.transaction

pub act_kind_lem : (k : Kind) → in_act_queue k ≡ true → is_ref k ≡ false → is_act k ≡ true
act_kind_lem Act e f = refl
act_kind_lem Rd e f = e
act_kind_lem Rda e f = e
act_kind_lem Wr e f = e
act_kind_lem Wra e f = e
act_kind_lem Ref e f = sym f
act_kind_lem (Other n) e f = e

-- of a head that stands there
pub there : (P : Due → Type 0) (h : Head) → h.there ≡ true → OnSome P (due_of h) → P (here h)
there P h e u = subst (λ (b : Bool). OnSome P (pick b (some (here h)) none)) e u

module _ (τ : Table) (bs : List ℕ) (n : ℕ) (s : State) where
  -- what is chosen of the heads of the queues is what goes
  goes_chosen : (q : Queues) → BothStand τ bs n s.acts s.datas q
      → chosen (breaks_none τ s) q.acts.head q.datas.head s.acts s.cycle ≡ goes τ (first bs n) s
  goes_chosen q h = rw (← h.of_acts.head, ← h.of_datas.head)

  -- a command that goes: its cycle, its bank, and the queue that it leaves
  pub record Leaves (c : Command) : Type 0 where
    pub cycle : c.cycle ≡ s.cycle
    pub bank : c.bank < 16
    pub queue : is_data c.kind ≡ not (in_act_queue c.kind)

  pub goes_leaves : Listed τ bs n → OnSome Leaves (goes τ (first bs n) s)
  goes_leaves h =
      goes_place (breaks_none τ s) τ (first bs n) s.cycle s.acts s.datas Leaves
      (λ p e. record {
        cycle = refl;
        bank = omega (arith, data_bank τ p (subst (OnSome (Inside τ data_count)) e (place_at τ data_count (first bs n) fit 0 0 s.datas)), sixteen);
        queue = is_data_lem (is_write p.transaction) _ ∙ sym (ap not (not_in_acts (is_write p.transaction) _));
      })
      (λ p e. record {
        cycle = refl;
        bank = omega (arith, act_bank_lem τ p (subst (OnSome (Inside τ act_count)) e (place_at τ act_count (first bs n) fit 0 0 s.acts)), sixteen);
        queue = act_no_data p.transaction ∙ sym (ap not (act_queued p.transaction));
      })
    where
      fit : AllFit τ (first bs n)
      fit = first_fits h n (omega arith)

      sixteen : τ.banks ≤ 16
      sixteen = (ranges τ h.table).banks.most

  pub leaves : Listed τ bs n → (c : Command) → goes τ (first bs n) s ≡ some c → Leaves c
  leaves h c e = subst (OnSome Leaves) e (goes_leaves h)

  -- what goes, and its kind, by the two tests in the order of the code
  module _ (q : Queues) (h : BothStand τ bs n s.acts s.datas q) where
    abbrev a : Head
    a = q.acts.head

    abbrev d : Head
    d = q.datas.head

    -- what stands at the head of the ACT queue is a command of that queue
    queued : seen_at s.cycle a ≡ true → in_act_queue a.kind ≡ true
    queued e = there (λ k. in_act_queue k.kind ≡ true) a (and_fst a.there (leb a.arrival s.cycle) e) (rw h.of_acts.head (act_kinds τ (first bs n) s.acts))

    -- and at that of the data queue a data command
    moved : seen_at s.cycle d ≡ true → is_data d.kind ≡ true
    moved e = there (λ k. is_data k.kind ≡ true) d (and_fst d.there (leb d.arrival s.cycle) e) (rw h.of_datas.head (data_kinds τ (first bs n) s.datas))

    -- the two tests: all rules, asked of the own group first
    abbrev pub data? : Bool
    data? = seen_at s.cycle d && (ltb d.act s.acts && breaks_none τ s (command_of d s.cycle))

    abbrev pub act? : Bool
    act? = seen_at s.cycle a && breaks_none τ s (command_of a s.cycle)

    module _ (g : ℕ) (x y : Bool) where
      pub all_data : (g ≡ group_of τ d.bank) × (g < τ.groups)
          → x ≡ (seen_at s.cycle d && (ltb d.act s.acts && data_free τ (bank_of s d.bank) (group_at s g) (command_of d s.cycle)))
          → Asked τ.groups x y (data_far τ s.groups g (is_wr d.kind) s.cycle) → (x && y) ≡ data?
      all_data e = data_all τ s s.cycle d g e.0 e.1 x y s.acts moved

      pub all_act : is_ref a.kind ≡ false → (g ≡ group_of τ a.bank) × (g < τ.groups)
          → x ≡ (seen_at s.cycle a && act_free τ (bank_of s a.bank) (group_at s g) s.a4 s.refresh (command_of a s.cycle))
          → Asked τ.groups x y (acts_far τ s.groups g s.cycle) → (x && y) ≡ act?
      all_act f e = act_all τ s s.cycle a g e.0 e.1 x y queued f

    module _ (x : Bool) (p : x ≡ data?) where
      pub goes_data : x ≡ true → goes τ (first bs n) s ≡ some (command_of d s.cycle)
      goes_data e = sym (chosen_data (breaks_none τ s) a d s.acts s.cycle x p e ∙ goes_chosen q h)

      pub data_head_kind : x ≡ true → is_data d.kind ≡ true
      data_head_kind e = moved (and_fst (seen_at s.cycle d) _ (sym p ∙ e))

      module _ (e : x ≡ false) where
        -- the head of the ACT queue, as a test z of it comes out
        module _ (z : Bool) (r : z ≡ act?) where
          pub goes_act : goes τ (first bs n) s ≡ pick z (some (command_of a s.cycle)) none
          goes_act = sym (chosen_act (breaks_none τ s) a d s.acts s.cycle x p e z r ∙ goes_chosen q h)

          -- it is no REF: an ACT, or nothing
          pub act_head_kind : is_ref a.kind ≡ false → z ≡ true → is_act a.kind ≡ true
          act_head_kind w v = act_kind_lem a.kind (queued (and_fst (seen_at s.cycle a) _ (sym r ∙ v))) w

        -- it is a REF, which keeps rule 12 or not; y tells of rule 11
        module _ (w : is_ref a.kind ≡ true) (z : Bool) (r : z ≡ (seen_at s.cycle a && rule12 τ s s.cycle)) where
          pub goes_ref : (y : Bool) → y ≡ rule11 τ s s.cycle → goes τ (first bs n) s ≡ pick (z && y) (some (command_of a s.cycle)) none
          goes_ref y v =
              goes_act (z && y) (ap (λ (b : Bool). b && y) r ∙ (ap (λ (b : Bool). (seen_at s.cycle a && rule12 τ s s.cycle) && b) v
              ∙ (apart (seen_at s.cycle a) (rule12 τ s s.cycle) (rule11 τ s s.cycle)
              ∙ ap (λ (b : Bool). seen_at s.cycle a && b) (ref_rules τ s s.cycle a.kind a.bank a.number w))))
