-- What goes breaks no rule against what has gone before it.
-- Assumes nothing.
use Rattle.std.specs.Prelude.{None}
use Prim.Native.Nat.{ℕ, zero, suc, ◌<◌}
use native.Mathlib.Omega.{arith}
use mathlib.Core.Path.{◌≡◌, refl, sym, ap, ◌∙◌, subst}
use mathlib.Core.Bool.{Bool, true, false}
use mathlib.Core.Option.{Option, none, some}
use mathlib.Core.List.{List, ◌∷◌}
use lib.Dec.{ltb, leb}
use Rattle.records.specs.Tests.{pick, every}
use Rattle.records.specs.declared.table.Table.{Table}
use Rattle.records.specs.declared.transaction.Transaction.{Transaction}
use Rattle.records.specs.declared.command.Command.{Command}
use Rattle.rules.specs.declared.state.State.{State}
use Rattle.rules.specs.Kinds.{first_broken, rules_in_order}
use Rattle.rules.specs.State.{tests_by, breaks_none, after, Held}
use Rattle.rules.specs.History.{in_table, later, rules_by, broken, is_fine}
use Rattle.rules.specs.Queues.{Due, due_at, act_queue, data_queue, head_after}
use Rattle.rules.specs.CycleRule.{seen, had_act, legal_at, otherwise, goes_by, acts_in, goes_at, goes, push}
use Rattle.rules.specs.Run.{steps}
use Rattle.rules.proofs.laws.TestLaws.{is_true, OnSome, on_pick_lem, every_at}
use Rattle.rules.proofs.history.Link.{Sums, later_of, sums_idle, sums_note, rules_same}
use Rattle.rules.proofs.history.Judged.{fine_rules, is_fine_lem, in_bank, LegalHistory}

-- "If the head of the data queue has had its ACT and breaks no rule, it goes", whatever stands in the ACT queue
data_first : (legal : Command → Bool) (τ : Table) (l : List Transaction) (t a d : ℕ) (c : Command)
    → legal_at legal t (had_act a (seen t (head_after (data_queue τ l) d))) ≡ some c → goes_by legal τ l t a d ≡ some c
data_first legal τ l t a d c e = ap (λ (o : Option Command). otherwise o (legal_at legal t (seen t (head_after (act_queue τ l) a)))) e

-- what goes, by two tests that agree
legal_agree : (f g : Command → Bool) → ((c : Command) → f c ≡ g c) → (t : ℕ) (o : Option Due) → legal_at f t o ≡ legal_at g t o
legal_agree f g e t none = refl
legal_agree f g e t (some d) = ap (λ (b : Bool). pick b (some (due_at t d)) none) (e (due_at t d))

pub goes_agree : (f g : Command → Bool) → ((c : Command) → f c ≡ g c) → (τ : Table) (l : List Transaction) (t a d : ℕ) → goes_by f τ l t a d ≡ goes_by g τ l t a d
goes_agree f g e τ l t a d =
    ap (λ (o : Option Command). otherwise o (legal_at f t (seen t (head_after (act_queue τ l) a)))) (legal_agree f g e t (had_act a (seen t (head_after (data_queue τ l) d))))
    ∙ ap (otherwise (legal_at g t (had_act a (seen t (head_after (data_queue τ l) d))))) (legal_agree f g e t (seen t (head_after (act_queue τ l) a)))

-- what holds of the command that goes: it is the head of its queue and it is legal
pub goes_all : (legal : Command → Bool) (τ : Table) (l : List Transaction) (t a d : ℕ) (P : Command → Type 0)
    → ((x : Due) → head_after (data_queue τ l) d ≡ some x → ltb x.act a ≡ true → legal (due_at t x) ≡ true → P (due_at t x))
    → ((x : Due) → head_after (act_queue τ l) a ≡ some x → legal (due_at t x) ≡ true → P (due_at t x))
    → OnSome P (goes_by legal τ l t a d)
goes_all legal τ l t a d P onData onAct = on_f (legal_at legal t (had_act a (seen t (head_after (data_queue τ l) d)))) (on_d (head_after (data_queue τ l) d) refl)
  where
    on_h : (x : Due) → head_after (data_queue τ l) d ≡ some x → (b : Bool) → ltb x.act a ≡ b → OnSome P (legal_at legal t (pick b (some x) none))
    on_h x e true u = on_pick_lem P (legal (due_at t x)) (due_at t x) none (onData x e u) (λ f. tt)
    on_h x e false u = tt

    on_d : (o : Option Due) → head_after (data_queue τ l) d ≡ o → OnSome P (legal_at legal t (had_act a (seen t o)))
    on_d none e = tt
    on_d (some x) e = arrived (leb x.arrival t)
      where
        arrived : (y : Bool) → OnSome P (legal_at legal t (had_act a (pick y (some x) none)))
        arrived true = on_h x e (ltb x.act a) refl
        arrived false = tt

    on_a : (o : Option Due) → head_after (act_queue τ l) a ≡ o → OnSome P (legal_at legal t (seen t o))
    on_a none e = tt
    on_a (some x) e = arrived (leb x.arrival t)
      where
        arrived : (y : Bool) → OnSome P (legal_at legal t (pick y (some x) none))
        arrived true = on_pick_lem P (legal (due_at t x)) (due_at t x) none (onAct x e) (λ f. tt)
        arrived false = tt

    on_f : (o : Option Command) → OnSome P o → OnSome P (otherwise o (legal_at legal t (seen t (head_after (act_queue τ l) a))))
    on_f none u = on_a (head_after (act_queue τ l) a) refl
    on_f (some c) u = u

-- rule 1, of a command in a queue
abbrev pub due_in : Table → Due → Bool
due_in τ d = in_table τ d.kind d.bank

-- so it is of the head of a queue
abbrev HeadIn : Table → Option Due → Type 0
HeadIn τ o = OnSome (λ x. due_in τ x ≡ true) o

-- no command in either queue breaks rule 1
pub record QueuesFit (τ : Table) (l : List Transaction) : Type 0 where
  pub acts : every (due_in τ) (act_queue τ l) ≡ true
  pub datas : every (due_in τ) (data_queue τ l) ≡ true

-- a state has a place for each bank of the table
pub below : (τ : Table) → Held τ → (c : Command) → in_table τ c.kind c.bank ≡ true → c.bank < 16
below τ fit c i = omega (arith, fit.banks, in_bank τ c.kind c.bank i)

module _ (τ : Table) (fit : Held τ) (h : List Command) (s : State) (q : Sums τ h s) where
  -- the rule that a record breaks, read off the state, where `now` says whether it keeps rule 2
  pub broken_same : (c : Command) (now : Bool) → later c.cycle h ≡ now
      → broken τ c h ≡ first_broken (in_table τ c.kind c.bank ∷ now ∷ tests_by τ s c.kind c.cycle c.bank) rules_in_order
  broken_same c now e = on (in_table τ c.kind c.bank) refl
    where
      on : (b : Bool) → in_table τ c.kind c.bank ≡ b
          → first_broken (b ∷ later c.cycle h ∷ rules_by τ c.kind c.cycle c.bank h) rules_in_order
          ≡ first_broken (b ∷ now ∷ tests_by τ s c.kind c.cycle c.bank) rules_in_order
      on true i =
          ap (λ (t : Bool). first_broken (true ∷ t ∷ rules_by τ c.kind c.cycle c.bank h) rules_in_order) e
          ∙ ap (λ (ts : List Bool). first_broken (true ∷ now ∷ ts) rules_in_order) (rules_same τ fit h s q c.kind c.cycle c.bank (below τ fit c i))
      on false i = refl

  -- "breaks no rule" by history and by state
  pub legal_same : (c : Command) → c.cycle ≡ s.cycle → in_table τ c.kind c.bank ≡ true → is_fine (broken τ c h) ≡ breaks_none τ s c
  legal_same c ec i =
      fine_rules τ c h ∙ rw (i, now, rules_same τ fit h s q c.kind c.cycle c.bank (below τ fit c i))
    where
      now : later c.cycle h ≡ true
      now = rw ec (is_true (later s.cycle h) (later_of s.cycle h q.low))

  module _ (l : List Transaction) (f : QueuesFit τ l) where
    abbrev legal : Command → Bool
    legal c = is_fine (broken τ c h)

    at_head : (o : Option Due) → HeadIn τ o → legal_at (breaks_none τ s) s.cycle o ≡ legal_at legal s.cycle o
    at_head none i = refl
    at_head (some x) i = ap (λ (b : Bool). pick b (some (due_at s.cycle x)) none) (sym (legal_same (due_at s.cycle x) refl i))

    had : (o : Option Due) → HeadIn τ o → HeadIn τ (had_act s.acts o)
    had none i = tt
    had (some x) i = on_pick_lem (λ x. due_in τ x ≡ true) (ltb x.act s.acts) x none (λ e. i) (λ e. tt)

    sees : (o : Option Due) → HeadIn τ o → HeadIn τ (seen s.cycle o)
    sees none i = tt
    sees (some x) i = on_pick_lem (λ x. due_in τ x ≡ true) (leb x.arrival s.cycle) x none (λ e. i) (λ e. tt)

    act_head : HeadIn τ (head_after (act_queue τ l) s.acts)
    act_head = every_at (due_in τ) (act_queue τ l) s.acts f.acts

    data_head : HeadIn τ (head_after (data_queue τ l) s.datas)
    data_head = every_at (due_in τ) (data_queue τ l) s.datas f.datas

    -- the heads that are seen
    abbrev seen_data : Option Due
    seen_data = seen s.cycle (head_after (data_queue τ l) s.datas)

    abbrev seen_act : Option Due
    seen_act = seen s.cycle (head_after (act_queue τ l) s.acts)

    -- the cycle rule by state is the cycle rule by history
    pub goes_same : goes τ l s ≡ goes_at τ l s.cycle h
    goes_same =
        ap (λ (o : Option Command). otherwise o (legal_at (breaks_none τ s) s.cycle seen_act))
        (at_head (had_act s.acts seen_data) (had seen_data (sees (head_after (data_queue τ l) s.datas) data_head)))
        ∙ (ap (otherwise (legal_at legal s.cycle (had_act s.acts seen_data))) (at_head seen_act (sees (head_after (act_queue τ l) s.acts) act_head))
        ∙ (ap (λ (a : ℕ). goes_by legal τ l s.cycle a s.datas) q.acts ∙ ap (goes_by legal τ l s.cycle (acts_in h)) q.datas))

    -- what goes: at the state's cycle, in the table, breaking no rule
    abbrev Good : Command → Type 0
    Good c = (c.cycle ≡ s.cycle) × (in_table τ c.kind c.bank ≡ true) × (broken τ c h ≡ None)

    goes_good : OnSome Good (goes τ l s)
    goes_good =
        goes_all (breaks_none τ s) τ l s.cycle s.acts s.datas Good
        (λ x e u. good x (subst (HeadIn τ) e data_head))
        (λ x e. good x (subst (HeadIn τ) e act_head))
      where
        good : (x : Due) → due_in τ x ≡ true → breaks_none τ s (due_at s.cycle x) ≡ true → Good (due_at s.cycle x)
        good x i u = (refl, i, is_fine_lem (broken τ (due_at s.cycle x) h) (legal_same (due_at s.cycle x) refl i ∙ u))

    pub step_legal : LegalHistory τ h → Sums τ (push (goes τ l s) h) (after τ s (goes τ l s)) × LegalHistory τ (push (goes τ l s) h)
    step_legal k = on (goes τ l s) goes_good
      where
        on : (o : Option Command) → OnSome Good o → Sums τ (push o h) (after τ s o) × LegalHistory τ (push o h)
        on none g = (sums_idle τ h s q, k)
        on (some c) g = (sums_note τ fit h s q c (omega (arith, g.0)) (below τ fit c g.1), (g.2, k))

-- after n steps the state sums up what has gone, which is a legal history
pub steps_legal : (n : ℕ) (τ : Table) → Held τ → (l : List Transaction) → QueuesFit τ l → (s : State) (h : List Command) → Sums τ h s → LegalHistory τ h
    → Sums τ (steps n τ l s h).1 (steps n τ l s h).0 × LegalHistory τ (steps n τ l s h).1
steps_legal zero τ fit l f s h q k = (q, k)
steps_legal (suc n) τ fit l f s h q k =
    let z = step_legal τ fit h s q l f k in
    steps_legal n τ fit l f (after τ s (goes τ l s)) (push (goes τ l s) h) z.0 z.1
