-- From which cycle on the heads of the queues are free, by their banks and groups.
-- Assumes nothing.
use Prim.Native.Nat.{ℕ, ◌+◌, ◌≤◌, ◌<◌, max}
use native.Mathlib.Omega.{arith}
use native.Mathlib.Nat.{max-zero, le-max_left, le-max_right}
use mathlib.Core.Path.{◌≡◌, refl, sym, ap, ◌∙◌, subst}
use mathlib.Core.Logic.{◌⊎◌, inl, inr}
use mathlib.Core.Bool.{Bool, true, false}
use mathlib.Core.Option
use mathlib.Core.Option.{Option, none, some}
use mathlib.Core.List.{List, [], ◌∷◌, map}
use lib.Dec.{ltb}
use lib.ListN.{length, get_or}
use Rattle.records.specs.Tests.{pick}
use Rattle.records.specs.declared.table.Table.{Table}
use Rattle.records.specs.declared.transaction.Transaction.{Transaction}
use Rattle.records.specs.declared.command.Kind.{Kind}
use Rattle.records.specs.declared.command.Kind.TheVariants.{Act, Rd, Rda, Wr, Wra, Ref, Other}
use Rattle.rules.specs.declared.state.Bank.{Bank}
use Rattle.rules.specs.declared.state.State.{State}
use Rattle.rules.specs.Bound.{greatest}
use Rattle.rules.specs.Kinds.{is_wr, is_ref, is_data, in_act_queue}
use Rattle.rules.specs.Square.{group_of}
use Rattle.rules.specs.State.{is_open, bank_of}
use Rattle.rules.specs.Queues.{Due, act_count, data_queue, head_after}
use Rattle.rules.proofs.laws.TestLaws.{true_false, OnSome}
use Rattle.rules.proofs.queues.Fit.{AllFit, Inside, place_at, data_bank}
use Rattle.rules.proofs.queues.Queue.{Place, data_count, find, data_place, act_due, data_due, act_head, data_head}
use Rattle.heads.specs.declared.head.Head.{Head}
use Rattle.heads.specs.declared.queue.Queues.{Queues}
use Rattle.heads.specs.Head.{due_of}
use Rattle.heads.specs.Queue.{Listed, BothStand}
use Rattle.heads.proofs.Laws.{here, first, length_from, first_fits}
use Rattle.timing.specs.declared.kept.Kept.{Kept}
use Rattle.timing.specs.Kept.{stamp_of, told_bank, told_group, told, shut_kept}
use Rattle.timing.proofs.Telling.{told_at}
use Rattle.engine.proofs.Laws.{there, data_kinds, act_kinds}
use Rattle.engine.proofs.Schedule.{find_number}
use Rattle.earliest.specs.Earliest.{limit, since, gate, acts_from, datas_from, rest_from, rests_from, act_from, data_from, free_from, head_from, act_due_from, data_due_from, act_head_from, data_head_from}
use Rattle.soonest.specs.Earlier.{ready_from, opens_from}
use Rattle.jump.proofs.Latest.{le_most}

-- a data command's cycle, an ACT's and a REF's are those of its bank and its type
module _ (τ : Table) (s : State) where
  free_data : (k : Kind) (b : ℕ) → is_data k ≡ true → data_from τ (bank_of s b) (datas_from τ s.groups (group_of τ b) (is_wr k)) ≡ free_from τ s k b
  free_data Act b e = true_false false e refl
  free_data Rd b e = refl
  free_data Rda b e = refl
  free_data Wr b e = refl
  free_data Wra b e = refl
  free_data Ref b e = true_false false e refl
  free_data (Other n) b e = true_false false e refl

  free_act : (k : Kind) (b : ℕ) → in_act_queue k ≡ true → is_ref k ≡ false
      → act_from τ (bank_of s b) (acts_from τ s.groups (group_of τ b)) (since s.a4 τ.faw) (since s.refresh τ.rfc) ≡ free_from τ s k b
  free_act Act b e f = refl
  free_act Rd b e f = true_false false e refl
  free_act Rda b e f = true_false false e refl
  free_act Wr b e f = true_false false e refl
  free_act Wra b e f = true_false false e refl
  free_act Ref b e f = true_false true refl f
  free_act (Other n) b e f = true_false false e refl

  free_ref : (k : Kind) (b : ℕ) → is_ref k ≡ true → max (rests_from τ s) (since s.refresh τ.rfc) ≡ free_from τ s k b
  free_ref Act b e = true_false false e refl
  free_ref Rd b e = true_false false e refl
  free_ref Rda b e = true_false false e refl
  free_ref Wr b e = true_false false e refl
  free_ref Wra b e = true_false false e refl
  free_ref Ref b e = refl
  free_ref (Other n) b e = true_false false e refl

-- what is known of a head that stands there
head_is : (f : Due → ℕ) (h : Head) (x : ℕ) → (h.there ≡ true → x ≡ f (here h)) → pick h.there x limit ≡ head_from f (due_of h)
head_is f h x = on h.there
  where
    on : (b : Bool) → (b ≡ true → x ≡ f (here h)) → pick b x limit ≡ head_from f (pick b (some (here h)) none)
    on true e = e refl
    on false e = refl

-- two cycles that are the same, or that no run reaches
abbrev pub Agree : ℕ → ℕ → Type 0
Agree x y = (x ≡ y) ⊎ ((limit ≤ x) × (limit ≤ y))

regroup : (a b c d e : ℕ) → max (max a (max b (max c d))) e ≡ greatest (a ∷ b ∷ greatest (c ∷ d ∷ e ∷ []) ∷ [])
regroup a b c d e =
    assoc a (max b (max c d)) e ∙ ap (max a) (assoc b (max c d) e ∙ ap (max b) (assoc c d e ∙ (ap (λ (m : ℕ). max c (max d m)) (sym (max-zero e)) ∙ sym (max-zero (max c (max d (max e 0)))))))
  where
    assoc : (x y z : ℕ) → max (max x y) z ≡ max x (max y z)
    assoc x y z = omega arith

-- a data command that is ready has an open bank
abbrev ready_terms : Table → Head → Bank → ℕ → ℕ
ready_terms τ d k acts = max d.arrival (max (gate (ltb d.act acts)) (max (gate (is_open k)) (since k.act τ.rcd)))

pub ready_open : (τ : Table) (d : Head) (k : Bank) (acts : ℕ) → ready_from τ d k acts < limit → is_open k ≡ true
ready_open τ d k acts = on d.there (is_open k) refl
  where
    rest : ℕ → ℕ
    rest m = max (gate (ltb d.act acts)) (max m (since k.act τ.rcd))

    on : (t b : Bool) → is_open k ≡ b → pick t (max d.arrival (rest (gate b))) limit < limit → is_open k ≡ true
    on true true e h = e
    on true false e h =
        absurd (omega (arith, h, le-max_right d.arrival (rest limit), le-max_right (gate (ltb d.act acts)) (max limit (since k.act τ.rcd)), le-max_left limit (since k.act τ.rcd)))
    on false true e h = absurd (omega arith)
    on false false e h = absurd (omega arith)

-- a data command of the queue goes to one of the table's banks
data_banks : (τ : Table) (l : List Transaction) → AllFit τ l → (m : ℕ) → OnSome (λ x. x.bank < τ.banks) (head_after (data_queue τ l) m)
data_banks τ l v m = rw (data_head τ l m) (on (data_place l m) (place_at τ data_count l v 0 0 m))
  where
    on : (o : Option Place) → OnSome (Inside τ data_count) o → OnSome (λ x. x.bank < τ.banks) (Option.map (data_due τ) o)
    on none u = tt
    on (some p) u = data_bank τ p u

-- what stands in a queue is of a transaction of the list
numbers : (l : List Transaction) (f : Transaction → ℕ) (m : ℕ) (due : Place → Due) → ((p : Place) → (due p).number ≡ p.number) → OnSome (λ x. x.number < length l) (Option.map due (find f l 0 0 m))
numbers l f m due e = on (find f l 0 0 m) (find_number f l 0 0 m)
  where
    on : (o : Option Place) → OnSome (λ p. p.number < 0 + length l) o → OnSome (λ x. x.number < length l) (Option.map due o)
    on none u = tt
    on (some p) u = omega (arith, u, e p)

-- what the loop computes of a state in plain numbers
module _ (τ : Table) (bs : List ℕ) (n : ℕ) (s : Kept) (q : Queues) (h : BothStand τ bs n (told s).acts (told s).datas q) where
  abbrev a : Head
  a = q.acts.head

  abbrev d : Head
  d = q.datas.head

  pub queued : a.there ≡ true → in_act_queue a.kind ≡ true
  queued e = there (λ k. in_act_queue k.kind ≡ true) a e (rw h.of_acts.head (act_kinds τ (first bs n) (told s).acts))

  pub moved : d.there ≡ true → is_data d.kind ≡ true
  moved e = there (λ k. is_data k.kind ≡ true) d e (rw h.of_datas.head (data_kinds τ (first bs n) (told s).datas))

  pub data_within : Listed τ bs n → d.there ≡ true → d.bank < τ.banks
  data_within v e = there (λ k. k.bank < τ.banks) d e (rw h.of_datas.head (data_banks τ (first bs n) (first_fits v n (omega arith)) (told s).datas))

  pub act_number : a.there ≡ true → a.number < n
  act_number e =
      omega (arith, length_from bs n 0, there (λ k. k.number < length (first bs n)) a e (rw (h.of_acts.head, act_head τ (first bs n) (told s).acts) (numbers (first bs n) act_count (told s).acts (act_due τ) (λ p. refl))))

  pub data_number : d.there ≡ true → d.number < n
  data_number e =
      omega (arith, length_from bs n 0, there (λ k. k.number < length (first bs n)) d e (rw (h.of_datas.head, data_head τ (first bs n) (told s).datas) (numbers (first bs n) data_count (told s).datas (data_due τ) (λ p. refl))))

  -- the data queue's head, by all but rule 9 and by that
  pub from_data : (x ready nine : ℕ) → ready ≡ ready_from τ d (told_bank (get_or s.banks d.bank shut_kept)) s.acts
      → nine ≡ datas_from τ (map told_group s.groups) (group_of τ d.bank) (is_wr d.kind) → x ≡ max ready nine → Agree x (data_head_from τ (first bs n) (told s))
  unfolding told
  from_data x ready nine er en ex = subst (λ (o : Option Due). Agree x (head_from (data_due_from τ (told s)) o)) h.of_datas.head (on d.there refl (ex ∙ rw (er, en)))
    where
      k : ℕ
      k = datas_from τ (map told_group s.groups) (group_of τ d.bank) (is_wr d.kind)

      e8 : ℕ
      e8 = since (told_bank (get_or s.banks d.bank shut_kept)).act τ.rcd

      up : Bool
      up = is_open (told_bank (get_or s.banks d.bank shut_kept))

      on : (b : Bool) → d.there ≡ b → x ≡ max (pick b (max d.arrival (max (gate (ltb d.act s.acts)) (max (gate up) e8))) limit) k
          → Agree x (head_from (data_due_from τ (told s)) (pick b (some (here d)) none))
      on true e p =
          inl (p ∙ (regroup d.arrival (gate (ltb d.act s.acts)) (gate up) e8 k
          ∙ ap (λ (m : ℕ). greatest (d.arrival ∷ gate (ltb d.act s.acts) ∷ m ∷ [])) (same ∙ free_data τ (told s) d.kind d.bank (moved e))))
        where
          same : data_from τ (told_bank (get_or s.banks d.bank shut_kept)) k ≡ data_from τ (bank_of (told s) d.bank) (datas_from τ (told s).groups (group_of τ d.bank) (is_wr d.kind))
          same = rw (told_at s d.bank)
      on false e p = inr (omega (arith, p, le-max_left limit k), omega arith)

  -- the ACT queue's head, an ACT
  pub from_act : (x six : ℕ) → six ≡ acts_from τ (map told_group s.groups) (group_of τ a.bank) → is_ref a.kind ≡ false
      → x ≡ opens_from τ a (told_bank (get_or s.banks a.bank shut_kept)) six (stamp_of s.a4) (stamp_of s.refresh) → x ≡ act_head_from τ (first bs n) (told s)
  unfolding told
  from_act x six es f ex =
      ex
      ∙ (head_is (act_due_from τ (told s)) a (max a.arrival (act_from τ (told_bank (get_or s.banks a.bank shut_kept)) six (since (stamp_of s.a4) τ.faw) (since (stamp_of s.refresh) τ.rfc)))
      (λ e. ap (λ (m : ℕ). max a.arrival m) (same ∙ free_act τ (told s) a.kind a.bank (queued e) f))
      ∙ ap (head_from (act_due_from τ (told s))) h.of_acts.head)
    where
      same : act_from τ (told_bank (get_or s.banks a.bank shut_kept)) six (since (stamp_of s.a4) τ.faw) (since (stamp_of s.refresh) τ.rfc)
          ≡ act_from τ (bank_of (told s) a.bank) (acts_from τ (told s).groups (group_of τ a.bank)) (since (told s).a4 τ.faw) (since (told s).refresh τ.rfc)
      same = rw (es, told_at s a.bank)

  -- a REF
  pub from_ref : (x eleven : ℕ) → eleven ≡ rests_from τ (told s) → is_ref a.kind ≡ true
      → x ≡ pick a.there (max a.arrival (max eleven (since (stamp_of s.refresh) τ.rfc))) limit → x ≡ act_head_from τ (first bs n) (told s)
  unfolding told
  from_ref x eleven ee f ex =
      ex
      ∙ (head_is (act_due_from τ (told s)) a (max a.arrival (max eleven (since (stamp_of s.refresh) τ.rfc)))
      (λ e. ap (λ (m : ℕ). max a.arrival m) (ap (λ (m : ℕ). max m (since (stamp_of s.refresh) τ.rfc)) ee ∙ free_ref τ (told s) a.kind a.bank f))
      ∙ ap (head_from (act_due_from τ (told s))) h.of_acts.head)

  -- while a bank of the table is open no REF goes
  open_waits : is_ref a.kind ≡ true → (b : ℕ) → b < τ.banks → is_open (told_bank (get_or s.banks b shut_kept)) ≡ true → limit ≤ act_head_from τ (first bs n) (told s)
  open_waits f b l up = subst (λ (o : Option Due). limit ≤ head_from (act_due_from τ (told s)) o) h.of_acts.head (on a.there)
    where
      at : limit ≤ rest_from τ (bank_of (told s) b)
      at = rw (told_at s b, up) (le-max_left limit _)

      rests : limit ≤ rests_from τ (told s)
      rests = omega (arith, at, le_most τ.banks (λ i. rest_from τ (bank_of (told s) i)) b l)

      free : limit ≤ free_from τ (told s) a.kind a.bank
      free = rw (← free_ref τ (told s) a.kind a.bank f) (omega (arith, rests, le-max_left (rests_from τ (told s)) (since (told s).refresh τ.rfc)))

      on : (t : Bool) → limit ≤ head_from (act_due_from τ (told s)) (pick t (some (here a)) none)
      on true = omega (arith, free, le-max_right a.arrival (free_from τ (told s) a.kind a.bank))
      on false = omega arith

  -- so a data command that is ready keeps a REF from going
  pub ready_waits : Listed τ bs n → is_ref a.kind ≡ true → ready_from τ d (told_bank (get_or s.banks d.bank shut_kept)) s.acts < limit → limit ≤ act_head_from τ (first bs n) (told s)
  ready_waits v f r = on d.there refl
    where
      on : (t : Bool) → d.there ≡ t → limit ≤ act_head_from τ (first bs n) (told s)
      on true e = open_waits f d.bank (data_within v e) (ready_open τ d (told_bank (get_or s.banks d.bank shut_kept)) s.acts r)
      on false e = absurd (omega (arith, subst (λ (t : Bool). pick t (ready_terms τ d (told_bank (get_or s.banks d.bank shut_kept)) s.acts) limit < limit) e r))
