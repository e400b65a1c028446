-- "all data commands in queue order": each as often as it is due and none after one that the queue places later, exactly when the data records are the
-- data queue.
-- Assumes nothing.
use Prim.Native.Nat.{ℕ, zero, suc, ◌+◌, ◌≤◌, ◌<◌}
use native.Mathlib.Omega.{arith}
use mathlib.Core.Path.{◌≡◌, refl, sym, ap, ◌∙◌, subst}
use mathlib.Core.Logic.{◌↔◌, ◌⊎◌, inl, inr, ⊎_elim}
use mathlib.Core.Bool.{Bool, true, false}
use mathlib.Core.Option.{some}
use mathlib.Core.List.{List, [], ◌∷◌}
use lib.ListN.{length, get_elem?}
use Rattle.records.specs.declared.table.Table.{Table}
use Rattle.records.specs.declared.transaction.Transaction.{Transaction}
use Rattle.records.specs.declared.command.Kind.{Kind}
use Rattle.records.specs.declared.command.Command.{Command}
use Rattle.records.specs.Tests.{pick}
use Rattle.records.specs.Table.{Accepted}
use Rattle.records.specs.Transaction.{list_fits}
use Rattle.records.specs.Command.{command}
use Rattle.rules.specs.Kinds.{is_data}
use Rattle.rules.specs.State.{add_if}
use Rattle.rules.specs.Queues.{Due, due_at, act_queue, data_queue}
use Rattle.rules.proofs.laws.TestLaws.{true_false}
use Rattle.rules.proofs.laws.Numbers.{from?}
use Rattle.rules.proofs.queues.Fit.{AllFit}
use Rattle.rules.proofs.shown.Built.{each_fits}
use Rattle.serves.specs.Serves.{is_the, records_of, dues_of, due_under, Stands, Placed, EachDue, InOrder, DoesTheWork, data_records, queued, AreTheQueue, DataOnce}
use Rattle.serves.specs.Check.{key_in}
use Rattle.serves.proofs.Tests.{same_some, none_some}
use Rattle.serves.proofs.Alike.{Alike, alike_of, Found, dues_found, records_found_lem}
use Rattle.serves.proofs.Entries.{below_length, entry}
use Rattle.serves.proofs.Order.{data_counted, later_key, key_later, alike_key}
use Rattle.serves.proofs.Acts.{at_in, at_in_lem, act_no_data_at}
use Rattle.serves.proofs.Going.{data_kind_at}
use Rattle.serves.proofs.Sorted.{AllOf, all_at, Sorted, sorted_same}

-- a record without its cycle
abbrev plain : Command → Command
plain r = command 0 r.kind r.bank r.number

-- ---- counts of data commands

-- another kind is none of the command's
not_the : (k k' : Kind) (b x b' x' : ℕ) → is_data k ≡ false → is_data k' ≡ true → is_the k b x k' b' x' ≡ false
not_the k k' b x b' x' e d = on (is_the k b x k' b' x') refl
  where
    on : (z : Bool) → is_the k b x k' b' x' ≡ z → z ≡ false
    on true z = true_false (is_data k') d (ap is_data (sym (alike_of k b x k' b' x' z).kind) ∙ e)
    on false z = refl

data_records_lem : (k : Kind) (b x : ℕ) (rs : List Command) → is_data k ≡ true → records_of k b x (data_records rs) ≡ records_of k b x rs
data_records_lem k b x [] d = refl
data_records_lem k b x (r ∷ rs) d = on (is_data r.kind) refl (data_records_lem k b x rs d)
  where
    on : (z : Bool) → is_data r.kind ≡ z → records_of k b x (data_records rs) ≡ records_of k b x rs
        → records_of k b x (pick z (plain r ∷ data_records rs) (data_records rs)) ≡ add_if (is_the r.kind r.bank r.number k b x) (records_of k b x rs)
    on true z e = ap (add_if (is_the r.kind r.bank r.number k b x)) e
    on false z e = e ∙ sym (ap (λ (c : Bool). add_if c (records_of k b x rs)) (not_the r.kind k r.bank r.number b x z d))

queued_records : (k : Kind) (b x : ℕ) (q : List Due) → records_of k b x (queued q) ≡ dues_of k b x q
queued_records k b x [] = refl
queued_records k b x (d ∷ q) = ap (add_if (is_the d.kind d.bank d.number k b x)) (queued_records k b x q)

-- ---- the lists by their places

all_data : (Q : Command → Type 0) (rs : List Command) → ((i : ℕ) (r : Command) → Stands rs i r → is_data r.kind ≡ true → Q (plain r)) → AllOf Q (data_records rs)
all_data Q [] f = tt
all_data Q (r ∷ rs) f = on (is_data r.kind) refl (all_data Q rs (λ i w s. f (suc i) w s))
  where
    on : (z : Bool) → is_data r.kind ≡ z → AllOf Q (data_records rs) → AllOf Q (pick z (plain r ∷ data_records rs) (data_records rs))
    on true z a = (f 0 r refl z, a)
    on false z a = a

data_all : (Q : Command → Type 0) (rs : List Command) → AllOf Q (data_records rs) → (i : ℕ) (r : Command) → Stands rs i r → is_data r.kind ≡ true → Q (plain r)
data_all Q [] a i r s d = none_some r s
data_all Q (w ∷ rs) a zero r s d = on (is_data w.kind) refl a
  where
    same : w ≡ r
    same = same_some (some w) w r refl s

    on : (z : Bool) → is_data w.kind ≡ z → AllOf Q (pick z (plain w ∷ data_records rs) (data_records rs)) → Q (plain r)
    on true z a = subst (λ (c : Command). Q (plain c)) same a.0
    on false z a = true_false (is_data r.kind) d (ap (λ (c : Command). is_data c.kind) (sym same) ∙ z)
data_all Q (w ∷ rs) a (suc i) r s d = on (is_data w.kind) a (λ b. data_all Q rs b i r s d)
  where
    on : (z : Bool) → AllOf Q (pick z (plain w ∷ data_records rs) (data_records rs)) → (AllOf Q (data_records rs) → Q (plain r)) → Q (plain r)
    on true a ih = ih a.1
    on false a ih = ih a

all_queued : (Q : Command → Type 0) (q : List Due) → ((n : ℕ) (d : Due) → get_elem? q n ≡ some d → Q (due_at 0 d)) → AllOf Q (queued q)
all_queued Q [] f = tt
all_queued Q (d ∷ q) f = (f 0 d refl, all_queued Q q (λ n c e. f (suc n) c e))

module _ (τ : Table) (l : List Transaction) (v : AllFit τ l) where
  abbrev K : Command → ℕ
  K = key_in τ.banks (length l) (at_in l)

  -- a command of the queue, without its cycle
  abbrev Member : Command → Type 0
  Member r = Placed (data_queue τ l) r × (r.cycle ≡ 0)

  same_key : (r w : Command) → Alike r.kind r.bank r.number w.kind w.bank w.number → K r ≡ K w
  same_key = alike_key τ l v (at_in l) (at_in_lem l)

  -- two of one key are one
  key_apart : (r w : Command) → Member r → Member w → K r ≡ K w → r ≡ w
  key_apart r w (a, ea) (b, eb) e = whole (on (from? a.place b.place) (from? b.place a.place))
    where
      whole : Alike r.kind r.bank r.number w.kind w.bank w.number → r ≡ w
      whole k =
          ap (λ (t : ℕ). command t r.kind r.bank r.number) (ea ∙ sym eb)
          ∙ (ap (λ (c : Kind). command w.cycle c r.bank r.number) k.kind
          ∙ (ap (λ (c : ℕ). command w.cycle w.kind c r.number) k.bank ∙ ap (command w.cycle w.kind w.bank) k.number))

      on : (a.place < b.place) ⊎ ((d : ℕ) × (a.place ≡ b.place + d)) → (b.place < a.place) ⊎ ((d : ℕ) × (b.place ≡ a.place + d))
          → Alike r.kind r.bank r.number w.kind w.bank w.number
      on (inl z) y = like (is_the r.kind r.bank r.number w.kind w.bank w.number) refl
        where
          like : (u : Bool) → is_the r.kind r.bank r.number w.kind w.bank w.number ≡ u
              → Alike r.kind r.bank r.number w.kind w.bank w.number
          like true u = alike_of r.kind r.bank r.number w.kind w.bank w.number u
          like false u = absurd (omega (arith, e, later_key τ l v (at_in l) (at_in_lem l) r w (record { first = a; second = b; later = z; unlike = u })))
      on (inr z) (inl y) = like (is_the w.kind w.bank w.number r.kind r.bank r.number) refl
        where
          like : (u : Bool) → is_the w.kind w.bank w.number r.kind r.bank r.number ≡ u
              → Alike r.kind r.bank r.number w.kind w.bank w.number
          like true u =
              let k = alike_of w.kind w.bank w.number r.kind r.bank r.number u in
              record { kind = sym k.kind; bank = sym k.bank; number = sym k.number }
          like false u = absurd (omega (arith, e, later_key τ l v (at_in l) (at_in_lem l) w r (record { first = b; second = a; later = y; unlike = u })))
      on (inr z) (inr y) =
          let p : a.place ≡ b.place = omega (arith, z.1, y.1) in
          let d = same_some (get_elem? (data_queue τ l) b.place) a.due b.due (subst (λ (i : ℕ). get_elem? (data_queue τ l) i ≡ some a.due) p a.there)
          b.there in
          record {
            kind = a.kind ∙ (ap (λ (c : Due). c.kind) d ∙ sym b.kind);
            bank = a.bank ∙ (ap (λ (c : Due). c.bank) d ∙ sym b.bank);
            number = a.number ∙ (ap (λ (c : Due). c.number) d ∙ sym b.number);
          }

  abbrev Up : List Command → Type 0
  Up = Sorted K same_key Member key_apart

  -- ---- the queue ascends

  abbrev member : (n : ℕ) (d : Due) → get_elem? (data_queue τ l) n ≡ some d → Member (due_at 0 d)
  member n d e = (record { place = n; due = d; there = e; kind = refl; bank = refl; number = refl }, refl)

  due_up : (n n' : ℕ) (d d' : Due) → get_elem? (data_queue τ l) n ≡ some d → get_elem? (data_queue τ l) n' ≡ some d' → n < n' → K (due_at 0 d) ≤ K (due_at 0 d')
  due_up n n' d d' e e' h = on (is_the d.kind d.bank d.number d'.kind d'.bank d'.number) refl
    where
      on : (u : Bool) → is_the d.kind d.bank d.number d'.kind d'.bank d'.number ≡ u → K (due_at 0 d) ≤ K (due_at 0 d')
      on true u = omega (arith, same_key (due_at 0 d) (due_at 0 d') (alike_of d.kind d.bank d.number d'.kind d'.bank d'.number u))
      on false u =
          omega (
            arith,
            later_key τ l v (at_in l) (at_in_lem l) (due_at 0 d) (due_at 0 d')
                (record { first = (member n d e).0; second = (member n' d' e').0; later = h; unlike = u }),
          )

  queue_up : (q : List Due) → ((n n' : ℕ) (d d' : Due) → get_elem? q n ≡ some d → get_elem? q n' ≡ some d' → n < n' → K (due_at 0 d) ≤ K (due_at 0 d')) → Up (queued q)
  queue_up [] f = tt
  queue_up (d ∷ q) f = (
    all_queued (λ c. K (due_at 0 d) ≤ K c) q (λ n c e. f 0 (suc n) d c refl e (omega arith)),
    queue_up q (λ n n' c c' e e' h. f (suc n) (suc n') c c' e e' (omega (arith, h))),
  )

  -- ---- the data records ascend, exactly when they stand in queue order

  abbrev Rising : List Command → Type 0
  Rising rs = (i j : ℕ) (w r : Command) → Stands rs i w → Stands rs j r → i < j → is_data w.kind ≡ true → is_data r.kind ≡ true → K w ≤ K r

  data_up : (rs : List Command) → Rising rs → Up (data_records rs)
  data_up [] f = tt
  data_up (r ∷ rs) f = on (is_data r.kind) refl (data_up rs (λ i j w c s s' h. f (suc i) (suc j) w c s s' (omega (arith, h))))
    where
      on : (z : Bool) → is_data r.kind ≡ z → Up (data_records rs) → Up (pick z (plain r ∷ data_records rs) (data_records rs))
      on true z u = (all_data (λ c. K r ≤ K c) rs (λ i c s d. f 0 (suc i) r c refl s (omega arith) z d), u)
      on false z u = u

  up_data : (rs : List Command) → Up (data_records rs) → Rising rs
  up_data [] u i j w r s s' h dw dr = none_some w s
  up_data (c ∷ rs) u i zero w r s s' h dw dr = absurd (omega arith)
  up_data (c ∷ rs) u zero (suc j) w r s s' h dw dr = on (is_data c.kind) refl u
    where
      same : c ≡ w
      same = same_some (some c) c w refl s

      on : (z : Bool) → is_data c.kind ≡ z → Up (pick z (plain c ∷ data_records rs) (data_records rs)) → K w ≤ K r
      on true z u = omega (arith, ap K same, data_all (λ x. K c ≤ K x) rs u.0 j r s' dr)
      on false z u = true_false (is_data w.kind) dw (ap (λ (x : Command). is_data x.kind) (sym same) ∙ z)
  up_data (c ∷ rs) u (suc i) (suc j) w r s s' h dw dr = on (is_data c.kind) u (λ y. up_data rs y i j w r s s' (omega (arith, h)) dw dr)
    where
      on : (z : Bool) → Up (pick z (plain c ∷ data_records rs) (data_records rs)) → (Up (data_records rs) → K w ≤ K r) → K w ≤ K r
      on true u ih = ih u.1
      on false u ih = ih u

  -- ---- what is due of data commands stands in the data queue

  data_due_lem : (k : Kind) (b x : ℕ) → is_data k ≡ true → due_under τ l x k b ≡ dues_of k b x (data_queue τ l)
  unfolding due_under
  data_due_lem k b x d = ⊎_elim (λ z. omega (arith, z)) (λ z. none_act (dues_found k b x (act_queue τ l) (omega (arith, z.1)))) (from? (dues_of k b x (act_queue τ l)) 1)
    where
      none_act : {A : Type 0} → Found k b x (act_queue τ l) → A
      none_act f = true_false (is_data k) d (ap is_data (sym f.alike.kind) ∙ act_no_data_at τ l f.place f.due f.there)

  -- no other kind occurs among data commands
  none_other : (k : Kind) (b x : ℕ) (a : List Command) → AllOf (λ c. is_data c.kind ≡ true) a → is_data k ≡ false → records_of k b x a ≡ 0
  none_other k b x a q e = ⊎_elim (λ z. omega (arith, z)) (λ z. found (omega (arith, z.1))) (from? (records_of k b x a) 1)
    where
      found : 1 ≤ records_of k b x a → records_of k b x a ≡ 0
      found h =
          let f = records_found_lem k b x a h in
          true_false (is_data k) (ap is_data (sym f.alike.kind)
          ∙ all_at (λ c. is_data c.kind ≡ true) a q f.place f.one f.stands (λ c g u. ap (λ (y : Command). is_data y.kind) (sym g) ∙ u)) e

  data_queue_lem : AllOf (λ c. is_data c.kind ≡ true) (queued (data_queue τ l))
  data_queue_lem = all_queued (λ c. is_data c.kind ≡ true) (data_queue τ l) (λ n d e. (data_kind_at τ l v n d e).0)

  module _ (rs : List Command) where
    queue_in : AreTheQueue τ l rs → DataOnce τ l rs × InOrder τ l rs
    queue_in e = (once, order)
      where
        once : DataOnce τ l rs
        once x lt k b d h =
            sym (data_records_lem k b x rs d) ∙ (ap (records_of k b x) e ∙ (queued_records k b x (data_queue τ l) ∙ sym (data_due_lem k b x d)))

        order : InOrder τ l rs
        order i j w r s s' h p =
            let kind_at : (c : Command) → Placed (data_queue τ l) c → is_data c.kind ≡ true = λ c y. ap is_data y.kind
            ∙ (data_kind_at τ l v y.place y.due y.there).0 in
            let up = up_data rs (subst Up (sym e) (queue_up (data_queue τ l) due_up)) i j w r s s' h (kind_at w p.second) (kind_at r p.first) in
            absurd (omega (arith, up, later_key τ l v (at_in l) (at_in_lem l) r w p))

    module _ (due : EachDue τ l rs) where
      placed_at : (i : ℕ) (r : Command) → Stands rs i r → is_data r.kind ≡ true → Placed (data_queue τ l) r
      placed_at i r s d =
          let f = dues_found r.kind r.bank r.number (data_queue τ l) (data_counted τ l v (at_in l) (at_in_lem l) r.kind r.bank r.number d (due i r s)) in
          record { place = f.place; due = f.due; there = f.there; kind = sym f.alike.kind; bank = sym f.alike.bank; number = sym f.alike.number }

      plain_at : (i : ℕ) (r : Command) → Stands rs i r → is_data r.kind ≡ true → Member (plain r)
      plain_at i r s d =
          let p = placed_at i r s d in
          (record { place = p.place; due = p.due; there = p.there; kind = p.kind; bank = p.bank; number = p.number }, refl)

      rises : InOrder τ l rs → Rising rs
      rises o i j w r s s' h dw dr =
          ⊎_elim (λ z. absurd (o i j w r s s' h (key_later τ l v (at_in l) (at_in_lem l) r w (placed_at j r s' dr) (placed_at i w s dw) z))) (λ z. omega (arith, z.1))
          (from? (K r) (K w))

      as_often : DataOnce τ l rs → (k : Kind) (b x : ℕ) → is_data k ≡ true → records_of k b x rs ≡ due_under τ l x k b
      as_often o k b x d = on (from? (due_under τ l x k b) 1) (from? (records_of k b x rs) 1)
        where
          in_list : 1 ≤ due_under τ l x k b → x < length l
          in_list h =
              let f = dues_found k b x (data_queue τ l) (data_counted τ l v (at_in l) (at_in_lem l) k b x d h) in
              let e = entry τ l v f.place f.due f.there in
              omega (arith, f.alike.number, e.number, below_length l e.y e.x e.listed)

          on : (due_under τ l x k b < 1) ⊎ ((c : ℕ) × (due_under τ l x k b ≡ 1 + c)) → (records_of k b x rs < 1) ⊎ ((c : ℕ) × (records_of k b x rs ≡ 1 + c))
              → records_of k b x rs ≡ due_under τ l x k b
          on (inr z) y = o x (in_list (omega (arith, z.1))) k b d (omega (arith, z.1))
          on (inl z) (inl y) = omega (arith, z, y)
          on (inl z) (inr y) =
              let f = records_found_lem k b x rs (omega (arith, y.1)) in
              absurd (omega (
                arith,
                z,
                due f.place f.one f.stands,
                ap (λ (c : Kind). due_under τ l f.one.number c f.one.bank) f.alike.kind,
                ap (λ (c : ℕ). due_under τ l f.one.number k c) f.alike.bank,
                ap (λ (c : ℕ). due_under τ l c k b) f.alike.number,
              ))

      in_queue : DataOnce τ l rs × InOrder τ l rs → AreTheQueue τ l rs
      in_queue (once, order) =
          sorted_same K same_key Member key_apart (data_records rs) (queued (data_queue τ l)) (all_data Member rs plain_at) (all_queued Member (data_queue τ l) member)
          (data_up rs (rises order)) (queue_up (data_queue τ l) due_up) (λ k b x. counts k b x (is_data k) refl)
        where
          counts : (k : Kind) (b x : ℕ) (z : Bool) → is_data k ≡ z → records_of k b x (data_records rs) ≡ records_of k b x (queued (data_queue τ l))
          counts k b x true z = data_records_lem k b x rs z ∙ (as_often once k b x z ∙ (data_due_lem k b x z ∙ sym (queued_records k b x (data_queue τ l))))
          counts k b x false z =
              none_other k b x (data_records rs) (all_data (λ c. is_data c.kind ≡ true) rs (λ i r s d. d)) z
              ∙ sym (none_other k b x (queued (data_queue τ l)) data_queue_lem z)

      pub queue_exactly : (DataOnce τ l rs × InOrder τ l rs) ↔ AreTheQueue τ l rs
      queue_exactly = (in_queue, queue_in)

-- the data records of a schedule that does the work are the data queue
pub work_queue : (τ : Table) → Accepted τ → (l : List Transaction) → list_fits τ l ≡ true → (rs : List Command) → DoesTheWork τ l rs → AreTheQueue τ l rs
work_queue τ acc l fit rs w = (queue_exactly τ l (each_fits τ acc l fit) rs w.due).0 (λ x lt k b d h. w.once x lt k b h, w.order)
