-- What has gone by the cycle rule: each record is due, its bank was opened for it, data commands stand in queue order, REFs in their place.
-- Assumes nothing.
use Prim.Native.Nat.{ℕ, zero, suc, ◌+◌, ◌%◌, ◌≤◌, ◌<◌}
use native.Mathlib.Omega.{arith}
use mathlib.Core.Path.{◌≡◌, refl, ap, ◌∙◌}
use mathlib.Core.Bool.{Bool, true, false}
use mathlib.Core.Option.{some}
use mathlib.Core.List.{List, [], ◌∷◌}
use lib.Dec.{eqb}
use lib.ListN.{get_elem?, take}
use Rattle.records.specs.declared.table.Table.{Table}
use Rattle.records.specs.declared.transaction.Transaction.{Transaction}
use Rattle.records.specs.declared.command.Kind.{Kind}
use Rattle.records.specs.declared.command.Kind.TheVariants.{Ref}
use Rattle.records.specs.declared.command.Command.{Command}
use Rattle.records.specs.Transaction.{is_write}
use Rattle.rules.specs.Kinds.{is_act, is_ref, is_data}
use Rattle.rules.specs.State.{add_if}
use Rattle.rules.specs.Queues.{Due, act_queue, data_queue}
use Rattle.rules.proofs.queues.Fit.{AllFit}
use Rattle.rules.proofs.laws.DataKinds.{is_data_lem, no_act, no_ref}
use Rattle.serves.specs.Serves.{is_the, records_of, dues_of, due_under, latest_act, PlacesLater}
use Rattle.serves.proofs.Tests.{same_some, none_some}
use Rattle.serves.proofs.Records.{In}
use Rattle.serves.proofs.Entries.{entry}

-- one command more of a queue
dues_suc : (k : Kind) (b y : ℕ) (q : List Due) (n : ℕ) (x : Due) → get_elem? q n ≡ some x
    → dues_of k b y (take (suc n) q) ≡ add_if (is_the x.kind x.bank x.number k b y) (dues_of k b y (take n q))
dues_suc k b y [] n x e = none_some x e
dues_suc k b y (w ∷ q) zero x e = let ex : w ≡ x = same_some (some w) w x refl e in rw ex
dues_suc k b y (w ∷ q) (suc n) x e =
    ap (add_if (is_the w.kind w.bank w.number k b y)) (dues_suc k b y q n x e)
    ∙ swap (is_the w.kind w.bank w.number k b y) (is_the x.kind x.bank x.number k b y) (dues_of k b y (take n q))
  where
    swap : (c d : Bool) (m : ℕ) → add_if c (add_if d m) ≡ add_if d (add_if c m)
    swap true true m = refl
    swap true false m = refl
    swap false true m = refl
    swap false false m = refl

pub dues_more : (k : Kind) (b y : ℕ) (q : List Due) (n : ℕ) (x : Due) → get_elem? q n ≡ some x
    → dues_of k b y (take (n + 1) q) ≡ add_if (is_the x.kind x.bank x.number k b y) (dues_of k b y (take n q))
dues_more k b y q n x e = let z : n + 1 ≡ suc n = omega arith in ap (λ (m : ℕ). dues_of k b y (take m q)) z ∙ dues_suc k b y q n x e

pub more_left : (c : Bool) (m a b a' : ℕ) → m ≡ a + b → a' ≡ add_if c a → add_if c m ≡ a' + b
more_left true m a b a' p u = omega (arith, p, u)
more_left false m a b a' p u = omega (arith, p, u)

pub more_right : (c : Bool) (m a b b' : ℕ) → m ≡ a + b → b' ≡ add_if c b → add_if c m ≡ a + b'
more_right true m a b b' p u = omega (arith, p, u)
more_right false m a b b' p u = omega (arith, p, u)

module _ (τ : Table) (l : List Transaction) where
  pub record GoodAt (r : Command) (t : List Command) : Type 0 where
    pub due : 1 ≤ due_under τ l r.number r.kind r.bank
    pub opened : is_data r.kind ≡ true → latest_act r.bank t ≡ some r.number
    pub order : (w : Command) → In w t → PlacesLater (data_queue τ l) r w → ⊥
    pub ref_last : r.kind ≡ Ref → (w : Command) → In w t → w.number ≤ r.number
    pub ref_first : (w : Command) → In w t → w.kind ≡ Ref → w.number ≤ r.number

  abbrev pub Good : List Command → Type 0
  Good [] = Unit {0}
  Good (r ∷ t) = GoodAt r t × Good t

  -- w is a command of the data queue before place d; its number stands in the ACT queue before place a
  pub record DataBefore (d : ℕ) (w : Command) : Type 0 where
    pub place : ℕ
    pub due : Due
    pub lt : place < d
    pub there : get_elem? (data_queue τ l) place ≡ some due
    pub kind : w.kind ≡ due.kind
    pub bank : w.bank ≡ due.bank
    pub number : w.number ≡ due.number

  pub record NumberBefore (a : ℕ) (w : Command) : Type 0 where
    pub place : ℕ
    pub due : Due
    pub lt : place < a
    pub there : get_elem? (act_queue τ l) place ≡ some due
    pub number : w.number ≡ due.number

  -- a commands of the ACT queue and d of the data queue have gone
  pub record Going (a d : ℕ) (h : List Command) : Type 0 where
    pub good : Good h
    pub counts : (k : Kind) (b x : ℕ) → records_of k b x h ≡ dues_of k b x (take a (act_queue τ l)) + dues_of k b x (take d (data_queue τ l))
    pub datas : (w : Command) → In w h → is_data w.kind ≡ true → DataBefore d w
    pub numbers : (w : Command) → In w h → NumberBefore a w
    pub held : (j : ℕ) (x : Due) → d ≤ j → get_elem? (data_queue τ l) j ≡ some x → x.act < a → latest_act x.bank h ≡ some x.number
    pub refs : (w : Command) → In w h → w.kind ≡ Ref → (j : ℕ) (x : Due) → d ≤ j → get_elem? (data_queue τ l) j ≡ some x → w.number ≤ x.number

  pub going_none : Going 0 0 []
  going_none =
      record {
        good = tt;
        counts = λ k b x. refl;
        datas = λ w i e. absurd i;
        numbers = λ w i. absurd i;
        held = λ j x h e z. absurd (omega (arith, z));
        refs = λ w i e. absurd i;
      }

  pub of_later : (a : ℕ) (w : Command) → NumberBefore a w → NumberBefore (a + 1) w
  of_later a w n = record { place = n.place; due = n.due; lt = omega (arith, n.lt); there = n.there; number = n.number }

  -- a data command is none of the ACT queue
  pub data_kind_at : AllFit τ l → (n : ℕ) (x : Due) → get_elem? (data_queue τ l) n ≡ some x
      → (is_data x.kind ≡ true) × (is_act x.kind ≡ false) × (is_ref x.kind ≡ false)
  data_kind_at v n x e =
      let a = entry τ l v n x e in
      let w = is_write a.x in
      let z = eqb (a.o % a.x.bc + 1) a.x.bc in
      (ap is_data a.kind ∙ is_data_lem w z, ap is_act a.kind ∙ no_act w z, ap is_ref a.kind ∙ no_ref w z)
