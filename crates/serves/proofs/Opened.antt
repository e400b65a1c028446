-- In a schedule that the judge accepts the records are in the table, and a data command's bank has had an ACT.
-- Assumes nothing.
use Rattle.std.specs.Prelude.{None}
use Prim.Native.Nat.{ℕ}
use mathlib.Core.Path.{◌≡◌, refl, subst}
use mathlib.Core.Logic.{inl, inr}
use mathlib.Core.Bool.{Bool, true, false, ◌&&◌}
use mathlib.Core.Option.{Option, none, some}
use mathlib.Core.List.{List, [], ◌∷◌}
use lib.Dec.{eqb}
use lib.ListN.{take}
use borrow.Author.Tests.{eqb-true}
use Rattle.records.specs.declared.table.Table.{Table}
use Rattle.records.specs.declared.command.Kind.{Kind}
use Rattle.records.specs.declared.command.Kind.TheVariants.{Act, Rd, Rda, Wr, Wra, Ref, Other}
use Rattle.records.specs.declared.command.Command.{Command}
use Rattle.records.specs.Tests.{pick, all_of}
use Rattle.rules.specs.Kinds.{is_act, is_data}
use Rattle.rules.specs.History.{in_table, open_after, open_in, data_rules, rules_by, broken}
use Rattle.rules.specs.Pattern.{onto}
use Rattle.rules.specs.Verdict.{Legal}
use Rattle.rules.proofs.laws.TestLaws.{true_false}
use Rattle.rules.proofs.queues.Heads.{test_at}
use Rattle.rules.proofs.history.Judged.{LegalHistory, holds, accepted_legal}
use Rattle.serves.specs.Serves.{Stands, latest_act}
use Rattle.serves.proofs.Records.{Somewhere, before_at}

-- the records before one, and it, are lawful
pub record Lawful (τ : Table) (r : Command) (h : List Command) : Type 0 where
  pub fine : broken τ r h ≡ None
  pub before : LegalHistory τ h

-- what holds of each record of a legal history, with those before it
at_each : (τ : Table) (h : List Command) (P : Command → List Command → Type 0) → ((r : Command) (t : List Command) → Lawful τ r t → P r t)
    → (r : Command) (t : List Command)
    → LegalHistory τ h → Somewhere (λ w u. (w ≡ r) × (u ≡ t)) h → P r t
at_each τ [] P f r t k w = absurd w
at_each τ (c ∷ h) P f r t k (inl (e, e')) =
    subst (λ (z : Command). P z t) e (subst (λ (z : List Command). P c z) e' (f c h (record { fine = k.0; before = k.1 })))
at_each τ (c ∷ h) P f r t k (inr w) = at_each τ h P f r t k.1 w

module _ (τ : Table) (rs : List Command) (legal : Legal τ rs) where
  pub lawful : LegalHistory τ (onto rs [])
  lawful = (accepted_legal τ rs 0 [] tt legal).0

  pub stands_lawful : (i : ℕ) (r : Command) → Stands rs i r → Lawful τ r (onto (take i rs) [])
  stands_lawful i r s =
      at_each τ (onto rs []) (Lawful τ) (λ r t w. w) r (onto (take i rs) []) lawful
      (before_at (λ w u. (w ≡ r) × (u ≡ onto (take i rs) [])) rs [] i r s (refl, refl))

pub lawful_in : (τ : Table) (r : Command) (h : List Command) → Lawful τ r h → in_table τ r.kind r.bank ≡ true
lawful_in τ r h w = holds τ r h w.fine 0

-- ---- an ACT before a data command

-- there is an ACT
abbrev HasAct : Option ℕ → Type 0
HasAct none = ⊥
HasAct (some y) = Unit {0}

module _ (τ : Table) where
  -- rule 3 for a data command
  data_open : (k : Kind) (t b : ℕ) (h : List Command) → is_data k ≡ true → all_of (rules_by τ k t b h) ≡ true → open_in b h ≡ true
  data_open Act t b h d e = true_false false d refl
  data_open Rd t b h d e = test_at (data_rules τ false t b h) 0 e
  data_open Rda t b h d e = test_at (data_rules τ false t b h) 0 e
  data_open Wr t b h d e = test_at (data_rules τ true t b h) 0 e
  data_open Wra t b h d e = test_at (data_rules τ true t b h) 0 e
  data_open Ref t b h d e = true_false false d refl
  data_open (Other n) t b h d e = true_false false d refl

  -- a bank that is open has had one
  open_act : (b : ℕ) (h : List Command) → LegalHistory τ h → open_in b h ≡ true → HasAct (latest_act b h)
  open_act b [] k e = true_false false e refl
  open_act b (r ∷ h) k e = on (eqb r.bank b) refl e (open_act b h k.1)
    where
      by : (c : Kind) → open_after c (open_in b h) ≡ true → all_of (rules_by τ c r.cycle b h) ≡ true → (open_in b h ≡ true → HasAct (latest_act b h))
          → HasAct (pick (is_act c) (some r.number) (latest_act b h))
      by Act e f ih = tt
      by Rd e f ih = ih (data_open Rd r.cycle b h refl f)
      by Rda e f ih = true_false false e refl
      by Wr e f ih = ih (data_open Wr r.cycle b h refl f)
      by Wra e f ih = true_false false e refl
      by Ref e f ih = ih e
      by (Other n) e f ih = ih e

      on : (z : Bool) → eqb r.bank b ≡ z → pick z (open_after r.kind (open_in b h)) (open_in b h) ≡ true → (open_in b h ≡ true → HasAct (latest_act b h))
          → HasAct (pick (z && is_act r.kind) (some r.number) (latest_act b h))
      on true z e ih = by r.kind e (subst (λ (c : ℕ). all_of (rules_by τ r.kind r.cycle c h) ≡ true) (eqb-true r.bank b z) (holds τ r h k.0 2)) ih
      on false z e ih = ih e

  -- so a data command finds one
  pub opened : (r : Command) (h : List Command) → Lawful τ r h → is_data r.kind ≡ true → (y : ℕ) × (latest_act r.bank h ≡ some y)
  opened r h w d =
      on (latest_act r.bank h) refl
      (open_act r.bank h w.before (data_open r.kind r.cycle r.bank h d (holds τ r h w.fine 2)))
    where
      on : (o : Option ℕ) → latest_act r.bank h ≡ o → HasAct o → (y : ℕ) × (latest_act r.bank h ≡ some y)
      on none e a = absurd a
      on (some y) e a = (y, e)
