-- A judge may keep a state in place of the records: it tells of the next record what all before it tell.
-- Assumes nothing.
use Rattle.std.specs.Prelude.{None}
use Prim.Native.Nat.{ℕ, ◌<◌}
use native.Mathlib.Numerals.{add-one}
use mathlib.Core.Path.{◌≡◌, sym, ap, ◌∙◌}
use mathlib.Core.List.{List, [], ◌∷◌}
use lib.Dec.{leb, leb-zero}
use borrow.Author.Tests.{leb-true}
use Rattle.records.specs.declared.table.Table.{Table}
use Rattle.records.specs.declared.command.Command.{Command}
use Rattle.rules.specs.declared.state.State.{State}
use Rattle.rules.specs.Kinds.{first_broken, rules_in_order}
use Rattle.rules.specs.State.{is_open, bank_of, tests_by, fresh, note, Held}
use Rattle.rules.specs.History.{in_table, later, open_in, broken}
use Rattle.rules.proofs.history.BankRules.{open_same}
use Rattle.rules.proofs.history.Link.{Sums, sums_fresh, sums_note}
use Rattle.rules.proofs.history.Judged.{holds}
use Rattle.rules.proofs.history.Legal.{below, broken_same}

-- the state sums up the records, and its cycle is the first that rule 2 lets the next one have
pub record Judging (τ : Table) (h : List Command) (s : State) : Type 0 where
  pub sums : Sums τ h s
  pub order : (t : ℕ) → later t h ≡ leb s.cycle t

pub judging_fresh : (τ : Table) → Judging τ [] (fresh τ)
judging_fresh τ = record { sums = sums_fresh τ; order = λ t. sym (leb-zero t) }

module _ (τ : Table) (fit : Held τ) (h : List Command) (s : State) (q : Judging τ h s) (r : Command) where
  pub judging_broken : broken τ r h
      ≡ first_broken (in_table τ r.kind r.bank ∷ leb s.cycle r.cycle ∷ tests_by τ s r.kind r.cycle r.bank) rules_in_order
  judging_broken = broken_same τ fit h s q.sums r (leb s.cycle r.cycle) (q.order r.cycle)

  pub judging_note : broken τ r h ≡ None → Judging τ (r ∷ h) (note τ s r.cycle r.kind r.bank)
  judging_note e =
      record {
        sums = sums_note τ fit h s q.sums r (leb-true s.cycle r.cycle (sym (q.order r.cycle) ∙ holds τ r h e 1)) (below τ fit r (holds τ r h e 0));
        order = λ t. rw (add-one r.cycle);
      }

-- rule 10
pub judging_open : (τ : Table) (h : List Command) (s : State) → Judging τ h s → (b : ℕ) → b < 16 → open_in b h ≡ is_open (bank_of s b)
judging_open τ h s q b l = open_same b h ∙ ap is_open (sym (q.sums.bank b l))
