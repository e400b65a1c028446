-- What the proofs of the leaves cite.
-- Assumes nothing.
use Rattle.std.specs.Prelude.{Some, None}
use Rattle.rules.specs.Types.{Stamp}
use Prim.Native.Nat.{ℕ, ◌≤◌, ◌<◌}
use mathlib.Core.Path.{◌≡◌, refl, sym, ap, ◌∙◌}
use mathlib.Core.Logic.{inl}
use mathlib.Core.Bool.{Bool, true, false, not, and-true}
use mathlib.Core.List.{List, [], ◌∷◌}
use native.Mathlib.Omega.{arith}
use lib.ListN.{get_or}
use borrow.Author.Tests.{le-leb, lt-leb}
use Rattle.records.specs.Tests.{pick}
use Rattle.records.specs.declared.table.Table.{Table}
use Rattle.records.specs.declared.command.Kind.{Kind}
use Rattle.records.specs.declared.command.Kind.TheVariants.{Act, Rd, Rda, Wr, Wra, Ref, Other}
use Rattle.rules.specs.declared.state.Bank.{Bank}
use Rattle.rules.specs.declared.state.Group.{Group}
use Rattle.rules.specs.declared.state.State.{State}
use Rattle.rules.specs.declared.verdict.Rule.TheVariants.{Range, Order, Opened, Precharge, Rc, Rrd, Faw, Rcd, Distance, Refresh, Rfc}
use Rattle.rules.specs.Kinds.{is_act, is_wr, is_ref, is_known, first_broken, rules_in_order}
use Rattle.rules.specs.Square.{group_of, square}
use Rattle.rules.specs.State.{past, is_open, bank_of, quiet, charged, acts_far, far_by, data_far, rule11, act_tests_of, refresh_tests_of, data_tests_of, tests_by}
use Rattle.rules.specs.History.{in_table}
use Rattle.rules.proofs.laws.TestLaws.{true_false}
use Rattle.grouped.proofs.Grouped.{acts_first, data_first}
use Rattle.broken.specs.ByState.{found_by, groups_far, own_far, tests_on, found_on, found_ref}

-- the rules that an ACT, a REF, and a data command, can break, one after the other
act_tests_lem : (a b c d e f : Bool)
    → pick a (pick b (pick c (pick d (pick e (pick f None (Some Rfc)) (Some Faw)) (Some Rrd)) (Some Rc)) (Some Precharge)) (Some Opened)
    ≡ first_broken (true ∷ true ∷ a ∷ b ∷ c ∷ d ∷ e ∷ true ∷ true ∷ true ∷ f ∷ []) rules_in_order
act_tests_lem false b c d e f = refl
act_tests_lem true false c d e f = refl
act_tests_lem true true false d e f = refl
act_tests_lem true true true false e f = refl
act_tests_lem true true true true false f = refl
act_tests_lem true true true true true false = refl
act_tests_lem true true true true true true = refl

pub refresh_order : (a b : Bool) → pick a (pick b None (Some Rfc)) (Some Refresh) ≡ first_broken (true ∷ true ∷ refresh_tests_of a b) rules_in_order
refresh_order false b = refl
refresh_order true false = refl
refresh_order true true = refl

data_tests_lem : (a b c : Bool)
    → pick a (pick b (pick c None (Some Distance)) (Some Rcd)) (Some Opened)
    ≡ first_broken (true ∷ true ∷ a ∷ true ∷ true ∷ true ∷ true ∷ b ∷ c ∷ []) rules_in_order
data_tests_lem false b c = refl
data_tests_lem true false c = refl
data_tests_lem true true false = refl
data_tests_lem true true true = refl

pub act_order : (τ : Table) (k : Bank) (keeps6 : Bool) (a4 : Stamp) (keeps12 : Bool) (t : ℕ)
    → pick (not (is_open k)) (pick (charged τ k t) (pick (past k.act τ.rc t) (pick keeps6 (pick (past a4 τ.faw t) (pick keeps12 None (Some Rfc)) (Some Faw)) (Some Rrd)) (Some Rc)) (Some Precharge)) (Some Opened)
    ≡ first_broken (true ∷ true ∷ act_tests_of τ k keeps6 (past a4 τ.faw t) keeps12 t) rules_in_order
act_order τ k keeps6 a4 keeps12 t = act_tests_lem (not (is_open k)) (charged τ k t) (past k.act τ.rc t) keeps6 (past a4 τ.faw t) keeps12

pub data_order : (τ : Table) (k : Bank) (keeps9 : Bool) (t : ℕ)
    → pick (is_open k) (pick (past k.act τ.rcd t) (pick keeps9 None (Some Distance)) (Some Rcd)) (Some Opened)
    ≡ first_broken (true ∷ true ∷ data_tests_of τ k keeps9 t) rules_in_order
data_order τ k keeps9 t = data_tests_lem (is_open k) (past k.act τ.rcd t) keeps9

-- the rules of a record that is no REF, in the order in which the code comes to them
module _ (τ : Table) (cycle : ℕ) (k : Bank) (far : Bool) (a4 : Stamp) (refresh : Stamp) (kind : Kind) (t : ℕ) where
  pub found_order : t < cycle → Some Order ≡ found_on τ cycle k far a4 refresh kind t
  unfolding found_on
  found_order l = rw (lt-leb cycle t l)

  told : cycle ≤ t → (ts : List Bool) → ts ≡ tests_on τ k far a4 refresh kind t → first_broken (true ∷ true ∷ ts) rules_in_order ≡ found_on τ cycle k far a4 refresh kind t
  unfolding found_on
  told l ts u = rw (le-leb cycle t l, u)

  abbrev act_list : Bool → List Bool
  act_list keeps6 = act_tests_of τ k keeps6 (past a4 τ.faw t) (past refresh τ.rfc t) t

  act_told : (x : Kind) → is_act x ≡ true → act_list far ≡ tests_on τ k far a4 refresh x t
  act_told Act a = refl
  act_told Rd a = true_false false a refl
  act_told Rda a = true_false false a refl
  act_told Wr a = true_false false a refl
  act_told Wra a = true_false false a refl
  act_told Ref a = true_false false a refl
  act_told (Other n) a = true_false false a refl

  data_told : (x : Kind) → is_known x ≡ true → is_act x ≡ false → is_ref x ≡ false → data_tests_of τ k far t ≡ tests_on τ k far a4 refresh x t
  data_told Act n a f = true_false true refl a
  data_told Rd n a f = refl
  data_told Rda n a f = refl
  data_told Wr n a f = refl
  data_told Wra n a f = refl
  data_told Ref n a f = true_false true refl f
  data_told (Other m) n a f = true_false false n refl

  pub found_act : cycle ≤ t → is_act kind ≡ true → (keeps6 : Bool) → keeps6 ≡ far → first_broken (true ∷ true ∷ act_list keeps6) rules_in_order ≡ found_on τ cycle k far a4 refresh kind t
  found_act l a keeps6 e = told l (act_list keeps6) (ap act_list e ∙ act_told kind a)

  pub found_data : cycle ≤ t → is_known kind ≡ true → is_act kind ≡ false → is_ref kind ≡ false → (keeps9 : Bool) → keeps9 ≡ far
      → first_broken (true ∷ true ∷ data_tests_of τ k keeps9 t) rules_in_order ≡ found_on τ cycle k far a4 refresh kind t
  found_data l n a f keeps9 e = told l (data_tests_of τ k keeps9 t) (ap (λ (b : Bool). data_tests_of τ k b t) e ∙ data_told kind n a f)

-- and of a REF
module _ (τ : Table) (cycle : ℕ) (rests : Bool) (refresh : Stamp) (t : ℕ) where
  pub ref_order : t < cycle → Some Order ≡ found_ref τ cycle rests refresh t
  unfolding found_ref
  ref_order l = rw (lt-leb cycle t l)

  pub ref_told : cycle ≤ t → (keeps12 : Bool) → keeps12 ≡ past refresh τ.rfc t → first_broken (true ∷ true ∷ refresh_tests_of rests keeps12) rules_in_order ≡ found_ref τ cycle rests refresh t
  unfolding found_ref
  ref_told l keeps12 e = on (refresh_tests_of rests keeps12) (rw e)
    where
      on : (ts : List Bool) → ts ≡ refresh_tests_of rests (past refresh τ.rfc t) → first_broken (true ∷ true ∷ ts) rules_in_order ≡ found_ref τ cycle rests refresh t
      on ts u = rw (le-leb cycle t l, u)

-- rules 6 and 9 over the groups, by the kind
module _ (τ : Table) (gs : List Group) (own : ℕ) (k : Kind) (t : ℕ) where
  pub far_act_lem : is_act k ≡ true → acts_far τ gs own t ≡ groups_far τ gs own k t
  far_act_lem e = rw e

  pub far_data_lem : is_act k ≡ false → (w : Bool) → w ≡ is_wr k → data_far τ gs own w t ≡ groups_far τ gs own k t
  far_data_lem e w f = rw (e, f)

-- by one group
module _ (τ : Table) (own : Group) (k : Kind) (t : ℕ) where
  pub own_act : is_act k ≡ true → past own.act τ.rrdl t ≡ own_far τ own k t
  own_act e = rw e

  pub own_data : is_act k ≡ false → (q : List (List ℕ)) → q ≡ square τ true → far_by q own.rd own.wr (is_wr k) t ≡ own_far τ own k t
  own_data e q f = rw (e, f)

-- one group is all groups, where the table has one
pub one_far : (τ : Table) → τ.groups ≡ 1 → (gs : List Group) (k : Kind) (t : ℕ) → own_far τ (get_or gs 0 quiet) k t ≡ groups_far τ gs 0 k t
one_far τ one gs k t =
    let l : 0 < τ.groups = omega arith in
    ap (λ (b : Bool). pick (is_act k) b (far_by (square τ true) (get_or gs 0 quiet).rd (get_or gs 0 quiet).wr (is_wr k) t))
    (sym (and-true _) ∙ acts_first τ gs 0 t l true (inl (one, refl)))
    ∙ ap (λ (b : Bool). pick (is_act k) (acts_far τ gs 0 t) b) (sym (and-true _) ∙ data_first τ gs 0 t l true (is_wr k) (inl (one, refl)))

-- the rules of a record, of a whole state
module _ (τ : Table) (s : State) (k : Kind) (t b : ℕ) where
  pub found_range : in_table τ k b ≡ false → Some Range ≡ found_by τ s k t b
  unfolding found_by
  found_range e = rw e

  parts : (x : Kind) → is_ref x ≡ false → tests_on τ (bank_of s b) (groups_far τ s.groups (group_of τ b) x t) s.a4 s.refresh x t ≡ tests_by τ s x t b
  parts Act f = refl
  parts Rd f = refl
  parts Rda f = refl
  parts Wr f = refl
  parts Wra f = refl
  parts Ref f = true_false true refl f
  parts (Other n) f = refl

  pub found_parts : in_table τ k b ≡ true → is_ref k ≡ false → (far : Bool) → far ≡ groups_far τ s.groups (group_of τ b) k t
      → found_on τ s.cycle (bank_of s b) far s.a4 s.refresh k t ≡ found_by τ s k t b
  unfolding found_by found_on
  found_parts e f far p = rw (e, p, parts k f)

  ref_parts : (x : Kind) → is_ref x ≡ true → refresh_tests_of (rule11 τ s t) (past s.refresh τ.rfc t) ≡ tests_by τ s x t b
  ref_parts Act f = true_false false f refl
  ref_parts Rd f = true_false false f refl
  ref_parts Rda f = true_false false f refl
  ref_parts Wr f = true_false false f refl
  ref_parts Wra f = true_false false f refl
  ref_parts Ref f = refl
  ref_parts (Other n) f = true_false false f refl

  pub found_refresh : in_table τ k b ≡ true → is_ref k ≡ true → (rests : Bool) → rests ≡ rule11 τ s t → found_ref τ s.cycle rests s.refresh t ≡ found_by τ s k t b
  unfolding found_by found_ref
  found_refresh e f rests r = rw (e, r, ref_parts k f)
