-- A table of 40 bytes that has one group, each long number equal to its short one, is answered as the 32 bytes before.
-- Assumes nothing.
use Rattle.std.specs.Prelude.{Result, Ok, Err}
use Rattle.records.specs.declared.refusal.Refusal.{Refusal}
use Prim.Native.Nat.{ℕ, zero, suc, ◌+◌, ◌*◌, ◌≤◌}
use native.Mathlib.Omega.{arith}
use mathlib.Core.Bool.{Bool, true}
use mathlib.Core.Path.{◌≡◌, refl, sym, ap, ◌∙◌, subst}
use mathlib.Core.Logic.{◌↔◌}
use mathlib.Core.List.{List, ◌∷◌}
use lib.Dec.{eqb}
use lib.ListN.{length, get_or, take, length-take}
use lib.Seq.{get_or-take}
use Rattle.records.specs.declared.table.Table.{Table}
use Rattle.records.specs.Tests.{pick}
use Rattle.records.specs.Told.{refusal}
use Rattle.records.specs.Little.{le16, num}
use Rattle.records.specs.Table.{table_of, with_groups, plain_table_at, table_at, table_size, table_refusal_by, read_table}
use Rattle.records.proofs.Inverse.{plain_at, group_at_lem, numbers_from}
use Rattle.promises.specs.Admit.{expecting, admitted}
use Rattle.promises.specs.Judging.{judging, PatternTold}
use Rattle.promises.specs.Tracing.{capturing}
use Rattle.promises.specs.Bounds.{bounding}
use Rattle.promises.specs.Transactions.{reading}
use Rattle.promises.specs.Schedules.{Schedules}
use Rattle.promises.specs.Running.{starting, running}
use Rattle.demands.specs.OneGroup.{OneGroupBytes, OneGroupAnswers}

-- the numbers of the first 32 bytes are those of all
same_numbers : (s : List ℕ) (n at : ℕ) → at + 2 * n ≤ 32 → numbers_from n at (take 32 s) ≡ numbers_from n at s
same_numbers s zero at h = refl
same_numbers s (suc n) at h =
    ap (λ (x : ℕ). le16 x (get_or (take 32 s) (at + 1) 0) ∷ numbers_from n (at + 2) (take 32 s)) (get_or-take 32 s at 0 (omega arith))
    ∙ ap (λ (x : ℕ). le16 (get_or s at 0) x ∷ numbers_from n (at + 2) (take 32 s)) (get_or-take 32 s (at + 1) 0 (omega arith))
    ∙ ap (λ (l : List ℕ). num s at ∷ l) (same_numbers s n (at + 2) (omega arith))

same_plain : (s : List ℕ) → plain_table_at (take 32 s) ≡ plain_table_at s
same_plain s = ap table_of (same_numbers s 16 0 (omega arith))

module _ (s : List ℕ) (h : OneGroupBytes s) where
  as_plain : table_at s ≡ plain_table_at s
  as_plain =
      let p = plain_table_at s in
      group_at_lem s h.size
      ∙ ap (λ (n : ℕ). with_groups p n (num s 34) (num s 36) (num s 38)) h.groups
      ∙ ap (λ (n : ℕ). with_groups p 1 n (num s 36) (num s 38)) h.ccd
      ∙ ap (λ (n : ℕ). with_groups p 1 (num s 6) n (num s 38)) h.rrd
      ∙ ap (λ (n : ℕ). with_groups p 1 (num s 6) (num s 16) n) h.wtr

  first : length (take 32 s) ≡ 32
  first = omega (arith, length-take 32 s, h.size)

  same_table : table_at s ≡ table_at (take 32 s)
  same_table = as_plain ∙ sym (same_plain s) ∙ sym (plain_at (take 32 s) first)

  -- by whether the size is right, and the table
  abbrev by : Bool → Table → Result Table Refusal
  by right t = let z = table_refusal_by right t in pick (eqb z 0) (Ok t) (Err (refusal z 0 0))

  same_read : read_table s ≡ read_table (take 32 s)
  unfolding read_table
  same_read =
      ap (λ (n : ℕ). by (table_size n) (table_at s)) h.size
      ∙ ap (by true) same_table
      ∙ ap (λ (n : ℕ). by (table_size n) (table_at (take 32 s))) (sym first)

  same_admitted : (expected : ℕ) → admitted expected s ≡ admitted expected (take 32 s)
  unfolding admitted
  same_admitted expected = ap (expecting expected) same_read

both_ways : (P : Result Table Refusal → Type 0) (a b : Result Table Refusal) → a ≡ b → P a ↔ P b
both_ways P a b e = (subst P e, subst P (sym e))

pub one_group_answers : OneGroupAnswers
one_group_answers expected table h =
    let e = same_admitted table h expected in
    let a = admitted expected table in
    let p = admitted expected (take 32 table) in
    record {
      judge = λ s. ap (λ (z : Result Table Refusal). judging z s) e;
      pattern = λ s L r. both_ways (λ (z : Result Table Refusal). PatternTold z s L r) a p e;
      capture = λ s b. ap (λ (z : Result Table Refusal). capturing z s b) e;
      bound = λ bi bc. ap (λ (z : Result Table Refusal). bounding z bi bc) e;
      read = λ later s l. ap (λ (z : Result Table Refusal). reading later z s l) e;
      schedule = λ check l b₀ b f₀ f r. both_ways (λ (z : Result Table Refusal). Schedules check z l b₀ b f₀ f r) a p e;
      start = ap starting e;
      run = λ check c l n b. ap (λ (z : Result Table Refusal). running check z c l n b) e;
    }
