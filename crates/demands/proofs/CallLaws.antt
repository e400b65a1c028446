-- Laws for the list of worked calls: what every answer that keeps a promise tells, and calls by the length of their bytes alone.
-- Assumes nothing.
use Rattle.std.specs.Prelude.{Result, Ok, Err}
use Rattle.rules.specs.declared.verdict.Verdict.{Verdict}
use Rattle.records.specs.declared.refusal.Refusal.{Refusal}
use Rattle.rules.specs.declared.verdict.PatternVerdict.{PatternVerdict}
use Prim.Native.Nat.{ℕ, zero, suc, ◌*◌, ◌%◌, ◌/◌}
use native.Mathlib.Omega.{arith}
use mathlib.Core.Bool.{Bool, true, false, not, ◌||◌}
use mathlib.Core.Path.{◌≡◌, refl, sym, ap, subst}
use mathlib.Core.List.{List, [], ◌∷◌}
use lib.Dec.{ltb, eqb}
use lib.ListN.{length, replicate}
use borrow.Author.Tests.{le-ltb}
use Rattle.records.specs.declared.transaction.Transaction.{Transaction}
use Rattle.records.specs.Tests.{pick}
use Rattle.records.specs.Told.{refusal, first_failed, over}
use Rattle.records.specs.declared.command.Kind.TheVariants.{Act, Ref}
use Rattle.records.specs.Table.{read_table}
use Rattle.records.specs.Transaction.{record_size, list_of, fits_from}
use Rattle.records.specs.Command.{command, commands_in, bytes_of_all}
use Rattle.records.specs.House.{table_a, table_b, table_d}
use Rattle.rules.specs.declared.verdict.Rule.TheVariants.{Precharge, Rrd, Faw, End, Rfc}
use Rattle.rules.specs.declared.verdict.PatternVerdict.TheVariants.{Accepted as AllPassed, Refused as BrokenAt}
use Rattle.rules.specs.Verdict.{judge}
use Rattle.rules.specs.Pattern.{copies}
use Rattle.rules.specs.Worked.{table_r, one}
use Rattle.rules.specs.WorkedGroups.{one_group}
use Rattle.judge.specs.Answer.{schedule_refusal, judged}
use Rattle.stamps.specs.Capture.{timed_in, lowest}
use Rattle.capture.specs.Answer.{not_a_capture, capture_count, commands_seen, capture_refusal, position_of, Captured, captured}
use Rattle.lists.specs.Check.{range_from, check_list, check_bytes, check_into}
use Rattle.lists.specs.Decode.{decoded_by, decoding}
use Rattle.promises.specs.Admit.{admitted}
use Rattle.promises.specs.Judging.{judging, PatternTold}
use Rattle.promises.specs.Tracing.{capturing}
use Rattle.promises.specs.Transactions.{reading}
use Rattle.promises.specs.Schedules.{BuildsChecked, Schedules}
use Rattle.promises.specs.Running.{runs_checked, running}
use Rattle.promises.specs.Numbers.{Numbers, judged_numbers, pattern_numbers, capture_numbers, read_numbers, build_numbers, run_numbers}
use Rattle.demands.specs.Causes.{row, FirstRow, lowest_out, few_bytes, few_into}
use Rattle.demands.specs.Handed.{A, told, judges_bytes, Patterns, Traces, reads, Builds, BuildsBytes, runs_bytes}
use Rattle.promises.proofs.Unique.{only}
use Rattle.demands.proofs.Causes.{causes}
use Rattle.controller.specs.declared.controller.Controller.{Controller}

infixr 4 ◌⨾◌
-- a proof of the first statement, and of the rest
abbrev pub ◌⨾◌ : {P Q : Type 0} → P → Q → P × Q
p ⨾ ps = (p, ps)

-- ---- what every answer that keeps a promise tells is what one does

pub pattern_tells : (e : ℕ) (t s : List ℕ) (L : ℕ) (v : Result (ℕ × PatternVerdict) Refusal) → PatternTold (admitted e t) s L v → Patterns e t s L (pattern_numbers v)
pattern_tells e t s L v w r p = ap pattern_numbers ((only e t).judge_pattern s L r v p w)

module _ (e : ℕ) (t b₀ f₀ b f : List ℕ) (v : Result (ℕ × ℕ) Refusal) where
  pub build_tells : (l : List Transaction) → Schedules (λ τ. check_list τ l) (admitted e t) l b₀ b f₀ f v → Builds e t l b₀ f₀ (build_numbers v) b f
  build_tells l w r b' f' p = let q = (only e t).schedule l b₀ f₀ r v b' b f' f p w in (ap build_numbers q.0, q.1, q.2)

  pub bytes_tell : (later : Bool) (s : List ℕ) → Schedules (λ τ. check_bytes later τ s) (admitted e t) (list_of later s) b₀ b f₀ f v
      → BuildsBytes later e t s b₀ f₀ (build_numbers v) b f
  bytes_tell later s w r b' f' p = let q = (only e t).schedule_bytes later s b₀ f₀ r v b' b f' f p w in (ap build_numbers q.0, q.1, q.2)

-- a number that is not 0
pub some : (n : ℕ) → suc n ≡ 0 → ⊥
some n e = omega arith

-- ---- by length alone

pub few_records : (s : List ℕ) → length s ≡ 557056 → (judges_bytes 7 A s).refused ≡ 0
few_records s e =
    (subst (λ (n : ℕ). FirstRow (row 7 0 (not (eqb (n % 8) 0) || ltb 69632 (n / 8)) ∷ []) (judges_bytes 7 A s)) e ((causes 7 A).judge s)).0

pub many_records : (s : List ℕ) → length s ≡ 557064 → judges_bytes 7 A s ≡ told 7 0 7
unfolding admitted read_table judging judged
many_records s e = by (schedule_refusal (length s)) (Ok (7, judge table_a (commands_in s))) (ap schedule_refusal e)
  where
    by : (z : ℕ) (x : Result (ℕ × Verdict) Refusal) → z ≡ 7 → judged_numbers (pick (eqb z 0) x (Err (refusal z 0 7))) ≡ told 7 0 7
    by z x e = rw e refl

-- what a capture leaves, by whether number 7 applies
module _ (s b : List ℕ) where
  abbrev number : Bool → ℕ
  number x =
      first_failed
      ((7, x) ∷ (11, ltb (lowest (timed_in s)) (capture_count s)) ∷ (5, ltb (length b) (8 * length (commands_seen s))) ∷ [])

  abbrev left : ℕ → Captured
  left z =
      pick (eqb z 0)
      (record { answer = Ok (7, length (commands_seen s), judge table_a (commands_seen s)); buffer = over (bytes_of_all (commands_seen s)) b })
      (record { answer = Err (refusal z (position_of z s) 7); buffer = b })

  pub few_captured : length s ≡ 278528 → (capture_numbers (capturing (admitted 7 A) s b).answer).refused ≡ 7 → ⊥
  unfolding admitted read_table capturing captured capture_refusal
  few_captured e = by (not_a_capture (length s)) (ap not_a_capture e) (ltb (lowest (timed_in s)) (capture_count s)) (ltb (length b) (8 * length (commands_seen s)))
    where
      by : (x : Bool) → x ≡ false → (y z : Bool) → (capture_numbers (left (first_failed ((7, x) ∷ (11, y) ∷ (5, z) ∷ []))).answer).refused ≡ 7 → ⊥
      by true e y z h = let q : ◌≡◌ {A = ℕ} 0 1 = cc in omega arith
      by false e true z h = omega (arith, h)
      by false e false true h = omega (arith, h)
      by false e false false h = omega (arith, h)

  pub many_captured : length s ≡ 278532 → Traces 7 A s b (told 7 0 7) b
  unfolding admitted read_table capturing captured capture_refusal
  many_captured e = by (not_a_capture (length s)) (ap not_a_capture e)
    where
      by : (x : Bool) → x ≡ true → (capture_numbers (left (number x)).answer ≡ told 7 0 7) × ((left (number x)).buffer ≡ b)
      by true e = (refl, refl)
      by false e = let q : ◌≡◌ {A = ℕ} 0 1 = cc in absurd (omega arith)

-- 256 records of either size, as many places; and one more
pub few_transactions : (later : Bool) (s : List ℕ) (l : List Transaction) → length s ≡ 256 * record_size later → length l ≡ 256 → (reads later 7 A s l).refused ≡ 3 → ⊥
few_transactions later s l e k =
    not_three (few_into later s (length l)) (not (fits_from 0 table_a (list_of later s))) (lowest_out table_a 0 (list_of later s)) (reads later 7 A s l) (good later e)
    ((causes 7 A).read_transactions later s l)
  where
    good : (b : Bool) → length s ≡ 256 * record_size b → few_into b s (length l) ≡ true
    good true e = rw (e, k) refl
    good false e = rw (e, k) refl

    not_three : (g b : Bool) (p : ℕ) (a : Numbers) → g ≡ true → FirstRow (row 3 0 (not g) ∷ row 4 p b ∷ []) a → a.refused ≡ 3 → ⊥
    not_three false b p a e f h = let z : ◌≡◌ {A = ℕ} 0 1 = cc in omega arith
    not_three true true p a e f h = omega (arith, f.0, h)
    not_three true false p a e f h = omega (arith, f.0, h)

pub many_transactions : (later : Bool) (s : List ℕ) (l : List Transaction) → length s ≡ 257 * record_size later → length l ≡ 257 → reads later 7 A s l ≡ told 3 0 7
unfolding admitted read_table reading decoding check_into
many_transactions later s l e k = by (few_into later s (length l)) (range_from table_a 0 (list_of later s) 0) (over_256 later e)
  where
    over_256 : (b : Bool) → length s ≡ 257 * record_size b → few_into b s (length l) ≡ false
    over_256 true e = rw e refl
    over_256 false e = rw e refl

    by : (g : Bool) (x : Result Unit Refusal) → g ≡ false → read_numbers (decoded_by (pick g x (Err (refusal 3 0 7))) later table_a s l).answer ≡ told 3 0 7
    by g x e = rw e refl

-- the check of so many bytes
pub bytes_many : (later : Bool) (s : List ℕ) → length s ≡ 257 * record_size later → check_bytes later table_a s ≡ Err (refusal 3 0 7)
unfolding check_bytes
bytes_many later s e = by (few_bytes later s) (range_from table_a 0 (list_of later s) 0) (over_256 later e)
  where
    over_256 : (b : Bool) → length s ≡ 257 * record_size b → few_bytes b s ≡ false
    over_256 true e = rw e refl
    over_256 false e = rw e refl

    by : (g : Bool) (x : Result Unit Refusal) → g ≡ false → pick g x (Err (refusal 3 0 7)) ≡ Err (refusal 3 0 7)
    by g x e = rw e refl

pub many_built : (later : Bool) (s b f : List ℕ) → length s ≡ 257 * record_size later → BuildsBytes later 7 A s b f (told 3 0 7) b f
unfolding admitted read_table Schedules BuildsChecked
many_built later s b f e =
    bytes_tell 7 A b f b f (Err (refusal 3 0 7)) later s
    (subst (λ (c : Result Unit Refusal). BuildsChecked c table_a (list_of later s) b b f f (Err (refusal 3 0 7))) (sym (bytes_many later s e)) (refl, refl, refl))

pub many_run : (later : Bool) (c : Controller) (s : List ℕ) (n room : ℕ) → length s ≡ 257 * record_size later → runs_bytes later 7 A c s n room ≡ told 3 0 7
unfolding admitted read_table running runs_checked
many_run later c s n room e = ap (λ (d : Result Unit Refusal). run_numbers (runs_checked d c table_a (list_of later s) n (replicate room 9)).told.answer) (bytes_many later s e)

-- ---- patterns that are refused, for every number of copies

pub refused_37 : (n : ℕ) → copies table_a 37 one n ≡ pick (ltb n 2) AllPassed (BrokenAt Precharge 2 0)
refused_37 zero = refl
refused_37 (suc zero) = refl
refused_37 (suc (suc n)) = rw (le-ltb (suc (suc n)) 2 (omega arith)) refl

pub left_open_lem : (n : ℕ) → copies table_a 1 (command 0 Act 0 0 ∷ []) n ≡ pick (ltb n 1) AllPassed (BrokenAt End 1 1)
left_open_lem zero = refl
left_open_lem (suc n) = rw (le-ltb (suc n) 1 (omega arith)) refl

pub refused_38 : (n : ℕ) → copies table_b 38 one n ≡ pick (ltb n 5) AllPassed (BrokenAt Faw 5 0)
refused_38 zero = refl
refused_38 (suc zero) = refl
refused_38 (suc (suc zero)) = refl
refused_38 (suc (suc (suc zero))) = refl
refused_38 (suc (suc (suc (suc zero)))) = refl
refused_38 (suc (suc (suc (suc (suc n))))) = rw (le-ltb (suc (suc (suc (suc (suc n))))) 5 (omega arith)) refl

pub refused_49 : (n : ℕ) → copies table_r 49 (command 0 Ref 0 0 ∷ []) n ≡ pick (ltb n 2) AllPassed (BrokenAt Rfc 2 0)
refused_49 zero = refl
refused_49 (suc zero) = refl
refused_49 (suc (suc n)) = rw (le-ltb (suc (suc n)) 2 (omega arith)) refl

pub refused_39 : (n : ℕ) → copies table_d 39 one_group n ≡ pick (ltb n 2) AllPassed (BrokenAt Rrd 2 0)
refused_39 zero = refl
refused_39 (suc zero) = refl
refused_39 (suc (suc n)) = rw (le-ltb (suc (suc n)) 2 (omega arith)) refl
