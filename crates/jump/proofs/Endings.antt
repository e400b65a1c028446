-- A data command and a REF end a transaction, an ACT does not; all three are known.
-- Assumes nothing.
use mathlib.Core.Path.{◌≡◌, refl}
use mathlib.Core.Bool.{true, false}
use Rattle.records.specs.declared.command.Kind.{Kind}
use Rattle.records.specs.declared.command.Kind.TheVariants.{Act, Rd, Rda, Wr, Wra, Ref, Other}
use Rattle.rules.specs.Kinds.{is_act, is_ref, is_data, can_end, is_known}
use Rattle.rules.proofs.laws.TestLaws.{true_false}

pub data_ends : (k : Kind) → is_data k ≡ true → (can_end k ≡ true) × (is_known k ≡ true)
data_ends Act e = true_false false e refl
data_ends Rd e = (refl, refl)
data_ends Rda e = (refl, refl)
data_ends Wr e = (refl, refl)
data_ends Wra e = (refl, refl)
data_ends Ref e = true_false false e refl
data_ends (Other n) e = true_false false e refl

pub ref_ends : (k : Kind) → is_ref k ≡ true → (can_end k ≡ true) × (is_known k ≡ true)
ref_ends Act e = true_false false e refl
ref_ends Rd e = true_false false e refl
ref_ends Rda e = true_false false e refl
ref_ends Wr e = true_false false e refl
ref_ends Wra e = true_false false e refl
ref_ends Ref e = (refl, refl)
ref_ends (Other n) e = true_false false e refl

pub act_ends : (k : Kind) → is_act k ≡ true → (can_end k ≡ false) × (is_known k ≡ true)
act_ends Act e = (refl, refl)
act_ends Rd e = true_false false e refl
act_ends Rda e = true_false false e refl
act_ends Wr e = true_false false e refl
act_ends Wra e = true_false false e refl
act_ends Ref e = true_false false e refl
act_ends (Other n) e = true_false false e refl
