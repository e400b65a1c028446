-- The promise leaves one possible answer, refused or not.
-- Assumes nothing.
use Rattle.std.specs.Prelude.{Result, Ok, Err}
use Rattle.serves.specs.declared.answer.Served.{Served}
use Rattle.records.specs.declared.refusal.Refusal.{Refusal}
use Prim.Native.Nat.{ℕ}
use mathlib.Core.Path.{◌≡◌, sym, ap, ◌∙◌}
use mathlib.Core.List.{List}
use Rattle.records.specs.declared.table.Table.{Table}
use Rattle.records.specs.declared.transaction.Transaction.{Transaction}
use Rattle.records.specs.Command.{commands_in}
use Rattle.serves.specs.Answer.{ServesAnswers}
use Rattle.serves.proofs.Exactly.{one_answer}

pub serves_only : (τ : Table) (l : List Transaction) (s : List ℕ) (x y : Result (ℕ × Served) Refusal) → ServesAnswers τ l s x → ServesAnswers τ l s y → x ≡ y
serves_only τ l s (Ok (e, a)) (Ok (f, b)) p q = rw (p.1, q.1, one_answer τ l (commands_in s) a b p.2 q.2)
serves_only τ l s (Ok (e, a)) (Err r) p q = absurd (q.0 p.0)
serves_only τ l s (Err r) (Ok (e, a)) p q = absurd (p.0 q.0)
serves_only τ l s (Err r) (Err u) p q = ap Err (p.1 ∙ sym q.1)
