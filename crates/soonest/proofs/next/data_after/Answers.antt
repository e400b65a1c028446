use native.Mathlib.Omega.{arith}
use native.Mathlib.Nat.{mul-le-mul}
use Prim.Native.Nat.{ℕ, ◌-◌, ◌*◌}
use mathlib.Core.Path.{refl, subst}
use Rattle.records.specs.Transaction.{later_at}
use Rattle.rules.proofs.laws.TestLaws.{true_false}
use Rattle.heads.proofs.Laws.{fits_at}
use Rattle.soonest.specs.Next.{Stood}
use Rattle.soonest.proofs.Bursts.{in_list, act_is, fit, before_few, offset_few, k_few, ends_few, to_same, next_in_lem, to_next, closes_last}
use Rattle.soonest.proofs.next.data_after.Goals as goal

pub later_at-x-requires : goal.later_at-x-requires
later_at-x-requires c = omega (arith, in_list c.requires.0 c.args.q c.requires.1 c.requires.2, c.requires.0.bytes)

pub overflow_sub-k : goal.overflow_sub-k
overflow_sub-k c = omega (arith, act_is c.requires.0 c.args.q c.requires.1 c.requires.2)

pub overflow_add-ends : goal.overflow_add-ends
overflow_add-ends c = omega (arith, k_few c.requires.0 c.args.q c.requires.1 c.requires.2 _ refl)

pub overflow_mul-ends : goal.overflow_mul-ends
overflow_mul-ends c = rw c.later_at-x.ensures (omega (arith, ends_few c.requires.0 c.args.q c.requires.1 c.requires.2 _ refl))

pub overflow_add-offset : goal.overflow_add-offset
overflow_add-offset c = omega (arith, offset_few c.requires.0 c.args.q c.requires.1 c.requires.2)

pub overflow_add-offset-then-offset-ends : goal.overflow_add-offset-then-offset-ends
overflow_add-offset-then-offset-ends c = omega (arith, offset_few c.requires.0 c.args.q c.requires.1 c.requires.2)

pub returns-then-offset-ends : goal.returns-then-offset-ends
returns-then-offset-ends c = (to_same c.requires.0 c.args.q c.requires.1 c.requires.2 (c.args.q.head.act - c.args.q.place.before) refl (rw c.later_at-x.ensures at c.if-offset-ends.true) c.data_kind-kind.result (rw c.later_at-x.ensures at c.data_kind-kind.ensures), λ e. record { there = refl; bank = refl; act = refl; arrival = refl })

pub overflow_mul-x : goal.overflow_mul-x
overflow_mul-x c = rw c.later_at-x.ensures (omega (arith, mul-le-mul {n₁ = (later_at c.args.list.now (8 * c.args.q.place.number)).bi} {m₁ = (later_at c.args.list.now (8 * c.args.q.place.number)).bc} {n₂ = 16} {m₂ = 16} (fit c.requires.0 c.args.q c.requires.1 c.requires.2).max_i (fit c.requires.0 c.args.q c.requires.1 c.requires.2).max_c))

pub overflow_add-k : goal.overflow_add-k
overflow_add-k c = omega (arith, k_few c.requires.0 c.args.q c.requires.1 c.requires.2 _ refl)

pub bank_at-bank-requires : goal.bank_at-bank-requires
bank_at-bank-requires c = (c.requires.0.table, rw c.later_at-x.ensures (fits_at c.requires.0 c.args.q.place.number (in_list c.requires.0 c.args.q c.requires.1 c.requires.2)), rw c.later_at-x.ensures (next_in_lem c.requires.0 c.args.q c.requires.1 c.requires.2 (c.args.q.head.act - c.args.q.place.before) refl (rw c.later_at-x.ensures at c.if-offset-ends.false) (rw c.later_at-x.ensures at c.if-offset-x.true)))

pub overflow_add-head : goal.overflow_add-head
overflow_add-head c = omega (arith, before_few c.requires.0 c.args.q c.requires.1 c.requires.2, k_few c.requires.0 c.args.q c.requires.1 c.requires.2 (c.args.q.head.act - c.args.q.place.before) refl)

pub returns-then-offset-x : goal.returns-then-offset-x
returns-then-offset-x c = let l = rw c.later_at-x.ensures at c.if-offset-ends.false in (to_next c.requires.0 c.args.q c.requires.1 c.requires.2 (c.args.q.head.act - c.args.q.place.before) refl l (rw c.later_at-x.ensures at c.if-offset-x.true) c.data_kind.result c.bank_at-bank.result (rw c.later_at-x.ensures at c.data_kind.ensures) (rw c.later_at-x.ensures at c.bank_at-bank.ensures), λ e. true_false _ (closes_last c.requires.0 c.args.q c.requires.1 c.requires.2 (c.args.q.head.act - c.args.q.place.before) refl l) e)

pub data_from-requires : goal.data_from-requires
data_from-requires c = (c.requires.0, record { within = c.requires.1.found.placed.within; before = c.requires.1.found.placed.before })

pub returns-else-offset-x : goal.returns-else-offset-x
returns-else-offset-x c = (subst (λ (m : ℕ). Stood c.args.t c.args.list.now c.args.n m c.data_from.result) (omega arith) c.data_from.ensures, λ e. true_false _ (closes_last c.requires.0 c.args.q c.requires.1 c.requires.2 (c.args.q.head.act - c.args.q.place.before) refl (rw c.later_at-x.ensures at c.if-offset-ends.false)) e)
