use mathlib.Core.Path.{subst}
use Prim.Native.Nat.{ℕ}
use Rattle.heads.proofs.Standing.{start_placed, start_left}
use Rattle.soonest.specs.Next.{Stood}
use mathlib.Core.Bool.{true}
use Rattle.soonest.proofs.next.data_queue.Goals as goal

pub data_from-requires : goal.data_from-requires
data_from-requires c = (c.requires, start_placed c.args.t c.args.list.now c.args.n c.args.count)

pub returns : goal.returns
returns c = subst (λ (m : ℕ). Stood c.args.t c.args.list.now c.args.n m c.data_from.result) (start_left c.args.t c.args.list.now true c.args.count) c.data_from.ensures
