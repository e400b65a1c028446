use native.Mathlib.Omega.{arith}
use Prim.Native.Nat.{◌+◌}
use mathlib.Core.Path.{◌≡◌, sym, ◌∙◌}
use mathlib.Core.Bool.{true, false}
use Rattle.rules.specs.Queues.{act_count}
use Rattle.rules.proofs.queues.Queue.{data_count, act_length, data_length}
use Rattle.heads.proofs.Laws.{few, acts_few, datas_few, sum_none, count_on}
use Rattle.heads.proofs.due.due.Goals as goal

pub loop-k-init : goal.loop-k-init
loop-k-init c = (sym (sum_none act_count _), sym (sum_none data_count _))

pub overflow_add-acts : goal.overflow_add-acts
overflow_add-acts c = omega (arith, count_on false _ c.loop-k.k _ c.later_at-x.ensures c.loop-k.acts c.size_in-acts.result c.loop-k.invariant.0 c.size_in-acts.ensures, acts_few (c.requires) (c.loop-k.k + 1) (omega arith), few (c.requires))

pub overflow_add-datas : goal.overflow_add-datas
overflow_add-datas c = omega (arith, count_on true _ c.loop-k.k _ c.later_at-x.ensures c.loop-k.datas c.size_in-datas.result c.loop-k.invariant.1 c.size_in-datas.ensures, datas_few (c.requires) (c.loop-k.k + 1) (omega arith), few (c.requires))

pub loop-k-preserved : goal.loop-k-preserved
loop-k-preserved c = (count_on false _ c.loop-k.k _ c.later_at-x.ensures c.loop-k.acts c.size_in-acts.result c.loop-k.invariant.0 c.size_in-acts.ensures, count_on true _ c.loop-k.k _ c.later_at-x.ensures c.loop-k.datas c.size_in-datas.result c.loop-k.invariant.1 c.size_in-datas.ensures)

pub returns : goal.returns
returns c = let e : c.loop-k.k ≡ c.args.n = omega arith in (rw e at c.loop-k.invariant.0 ∙ sym (act_length _ _), rw e at c.loop-k.invariant.1 ∙ sym (data_length _ _))
