use borrow.Author.Rules.{rules}
use Rattle.traced.specs.Trace.{trace_of}
use Rattle.traced.proofs.Telling.{writes, too_short, long_enough}
use Rattle.traced.proofs.trace_of.Goals as goal

pub returns-then-input-lt2 : goal.returns-then-input-lt2
returns-then-input-lt2 c = writes (trace_of c.args.input.now) _ _ _ _ (too_short c.args.input.now _ c.if-input-lt2.true c.refuse.ensures) c.put_refusal.ensures

pub returns : goal.returns
returns c = long_enough c.args.input.now _ _ _ _ c.if-input-lt2.false c.num_at.ensures c.trace_behind.ensures
