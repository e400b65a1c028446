use borrow.Author.Rules.{rules}
use Rattle.traced.proofs.Telling.{trace_put}
use Rattle.traced.proofs.verdict.put_trace.Goals as goal

pub returns : goal.returns
returns c = trace_put _ _ _ _ _ _ _ _ c.put_commands-next.ensures.0 c.put_verdict.ensures
