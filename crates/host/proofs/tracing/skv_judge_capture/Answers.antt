use borrow.Author.Rules.{rules}
use Rattle.host.proofs.Laws.{few_seen}
use Rattle.host.proofs.tracing.skv_judge_capture.Goals as goal

pub capture_of-requires : goal.capture_of-requires
capture_of-requires c = rw c.judge_capture.ensures.0 (few_seen _ _ _)

pub returns : goal.returns
returns c = (rw c.judge_capture.ensures.0 at c.capture_of.ensures, c.judge_capture.ensures.1)
