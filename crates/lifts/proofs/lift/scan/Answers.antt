use Rattle.std.proofs.Common.{arith, sym, ap, ◌∙◌}
use Rattle.rules.specs.History.{is_fine}
use Rattle.shortest.proofs.LiftTurn.{scan_more, scan_ends}
use Rattle.lifts.proofs.lift.scan.Goals as goal
use Rattle.lifts.proofs.lift.scan.Goals.{else-loop-c-test, then-loop-c-test+else-is_fine+else-c-lim}

pub loop-c-init : goal.loop-c-init
loop-c-init c = λ x l m. absurd (omega arith)

pub returns-then-is_fine : goal.returns-then-is_fine
returns-then-is_fine c = scan_ends _ _ _ _ (omega arith) c.loop-c.invariant (λ m. ap is_fine (sym c.found_among-f.ensures) ∙ (sym c.is_fine.ensures ∙ c.if-is_fine.true))

pub loop-c-preserved : goal.loop-c-preserved
loop-c-preserved c = scan_more _ _ _ c.loop-c.invariant (ap is_fine (sym c.found_among-f.ensures) ∙ (sym c.is_fine.ensures ∙ c.if-is_fine.false))

-- past the last cycle, or where there was none
pub returns : goal.returns
returns c =
    scan_ends _ _ _ _ (omega arith)
    (elim c.loop-c-test.branch [
      | else-loop-c-test w ↦ λ x l m. c.loop-c.invariant x l (omega arith)
      | then-loop-c-test+else-is_fine+else-c-lim w ↦ λ x l m. scan_more _ _ _ c.loop-c.invariant (ap is_fine (sym w.found_among-f.ensures) ∙ (sym w.is_fine.ensures ∙ w.if-is_fine.false)) x l (omega arith)
    ])
    (λ m. absurd (omega arith))
