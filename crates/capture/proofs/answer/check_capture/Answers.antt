use native.Mathlib.Omega.{arith}
use mathlib.Core.Path.{refl, sym, ◌∙◌}
use Rattle.capture.proofs.Refusals.{refused_7, refused_11, refused_5, refused_none, count_told, check_refuses, check_passes}
use Rattle.capture.proofs.answer.check_capture.Goals as goal

pub returns-then-not_a_capture : goal.returns-then-not_a_capture
returns-then-not_a_capture c =
    check_refuses c.args.s.now c.args.room c.args.edition 7 (refused_7 _ _ (sym c.not_a_capture.ensures ∙ c.if-not_a_capture.true)) 0 c.refuse.result refl
    c.refuse.ensures (λ k. absurd (omega arith))

pub returns-then-late : goal.returns-then-late
returns-then-late c =
    check_refuses c.args.s.now c.args.room c.args.edition 11
    (refused_11 _ _ (sym c.not_a_capture.ensures ∙ c.if-not_a_capture.false) (omega (arith, c.scan-found.ensures.place, c.if-late.true)))
    c.scan-found.result.place c.refuse-then-late.result c.scan-found.ensures.place c.refuse-then-late.ensures (λ k. absurd (omega arith))

pub returns-then-tight : goal.returns-then-tight
returns-then-tight c =
    let n = count_told c.args.s.now c.scan-found.result c.scan-found.ensures (omega (arith, c.if-late.false)) in
    check_refuses c.args.s.now c.args.room c.args.edition 5
    (refused_5 _ _ (sym c.not_a_capture.ensures ∙ c.if-not_a_capture.false) (omega (arith, c.scan-found.ensures.place, c.if-late.false)) (omega (arith, n, c.if-tight.true)))
    0 c.refuse-then-tight.result refl c.refuse-then-tight.ensures (λ k. absurd (omega arith))

pub returns : goal.returns
returns c =
    let n = count_told c.args.s.now c.scan-found.result c.scan-found.ensures (omega (arith, c.if-late.false)) in
    check_passes c.args.s.now c.args.room c.args.edition 0
    (refused_none _ _ (sym c.not_a_capture.ensures ∙ c.if-not_a_capture.false) (omega (arith, c.scan-found.ensures.place, c.if-late.false)) (omega (arith, n, c.if-tight.false)))
    c.scan-found.result.count n refl
