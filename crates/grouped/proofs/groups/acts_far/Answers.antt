use Rattle.std.proofs.Common.{rules, arith, ◌≡◌, sym, ◌∙◌}
use Rattle.rules.proofs.laws.Below.{below_not}
use Rattle.grouped.proofs.Grouped.{acts_at, acts_told}
use Rattle.grouped.proofs.groups.acts_far.Goals as goal

pub returns-then-not-since : goal.returns-then-not-since
returns-then-not-since c =
    let a = c.args in
    below_not a.t.groups (acts_at a.groups a.own a.c a.t) c.loop-g.g (omega arith) (search rules) ∙ acts_told a.groups a.own a.c a.t

pub returns : goal.returns
returns c =
    let a = c.args in
    let z : c.loop-g.g ≡ a.t.groups = omega arith in
    sym (rw z at c.loop-g.invariant) ∙ acts_told a.groups a.own a.c a.t
