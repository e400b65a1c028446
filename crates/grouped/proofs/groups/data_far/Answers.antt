use Rattle.std.proofs.Common.{rules, arith, ◌≡◌, sym, ◌∙◌}
use Rattle.rules.proofs.laws.Below.{below_not}
use Rattle.grouped.proofs.Grouped.{data_at, data_told}
use Rattle.grouped.proofs.groups.data_far.Goals as goal

pub returns-then-not-far_from : goal.returns-then-not-far_from
returns-then-not-far_from c =
    let a = c.args in
    below_not a.t.groups (data_at a.groups a.own a.c a.near a.away a.write) c.loop-g.g (omega arith) (search rules)
    ∙ data_told a.groups a.own a.c a.near a.away a.write a.t c.requires.1 c.requires.2

pub returns : goal.returns
returns c =
    let a = c.args in
    let z : c.loop-g.g ≡ a.t.groups = omega arith in
    sym (rw z at c.loop-g.invariant) ∙ data_told a.groups a.own a.c a.near a.away a.write a.t c.requires.1 c.requires.2
