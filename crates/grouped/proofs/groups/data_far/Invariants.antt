use mathlib.Core.Path.{◌≡◌}
use mathlib.Core.Bool.{true}
use Rattle.records.specs.Tests.{every_below}
use Rattle.grouped.proofs.Grouped.{data_at}
use Rattle.grouped.proofs.groups.data_far.Given as goal

abbrev pub invariant-loop-g : goal.invariant-loop-g
invariant-loop-g l = every_below l.g (data_at l.groups l.own l.c l.near l.away l.write) ≡ true
