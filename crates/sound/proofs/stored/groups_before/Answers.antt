use borrow.Author.Rules.{rules}
use borrow.Author.Tests.{tests}
use mathlib.Core.Path.{◌∙◌}
use lib.ListN.{take}
use Rattle.std.proofs.lemmas.Iterator.{YieldsList-from_slice}
use Rattle.std.proofs.lemmas.Iterator.Search.{all_from_yields_List}
use Rattle.timing.specs.Kept.{told_group}
use Rattle.sound.specs.Refused.{group_before}
use Rattle.sound.proofs.Laws.{every_told}
use Rattle.sound.proofs.stored.groups_before.Goals as goal

pub returns : goal.returns
returns c =
    all_from_yields_List {all = take c.args.n c.args.ks} (λ x. group_before c.args.t (told_group x)) _ _ _ c.all.ensures.ran (YieldsList-from_slice _ cc) (λ x b q k. search (rules, tests))
    ∙ every_told (group_before c.args.t) told_group c.args.n c.args.ks
