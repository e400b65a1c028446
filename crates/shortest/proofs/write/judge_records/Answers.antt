use borrow.Author.Rules.{rules}
use native.Mathlib.Omega.{arith}
use Prim.Native.Nat.{◌≤◌}
use mathlib.Core.List.{List}
use mathlib.Core.Path.{◌≡◌, sym, ap, ◌∙◌}
use lib.ListN.{length, take, length-take}
use Rattle.records.specs.declared.command.Command.{Command}
use Rattle.rules.specs.Pattern.{copies}
use Rattle.shortest.specs.Search.{all_passed}
use Rattle.shortest.proofs.Written.{read_records, judged_true, judged_false}
use Rattle.shortest.proofs.write.judge_records.Goals as goal

pub slice_bounds-judge_five-end : goal.slice_bounds-judge_five-end
slice_bounds-judge_five-end c = rw length-take (omega arith)

pub judge_five-requires : goal.judge_five-requires
judge_five-requires c = (c.requires.0, rw length-take (omega arith))

pub returns : goal.returns
returns c =
    let room : c.args.n ≤ length c.args.items = search rules in
    let e : c.all_passed.result ≡ all_passed (copies c.args.t c.args.length (take c.args.n c.args.items) 5) = c.all_passed.ensures ∙ ap all_passed (c.judge_five.ensures ∙ ap (λ (p : List Command). copies c.args.t c.args.length p 5) (read_records c.args.items c.args.n room c.requires.2 _ _ c.write_records.ensures)) in
    (λ h. judged_true c.args.t c.args.length (take c.args.n c.args.items) (sym e ∙ h), λ h. judged_false c.args.t c.args.length (take c.args.n c.args.items) (sym e ∙ h))
