use Rattle.std.proofs.Common.{rules, ◌≡◌, length, take, ◌∙◌, arith}
use Rattle.std.specs.List.{list_all}
use Rattle.rules.specs.State.{at_rest}
use Rattle.timing.specs.Kept.{told_bank}
use Rattle.timing.proofs.Telling.{rests_of}
use Rattle.timing.proofs.kept.kept_rests.Goals as goal

pub returns : goal.returns
returns c =
    let a = c.args in
    let n : length a.s.banks ≡ 16 = search rules in
    let e : c.all_at_rest.result ≡ list_all (λ k. at_rest a.t (told_bank k) a.c) (take a.t.banks a.s.banks) = search rules in
    e ∙ rests_of a.t a.s a.c (omega arith)
