-- The worked examples follow from the written rules themselves.
-- Assumes nothing.
use mathlib.Core.Path.{refl}
use mathlib.Core.List.{[], ◌∷◌}
use Rattle.records.specs.declared.command.Kind.TheVariants.{Ref}
use Rattle.records.specs.Command.{command}
use Rattle.records.specs.House.{table_a, table_b, table_t, table_d}
use Rattle.rules.specs.Queues.{act_queue, data_queue}
use Rattle.rules.specs.Bound.{bound, bound_s, bound_d, bound_x, start_at}
use Rattle.rules.specs.Worked.{one, five, pattern_t, table_r, then_ref, All}
use Rattle.rules.specs.WorkedGroups.{one_group}
use Rattle.rules.specs.WorkedArrivals.{all_examples}
use Rattle.rules.proofs.patterns.FiveDecide.{five_legal}

infixr 4 ◌⨾◌
-- a proof of the first statement, and of the rest
abbrev ◌⨾◌ : {P Q : Type 0} → P → Q → P × Q
p ⨾ ps = (p, ps)

pub worked : All all_examples
unfolding bound bound_s bound_d bound_x start_at act_queue data_queue
worked =
    refl
    ⨾ refl
    ⨾ refl
    ⨾ refl
    ⨾ record { cycles = 11; schedule = refl; acts = refl; datas = refl }
    ⨾ refl
    ⨾ record { cycles = 49; schedule = refl; acts = refl; datas = refl }
    ⨾ record { cycles = 55; schedule = refl; acts = refl; datas = refl }
    ⨾ refl
    ⨾ refl
    ⨾ refl
    ⨾ refl
    ⨾ record { cycles = 19; schedule = refl; acts = refl; datas = refl }
    ⨾ record { cycles = 29; schedule = refl; acts = refl; datas = refl }
    ⨾ refl
    ⨾ record { cycles = 39; schedule = refl; acts = refl; datas = refl }
    ⨾ record { cycles = 43; schedule = refl; acts = refl; datas = refl }
    ⨾ refl
    ⨾ refl
    ⨾ refl
    ⨾ refl
    ⨾ refl
    ⨾ refl
    ⨾ (five_legal table_a 38 one).0 refl
    ⨾ (λ n. refl)
    ⨾ (five_legal table_a 39 five).0 refl
    ⨾ (λ n. refl)
    ⨾ (five_legal table_b 39 one).0 refl
    ⨾ (λ n. refl)
    ⨾ refl
    ⨾ refl
    ⨾ refl
    ⨾ record { cycles = 17; schedule = refl; acts = refl; datas = refl }
    ⨾ refl
    ⨾ refl
    ⨾ refl
    ⨾ refl
    ⨾ refl
    ⨾ refl
    ⨾ refl
    ⨾ refl
    ⨾ refl
    ⨾ refl
    ⨾ record { cycles = 49; schedule = refl; acts = refl; datas = refl }
    ⨾ refl
    ⨾ refl
    ⨾ refl
    ⨾ record { cycles = 63; schedule = refl; acts = refl; datas = refl }
    ⨾ refl
    ⨾ record { cycles = 45; schedule = refl; acts = refl; datas = refl }
    ⨾ refl
    ⨾ refl
    ⨾ refl
    ⨾ refl
    ⨾ refl
    ⨾ refl
    ⨾ refl
    ⨾ refl
    ⨾ (five_legal table_t 54 pattern_t).0 refl
    ⨾ (λ n. refl)
    ⨾ refl
    ⨾ refl
    ⨾ refl
    ⨾ refl
    ⨾ record { cycles = 61; schedule = refl; acts = refl; datas = refl }
    ⨾ refl
    ⨾ refl
    ⨾ record { cycles = 99; schedule = refl; acts = refl; datas = refl }
    ⨾ refl
    ⨾ refl
    ⨾ refl
    ⨾ refl
    ⨾ record { cycles = 95; schedule = refl; acts = refl; datas = refl }
    ⨾ refl
    ⨾ refl
    ⨾ refl
    ⨾ refl
    ⨾ refl
    ⨾ refl
    ⨾ refl
    ⨾ refl
    ⨾ refl
    ⨾ refl
    ⨾ (five_legal table_r 50 (command 0 Ref 0 0 ∷ [])).0 refl
    ⨾ (λ n. refl)
    ⨾ (five_legal table_r 88 (then_ref 38 0)).0 refl
    ⨾ (λ n. refl)
    ⨾ refl
    ⨾ refl
    ⨾ refl
    ⨾ refl
    ⨾ refl
    ⨾ refl
    ⨾ refl
    ⨾ refl
    ⨾ refl
    ⨾ refl
    ⨾ record { cycles = 20; schedule = refl; acts = refl; datas = refl }
    ⨾ record { cycles = 17; schedule = refl; acts = refl; datas = refl }
    ⨾ record { cycles = 31; schedule = refl; acts = refl; datas = refl }
    ⨾ refl
    ⨾ refl
    ⨾ record { cycles = 36; schedule = refl; acts = refl; datas = refl }
    ⨾ refl
    ⨾ refl
    ⨾ refl
    ⨾ refl
    ⨾ (five_legal table_d 40 one_group).0 refl
    ⨾ (λ n. refl)
    ⨾ refl
    ⨾ refl
    ⨾ refl
    ⨾ refl
    ⨾ refl
    ⨾ refl
    ⨾ refl
    ⨾ refl
    ⨾ record { cycles = 36; schedule = refl; acts = refl; datas = refl }
    ⨾ record { cycles = 22; schedule = refl; acts = refl; datas = refl }
    ⨾ record { cycles = 51; schedule = refl; acts = refl; datas = refl }
    ⨾ record { cycles = 61; schedule = refl; acts = refl; datas = refl }
    ⨾ refl
    ⨾ refl
    ⨾ refl
    ⨾ refl
    ⨾ refl
    ⨾ refl
    ⨾ refl
    ⨾ refl
    ⨾ refl
    ⨾ (refl ⨾ refl ⨾ refl ⨾ tt)
    ⨾ refl
    ⨾ refl
    ⨾ refl
    ⨾ tt
