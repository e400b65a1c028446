-- Each case of each answer is the struct that the list says.
-- Assumes nothing.
use mathlib.Core.Path.{refl}
use Rattle.rules.specs.Worked.{All}
use Rattle.verdict_answers.specs.Cases.{cases}

infixr 4 ◌⨾◌
-- a proof of the first statement, and of the rest
abbrev ◌⨾◌ : {P Q : Type 0} → P → Q → P × Q
p ⨾ ps = (p, ps)

pub each_case : All cases
each_case =
    refl
    ⨾ refl
    ⨾ refl
    ⨾ refl
    ⨾ refl
    ⨾ refl
    ⨾ refl
    ⨾ refl
    ⨾ refl
    ⨾ refl
    ⨾ refl
    ⨾ refl
    ⨾ refl
    ⨾ refl
    ⨾ refl
    ⨾ refl
    ⨾ refl
    ⨾ refl
    ⨾ refl
    ⨾ refl
    ⨾ refl
    ⨾ refl
    ⨾ refl
    ⨾ refl
    ⨾ refl
    ⨾ refl
    ⨾ refl
    ⨾ refl
    ⨾ refl
    ⨾ refl
    ⨾ refl
    ⨾ refl
    ⨾ refl
    ⨾ refl
    ⨾ refl
    ⨾ refl
    ⨾ refl
    ⨾ refl
    ⨾ refl
    ⨾ refl
    ⨾ refl
    ⨾ refl
    ⨾ refl
    ⨾ refl
    ⨾ tt
