-- Two types that the definitions name.
use Rattle.std.specs.Prelude.{ℕ, Option}
use Rattle.rules.specs.declared.verdict.Rule.{Rule}

-- a cycle that may be "never"
abbrev pub Stamp : Type 0
Stamp = Option ℕ

-- what one record breaks: no rule, or the first that applies
abbrev pub Found : Type 0
Found = Option Rule
