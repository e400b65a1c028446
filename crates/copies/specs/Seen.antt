-- What the judge has seen: the records of the bytes, copy by copy, newest first. The contracts of its inner functions speak of it.
use Rattle.std.specs.Prelude.{ℕ, zero, suc, ◌+◌, ◌*◌, ◌/◌, List, [], ◌∷◌, length}
use Rattle.records.specs.declared.command.Command.{Command}
use Rattle.records.specs.Command.{command, command_at}

-- how many records bytes hold
abbrev pub record_count : List ℕ → ℕ
record_count s = length s / 8

-- record number i of a copy that is d cycles later
unfoldable pub record_in : List ℕ → ℕ → ℕ → Command
record_in s d i =
    let r = command_at s (i * 8) in command (r.cycle + d) r.kind r.bank r.number

-- the first n records of such a copy, after the history h
abbrev pub before : List ℕ → ℕ → ℕ → List Command → List Command
before s d zero h = h
before s d (suc n) h = record_in s d n ∷ before s d n h

-- k copies of length L, each whole
abbrev pub whole : ℕ → List ℕ → ℕ → List Command
whole L s zero = []
whole L s (suc k) = before s (L * k) (record_count s) (whole L s k)
