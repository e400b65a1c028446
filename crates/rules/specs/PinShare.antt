-- Request 8, beyond it: the share of the cycles in which the data pins are busy.
use Rattle.std.specs.Prelude.{ℕ, zero, suc, ◌*◌, ◌≤◌, max, Bool, true, ◌≡◌, List, [], ◌∷◌, length}
use Rattle.records.specs.Tests.{pick}
use Rattle.records.specs.Table.{Accepted}
use Rattle.records.specs.House.{table_a, table_d}
use Rattle.records.specs.declared.table.Table.{Table}
use Rattle.records.specs.declared.command.Command.{Command}
use Rattle.rules.specs.Kinds.{is_data}
use Rattle.rules.specs.Verdict.{Legal}
use Rattle.rules.specs.Pattern.{end_to_end}
use Rattle.rules.specs.Worked.{one, three, four, four_swapped, five, six}
use Rattle.rules.specs.WorkedGroups.{hidden_write}
use Rattle.rules.specs.Pins.{holds_until, busy}

-- of the n cycles from k on, those of which f holds
abbrev pub cycles_of : (ℕ → Bool) → ℕ → ℕ → List ℕ
cycles_of f k zero = []
cycles_of f k (suc n) = pick (f k) (k ∷ cycles_of f (suc k) n) (cycles_of f (suc k) n)

-- all of them
abbrev pub cycles : ℕ → ℕ → List ℕ
cycles k n = cycles_of (λ t. true) k n

-- of the n cycles from k on, those in which the pins are busy
abbrev pub busy_cycles : Table → List Command → ℕ → ℕ → List ℕ
busy_cycles τ rs k n = cycles_of (busy τ rs) k n

-- the first cycle after all bursts of a schedule
abbrev pub bursts_end : Table → List Command → ℕ
bursts_end τ [] = 0
bursts_end τ (r ∷ rs) = pick (is_data r.kind) (max (holds_until τ r) (bursts_end τ rs)) (bursts_end τ rs)

-- the share of a schedule: so many cycles busy, of so many from cycle 0 to the end of its last burst
abbrev pub share : Table → List Command → ℕ × ℕ
share τ rs = (length (busy_cycles τ rs 0 (bursts_end τ rs)), bursts_end τ rs)

abbrev pub data_commands : List Command → ℕ
data_commands [] = 0
data_commands (r ∷ rs) = pick (is_data r.kind) (suc (data_commands rs)) (data_commands rs)

-- since no two bursts meet, a schedule that the judge accepts keeps the pins busy for B cycles a data command
abbrev pub ShareShown : Type 0
ShareShown = (τ : Table) → Accepted τ → (rs : List Command) → Legal τ rs → (n : ℕ) → bursts_end τ rs ≤ n → length (busy_cycles τ rs 0 n) ≡ data_commands rs * τ.b

-- the shares of document 01's examples
abbrev pub share_examples : List (Type 0)
share_examples =
    (share table_a one ≡ (4, 24))
    ∷ (share table_a three ≡ (8, 68))
    -- 4: the read holds cycles 20 to 23, the write 26 to 29; 24 and 25 are the two free cycles between
    ∷ (busy_cycles table_a four 0 30 ≡ 20 ∷ 21 ∷ 22 ∷ 23 ∷ 26 ∷ 27 ∷ 28 ∷ 29 ∷ [])
    ∷ (share table_a four ≡ (8, 30))
    ∷ (share table_a four_swapped ≡ (8, 42))
    -- 5: from 20 on busy in each of 32 cycles, of 52
    ∷ (busy_cycles table_a five 0 52 ≡ cycles 20 32)
    ∷ (share table_a five ≡ (32, 52))
    ∷ (share table_a six ≡ (20, 56))
    -- 9: example 5 as a pattern of length 39: 32 of each 39 cycles, seen in those of the second copy
    ∷ (length (busy_cycles table_a (end_to_end 39 five 3 0) 39 39) ≡ 32)
    -- table D, with groups: two writes and a read
    ∷ (share table_d (hidden_write 35) ≡ (12, 49))
    ∷ []
