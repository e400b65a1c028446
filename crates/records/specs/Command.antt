-- "Command, 8 bytes: cycle (32 bits), kind (0 ACT, 1 RD, 2 RDA, 3 WR, 4 WRA), bank, transaction number (16 bits)."
-- Document 02, request 5: "kind 5 (REF, bank 0)".
use Rattle.std.specs.Prelude.{ℕ, zero, suc, ◌+◌, ◌/◌, not, List, [], ◌∷◌, ◌++◌, leb, eqb, length, get_or, Result, Ok, Err}
use Rattle.records.specs.declared.refusal.Refusal.{Refusal}
use Rattle.records.specs.declared.command.Kind.{Kind}
use Rattle.records.specs.declared.command.Kind.TheVariants.{Act, Rd, Rda, Wr, Wra, Ref, Other}
use Rattle.records.specs.declared.command.Command.{Command}
use Rattle.records.specs.Tests.{pick}
use Rattle.records.specs.Told.{refusal, first_failed, over, Wrote}
use Rattle.records.specs.Little.{num, num32, bytes16, bytes32}

abbrev pub kind_of : ℕ → Kind
kind_of n = pick (eqb n 0) Act (pick (eqb n 1) Rd (pick (eqb n 2) Rda (pick (eqb n 3) Wr (pick (eqb n 4) Wra (pick (eqb n 5) Ref (Other n))))))

abbrev pub kind_number : Kind → ℕ
kind_number Act = 0
kind_number Rd = 1
kind_number Rda = 2
kind_number Wr = 3
kind_number Wra = 4
kind_number Ref = 5
kind_number (Other n) = n

abbrev pub command : ℕ → Kind → ℕ → ℕ → Command
command t k b x = record { cycle = t; kind = k; bank = b; number = x }

-- the command of the eight bytes from a place on
abbrev pub command_at : List ℕ → ℕ → Command
command_at s at =
    command (num32 s at) (kind_of (get_or s (at + 4) 0)) (get_or s (at + 5) 0)
    (num s (at + 6))

abbrev pub bytes_of : Command → List ℕ
bytes_of c = bytes32 c.cycle ++ (kind_number c.kind ∷ c.bank ∷ bytes16 (c.number ∷ []))

-- n commands from a place on; those of a run of records; and the bytes of commands
unfoldable pub commands_from : List ℕ → ℕ → ℕ → List Command
commands_from s zero at = []
commands_from s (suc n) at = command_at s at ∷ commands_from s n (at + 8)

abbrev pub commands_in : List ℕ → List Command
commands_in s = commands_from s (length s / 8) 0

abbrev pub bytes_of_all : List Command → List ℕ
bytes_of_all [] = []
bytes_of_all (c ∷ l) = bytes_of c ++ bytes_of_all l

-- "Any 8 bytes are a readable command": number 7 for any other size
abbrev pub command_refusal : ℕ → ℕ
command_refusal size = first_failed ((7, not (eqb size 8)) ∷ [])

unfoldable pub read_command : List ℕ → Result Command Refusal
read_command s = let z = command_refusal (length s) in pick (eqb z 0) (Ok (command_at s 0)) (Err (refusal z 0 0))

-- number 5 for a buffer under 8
abbrev pub room_refusal : ℕ → ℕ
room_refusal size = first_failed ((5, not (leb 8 size)) ∷ [])

unfoldable pub write_command : Command → List ℕ → Wrote
write_command c s =
    let z = room_refusal (length s) in
    pick (eqb z 0)
    (record { answer = Ok 0; buffer = over (bytes_of c) s })
    (record { answer = Err (refusal z 0 0); buffer = s })
