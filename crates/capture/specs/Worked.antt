-- Captures worked out, by table A: one that goes round the wrap with ticks, and what number 11 names.
use Rattle.std.specs.Prelude.{◌≡◌, List, [], ◌∷◌, Ok, Err}
use Rattle.records.specs.declared.command.Kind.TheVariants.{Act, Rda}
use Rattle.records.specs.Command.{command}
use Rattle.records.specs.Told.{refusal}
use Rattle.records.specs.House.{table_a}
use Rattle.rules.specs.declared.verdict.Rule.TheVariants.{Range}
use Rattle.rules.specs.declared.verdict.Verdict.TheVariants.{Accepted, Refused as Against}
use Rattle.rules.specs.Verdict.{Legal}
use Rattle.stamps.specs.Record.{capture_record}
use Rattle.stamps.specs.Capture.{timed_after, lowest_after}
use Rattle.capture.specs.Answer.{captured}
use Rattle.capture.specs.Written.{Sent, sends, ticks, capture_bytes, commands_sent, WrittenAs}

-- ACT at cycle 65,530 and RDA at 65,540, with a tick before and one after them; their stamps are 100, 65,530, 4 and 34,464
abbrev pub wrapped : List Sent
wrapped = ticks 100 ∷ sends (command 65530 Act 0 3) ∷ sends (command 65540 Rda 0 3) ∷ ticks 100000 ∷ []

pub record Worked : Type 0 where
  -- it is a legal schedule written as a capture
  pub bytes : capture_bytes wrapped ≡ 100 ∷ 0 ∷ 255 ∷ 0 ∷ 250 ∷ 255 ∷ 0 ∷ 0 ∷ 4 ∷ 0 ∷ 2 ∷ 0 ∷ 160 ∷ 134 ∷ 255 ∷ 0 ∷ []
  pub legal : Legal table_a (commands_sent wrapped)
  pub written : WrittenAs (commands_sent wrapped) wrapped
  -- the two commands are written and accepted, and the byte beyond stands
  pub accepted : captured table_a (capture_bytes wrapped) (9 ∷ 9 ∷ 9 ∷ 9 ∷ 9 ∷ 9 ∷ 9 ∷ 9 ∷ 9 ∷ 9 ∷ 9 ∷ 9 ∷ 9 ∷ 9 ∷ 9 ∷ 9 ∷ 9 ∷ [])
      ≡ record {
        answer = Ok (7, 2, Accepted);
        buffer = 250 ∷ 255 ∷ 0 ∷ 0 ∷ 0 ∷ 0 ∷ 0 ∷ 0 ∷ 4 ∷ 0 ∷ 1 ∷ 0 ∷ 2 ∷ 0 ∷ 0 ∷ 0 ∷ 9 ∷ [];
      }
  -- number 5: room for one command only
  pub tight : captured table_a (capture_bytes wrapped) (9 ∷ 9 ∷ 9 ∷ 9 ∷ 9 ∷ 9 ∷ 9 ∷ 9 ∷ [])
      ≡ record { answer = Err (refusal 5 0 7); buffer = 9 ∷ 9 ∷ 9 ∷ 9 ∷ 9 ∷ 9 ∷ 9 ∷ 9 ∷ [] }
  -- number 11, at record 2 of tick, tick, tick with stamps 5, 6, 6, without room too
  pub equal : captured table_a (5 ∷ 0 ∷ 255 ∷ 0 ∷ 6 ∷ 0 ∷ 255 ∷ 0 ∷ 6 ∷ 0 ∷ 0 ∷ 0 ∷ []) []
      ≡ record { answer = Err (refusal 11 2 7); buffer = [] }
  -- number 7
  pub size : captured table_a (5 ∷ 0 ∷ 255 ∷ []) [] ≡ record { answer = Err (refusal 7 0 7); buffer = [] }
  -- kind 255 with bank 1 is a command, and breaks rule 1 as record 0
  pub bank : captured table_a (5 ∷ 0 ∷ 255 ∷ 0 ∷ 6 ∷ 0 ∷ 255 ∷ 1 ∷ []) (9 ∷ 9 ∷ 9 ∷ 9 ∷ 9 ∷ 9 ∷ 9 ∷ 9 ∷ [])
      ≡ record { answer = Ok (7, 1, Against Range 0); buffer = 6 ∷ 0 ∷ 0 ∷ 0 ∷ 255 ∷ 1 ∷ 0 ∷ 0 ∷ [] }
  -- number 11: one past 4,294,967,295, a tick too
  pub late : lowest_after 8 65535 (timed_after 65535 4294967295 (capture_record 0 255 0 ∷ [])) ≡ 8
  pub last : lowest_after 8 65534 (timed_after 65534 4294967294 (capture_record 65535 255 0 ∷ [])) ≡ 9
