-- What the head that the code keeps stands for.
use Rattle.std.specs.Prelude.{true, false}
use Rattle.std.proofs.Math.Option.{Option, none, some}
use Rattle.records.specs.Tests.{pick}
use Rattle.records.specs.declared.command.Kind.TheVariants.{Act}
use Rattle.rules.specs.Queues.{Due}
use Rattle.heads.specs.declared.head.Head.{Head}

abbrev pub no_head : Head
no_head = record { there = false; kind = Act; bank = 0; number = 0; act = 0; arrival = 0 }

abbrev pub head_of : Due → Head
head_of d = record { there = true; kind = d.kind; bank = d.bank; number = d.number; act = d.act; arrival = d.arrival }

-- the head of a queue, as the definitions have it
abbrev pub due_of : Head → Option Due
due_of h = pick h.there (some (record { kind = h.kind; bank = h.bank; number = h.number; act = h.act; arrival = h.arrival })) none
