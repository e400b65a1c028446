-- What ran had room.
use Rattle.records.specs.declared.table.Table.{Table}
use Rattle.lists.specs.Check.{check_bytes}
use Rattle.promises.proofs.Room.{ran_room}
use Rattle.runs.proofs.run.lines.Goals as goal

pub ran-requires : goal.ran-requires
ran-requires g c = ran_room _ _ (λ (τ : Table). check_bytes _ τ _) _ _ _ _ _ _ _ c.run_of-told.ensures c.in-Ok.is
