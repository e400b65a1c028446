-- What was built had room.
use Rattle.promises.proofs.Room.{built_room}
use Rattle.runs.proofs.build.lines.Goals as goal

pub built-requires : goal.built-requires
built-requires g c =
    let z = built_room _ _ _ _ _ _ _ _ _ _ _ c.schedule_of-answer.ensures c.in-Ok.is in
    (z.0, rw c.count_of-n.ensures z.1)
