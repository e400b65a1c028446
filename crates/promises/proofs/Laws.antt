-- Laws of the way in, of schedules, of runs and of serving, passed on.
-- Assumes nothing.
pub use Rattle.admission.proofs.Laws.{expected_read, read_accepted, told_accepted, told_held, by_admitted, fine_listed}
pub use Rattle.scheduler.proofs.Told.{schedules_same}
pub use Rattle.runner.proofs.Told.{running_same}
pub use Rattle.service.proofs.Told.{serving_same}
