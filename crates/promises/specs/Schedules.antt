-- What a call that builds a schedule answers, and what it leaves in the two buffers.
pub use Rattle.scheduler.specs.Schedules.{NothingBuilt}
unfoldable pub use Rattle.scheduler.specs.Schedules.{BuildsChecked, Schedules}
