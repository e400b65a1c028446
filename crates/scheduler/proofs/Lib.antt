-- Laws of the schedules.
pub mod Told
