-- Laws of the runs.
pub mod Told
