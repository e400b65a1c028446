pub mod Marks
pub mod Finishing
