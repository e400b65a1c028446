pub mod Record
pub mod Capture
