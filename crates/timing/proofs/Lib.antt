pub mod Leaves
pub mod Telling
