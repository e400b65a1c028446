pub mod Build
pub mod Bound
