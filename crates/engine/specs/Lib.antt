pub mod Run
pub mod Build
