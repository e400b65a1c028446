pub mod Trace
pub mod Only
pub mod Shows
