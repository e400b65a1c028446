-- What is shown of the trace.
pub mod Telling
pub mod Unique
pub mod Showing
