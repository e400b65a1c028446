pub mod Verdicts
pub mod Cases
