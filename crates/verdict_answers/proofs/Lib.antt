-- Each answer's number and values.
pub mod Cases
