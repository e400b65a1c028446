pub mod ByState
