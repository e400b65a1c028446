pub mod Head
pub mod Queue
