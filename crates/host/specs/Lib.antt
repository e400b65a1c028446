pub mod Promises
pub mod Only
pub mod Alike
