-- The laws and theorems about the exported calls.
pub mod Laws
pub mod Unique
pub mod Alike
