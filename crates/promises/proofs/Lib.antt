pub mod Laws
pub mod Told
pub mod Unique
pub mod Alike
pub mod Room
