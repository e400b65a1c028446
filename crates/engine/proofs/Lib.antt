pub mod Tried
pub mod Laws
pub mod Going
pub mod InPlace
pub mod Schedule
