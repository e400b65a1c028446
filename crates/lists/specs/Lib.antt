pub mod Check
pub mod Packed
pub mod Decode
pub mod Promise
