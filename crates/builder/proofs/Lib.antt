-- The theorems about building and the bound.
pub mod Laws
pub mod Unique
