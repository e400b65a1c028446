-- The theorems about the judges.
pub mod Laws
pub mod FiveCopies
pub mod Unique
pub mod Accepts
