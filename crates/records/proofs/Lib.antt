-- The theorems about the records.
pub mod Laws
pub mod Bytes
pub mod Unique
pub mod HouseTables
pub mod Inverse
pub mod Round
pub mod Written
pub mod Arrivals
pub mod Listed
