-- The laws and theorems about lists of transactions.
pub mod Checks
pub mod Packing
pub mod Storing
pub mod Promises
