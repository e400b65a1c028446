-- The theorems about the loop over a copy's records.
pub mod Seen
pub mod Turn
pub mod InPlace
