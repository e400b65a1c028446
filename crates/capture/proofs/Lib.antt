-- The theorems about captures.
pub mod Turn
pub mod Refusals
pub mod Sent
pub mod RoundTrip
pub mod NothingLost
pub mod Unique
pub mod Eleven
pub mod Worked
