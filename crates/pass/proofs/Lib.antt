-- The pass over the records and the scan of what it counted.
pub mod Scanning
pub mod Noted
pub mod Seen
pub mod Passing
