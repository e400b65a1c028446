-- What is shown of the listing.
pub mod Telling
pub mod Unique
pub mod Showing
