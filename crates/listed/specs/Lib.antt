pub mod Listing
pub mod Only
pub mod Shows
