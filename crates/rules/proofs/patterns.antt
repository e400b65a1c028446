-- Five copies decide every number of copies.
pub mod Moved
pub mod Copies
pub mod FiveDecide
