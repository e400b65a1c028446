-- What is shown of the program's text.
pub mod Telling
pub mod Showing
pub mod Unique
