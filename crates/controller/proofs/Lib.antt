-- The theorems about the controller.
pub mod Numbers
pub mod Inverse
pub mod Written
pub mod NotRefused
pub mod Halves
pub mod PastBanks
pub mod Fresh
pub mod Unique
pub mod Pieces
