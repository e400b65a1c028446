-- Runs: a cycle after another, what they read and leave, pieces of a list.
pub mod RunTo
pub mod HowMany
pub mod Arrived
pub mod Places
pub mod ToEnd
pub mod Lent
pub mod Pieces
