pub mod Controller
pub mod Run
pub mod Promise
pub mod Pieces
