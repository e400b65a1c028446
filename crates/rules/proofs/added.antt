-- Transactions added at the end move no command of the earlier ones.
pub mod StillOpen
pub mod OfFirst
pub mod SideBySide
pub mod NothingMoves
