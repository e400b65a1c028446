-- The true gap, and that reading and writing a record are inverse.
pub mod Laws
pub mod Round
