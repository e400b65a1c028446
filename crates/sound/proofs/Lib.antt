-- Laws of the stored cycles and of the first new transaction.
pub mod Laws
pub mod FirstNew
pub mod StoredKept
