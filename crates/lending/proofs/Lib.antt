-- Laws of a lent run of records.
pub mod Lent
