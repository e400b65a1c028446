pub mod Tests
pub mod Told
pub mod Little
pub mod Table
pub mod Transaction
pub mod Command
pub mod House
