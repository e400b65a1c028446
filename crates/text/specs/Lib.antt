pub mod Decimal
pub mod Worked
pub mod Puts
