pub mod Answer
pub mod Written
pub mod Eleven
pub mod Worked
