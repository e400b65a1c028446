pub mod Serves
pub mod Answer
pub mod Check
pub mod Worked
