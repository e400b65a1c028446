-- A turn of the loop goes to the next command, or to the run's end.
pub mod Latest
pub mod Heads
pub mod Jumping
pub mod Known
pub mod Marking
pub mod Endings
pub mod Turns
