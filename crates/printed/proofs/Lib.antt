-- The turns of the loops that write line after line.
pub mod Turns
